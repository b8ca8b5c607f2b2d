-- The environment of the cases: lists with their length, and trees.
use Rattle.std.specs.Prelude.{List, [], ◌∷◌, None, codes}
use Rattle.ev_terms.specs.declared.types.Ty.{Ty, Int, Param, Data as DataType}
use Rattle.ev_terms.specs.declared.types.Tys.{Empty}
use Rattle.ev_terms.specs.Types.{more}
use Rattle.ev_terms.specs.Term.{Term, var, lit}
use Rattle.ev_forms.specs.Base.{at_type}
use Rattle.ev_forms.specs.Forms.{plus, call}
use Rattle.ev_typing.specs.declared.typing.DataDecl.{DataDecl}
use Rattle.ev_typing.specs.declared.typing.Var.{Var}
use Rattle.ev_typing.specs.declared.typing.Entry.{Entry}
use Rattle.ev_typing.specs.declared.typing.Entry.TheVariants.{Data, Recursive}
use Rattle.ev_typing.specs.declared.typing.Signature.{Signature}
use Rattle.ev_typing.specs.Env.{Env}

abbrev pub list_type : Ty
list_type = DataType (codes "List") (at_type (Param 0))

-- List(?0) = nil | cons(head: ?0, tail: List(?0))
abbrev pub list_decl : DataDecl
list_decl = record {
  name = codes "List";
  params = 1;
  cons = record { name = codes "nil"; fields = [] }
      ∷ record { name = codes "cons"; fields = record { name = codes "head"; ty = Param 0 } ∷ record { name = codes "tail"; ty = list_type } ∷ [] } ∷ [];
}

abbrev pub tree_type : Ty
tree_type = DataType (codes "B") (at_type (Param 0))

-- B(?0) = leaf | fork(l: B(?0), x: ?0, r: B(?0))
abbrev pub tree_decl : DataDecl
tree_decl = record {
  name = codes "B";
  params = 1;
  cons = record { name = codes "leaf"; fields = [] }
      ∷ record {
        name = codes "fork";
        fields = record { name = codes "l"; ty = tree_type } ∷ record { name = codes "x"; ty = Param 0 } ∷ record { name = codes "r"; ty = tree_type } ∷ [];
      } ∷ [];
}

abbrev pub len_signature : Signature
len_signature = record { name = codes "len"; params = 1; args = at_type list_type; result = Int }

-- len(s: List(?0)): INT, which is 0 at nil, and 1 + len(t) at cons(x, t)
abbrev pub len_bodies : List Term
len_bodies = lit 0 ∷ plus (lit 1) (call (codes "len") (at_type (Param 0)) (var 0 ∷ [])) ∷ []

abbrev pub len_entry : Entry
len_entry = Recursive len_signature None 0 len_bodies

abbrev pub data_env : Env
data_env = Data list_decl ∷ Data tree_decl ∷ len_entry ∷ []
