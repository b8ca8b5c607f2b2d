-- Environments: the datatype of lists, and a constant with a condition.
use Rattle.std.specs.Prelude.{List, [], ◌∷◌, Some, codes}
use Rattle.ev_terms.specs.declared.types.Ty.{Param, Data as DataType}
use Rattle.ev_terms.specs.Types.{pow}
use Rattle.ev_terms.specs.Term.{var}
use Rattle.ev_typing.specs.declared.typing.DataDecl.{DataDecl}
use Rattle.ev_typing.specs.declared.typing.Var.{Var}
use Rattle.ev_typing.specs.declared.typing.Entry.{Entry}
use Rattle.ev_typing.specs.declared.typing.Entry.TheVariants.{Data, Constant}
use Rattle.ev_typing.specs.declared.typing.Signature.{Signature}
use Rattle.ev_typing.specs.Env.{Env}
use Rattle.ev_forms.specs.Base.{at_type}
pub use Rattle.ev_wd.specs.Demands.{is_not_empty}

-- head: ?0, tail: list(?0)
abbrev pub cons_fields : List Var
cons_fields = record { name = codes "head"; ty = Param 0 } ∷ record { name = codes "tail"; ty = DataType (codes "list") (at_type (Param 0)) } ∷ []

-- list(?0) = nil | cons(head, tail)
abbrev pub list_decl : DataDecl
list_decl = record {
  name = codes "list";
  params = 1;
  cons = record { name = codes "nil"; fields = [] } ∷ record { name = codes "cons"; fields = cons_fields } ∷ [];
}

abbrev pub list_env : Env
list_env = Data list_decl ∷ []

-- pick(S: POW(?0)): ?0
abbrev pub pick_signature : Signature
pick_signature = record { name = codes "pick"; params = 1; args = at_type (pow (Param 0)); result = Param 0 }

-- where S is not empty
abbrev pub pick_entry : Entry
pick_entry = Constant pick_signature (Some (is_not_empty (Param 0) (var 0)))

abbrev pub pick_env : Env
pick_env = pick_entry ∷ []
