-- The datatype of lists and a direct operator, as samples.
use Rattle.std.specs.Prelude.{List, [], ◌∷◌, codes}
use Rattle.std.specs.Prelude.{None}
use Rattle.ev_terms.specs.declared.types.Ty.{Prop, Param, Data as DataType}
use Rattle.ev_terms.specs.declared.types.Tys.{Empty}
use Rattle.ev_terms.specs.declared.types.Sym.TheVariants.{Base}
use Rattle.ev_terms.specs.Types.{more}
use Rattle.ev_terms.specs.Term.{Term, node, nil}
use Rattle.ev_typing.specs.declared.typing.DataDecl.{DataDecl}
use Rattle.ev_typing.specs.declared.typing.Var.{Var}
use Rattle.ev_typing.specs.declared.typing.Entry.{Entry}
use Rattle.ev_typing.specs.declared.typing.Entry.TheVariants.{Data, Direct}
use Rattle.ev_typing.specs.declared.typing.Signature.{Signature}
use Rattle.ev_typing.specs.Env.{Env}

-- head: ?0, tail: list(?0)
abbrev pub cons_fields : List Var
cons_fields =
    record { name = codes "head"; ty = Param 0 }
    ∷ record { name = codes "tail"; ty = DataType (codes "list") (more (Param 0) Empty) }
    ∷ []

-- list(?0) = nil | cons(head, tail)
abbrev pub list_decl : DataDecl
list_decl = record {
  name = codes "list";
  params = 1;
  cons = record { name = codes "nil"; fields = [] } ∷ record { name = codes "cons"; fields = cons_fields } ∷ [];
}

-- it alone is declared
abbrev pub list_env : Env
list_env = Data list_decl ∷ []

-- `true`
abbrev pub truth : Term
truth = node (Base 0) Empty nil

-- top, a predicate
abbrev pub top_signature : Signature
top_signature = record { name = codes "top"; params = 0; args = Empty; result = Prop }

-- that is defined as `true`
abbrev pub top_entry : Entry
top_entry = Direct top_signature None truth
