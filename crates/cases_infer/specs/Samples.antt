-- The datatype of lists, a direct operator and constants, as samples.
use Rattle.std.specs.Prelude.{List, [], ◌∷◌, codes}
use Rattle.std.specs.Prelude.{None}
use Rattle.ev_terms.specs.declared.types.Ty.{Int, Prop, Param, Data as DataType}
use Rattle.ev_terms.specs.declared.types.Tys.{Empty}
use Rattle.ev_terms.specs.declared.types.Sym.TheVariants.{Base}
use Rattle.ev_terms.specs.Types.{more, pow, prod}
use Rattle.ev_terms.specs.Term.{Term, node, nil}
use Rattle.ev_typing.specs.declared.typing.DataDecl.{DataDecl}
use Rattle.ev_typing.specs.declared.typing.Var.{Var}
use Rattle.ev_typing.specs.declared.typing.Entry.{Entry}
use Rattle.ev_typing.specs.declared.typing.Entry.TheVariants.{Data, Constant, Direct}
use Rattle.ev_typing.specs.declared.typing.Signature.{Signature}
use Rattle.ev_typing.specs.Env.{Env}

-- head: ?0, tail: list(?0)
abbrev pub cons_fields : List Var
cons_fields =
    record { name = codes "head"; ty = Param 0 }
    ∷ record { name = codes "tail"; ty = DataType (codes "list") (more (Param 0) Empty) }
    ∷ []

-- list(?0) = nil | cons(head, tail)
abbrev pub list_decl : DataDecl
list_decl = record {
  name = codes "list";
  params = 1;
  cons = record { name = codes "nil"; fields = [] } ∷ record { name = codes "cons"; fields = cons_fields } ∷ [];
}

-- `true`
abbrev pub truth : Term
truth = node (Base 0) Empty nil

-- top, a predicate that is defined as `true`
abbrev pub top_signature : Signature
top_signature = record { name = codes "top"; params = 0; args = Empty; result = Prop }

abbrev pub top_entry : Entry
top_entry = Direct top_signature None truth

-- pick(S: POW(?0)): ?0
abbrev pub pick_signature : Signature
pick_signature = record { name = codes "pick"; params = 1; args = more (pow (Param 0)) Empty; result = Param 0 }

abbrev pub pick_entry : Entry
pick_entry = Constant pick_signature None

-- even(k: INT), a predicate
abbrev pub even_signature : Signature
even_signature = record { name = codes "even"; params = 0; args = more Int Empty; result = Prop }

abbrev pub even_entry : Entry
even_entry = Constant even_signature None

-- succ: POW(INT ** INT)
abbrev pub succ_signature : Signature
succ_signature = record { name = codes "succ"; params = 0; args = Empty; result = pow (prod Int Int) }

abbrev pub succ_entry : Entry
succ_entry = Constant succ_signature None
