-- The environment of the cases: lists, and direct operators.
use Rattle.std.specs.Prelude.{List, [], ◌∷◌, None, codes}
use Rattle.ev_terms.specs.declared.types.Ty.{Ty, Int, Prop, Param}
use Rattle.ev_terms.specs.declared.types.Tys.{Tys, Empty}
use Rattle.ev_terms.specs.Types.{more, prod}
use Rattle.ev_terms.specs.Term.{Term, var}
use Rattle.ev_forms.specs.Base.{at_type, with_two, maps_to_sym}
use Rattle.ev_forms.specs.Forms.{call, eq, forall, plus, two_types}
use Rattle.ev_typing.specs.declared.typing.Entry.{Entry}
use Rattle.ev_typing.specs.declared.typing.Entry.TheVariants.{Data, Direct}
use Rattle.ev_typing.specs.declared.typing.Signature.{Signature}
use Rattle.ev_typing.specs.Env.{Env}
use Rattle.cases_samples.specs.Samples.{list_decl}

-- double(x: INT): INT, defined as x + x
abbrev pub double_signature : Signature
double_signature = record { name = codes "double"; params = 0; args = at_type Int; result = Int }

abbrev pub double_body : Term
double_body = plus (var 0) (var 0)

abbrev pub double_entry : Entry
double_entry = Direct double_signature None double_body

-- quad(x: INT): INT, defined as double(double(x))
abbrev pub quad_signature : Signature
quad_signature = record { name = codes "quad"; params = 0; args = at_type Int; result = Int }

abbrev pub quad_body : Term
quad_body = call (codes "double") Empty (call (codes "double") Empty (var 0 ∷ []) ∷ [])

abbrev pub quad_entry : Entry
quad_entry = Direct quad_signature None quad_body

-- swap(x: ?0, y: ?1): ?1 × ?0, defined as y |-> x
abbrev pub swap_signature : Signature
swap_signature = record { name = codes "swap"; params = 2; args = two_types (Param 0) (Param 1); result = prod (Param 1) (Param 0) }

abbrev pub swap_body : Term
swap_body = with_two maps_to_sym (two_types (Param 1) (Param 0)) (var 0) (var 1)

abbrev pub swap_entry : Entry
swap_entry = Direct swap_signature None swap_body

-- alleq(x: ?0), a predicate that is defined as !y. y = x
abbrev pub alleq_signature : Signature
alleq_signature = record { name = codes "alleq"; params = 1; args = at_type (Param 0); result = Prop }

abbrev pub alleq_body : Term
alleq_body = forall (Param 0) (eq (Param 0) (var 0) (var 1))

abbrev pub alleq_entry : Entry
alleq_entry = Direct alleq_signature None alleq_body

abbrev pub only_lists : Env
only_lists = Data list_decl ∷ []

abbrev pub with_double : Env
with_double = Data list_decl ∷ double_entry ∷ []

abbrev pub with_quad : Env
with_quad = Data list_decl ∷ double_entry ∷ quad_entry ∷ []

abbrev pub with_swap : Env
with_swap = Data list_decl ∷ double_entry ∷ quad_entry ∷ swap_entry ∷ []
