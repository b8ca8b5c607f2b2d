-- The faults of admission as tests, and hypotheses from a place on.
use Rattle.std.specs.Prelude.{◌+◌, ◌-◌, ◌&&◌, ℕ, not, nat_lt, Bool as Boolean, List, Some, None, if◌then◌else◌, filter_map}
use Rattle.std.specs.List.{list_any, list_all, enumerate_from}
use Rattle.ev_terms.specs.declared.types.Ty.{Ty}
use Rattle.ev_terms.specs.Term.{Term, var}
use Rattle.ev_terms.specs.Measures.{type_params}
use Rattle.ev_typing.specs.declared.typing.DataDecl.{DataDecl}
use Rattle.ev_typing.specs.declared.typing.Con.{Con}
use Rattle.ev_typing.specs.declared.typing.Var.{Var}
use Rattle.ev_typing.specs.Occurs.{has_data}
use Rattle.ev_data.specs.Induction.{is_recursive}

-- the constructor has an argument of whose type the test holds
abbrev pub has_field : (Ty → Boolean) → Con → Boolean
has_field test c = list_any (λ (f : Var). test f.ty) c.fields

-- the datatype occurs in the type, which is not the datatype at its own parameters
abbrev pub is_nested : DataDecl → Ty → Boolean
is_nested d A = has_data d.name A && not (is_recursive d A)

-- a parameter of the type is not the datatype's
abbrev pub is_extra : DataDecl → Ty → Boolean
is_extra d A = nat_lt d.params (type_params A)

abbrev pub has_no_base : DataDecl → Boolean
has_no_base d = list_all (has_field (is_recursive d)) d.cons

abbrev pub has_nested : DataDecl → Boolean
has_nested d = list_any (has_field (is_nested d)) d.cons

abbrev pub has_extra : DataDecl → Boolean
has_extra d = list_any (has_field (is_extra d)) d.cons

-- the variables of recursive arguments among the last ones of n, from the i-th on
abbrev pub recursive_from : DataDecl → ℕ → ℕ → List Var → List Term
recursive_from d n i fs = filter_map (λ (f : ℕ × Var). if is_recursive d f.1.ty then Some (var (n - (f.0 + 1))) else None) (enumerate_from i fs)
