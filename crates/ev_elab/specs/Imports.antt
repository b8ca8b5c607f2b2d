-- Imports that bring two theories with one name together.
use Rattle.std.specs.Prelude.{◌+◌, ◌&&◌, ℕ, Bool as Boolean, not, List, [], ◌∷◌, Option, Some, None, bytes_eq, if◌then◌else◌}
use Rattle.std.specs.List.{list_any}
use Rattle.ev_theory_text.specs.declared.forms.ElementForm.TheVariants.{Import}
use Rattle.ev_theory_text.specs.declared.elements.RawElement.{RawElement}
use Rattle.ev_theory_text.specs.declared.elements.RawElement.TheVariants.{Read}
use Rattle.ev_resolve.specs.UsedNames.{is_name_among}
use Rattle.ev_elab.specs.declared.theories.Reached.{Reached}
use Rattle.ev_elab.specs.States.{all_reached}
use Rattle.ev_elab.specs.Scopes.{declared_names}

-- two different theories declare one formula name, which is a type parameter in neither
abbrev pub clash : Reached → Reached → Boolean
clash r other = not (bytes_eq r.name other.name) && list_any (is_name_among (declared_names other)) (declared_names r)

-- so does one that an import newly reaches, with any that is reached
abbrev pub import_clashes : List (List Reached) → List Reached → Boolean
import_clashes scope new = list_any (λ r. list_any (clash r) (all_reached scope)) new

-- the number of the first such import, where the imports from number n on newly reach these
abbrev pub taken_import_from : List (List Reached) → List (List Reached) → ℕ → List RawElement → Option ℕ
taken_import_from scope lists n [] = None
taken_import_from scope (new ∷ lists) n (Read (Import m) ∷ raws) = if import_clashes scope new then Some n else taken_import_from scope lists (n + 1) raws
taken_import_from scope lists n (_ ∷ raws) = taken_import_from scope lists (n + 1) raws

abbrev pub taken_import : List (List Reached) → List RawElement → Option ℕ
taken_import scope raws = taken_import_from scope scope 1 raws
