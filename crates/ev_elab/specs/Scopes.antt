-- Which scopes elaboration is asked over.
use Rattle.std.specs.Prelude.{◌≡◌, ◌+◌, ◌++◌, ℕ, List, [], ◌∷◌, bytes_eq, map, length, Contains, ⊤, flat_map}
use Rattle.std.specs.List.{AllByRecursion, IsDistinct}
use Rattle.ev_theory_text.specs.declared.forms.ElementForm.TheVariants.{Import}
use Rattle.ev_theory_text.specs.declared.elements.RawElement.{RawElement}
use Rattle.ev_theory_text.specs.declared.elements.RawElement.TheVariants.{Read}
use Rattle.ev_typing.specs.Env.{Name}
use Rattle.ev_ops.specs.Formulas.{MayFollowAll}
use Rattle.ev_elab.specs.declared.theories.Reached.{Reached}
use Rattle.ev_elab.specs.DeclaredNames.{entry_names}
use Rattle.ev_elab.specs.States.{all_reached, elements_of}

-- how many imports are read
abbrev pub import_count : List RawElement → ℕ
import_count [] = 0
import_count (Read (Import n) ∷ raws) = 1 + import_count raws
import_count (_ ∷ raws) = import_count raws

-- the names that a theory declares, type parameters aside
abbrev pub declared_names : Reached → List Name
declared_names r = flat_map entry_names r.elements

-- a theory that is elaborated over some of those before it: its elements may follow theirs
pub record StandsOver (earlier : List Reached) (r : Reached) : Type 0 where
  pub below : List Reached
  pub among : AllByRecursion (Contains earlier) below
  pub follow : MayFollowAll [] (elements_of (below ++ r ∷ []))

-- each over those before it
abbrev pub StandAfter : List Reached → List Reached → Type 0
StandAfter earlier [] = ⊤
StandAfter earlier (r ∷ rs) = StandsOver earlier r × StandAfter (earlier ++ r ∷ []) rs

-- one list for each import that is read, of different theories, each over some before it
pub record IsScope (scope : List (List Reached)) (raws : List RawElement) : Type 0 where
  pub count : length scope ≡ import_count raws
  pub distinct : IsDistinct bytes_eq (map (λ (r : Reached). r.name) (all_reached scope))
  pub theories : StandAfter [] (all_reached scope)
