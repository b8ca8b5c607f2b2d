-- What the texts of a project are read as, and how theories import each other.
use Rattle.std.specs.Prelude.{◌≡◌, ◌≢◌, ℕ, Bool as Boolean, true, List, [], ◌∷◌, Some, flat_map, bytes_eq, if◌then◌else◌}
use Rattle.std.specs.List.{list_any}
use Rattle.ev_theory_text.specs.declared.forms.ElementForm.TheVariants.{Import}
use Rattle.ev_theory_text.specs.declared.elements.RawElement.{RawElement}
use Rattle.ev_theory_text.specs.declared.elements.RawElement.TheVariants.{Read}
use Rattle.ev_theory_text.specs.Theories.{IsTheory, import_names}
use Rattle.ev_typing.specs.Env.{Name}
use Rattle.ev_project.specs.Projects.{Project, has_text, text_of}

-- the name stands among some
abbrev pub is_among : List Name → Name → Boolean
is_among ns n = list_any (bytes_eq n) ns

-- the elements are those of the project's texts
abbrev pub AreRead : Project → (Name → List RawElement) → Type 0
AreRead p raws = (n : Name) (text : List ℕ) → text_of p n ≡ Some text → IsTheory text (raws n)

-- the imports of a theory, each once; a name without a text has none
abbrev pub imports_by : Project → (Name → List RawElement) → Name → List Name
imports_by p raws n = if has_text p n then import_names (raws n) else []

-- the name that an element imports
abbrev pub imported_name : RawElement → List Name
imported_name (Read (Import n)) = n ∷ []
imported_name _ = []

-- the names of the IMPORT elements of a text that are read, in order
abbrev pub import_elements : List RawElement → List Name
import_elements es = flat_map imported_name es

-- the text of n imports m
pub record IsImport (p : Project) (n m : Name) : Type 0 where
  pub text : List ℕ
  pub stands : text_of p n ≡ Some text
  pub elements : List RawElement
  pub read : IsTheory text elements
  pub among : is_among (import_names elements) m ≡ true

-- a walk of imports from n through these names, n not counted, to the last of them, m
abbrev pub IsWalkOfNames : Project → Name → List Name → Name → Type 0
IsWalkOfNames p n [] m = n ≡ m
IsWalkOfNames p n (u ∷ us) m = IsImport p n u × IsWalkOfNames p u us m

-- no walk of at least one import leads back to where it begins
abbrev pub IsAcyclic : Project → Type 0
IsAcyclic p = (n : Name) (us : List Name) → us ≢ [] → ¬ IsWalkOfNames p n us n
