-- The elements of a theory text.
use Rattle.std.specs.Prelude.{◌≡◌, ℕ, List, [], ◌∷◌, ◌++◌, bytes_eq, fold, if◌then◌else◌, MatchBool}
use Rattle.std.specs.List.{list_any}
use Rattle.ev_syntax.specs.Chars.{are_blanks}
use Rattle.ev_theory_text.specs.declared.forms.ElementForm.TheVariants.{Import}
use Rattle.ev_theory_text.specs.declared.elements.RawElement.{RawElement}
use Rattle.ev_theory_text.specs.declared.elements.RawElement.TheVariants.{Read}
use Rattle.ev_theory_text.specs.Answers.{IsElement, IsNoElement}
use Rattle.ev_theory_text.specs.Cut.{Cutting, cut, texts}
use denote.Ref.{Bor}

-- each part is its element
abbrev pub AreElements : List (List ℕ) → List RawElement → Type 0
AreElements [] [] = Unit {0}
AreElements [] (e ∷ es) = ⊥
AreElements (part ∷ parts) [] = ⊥
AreElements (part ∷ parts) (e ∷ es) = IsElement part e × AreElements parts es

-- the same behind what stands before the first element keyword
abbrev pub BeginsWithNoElement : List ℕ → List (List ℕ) → List RawElement → Type 0
BeginsWithNoElement front parts [] = ⊥
BeginsWithNoElement front parts (e ∷ es) = IsNoElement front e × AreElements parts es

abbrev pub AreOf : Cutting → List RawElement → Type 0
AreOf c es = MatchBool (are_blanks c.front) (AreElements c.parts es) (BeginsWithNoElement c.front c.parts es)

-- what stands before the first element keyword: nothing, or one part that is no element
abbrev pub FrontElements : List ℕ → List RawElement → Type 0
FrontElements front es = MatchBool (are_blanks front) (es ≡ []) ((e : RawElement) × (es ≡ e ∷ []) × IsNoElement front e)

-- the elements of parts, behind some
abbrev pub FurtherElements : List RawElement → List (Bor (List ℕ)) → List RawElement → Type 0
FurtherElements first parts es = (more : List RawElement) × (es ≡ first ++ more) × AreElements (texts parts) more

-- the elements of a text, in order
abbrev pub IsTheory : List ℕ → List RawElement → Type 0
IsTheory text es = AreOf (cut text) es

-- the names of its IMPORT elements, each once, in order
abbrev pub with_name : List (List ℕ) → List ℕ → List (List ℕ)
with_name names n = if list_any (bytes_eq n) names then names else names ++ n ∷ []

abbrev pub with_import : List (List ℕ) → RawElement → List (List ℕ)
with_import names (Read (Import n)) = with_name names n
with_import names _ = names

abbrev pub import_names : List RawElement → List (List ℕ)
import_names es = fold with_import [] es
