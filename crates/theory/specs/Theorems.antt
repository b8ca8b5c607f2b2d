-- The theorems of a theory text, one a line.
use Rattle.std.specs.Prelude.{◌≡◌, ◌&&◌, ℕ, Bool, false, not, List, [], ◌∷◌, ◌++◌, ⊤, Option, Some, None, bytes_eq, codes, drop, length, if◌then◌else◌, map, nat_eq}
use Rattle.std.specs.List.{AllZip, list_any, starts_with, take_while}
use Rattle.theory.specs.declared.theorems.Theorem.{Theorem}
use Rattle.theory.specs.Words.{is_blank, is_name, is_variable_name, is_word_char, skip_blanks, full_lines}
use Rattle.theory.specs.Formulas.{IsFormula}

-- a label, and the text behind the colon
abbrev pub Labelled : Type 0
Labelled = List ℕ × List ℕ

abbrev pub begins_blank : List ℕ → Bool
begins_blank [] = false
begins_blank (c ∷ cs) = is_blank c

-- a name that no variable has
abbrev pub is_label : List ℕ → Bool
is_label word = is_name word && not (is_variable_name word)

-- a label, blanks, a colon and a text; the word is the label, and after comes behind it
abbrev pub with_colon : List ℕ → List ℕ → Option Labelled
with_colon word after =
    if is_label word && starts_with nat_eq (skip_blanks after) (codes ":") then Some (word, drop 1 (skip_blanks after)) else None

-- blanks, and then the letters, digits and `_` up to the next other character are the label
abbrev pub labelled : List ℕ → Option Labelled
labelled text =
    if begins_blank text
    then with_colon (take_while is_word_char (skip_blanks text)) (drop (length (take_while is_word_char (skip_blanks text))) (skip_blanks text))
    else None

-- `THEOREM label : text`
abbrev pub theorem_parts : List ℕ → Option Labelled
theorem_parts line = if starts_with nat_eq line (codes "THEOREM") then labelled (drop 7 line) else None

-- the line is the theorem
abbrev pub IsTheorem : List ℕ → Theorem → Type 0
IsTheorem line t = (text : List ℕ) × (theorem_parts line ≡ Some (t.label, text)) × IsFormula text t.goal

-- no label is among those before it, `seen` being such
abbrev pub AreDifferent : List (List ℕ) → List (List ℕ) → Type 0
AreDifferent seen [] = ⊤
AreDifferent seen (label ∷ labels) = (list_any (bytes_eq label) seen ≡ false) × AreDifferent (seen ++ label ∷ []) labels

abbrev pub labels_of : List Theorem → List (List ℕ)
labels_of theorems = map (λ (t : Theorem). t.label) theorems

-- each line that is not blank is a theorem, and no label stands twice
abbrev pub AreTheorems : List (List ℕ) → List Theorem → Type 0
AreTheorems lines theorems = AllZip IsTheorem (full_lines lines) theorems × AreDifferent [] (labels_of theorems)
