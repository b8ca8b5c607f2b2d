-- The parts of a theory text: it is cut before each line that begins with an element keyword.
use Rattle.std.specs.Prelude.{ℕ, Bool, true, false, ◌&&◌, not, List, [], ◌∷◌, ◌++◌, length, drop, nat_eq, codes, map, Option, Some, None}
use Rattle.std.specs.List.{list_any, starts_with}
use Rattle.unicode_ident.specs.Ident.{is_xid_continue}
use Rattle.bstr.specs.Text.{lines_of}
use Rattle.bstr.specs.Utf8.{decoded}
use denote.Ref.{Bor}

-- the bytes begin with a character that may continue a name
abbrev pub continues_name : Option ℕ → Bool
continues_name None = false
continues_name (Some c) = is_xid_continue c

-- the line begins with the keyword, and what follows it cannot continue a name
abbrev pub begins_with_keyword : List ℕ → List ℕ → Bool
begins_with_keyword line keyword = starts_with nat_eq line keyword && not (continues_name (decoded (drop (length keyword) line)).char)

abbrev pub element_keywords : List (List ℕ)
element_keywords =
    codes "IMPORT" ∷ codes "PARAM" ∷ codes "DATATYPE" ∷ codes "OPERATOR" ∷ codes "CONSTANT" ∷ codes "AXIOM" ∷ codes "THEOREM"
    ∷ codes "REWRITE" ∷ codes "INFERENCE" ∷ []

-- whether an element begins with the line
abbrev pub begins_element : List ℕ → Bool
begins_element line = list_any (begins_with_keyword line) element_keywords

-- what stands before the first element, and the parts, each from the line that begins an element to the next one
pub record Cutting : Type 0 where
  pub front : List ℕ
  pub parts : List (List ℕ)

abbrev pub with_line : Bool → List ℕ → Cutting → Cutting
with_line true line p = record { front = []; parts = (line ++ p.front) ∷ p.parts }
with_line false line p = record { front = line ++ p.front; parts = p.parts }

abbrev pub cut_lines : List (List ℕ) → Cutting
cut_lines [] = record { front = []; parts = [] }
cut_lines (line ∷ lines) = with_line (begins_element line) line (cut_lines lines)

-- the cut of a text, whose lines have each their LF
abbrev pub cut : List ℕ → Cutting
cut text = cut_lines (lines_of text)

-- what pieces of a text say
abbrev pub texts : List (Bor (List ℕ)) → List (List ℕ)
texts pieces = map (λ piece. piece.now) pieces
