-- The characters, words and lines of a text.
use Rattle.std.specs.Prelude.{◌&&◌, ◌||◌, ◌==◌, ℕ, Bool, false, not, List, [], ◌∷◌, bytes_eq, codes, filter, length, if◌then◌else◌}
use Rattle.std.specs.List.{list_all, list_any, slice_split}
use Rattle.std.specs.Char.{is_ascii_alphabetic, is_ascii_alphanumeric, is_ascii_digit}

-- space, tab, CR and LF
abbrev pub is_blank : ℕ → Bool
is_blank c = (c == 32 || c == 9) || (c == 13 || c == 10)

abbrev pub are_blanks : List ℕ → Bool
are_blanks cs = list_all is_blank cs

-- a letter, digit or `_`
abbrev pub is_word_char : ℕ → Bool
is_word_char c = is_ascii_alphanumeric c || c == 95

abbrev pub begins_word : List ℕ → Bool
begins_word [] = false
begins_word (c ∷ cs) = is_ascii_alphabetic c || c == 95

-- letters, digits and `_`, no digit first
abbrev pub is_word : List ℕ → Bool
is_word cs = begins_word cs && list_all is_word_char cs

-- the words that are no names
abbrev pub reserved_words : List (List ℕ)
reserved_words =
    codes "true" ∷ codes "false" ∷ codes "not" ∷ codes "or" ∷ codes "TRUE" ∷ codes "FALSE" ∷ codes "INT" ∷ codes "NAT" ∷ codes "NAT1"
    ∷ codes "BOOL" ∷ codes "POW" ∷ codes "TYPE" ∷ codes "PRED" ∷ codes "bool" ∷ codes "oftype" ∷ codes "mod" ∷ codes "finite"
    ∷ codes "card" ∷ codes "min" ∷ codes "max" ∷ codes "union" ∷ codes "inter" ∷ codes "dom" ∷ codes "ran" ∷ codes "id" ∷ codes "prj1"
    ∷ codes "prj2" ∷ codes "UNION" ∷ codes "INTER" ∷ codes "at" ∷ codes "of" ∷ codes "IMPORT" ∷ codes "PARAM" ∷ codes "DATATYPE"
    ∷ codes "OPERATOR" ∷ codes "CONSTANT" ∷ codes "AXIOM" ∷ codes "THEOREM" ∷ codes "REWRITE" ∷ codes "INFERENCE" ∷ codes "WHERE"
    ∷ codes "IS" ∷ codes "BY" ∷ codes "CASE" ∷ codes "FOR" ∷ codes "WHEN" ∷ codes "THEN" ∷ codes "COMPLETE" ∷ codes "GIVEN" ∷ codes "INFER" ∷ []

abbrev pub is_reserved : List ℕ → Bool
is_reserved word = list_any (λ w. bytes_eq w word) reserved_words

-- a word that is not reserved
abbrev pub is_name : List ℕ → Bool
is_name word = is_word word && not (is_reserved word)

-- `v` and digits alone: the name of a variable, which no label has
abbrev pub is_variable_name : List ℕ → Bool
is_variable_name [] = false
is_variable_name (c ∷ cs) = c == 118 && (not (length cs == 0) && list_all is_ascii_digit cs)

-- without the blanks at the front
abbrev pub skip_blanks : List ℕ → List ℕ
skip_blanks [] = []
skip_blanks (c ∷ cs) = if is_blank c then skip_blanks cs else c ∷ cs

-- without the blanks at the end
abbrev pub drop_last_blanks : List ℕ → List ℕ
drop_last_blanks [] = []
drop_last_blanks (c ∷ cs) = if is_blank c && are_blanks cs then [] else c ∷ drop_last_blanks cs

-- without both
abbrev pub trimmed : List ℕ → List ℕ
trimmed cs = skip_blanks (drop_last_blanks cs)

-- the lines of a text: what stands between two LF, before the first and behind the last
abbrev pub lines_of : List ℕ → List (List ℕ)
lines_of text = slice_split (λ c. c == 10) text

-- the words of a line, separated by spaces or tabs
abbrev pub words_of : List ℕ → List (List ℕ)
words_of line = filter (λ word. not (length word == 0)) (slice_split (λ c. c == 32 || c == 9) line)

-- the lines that are not blank
abbrev pub full_lines : List (List ℕ) → List (List ℕ)
full_lines lines = filter (λ line. not (are_blanks line)) lines
