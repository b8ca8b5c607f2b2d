-- Laws of tokens.
use Rattle.std.specs.Prelude.{◌≡◌, ℕ, ◌≤◌, ◌<◌, List, [], ◌∷◌, map, length, slice_get, slice_range, Some}
use Rattle.std.specs.Str.{chars}
use Rattle.ev_syntax.specs.Marks.{spellings}
use Rattle.ev_syntax.specs.MarkNames.{named_marks}
use Rattle.ev_syntax.specs.Tokens.{Spanned, HasTokens, token_of}

-- each mark by name is the row of its spelling in the table
abbrev pub MarksAreSpellings : Type 0
MarksAreSpellings = map (λ m. slice_get spellings m.row) named_marks ≡ map (λ m. Some m.spelling) named_marks

-- the constants of the code are these rows, each under the same name
abbrev pub ConstantsAreMarks : Type 0
ConstantsAreMarks = map (λ m. m.constant) named_marks ≡ map (λ m. m.row) named_marks

-- a text has at most one list of tokens
abbrev pub AtMostOneList : Type 0
AtMostOneList = (text : List ℕ) (ts us : List Spanned) → HasTokens text ts → HasTokens text us → ts ≡ us

-- the tokens stand in their order from the place on, and each is what the bytes that it takes are
abbrev pub AreSpans : List ℕ → ℕ → List Spanned → Type 0
AreSpans text from [] = from ≤ length text
AreSpans text from (t ∷ ts) =
    (from ≤ t.start) × (t.start < t.end) × (t.token ≡ token_of (chars (slice_range text t.start t.end))) × AreSpans text t.end ts

abbrev pub SpansAreInOrder : Type 0
SpansAreInOrder = (text : List ℕ) (ts : List Spanned) → HasTokens text ts → AreSpans text 0 ts
