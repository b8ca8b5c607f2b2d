-- Places in a text: what stands between two of them.
use Rattle.std.specs.Prelude.{◌≡◌, ℕ, ◌+◌, ◌^◌, ◌≤◌, min, Bool, true, false, List, [], ◌∷◌, ◌++◌, length, take, drop, encode_utf8_all, encode_utf8, Some}
use Rattle.std.specs.Str.{chars, IsCharBoundary}
use Rattle.std.specs.Char.{is_ascii_digit}
use Rattle.std.specs.List.{list_all}
use Rattle.ev_syntax.specs.Marks.{spellings, signs}
use Rattle.ev_syntax.specs.Tokens.{is_token, row_of, decimal_value}

-- a place in the text, where a character begins or the text ends
pub record IsPlace (bytes : List ℕ) (at : ℕ) : Type 0 where
  pub boundary : IsCharBoundary bytes at

-- one character that passes the test stands between the places
pub record PassesOne (p : ℕ → Bool) (bytes : List ℕ) (from to : ℕ) : Type 0 where
  pub char : ℕ
  pub passes : p char ≡ true
  pub splits : chars (drop from bytes) ≡ char ∷ chars (drop to bytes)
  pub ends : to ≡ from + length (encode_utf8 char)
  pub place : IsPlace bytes to

-- characters that pass the test stand between the places
pub record PassesAll (p : ℕ → Bool) (bytes : List ℕ) (from to : ℕ) : Type 0 where
  pub run : List ℕ
  pub passes : list_all p run ≡ true
  pub splits : chars (drop from bytes) ≡ run ++ chars (drop to bytes)
  pub ends : to ≡ from + length (encode_utf8_all run)
  pub place : IsPlace bytes to

-- the text ends, or its first character fails the test
abbrev pub Stops : (ℕ → Bool) → List ℕ → Type 0
Stops p [] = Unit {0}
Stops p (c ∷ cs) = p c ≡ false

-- the first character passes the test
abbrev pub Starts : (ℕ → Bool) → List ℕ → Type 0
Starts p [] = ⊥
Starts p (c ∷ cs) = p c ≡ true

-- digits stand between the places, of this value, or of a greater one if it is 2^127
pub record CountsTo (bytes : List ℕ) (from to value : ℕ) : Type 0 where
  pub run : List ℕ
  pub passes : list_all is_ascii_digit run ≡ true
  pub splits : chars (drop from bytes) ≡ run ++ chars (drop to bytes)
  pub ends : to ≡ from + length (encode_utf8_all run)
  pub place : IsPlace bytes to
  pub counts : value ≡ min (decimal_value run) (2 ^ 127)

-- no sign of more bytes stands at the front
pub record IsLongest (bytes : List ℕ) (size : ℕ) : Type 0 where
  pub within : size ≤ length bytes
  pub longest : (n row : ℕ) → n ≤ length bytes → row_of signs (take n bytes) ≡ Some row → n ≤ size

-- the first bytes, so many, spell the mark, and no longer sign stands there
pub record SpellsMark (bytes : List ℕ) (mark size : ℕ) : Type 0 where
  pub spells : row_of spellings (take size bytes) ≡ Some mark
  pub longest : IsLongest bytes size

-- no token stands at the front of the characters
abbrev pub BeginsNone : List ℕ → Type 0
BeginsNone cs = (text after : List ℕ) → cs ≡ text ++ after → is_token text ≡ true → ⊥
