-- What stands at a place of some tokens.
use Rattle.std.specs.Prelude.{◌≡◌, ℕ, ◌+◌, ◌^◌, ◌<◌, nat_lt, if◌then◌else◌, List, [], ◌∷◌, drop, length, Option, Some, None}
use Rattle.ev_syntax.specs.declared.kinds.TokenKind.{TokenKind}
use Rattle.ev_syntax.specs.declared.kinds.TokenKind.TheVariants.{Name, Number, Mark}
use Rattle.ev_syntax.specs.Tokens.{Token, name, number, mark}

-- the token at the place, and those behind it
abbrev pub IsTokenAt : Option TokenKind → List Token → ℕ → Type 0
IsTokenAt None ts at = drop at ts ≡ []
IsTokenAt (Some Name) ts at = (n : List ℕ) × (drop at ts ≡ name n ∷ drop (at + 1) ts)
IsTokenAt (Some (Number n)) ts at = drop at ts ≡ number n ∷ drop (at + 1) ts
IsTokenAt (Some (Mark m)) ts at = drop at ts ≡ mark m ∷ drop (at + 1) ts

-- a place where a token stands
abbrev pub IsIndex : List Token → ℕ → Type 0
IsIndex ts at = (at < length ts) × (length ts < 2 ^ 60)

-- a number below 2^32 that stands first
abbrev pub small_number : List Token → Option ℕ
small_number [] = None
small_number (name n ∷ ts) = None
small_number (number n ∷ ts) = if nat_lt n (2 ^ 32) then Some n else None
small_number (mark m ∷ ts) = None
