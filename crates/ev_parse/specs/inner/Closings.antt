-- Where parentheses close.
use Rattle.std.specs.Prelude.{◌≡◌, ℕ, ◌-◌, ◌≤◌, ◌<◌, List, Option, Some, None, drop, length, slice_get}
use Rattle.std.specs.Coded.{codes, le_prop}
use Rattle.ev_syntax.specs.Tokens.{Token}
use Rattle.ev_syntax.specs.inner.Lookahead.{after_close}

-- of a parenthesis that is open before the place: the place behind the one that closes it, if there is one
abbrev pub Closes : List Token → ℕ → Option ℕ → Type 0
Closes ts at None = after_close 0 (drop at ts) ≡ None
Closes ts at (Some to) = (after_close 0 (drop at ts) ≡ Some (drop to ts)) × (at < to) × (to ≤ length ts)

-- the entries of the last places, the last place first
abbrev pub IsTable : List Token → List (Option ℕ) → Type 0
IsTable ts table = (k : ℕ) → (e : Option ℕ) → slice_get table k ≡ Some e → Closes ts (length ts - k) e

-- a fact that holds in one way at most
pub closes_prop : (ts : List Token) (at : ℕ) (e : Option ℕ) → IsProp (Closes ts at e)
closes_prop ts at None = Prim.hlevel (codes, le_prop)
closes_prop ts at (Some to) = Prim.hlevel (codes, le_prop)

pub table_prop : (ts : List Token) (table : List (Option ℕ)) → IsProp (IsTable ts table)
table_prop ts table = Prim.hlevel closes_prop
