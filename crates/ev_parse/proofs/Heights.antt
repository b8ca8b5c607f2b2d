-- A member of a list is no higher than the list.
use Rattle.std.proofs.Common.{◌≡◌, ℕ, zero, suc, ◌<◌, ◌≤◌, List, [], ◌∷◌, length, get_or, ap, arith}
use Rattle.ev_syntax.specs.Raw.{Raw, RawType}
use Rattle.ev_syntax.specs.inner.RawView.{raws, height, heights}
use Rattle.ev_syntax.specs.inner.TypeView.{raw_types, types_height}
use Rattle.ev_syntax.specs.inner.TypeView as types

pub raw_at : (es : List Raw) (i : ℕ) (e : Raw) → e ≡ get_or es i e → i < length es → height e ≤ heights (raws es)
raw_at [] i e q h = absurd (omega (arith, h))
raw_at (f ∷ es) zero e q h = let p : height e ≡ height f = ap height q in omega arith
raw_at (f ∷ es) (suc i) e q h = omega (arith, raw_at es i e q (omega arith))

pub type_at : (ts : List RawType) (i : ℕ) (a : RawType) → a ≡ get_or ts i a → i < length ts → types.height a ≤ types_height (raw_types ts)
type_at [] i a q h = absurd (omega (arith, h))
type_at (b ∷ ts) zero a q h = let p : types.height a ≡ types.height b = ap types.height q in omega arith
type_at (b ∷ ts) (suc i) a q h = omega (arith, type_at ts i a q (omega arith))
