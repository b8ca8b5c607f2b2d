-- An item of a list is no higher than the list.
use Rattle.std.specs.Prelude.{◌≡◌, ℕ, zero, suc, ◌<◌, ◌≤◌, List, [], ◌∷◌, length}
use Rattle.std.proofs.Common.{ap, arith, get_or}
use Rattle.ev_syntax.specs.Raw.{RawType}
use Rattle.ev_syntax.specs.inner.TypeView.{raw_types, height as type_height, types_height}
use Rattle.ev_resolve.specs.Bare.{Bare}
use Rattle.ev_resolve.specs.inner.BareView.{bares, height, heights}

pub type_height_at : (as' : List RawType) (i : ℕ) (a : RawType) → a ≡ get_or as' i a → i < length as' → type_height a ≤ types_height (raw_types as')
type_height_at [] i a q h = absurd (omega (arith, h))
type_height_at (b ∷ bs) zero a q h = let p : type_height a ≡ type_height b = ap type_height q in omega arith
type_height_at (b ∷ bs) (suc i) a q h = omega (arith, type_height_at bs i a q (omega arith))

pub ruleset types = (type_height_at)

pub height_at : (bs : List Bare) (i : ℕ) (b : Bare) → b ≡ get_or bs i b → i < length bs → height b ≤ heights (bares bs)
height_at [] i b e h = absurd (omega (arith, h))
height_at (c ∷ bs) zero b e h = let p : height b ≡ height c = ap height e in omega arith
height_at (c ∷ bs) (suc i) b e h = omega (arith, height_at bs i b e (omega arith))

pub ruleset bare_terms = (height_at)
