-- The nesting of what is made of parts.
use Rattle.std.proofs.Common.{◌≡◌, ℕ, ◌+◌, ◌≤◌, List, [], ◌∷◌, ◌++◌, length, refl, ap, ◌∙◌, length-append, arith}
use Rattle.std.specs.Prelude.{max}
use Rattle.ev_syntax.specs.Raw.{RawType, Binder, type_nesting, written_nesting, bound_nesting}
use Rattle.ev_syntax.specs.inner.TypeFrames.{list_nesting}
use Rattle.ev_syntax.specs.inner.BinderAnswers.{binder_nesting, own_nesting}

pub list_nesting-snoc : (rs : List RawType) (r : RawType) → list_nesting (rs ++ r ∷ []) ≡ max (list_nesting rs) (type_nesting r)
list_nesting-snoc [] r = omega arith
list_nesting-snoc (x ∷ rs) r = omega (arith, list_nesting-snoc rs r)

-- bound names above a part
pub bound_split : (bs : List Binder) (inner : ℕ) → bound_nesting bs inner ≡ max (own_nesting bs) (length bs + inner)
bound_split [] inner = omega arith
bound_split (b ∷ bs) inner = omega (arith, bound_split bs inner, bound_split bs 0)

pub bound_append : (bs cs : List Binder) (inner : ℕ) → bound_nesting (bs ++ cs) inner ≡ bound_nesting bs (bound_nesting cs inner)
bound_append [] cs inner = refl
bound_append (b ∷ bs) cs inner = ap (λ i. 1 + max (written_nesting b.type) i) (bound_append bs cs inner)

pub own_nesting-snoc : (bs : List Binder) (b : Binder) → own_nesting (bs ++ b ∷ []) ≡ max (own_nesting bs) (binder_nesting b + length bs + 1)
own_nesting-snoc bs b = omega (arith, bound_append bs (b ∷ []) 0, bound_split bs (bound_nesting (b ∷ []) 0))

pub own_nesting-append : (bs cs : List Binder) → own_nesting (bs ++ cs) ≡ max (own_nesting bs) (length bs + own_nesting cs)
own_nesting-append bs cs = bound_append bs cs 0 ∙ bound_split bs (own_nesting cs)

pub length-names : (bs cs : List Binder) → length (bs ++ cs) ≡ length bs + length cs
length-names bs cs = length-append bs cs

pub own_least : (bs : List Binder) → length bs ≤ own_nesting bs
own_least [] = omega arith
own_least (b ∷ bs) = omega (arith, own_least bs)

pub ruleset nestings = (list_nesting-snoc, own_nesting-snoc, own_nesting-append, length-names, own_least)
