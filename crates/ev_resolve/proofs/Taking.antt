-- What the walk over binders needs.
use Rattle.std.specs.Prelude.{◌≡◌, ◌||◌, ℕ, zero, suc, ◌<◌, ◌≤◌, Bool, List, [], ◌∷◌, ◌++◌, length}
use Rattle.std.specs.List.{list_any}
use Rattle.std.proofs.Common.{ap, ◌∙◌, arith, get_or}
use Rattle.std.proofs.lemmas.List.Folds.{list_any-append}
use Rattle.std.proofs.lemmas.List.{map-append}
use Rattle.ev_syntax.specs.Raw.{Raw, Binder}
use Rattle.ev_syntax.specs.inner.RawView.{raws, height, heights}
use Rattle.ev_typing.proofs.Names.{drop_at, drop_all}
use Rattle.ev_resolve.specs.UsedNames.{names_of}

pub height_at : (es : List Raw) (i : ℕ) (e : Raw) → e ≡ get_or es i e → i < length es → height e ≤ heights (raws es)
height_at [] i e q h = absurd (omega (arith, h))
height_at (f ∷ es) zero e q h = let p : height e ≡ height f = ap height q in omega arith
height_at (f ∷ es) (suc i) e q h = omega (arith, height_at es i e q (omega arith))

pub names_append : (p : List ℕ → Bool) (xs ys : List Binder) → list_any p (names_of (xs ++ ys)) ≡ (list_any p (names_of xs) || list_any p (names_of ys))
names_append p xs ys = ap (list_any p) (map-append (λ (b : Binder). b.name) xs ys) ∙ list_any-append p (names_of xs) (names_of ys)

pub ruleset walk = (height_at, drop_at, drop_all, list_any-append)

pub ruleset binders = (drop_at, drop_all)

pub ruleset patterns = (names_append)
