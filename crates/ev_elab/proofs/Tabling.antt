-- Tables of names that are filled from the end of a list.
use Rattle.std.specs.Prelude.{◌≡◌, ◌||◌, ℕ, zero, suc, ◌+◌, ◌-◌, ◌<◌, ◌≤◌, Bool, true, false, cond, not, List, [], ◌∷◌, length, drop, bytes_eq, refl}
use Rattle.std.proofs.Common.{ap, sym, ◌∙◌, get_or, arith}
use Rattle.ev_typing.specs.Env.{Name}
use Rattle.ev_typing.proofs.Names.{drop_at}
use Rattle.ev_resolve.specs.UsedNames.{is_name_among}
use Rattle.ev_resolve.proofs.Declared.{flip}
use Rattle.ev_elab.specs.Taken.{repeats}

cond_or : (a b : Bool) → cond a true b ≡ (a || b)
cond_or true b = refl
cond_or false b = refl

behind : (k : Name) (names : List Name) (left : ℕ) → 0 < left → left ≤ length names → k ≡ get_or names (left - 1) k → drop (left - 1) names ≡ k ∷ drop left names
behind k names left some within at =
    let next : left - 1 + 1 ≡ left = omega (arith, some) in
    drop_at names (left - 1) k at (omega (arith, some, within)) ∙ ap (λ j. k ∷ drop j names) next

-- one more name, in front of the others
pub one_more : (n k : Name) (names : List Name) (left : ℕ) (old new : Bool) → 0 < left → left ≤ length names → k ≡ get_or names (left - 1) k
    → old ≡ is_name_among (drop left names) n → new ≡ cond (bytes_eq k n) true old → new ≡ is_name_among (drop (left - 1) names) n
one_more n k names left old new some within at before put =
    put
    ∙ cond_or (bytes_eq k n) old
    ∙ ap (λ b. b || old) (flip k n)
    ∙ ap (λ b. bytes_eq n k || b) before
    ∙ sym (ap (λ ns. is_name_among ns n) (behind k names left some within at))

-- what was added was not there, and what was not added was
was_new : (old added : Bool) → added ≡ not old → added ≡ true → old ≡ false
was_new true added e h = sym h ∙ e
was_new false added e h = refl

was_there : (old added : Bool) → added ≡ not old → added ≡ false → old ≡ true
was_there true added e h = refl
was_there false added e h = sym h ∙ e

-- it is no other
pub apart_more : (k : Name) (names : List Name) (left : ℕ) (old added : Bool) → 0 < left → left ≤ length names → k ≡ get_or names (left - 1) k
    → old ≡ is_name_among (drop left names) k → added ≡ not old → added ≡ true → repeats (drop left names) ≡ false → repeats (drop (left - 1) names) ≡ false
apart_more k names left old added some within at before new h apart =
    ap repeats (behind k names left some within at)
    ∙ ap (λ b. b || repeats (drop left names)) (sym before ∙ was_new old added new h)
    ∙ apart

later_repeats : (names : List Name) (i : ℕ) → repeats (drop i names) ≡ true → repeats names ≡ true
later_repeats [] zero h = h
later_repeats [] (suc i) h = h
later_repeats (n ∷ ns) zero h = h
later_repeats (n ∷ ns) (suc i) h = by (is_name_among ns n) (later_repeats ns i h)
  where
    by : (b : Bool) → repeats ns ≡ true → (b || repeats ns) ≡ true
    by true e = refl
    by false e = e

-- it is one of the others
pub found_again : (k : Name) (names : List Name) (left : ℕ) (old added : Bool) → 0 < left → left ≤ length names → k ≡ get_or names (left - 1) k
    → old ≡ is_name_among (drop left names) k → added ≡ not old → added ≡ false → true ≡ repeats names
found_again k names left old added some within at before new h =
    sym (later_repeats names (left - 1)
    (ap repeats (behind k names left some within at) ∙ ap (λ b. b || repeats (drop left names)) (sym before ∙ was_there old added new h)))
