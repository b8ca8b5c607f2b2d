-- A row at a place of the groups.
use Rattle.std.proofs.Common.{◌≡◌, ℕ, zero, suc, ◌+◌, ◌-◌, ◌≤◌, ◌<◌, List, [], ◌∷◌, ◌++◌, length, drop, map, get_or, Option, Some, None, ap, sym, ◌∙◌, refl, arith}
use Rattle.std.specs.Prelude.{slice_get}
use Rattle.std.specs.Borrow.{Bor}
use Rattle.ev_typing.proofs.Names.{drop_at, drop_all}
use Rattle.ev_axioms.specs.declared.steps.Step.{Step}
use Rattle.ev_axioms.specs.inner.Rows.{steps_in, joined}

front : {X : Type 0} (xs ys : List X) (j : ℕ) → j < length xs → slice_get (xs ++ ys) j ≡ slice_get xs j
front [] ys j h = absurd (omega (arith, h))
front (x ∷ xs) ys zero h = refl
front (x ∷ xs) ys (suc j) h = front xs ys j (omega (arith, h))

behind : {X : Type 0} (xs ys : List X) (j : ℕ) → length xs ≤ j → slice_get (xs ++ ys) j ≡ slice_get ys (j - length xs)
behind [] ys j h = let e : j ≡ j - 0 = omega arith in ap (slice_get ys) e
behind (x ∷ xs) ys zero h = absurd (omega (arith, h))
behind (x ∷ xs) ys (suc j) h = let e : j - length xs ≡ suc j - length (x ∷ xs) = omega arith in behind xs ys j (omega (arith, h)) ∙ ap (slice_get ys) e

item : (rows : List (Bor (List Step))) (j : ℕ) (r : Bor (List Step)) → r ≡ get_or rows j r → j < length rows → slice_get (steps_in rows) j ≡ Some r.now
item [] j r e h = absurd (omega (arith, h))
item (s ∷ rows) zero r e h = ap (λ (x : Bor (List Step)). Some x.now) (sym e)
item (s ∷ rows) (suc j) r e h = item rows j r e (omega (arith, h))

count : (rows : List (Bor (List Step))) → length (steps_in rows) ≡ length rows
count [] = refl
count (r ∷ rows) = ap suc (count rows)

abbrev Groups : Type 0
Groups = List (Bor (List (Bor (List Step))))

here : (gs : Groups) (i : ℕ) (g : Bor (List (Bor (List Step)))) → g ≡ get_or gs i g → i < length gs → joined (drop i gs) ≡ steps_in g.now ++ joined (drop (i + 1) gs)
here gs i g e h = ap joined (drop_at gs i g e h)

row_here : (gs : Groups) (i left : ℕ) (g : Bor (List (Bor (List Step)))) (r : Bor (List Step)) (o : Option (List Step)) → g ≡ get_or gs i g → i < length gs → r ≡ get_or g.now left r → left < length g.now →
    slice_get (joined (drop i gs)) left ≡ o → Some r.now ≡ o
row_here gs i left g r o e h p l k =
    let c : left < length (steps_in g.now) = omega (arith, l, count g.now) in
    sym (ap (λ xs. slice_get xs left) (here gs i g e h) ∙ front (steps_in g.now) (joined (drop (i + 1) gs)) left c ∙ item g.now left r p l) ∙ k

row_later : (gs : Groups) (i left : ℕ) (g : Bor (List (Bor (List Step)))) (o : Option (List Step)) → g ≡ get_or gs i g → i < length gs → length g.now ≤ left →
    slice_get (joined (drop i gs)) left ≡ o → slice_get (joined (drop (i + 1) gs)) (left - length g.now) ≡ o
row_later gs i left g o e h l k =
    let c : length (steps_in g.now) ≤ left = omega (arith, l, count g.now) in
    ap (λ n. slice_get (joined (drop (i + 1) gs)) (left - n)) (sym (count g.now))
    ∙ sym (ap (λ xs. slice_get xs left) (here gs i g e h) ∙ behind (steps_in g.now) (joined (drop (i + 1) gs)) left c) ∙ k

pub row_nowhere : (gs : Groups) (i left : ℕ) (o : Option (List Step)) → length gs ≤ i → slice_get (joined (drop i gs)) left ≡ o → None ≡ o
row_nowhere gs i left o h k = sym (ap (λ xs. slice_get (joined xs) left) (drop_all gs i h)) ∙ k

-- what is read does not depend on what would stand past the end
same_read : {X : Type 0} (xs : List X) (i : ℕ) (d e : X) → i < length xs → get_or xs i d ≡ get_or xs i e
same_read [] i d e h = absurd (omega (arith, h))
same_read (x ∷ xs) zero d e h = refl
same_read (x ∷ xs) (suc i) d e h = same_read xs i d e (omega (arith, h))

pub row_read : (gs : Groups) (i left : ℕ) (d : Bor (List (Bor (List Step)))) (e : Bor (List Step)) (o : Option (List Step)) → i < length gs → left < length (get_or gs i d).now →
    slice_get (joined (drop i gs)) left ≡ o → Some (get_or (get_or gs i d).now left e).now ≡ o
row_read gs i left d e o h l k =
    row_here gs i left (get_or gs i d) (get_or (get_or gs i d).now left e) o (same_read gs i d (get_or gs i d) h) h
    (same_read (get_or gs i d).now left e (get_or (get_or gs i d).now left e) l) l k

pub row_after : (gs : Groups) (i left : ℕ) (d : Bor (List (Bor (List Step)))) (o : Option (List Step)) → i < length gs → length (get_or gs i d).now ≤ left →
    slice_get (joined (drop i gs)) left ≡ o → slice_get (joined (drop (i + 1) gs)) (left - length (get_or gs i d).now) ≡ o
row_after gs i left d o h l k = row_later gs i left (get_or gs i d) o (same_read gs i d (get_or gs i d) h) h l k

pub ruleset rows_of_groups = (row_nowhere)
