-- The row of a spelling in a table.
use Rattle.std.proofs.Common.{◌≡◌, ℕ, zero, suc, ◌+◌, ◌<◌, ◌≤◌, Bool, true, false, ◌&&◌, ◌||◌, not, List, [], ◌∷◌, length, refl, ap, sym, ◌∙◌, subst, arith}
use Rattle.std.specs.Prelude.{Option, Some, None, slice_get, bytes_eq, cond, nat_le}
use Rattle.std.specs.List.{position_from}
use Rattle.std.proofs.lemmas.Iterator.Adapters.{position_from-zero}
use borrow.Author.Tests.{leb-true}
use Rattle.std.specs.List.{list_any, list_all}
use Rattle.std.proofs.lemmas.Slice.Eq.{bytes_eq-Decides}
use Rattle.ev_syntax.specs.Tokens.{row_of}
use Rattle.ev_syntax.specs.inner.Spelled.{are_different, candidate}
use Rattle.ev_syntax.specs.Marks.{spellings}

pub equal_bytes : (xs ys : List ℕ) → bytes_eq xs ys ≡ true → xs ≡ ys
equal_bytes xs ys e = (bytes_eq-Decides xs ys).0 e

pub bytes_eq_same : (xs ys : List ℕ) → xs ≡ ys → bytes_eq xs ys ≡ true
bytes_eq_same xs ys e = (bytes_eq-Decides xs ys).1 e

-- the row that spells the bytes, where the first row has the number i
abbrev row_from : List (List ℕ) → List ℕ → ℕ → Option ℕ
row_from table w i = position_from (bytes_eq w) i table

row_of-from : (table : List (List ℕ)) (w : List ℕ) → row_of table w ≡ row_from table w 0
row_of-from table w = position_from-zero (bytes_eq w) table

row_from-at : (table : List (List ℕ)) (w : List ℕ) (i k : ℕ) → row_from table w i ≡ Some k → (j : ℕ) × (k ≡ i + j) × (slice_get table j ≡ Some w)
row_from-at [] w i k e = cc
row_from-at (r ∷ rs) w i k e = by (bytes_eq w r) refl e (row_from-at rs w (i + 1) k)
  where
    by : (b : Bool) → bytes_eq w r ≡ b → cond b (Some i) (row_from rs w (i + 1)) ≡ Some k
        → (row_from rs w (i + 1) ≡ Some k → (j : ℕ) × (k ≡ i + 1 + j) × (slice_get rs j ≡ Some w))
        → (j : ℕ) × (k ≡ i + j) × (slice_get (r ∷ rs) j ≡ Some w)
    by true t e again =
        let here : i ≡ k = cc in
        let same : w ≡ r = equal_bytes w r t in
        (0, omega arith, ap Some (sym same))
    by false t e again =
        let found : (j : ℕ) × (k ≡ i + 1 + j) × (slice_get rs j ≡ Some w) = again e in
        let at : k ≡ i + 1 + found.0 = found.1 in
        (suc found.0, omega arith, found.2)

-- what a row spells
pub row_of-at : (table : List (List ℕ)) (w : List ℕ) (k : ℕ) → row_of table w ≡ Some k → slice_get table k ≡ Some w
row_of-at table w k e =
    let found : (j : ℕ) × (k ≡ 0 + j) × (slice_get table j ≡ Some w) = row_from-at table w 0 k (sym (row_of-from table w) ∙ e) in
    let same : found.0 ≡ k = omega (arith, found.1) in
    subst (λ (j : ℕ). slice_get table j ≡ Some w) same found.2

both : (a b : Bool) → (not a && b) ≡ true → (a ≡ false) × (b ≡ true)
both true b e = cc
both false b e = (refl, e)

among : (r w : List ℕ) (rs : List (List ℕ)) (k : ℕ) → slice_get rs k ≡ Some w → bytes_eq r w ≡ true → list_any (bytes_eq r) rs ≡ true
among r w [] k e t = cc
among r w (x ∷ xs) zero e t = let p : x ≡ w = cc in rw (p, t) refl
among r w (x ∷ xs) (suc k) e t = either (bytes_eq r x) (list_any (bytes_eq r) xs) (among r w xs k e t)
  where
    either : (b c : Bool) → c ≡ true → (b || c) ≡ true
    either true c e = refl
    either false c e = e

row_from-is : (table : List (List ℕ)) (w : List ℕ) (i k : ℕ) → are_different table ≡ true → slice_get table k ≡ Some w → row_from table w i ≡ Some (i + k)
row_from-is [] w i k d e = cc
row_from-is (r ∷ rs) w i zero d e =
    let p : r ≡ w = cc in
    let n : i ≡ i + 0 = omega arith in
    ap (λ b. cond b (Some i) (row_from rs w (i + 1))) (bytes_eq_same w r (sym p)) ∙ ap Some n
row_from-is (r ∷ rs) w i (suc k) d e = by (bytes_eq w r) refl (row_from-is rs w (i + 1) k (both (list_any (bytes_eq r) rs) (are_different rs) d).1 e)
  where
    by : (b : Bool) → bytes_eq w r ≡ b → row_from rs w (i + 1) ≡ Some (i + 1 + k) → cond b (Some i) (row_from rs w (i + 1)) ≡ Some (i + suc k)
    by false t again = let n : i + 1 + k ≡ i + suc k = omega arith in again ∙ ap Some n
    by true t again =
        let same : w ≡ r = equal_bytes w r t in
        let any : list_any (bytes_eq r) rs ≡ true = among r w rs k e (bytes_eq_same r w (sym same)) in
        let none : list_any (bytes_eq r) rs ≡ false = (both (list_any (bytes_eq r) rs) (are_different rs) d).0 in
        absurd (cc)

-- in a table of different rows, the row that spells the bytes
pub row_of-is : (table : List (List ℕ)) (w : List ℕ) (k : ℕ) → are_different table ≡ true → slice_get table k ≡ Some w → row_of table w ≡ Some k
row_of-is table w k d e = row_of-from table w ∙ row_from-is table w 0 k d e ∙ (let n : 0 + k ≡ k = omega arith in ap Some n)

-- a number that is no row
pub none_by : (o : Option ℕ) → ((k : ℕ) → o ≡ Some k → ⊥) → o ≡ None
none_by None h = refl
none_by (Some k) h = absurd (h k refl)

-- each row of the table is the candidate of its bytes
abbrev pub are_candidates : ℕ → List (List ℕ) → Bool
are_candidates i [] = true
are_candidates i (r ∷ rs) = (nat_le (candidate r) i && nat_le i (candidate r)) && are_candidates (suc i) rs

candidates : are_candidates 0 spellings ≡ true
unfolding candidate
candidates = refl

parts : (a b c : Bool) → ((a && b) && c) ≡ true → (a ≡ true) × (b ≡ true) × (c ≡ true)
parts true true c e = (refl, refl, e)
parts true false c e = cc
parts false b c e = cc

candidate_from : (table : List (List ℕ)) (w : List ℕ) (i k : ℕ) → are_candidates i table ≡ true → slice_get table k ≡ Some w → candidate w ≡ i + k
candidate_from [] w i k a e = cc
candidate_from (r ∷ rs) w i zero a e =
    let p : r ≡ w = cc in
    let t = parts (nat_le (candidate r) i) (nat_le i (candidate r)) (are_candidates (suc i) rs) a in
    let le : candidate r ≤ i = leb-true _ _ t.0 in
    let ge : i ≤ candidate r = leb-true _ _ t.1 in
    rw (← p) (omega arith)
candidate_from (r ∷ rs) w i (suc k) a e =
    let t = parts (nat_le (candidate r) i) (nat_le i (candidate r)) (are_candidates (suc i) rs) a in
    let again : candidate w ≡ suc i + k = candidate_from rs w (suc i) k t.2 e in
    omega arith

-- only its candidate can spell the bytes
pub candidate-row : (w : List ℕ) (k : ℕ) → row_of spellings w ≡ Some k → candidate w ≡ k
candidate-row w k e = candidate_from spellings w 0 k candidates (row_of-at spellings w k e) ∙ (let n : 0 + k ≡ k = omega arith in n)

-- what holds of each row
pub row_passes : (p : List ℕ → Bool) (table : List (List ℕ)) (w : List ℕ) (k : ℕ) → list_all p table ≡ true → slice_get table k ≡ Some w → p w ≡ true
row_passes p [] w k a e = cc
row_passes p (r ∷ rs) w zero a e = let q : r ≡ w = cc in rw (← q) (first (p r) (list_all p rs) a)
  where
    first : (a b : Bool) → (a && b) ≡ true → a ≡ true
    first true b e = refl
    first false b e = cc
row_passes p (r ∷ rs) w (suc k) a e = row_passes p rs w k (rest (p r) (list_all p rs) a) e
  where
    rest : (a b : Bool) → (a && b) ≡ true → b ≡ true
    rest true b e = e
    rest false b e = cc

fits : list_all (λ r. (nat_le 1 (length r) && nat_le (length r) 9) && true) spellings ≡ true
fits = refl

-- a spelling has from one to nine bytes
pub row_length : (w : List ℕ) (k : ℕ) → row_of spellings w ≡ Some k → (1 ≤ length w) × (length w ≤ 9)
row_length w k e =
    let t = parts (nat_le 1 (length w)) (nat_le (length w) 9) true (row_passes (λ r. (nat_le 1 (length r) && nat_le (length r) 9) && true) spellings w k fits (row_of-at spellings w k e)) in
    (leb-true _ _ t.0, leb-true _ _ t.1)

pub too_short : (w : List ℕ) → length w ≡ 0 → None ≡ row_of spellings w
too_short w h = sym (none_by (row_of spellings w) (λ k e. let b = row_length w k e in omega (arith, b.0)))

pub too_long : (w : List ℕ) → 9 < length w → None ≡ row_of spellings w
too_long w h = sym (none_by (row_of spellings w) (λ k e. let b = row_length w k e in omega (arith, b.1)))

-- the candidate spells the bytes
pub mark_found : (w s : List ℕ) (table : List (List ℕ)) (k : ℕ) → are_different spellings ≡ true → table ≡ spellings → Some s ≡ slice_get table k
    → true ≡ bytes_eq s w → Some k ≡ row_of spellings w
mark_found w s table k different same is equal =
    let here : s ≡ w = equal_bytes s w (sym equal) in
    sym (row_of-is spellings w k different (ap (λ t. slice_get t k) (sym same) ∙ sym is ∙ ap Some here))

-- the candidate spells nothing else
pub mark_absent : (w : List ℕ) (o : Option (List ℕ)) (table : List (List ℕ)) (k : ℕ) → table ≡ spellings → k ≡ candidate w → o ≡ slice_get table k
    → (o ≡ Some w → ⊥) → None ≡ row_of spellings w
mark_absent w o table k same at is differs =
    sym (none_by (row_of spellings w) (λ j e.
    differs (is ∙ ap (λ t. slice_get t k) same ∙ ap (slice_get spellings) (at ∙ candidate-row w j e) ∙ row_of-at spellings w j e)))

pub other_bytes : (w s : List ℕ) → false ≡ bytes_eq s w → Some s ≡ Some w → ⊥
other_bytes w s e same =
    let here : s ≡ w = cc in
    let equal : bytes_eq s w ≡ true = bytes_eq_same s w here in
    absurd (cc)

pub none_of_it : (w : List ℕ) → None ≡ Some w → ⊥
none_of_it w e = absurd (cc)
