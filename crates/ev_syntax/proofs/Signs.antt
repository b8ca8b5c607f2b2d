-- The longest sign at the front of bytes.
use Rattle.std.proofs.Common.{◌≡◌, ℕ, zero, suc, ◌-◌, ◌<◌, ◌≤◌, true, List, [], ◌∷◌, ◌++◌, length, take, get_or, refl, ap, sym, ◌∙◌, subst, arith, ◌⊎◌, inl, inr}
use Rattle.std.specs.Prelude.{Some, None, min, nat_le, slice_get}
use Rattle.std.specs.List.{list_all}
use Rattle.std.proofs.lemmas.Bool.{leb-true}
use Rattle.std.proofs.lemmas.List.{get_or-take, length-take-le}
use Rattle.std.proofs.lemmas.Option.{none-some}
use Rattle.ev_syntax.specs.declared.slots.TheConstants.{LONGEST}
use Rattle.ev_syntax.specs.Marks.{signs, reserved_words, spellings}
use Rattle.ev_syntax.specs.Tokens.{row_of}
use Rattle.ev_syntax.specs.inner.Places.{IsLongest}
use Rattle.ev_syntax.proofs.RowLemmas.{row_passes, row_of-at, row_of-is}

longest : list_all (λ r. nat_le (length r) (get_or LONGEST (get_or r 0 0) 0)) signs ≡ true
longest = refl

sign_length : (w : List ℕ) (k : ℕ) → row_of signs w ≡ Some k → length w ≤ get_or LONGEST (get_or w 0 0) 0
sign_length w k e = leb-true _ _ (row_passes (λ r. nat_le (length r) (get_or LONGEST (get_or r 0 0) 0)) signs w k longest (row_of-at signs w k e))

not_empty : list_all (λ r. nat_le 1 (length r)) signs ≡ true
not_empty = refl

pub sign_size : (w : List ℕ) (k : ℕ) → row_of signs w ≡ Some k → 1 ≤ length w
sign_size w k e = leb-true _ _ (row_passes (λ r. nat_le 1 (length r)) signs w k not_empty (row_of-at signs w k e))

pub sign_start : (bytes : List ℕ) (size : ℕ) → size ≡ min (get_or LONGEST (get_or bytes 0 0) 0) (length bytes) → IsLongest bytes size
sign_start bytes size e = record { within = omega arith; longest = bound }
  where
    bound : (n row : ℕ) → n ≤ length bytes → row_of signs (take n bytes) ≡ Some row → n ≤ size
    bound n row h s =
        let l : length (take n bytes) ≡ n = length-take-le n bytes h in
        let one : 1 ≤ length (take n bytes) = sign_size (take n bytes) row s in
        let first : get_or (take n bytes) 0 0 ≡ get_or bytes 0 0 = get_or-take n bytes 0 0 (omega arith) in
        let most : length (take n bytes) ≤ get_or LONGEST (get_or (take n bytes) 0 0) 0 = sign_length (take n bytes) row s in
        let same : get_or LONGEST (get_or (take n bytes) 0 0) 0 ≡ get_or LONGEST (get_or bytes 0 0) 0 = ap (λ b. get_or LONGEST b 0) first in
        omega arith

-- the signs are the first rows of the table
slice_get-front : (xs ys : List (List ℕ)) (w : List ℕ) (k : ℕ) → slice_get xs k ≡ Some w → slice_get (xs ++ ys) k ≡ Some w
slice_get-front [] ys w k e = cc
slice_get-front (x ∷ xs) ys w zero e = e
slice_get-front (x ∷ xs) ys w (suc k) e = slice_get-front xs ys w k e

pub sign_row : (w : List ℕ) (k : ℕ) → row_of signs w ≡ Some k → row_of spellings w ≡ Some k
sign_row w k e = row_of-is spellings w k refl (slice_get-front signs reserved_words w k (row_of-at signs w k e))

pub sign_shorter : (bytes : List ℕ) (size : ℕ) → IsLongest bytes size → 0 < size → row_of spellings (take size bytes) ≡ None → IsLongest bytes (size - 1)
sign_shorter bytes size l h none = record { within = let w = l.within in omega arith; longest = bound }
  where
    bound : (n row : ℕ) → n ≤ length bytes → row_of signs (take n bytes) ≡ Some row → n ≤ size - 1
    bound n row k s = by (order n size)
      where
        order : (a b : ℕ) → (a ≡ b) ⊎ ((a < b) ⊎ (b < a))
        order a b = grind arith

        by : (n ≡ size) ⊎ ((n < size) ⊎ (size < n)) → n ≤ size - 1
        by (inl same) =
            let found : row_of spellings (take n bytes) ≡ Some row = sign_row (take n bytes) row s in
            let here : row_of spellings (take size bytes) ≡ Some row = subst (λ (m : ℕ). row_of spellings (take m bytes) ≡ Some row) same found in
            absurd (none-some row (sym none ∙ here))
        by (inr (inl lt)) = omega arith
        by (inr (inr gt)) = let m = l.longest n row k s in absurd (omega arith)

pub ruleset sign_steps = (sign_shorter)
