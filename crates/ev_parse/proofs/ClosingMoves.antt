-- The table of closing parentheses.
use Rattle.std.proofs.Common.{◌≡◌, ℕ, zero, suc, ◌+◌, ◌-◌, ◌<◌, ◌≤◌, Bool, true, false, List, [], ◌∷◌, ◌++◌, drop, length, refl, ap, subst, ◌∙◌, arith}
use Rattle.std.specs.Prelude.{Option, Some, None, slice_get, get_or, ◌==◌, ◌⊎◌, if◌then◌else◌}
use Rattle.std.proofs.Common.{inl, inr}
use Rattle.std.proofs.lemmas.Option.{slice_get-get_or}
use Rattle.ev_syntax.specs.Marks.{open_paren, close_paren}
use Rattle.ev_syntax.specs.Tokens.{Token, name, number, mark}
use Rattle.ev_syntax.specs.inner.Lookahead.{after_close}
use Rattle.ev_parse.specs.inner.Closings.{Closes, IsTable}

-- behind one more that is open
abbrev then_close : ℕ → Option (List Token) → Option (List Token)
then_close n None = None
then_close n (Some us) = after_close n us

first_case : (a b : Bool) (n j : ℕ) (ts : List Token) → suc j ≡ suc n + 0 → ((i h : ℕ) → i ≡ suc n + h → after_close i ts ≡ then_close n (after_close h ts))
    → (if a then after_close (suc (suc j)) ts else (if b then after_close j ts else after_close (suc j) ts))
    ≡ then_close n (if a then after_close 1 ts else (if b then Some ts else after_close 0 ts))
first_case true b n j ts e again = again (suc (suc j)) 1 (omega arith)
first_case false false n j ts e again = again (suc j) 0 e
first_case false true n j ts e again = let same : j ≡ n = omega arith in ap (λ i. after_close i ts) same

later_case : (a b : Bool) (n j k : ℕ) (ts : List Token) → suc j ≡ suc n + suc k → ((i h : ℕ) → i ≡ suc n + h → after_close i ts ≡ then_close n (after_close h ts))
    → (if a then after_close (suc (suc j)) ts else (if b then after_close j ts else after_close (suc j) ts))
    ≡ then_close n (if a then after_close (suc (suc k)) ts else (if b then after_close k ts else after_close (suc k) ts))
later_case true b n j k ts e again = again (suc (suc j)) (suc (suc k)) (omega arith)
later_case false false n j k ts e again = again (suc j) (suc k) e
later_case false true n j k ts e again = again j k (omega arith)

deeper : (n j k : ℕ) (ts : List Token) → j ≡ suc n + k → after_close j ts ≡ then_close n (after_close k ts)
deeper n j k [] e = ends j k
  where
    ends : (j k : ℕ) → after_close j [] ≡ then_close n (after_close k [])
    ends zero zero = refl
    ends zero (suc k) = refl
    ends (suc j) zero = refl
    ends (suc j) (suc k) = refl
deeper n j k (name x ∷ ts) e = same j k (deeper n j k ts e)
  where
    same : (j k : ℕ) → after_close j ts ≡ then_close n (after_close k ts) → after_close j (name x ∷ ts) ≡ then_close n (after_close k (name x ∷ ts))
    same zero zero h = h
    same zero (suc k) h = h
    same (suc j) zero h = h
    same (suc j) (suc k) h = h
deeper n j k (number x ∷ ts) e = same j k (deeper n j k ts e)
  where
    same : (j k : ℕ) → after_close j ts ≡ then_close n (after_close k ts) → after_close j (number x ∷ ts) ≡ then_close n (after_close k (number x ∷ ts))
    same zero zero h = h
    same zero (suc k) h = h
    same (suc j) zero h = h
    same (suc j) (suc k) h = h
deeper n zero k (mark m ∷ ts) e = absurd (omega arith)
deeper n (suc j) zero (mark m ∷ ts) e = first_case (m == open_paren) (m == close_paren) n j ts e (λ i h d. deeper n i h ts d)
deeper n (suc j) (suc k) (mark m ∷ ts) e = later_case (m == open_paren) (m == close_paren) n j k ts e (λ i h d. deeper n i h ts d)

pub entry_at : (ts : List Token) (table : List (Option ℕ)) (at i : ℕ) → IsTable ts table → i ≡ length ts - at → at ≤ length ts → i < length table → Closes ts at (get_or table i None)
entry_at ts table at i h e le lt = let here : length ts - i ≡ at = omega arith in
    subst (λ j. Closes ts j (get_or table i None)) here (h i (get_or table i None) (slice_get-get_or table i None lt))

pub closes_open_none : (ts : List Token) (at : ℕ) → drop at ts ≡ mark open_paren ∷ drop (at + 1) ts → Closes ts (at + 1) None → Closes ts at None
closes_open_none ts at e h = ap (after_close 0) e ∙ deeper 0 1 0 (drop (at + 1) ts) refl ∙ ap (then_close 0) h

pub closes_open : (ts : List Token) (at to : ℕ) (r : Option ℕ) → drop at ts ≡ mark open_paren ∷ drop (at + 1) ts → Closes ts (at + 1) (Some to) → Closes ts to r → Closes ts at r
closes_open ts at to None e h k = ap (after_close 0) e ∙ deeper 0 1 0 (drop (at + 1) ts) refl ∙ ap (then_close 0) h.0 ∙ k
closes_open ts at to (Some end) e h k = (ap (after_close 0) e ∙ deeper 0 1 0 (drop (at + 1) ts) refl ∙ ap (then_close 0) h.0 ∙ k.0, let w = h.1 in let x = k.1 in omega arith, k.2)

-- the table with one entry more
snoc_get : (xs : List (Option ℕ)) (x : Option ℕ) (k : ℕ) (e : Option ℕ) → slice_get (xs ++ x ∷ []) k ≡ Some e → (k < length xs → slice_get xs k ≡ Some e) × (length xs ≤ k → (x ≡ e) × (k ≡ length xs))
snoc_get [] x zero e h = (λ lt. absurd (omega arith), λ le. (cc, refl))
snoc_get [] x (suc k) e h = cc
snoc_get (y ∷ xs) x zero e h = (λ lt. h, λ le. absurd (omega arith))
snoc_get (y ∷ xs) x (suc k) e h = let r = snoc_get xs x k e h in
    (λ lt. r.0 (omega arith), λ le. let q = r.1 (omega arith) in (q.0, let d = q.1 in omega arith))

pub table_snoc : (ts : List Token) (table : List (Option ℕ)) (at : ℕ) (x : Option ℕ) → IsTable ts table → length table + at ≡ length ts → Closes ts at x → IsTable ts (table ++ x ∷ [])
table_snoc ts table at x h l c k e g = pick (lt_or k (length table))
  where
    r : (k < length table → slice_get table k ≡ Some e) × (length table ≤ k → (x ≡ e) × (k ≡ length table))
    r = snoc_get table x k e g

    lt_or : (a b : ℕ) → (a < b) ⊎ (b ≤ a)
    lt_or a zero = inr (omega arith)
    lt_or zero (suc b) = inl (omega arith)
    lt_or (suc a) (suc b) = step (lt_or a b)
      where
        step : (a < b) ⊎ (b ≤ a) → (suc a < suc b) ⊎ (suc b ≤ suc a)
        step (inl p) = inl (omega arith)
        step (inr p) = inr (omega arith)

    pick : (k < length table) ⊎ (length table ≤ k) → Closes ts (length ts - k) e
    pick (inl p) = h k e (r.0 p)
    pick (inr p) = let q = r.1 p in let d = q.1 in let here : at ≡ length ts - k = omega arith in subst (λ y. Closes ts (length ts - k) y) q.0 (subst (λ i. Closes ts i x) here c)
