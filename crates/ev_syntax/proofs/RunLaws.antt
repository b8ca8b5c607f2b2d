-- Runs of tokens that are formulas, and what makes one the longest.
use Rattle.std.proofs.Common.{◌≡◌, ℕ, zero, suc, ◌+◌, ◌-◌, ◌≤◌, ◌<◌, Bool, true, false, List, [], ◌∷◌, ◌++◌, length, take, drop, refl, ap, subst, sym, ◌∙◌, inl, inr, arith, append-nil, length-append, length-drop, take-append-drop}
use Rattle.std.specs.Prelude.{nat_le}
use Rattle.std.proofs.lemmas.Bool.Decides.{nat_tests}
use Rattle.std.proofs.lemmas.List.{take_at, length-take-le}
use Rattle.ev_syntax.specs.Marks.{comma}
use Rattle.ev_syntax.specs.Tokens.{Token, name, number, mark}
use Rattle.ev_syntax.specs.Raw.{Raw}
use Rattle.ev_syntax.specs.Parts.{pred, expr}
use Rattle.ev_syntax.specs.declared.sorts.Sort.{Sort}
use Rattle.ev_syntax.specs.declared.sorts.Sort.TheVariants.{Pred, Expr, Either, TypeText}
use Rattle.ev_syntax.specs.Parses.{ReadsAs, Parses, IsRun, IsLongestRun}
use Rattle.ev_syntax.specs.GrammarLaws.{CommaEndsRun}
use Rattle.ev_syntax.proofs.Frame.{Takes}
use Rattle.ev_syntax.proofs.OneTree.{IsType, is_type, as_frame, before_others, StopsAs, no_longer, nothing_stops, comma_stops, at_most_one_tree}
use Rattle.ev_syntax.proofs.Sizes.{raw_shrinks, type_shrinks}

-- runs are fronts
pub as_shrinks : (sort : Sort) (raw : Raw) (ts rest : List Token) → ReadsAs sort raw ts rest → length rest < length ts
as_shrinks Pred raw ts rest h = (raw_shrinks raw).shrinks pred ts rest h
as_shrinks Expr raw ts rest h = (raw_shrinks raw).shrinks (expr 0) ts rest h
as_shrinks Either raw ts rest (inl h) = (raw_shrinks raw).shrinks pred ts rest h
as_shrinks Either raw ts rest (inr h) = (raw_shrinks raw).shrinks (expr 0) ts rest h
as_shrinks TypeText raw ts rest h = let i : IsType raw ts rest = is_type raw ts rest h in (type_shrinks i.type).shrinks true ts rest i.reads

pub run_front : (ts : List Token) (from : ℕ) (sort : Sort) (n : ℕ) (raw : Raw) → IsRun ts from sort n raw → ReadsAs sort raw (drop from ts) (drop n (drop from ts))
run_front ts from sort n raw h =
    subst (λ xs. ReadsAs sort raw xs (drop n (drop from ts))) (take-append-drop n (drop from ts)) (before_others sort raw (take n (drop from ts)) (drop n (drop from ts)) h.1)

pub front_run : (ts : List Token) (from : ℕ) (sort : Sort) (raw : Raw) (rest : List Token) → ReadsAs sort raw (drop from ts) rest
    → IsRun ts from sort (length (drop from ts) - length rest) raw
front_run ts from sort raw rest h =
    let t : Takes (ReadsAs sort raw) (drop from ts) rest = as_frame sort raw (drop from ts) rest h in
    let n : length (drop from ts) ≡ length t.front + length rest = ap length t.splits ∙ length-append t.front rest in
    let k : length (drop from ts) - length rest ≡ length t.front = omega arith in
    let d : length (drop from ts) ≡ length ts - from = length-drop from ts in
    let some : length rest < length (drop from ts) = as_shrinks sort raw (drop from ts) rest h in
    let front : take (length (drop from ts) - length rest) (drop from ts) ≡ t.front =
    ap (λ i. take i (drop from ts)) k ∙ ap (λ xs. take (length t.front) xs) t.splits ∙ take_at t.front rest (length t.front) refl in
    (omega arith, subst (λ xs. ReadsAs sort raw xs []) (sym (front ∙ sym (append-nil t.front))) (t.anywhere []))

le_of : (a b : ℕ) → nat_le a b ≡ true → a ≤ b
le_of a b h = grind (arith, nat_tests)

gt_of : (a b : ℕ) → nat_le a b ≡ false → b ≤ a
gt_of a b h = grind (arith, nat_tests)

-- a longest run is one only
pub only_longest : (ts : List Token) (from : ℕ) (sort : Sort) (n m : ℕ) (a b : Raw) → IsLongestRun ts from sort n a → IsLongestRun ts from sort m b → ◌≡◌ {A = ℕ × Raw} (n, a) (m, b)
only_longest ts from sort n m a b h i =
    let same : n ≡ m = omega (arith, h.longest m b i.run, i.longest n a h.run) in
    let other : IsRun ts from sort m a = subst (λ k. IsRun ts from sort k a) same h.run in
    ap (λ k. (k, a)) same ∙ ap (λ r. (m, r)) (at_most_one_tree (take m (drop from ts)) sort a b other.1 i.run.1)

-- what stops, of some tokens stops too: only the first token tells
pub stops_take : (sort : Sort) (k : ℕ) (ts : List Token) → StopsAs sort ts → StopsAs sort (take k ts)
stops_take sort zero ts s = nothing_stops sort
stops_take sort (suc k) [] s = nothing_stops sort
stops_take Pred (suc k) (name n ∷ ts) s = s
stops_take Pred (suc k) (number n ∷ ts) s = s
stops_take Pred (suc k) (mark m ∷ ts) s = s
stops_take Expr (suc k) (name n ∷ ts) s = s
stops_take Expr (suc k) (number n ∷ ts) s = s
stops_take Expr (suc k) (mark m ∷ ts) s = s
stops_take Either (suc k) (name n ∷ ts) s = s
stops_take Either (suc k) (number n ∷ ts) s = s
stops_take Either (suc k) (mark m ∷ ts) s = s
stops_take TypeText (suc k) (name n ∷ ts) s = s
stops_take TypeText (suc k) (number n ∷ ts) s = s
stops_take TypeText (suc k) (mark m ∷ ts) s = s

take_split : (n k : ℕ) (ts : List Token) → take (n + k) ts ≡ take n ts ++ take k (drop n ts)
take_split zero k ts = let e : 0 + k ≡ k = omega arith in ap (λ i. take i ts) e
take_split (suc n) zero [] = let e : suc n + 0 ≡ suc n = omega arith in ap (λ i. take i []) e
take_split (suc n) (suc k) [] = let e : suc n + suc k ≡ suc (n + suc k) = omega arith in ap (λ i. take i []) e
take_split (suc n) k (t ∷ ts) = let e : suc n + k ≡ suc (n + k) = omega arith in ap (λ i. take i (t ∷ ts)) e ∙ ap (λ xs. t ∷ xs) (take_split n k ts)

-- a run is the longest where what comes behind it cannot go on with a formula of the sort
pub longest_by_stop : (ts : List Token) (from : ℕ) (sort : Sort) (n : ℕ) (raw : Raw) → IsRun ts from sort n raw → StopsAs sort (drop n (drop from ts)) → IsLongestRun ts from sort n raw
longest_by_stop ts from sort n raw h s = record { run = h; longest = more }
  where
    more : (m : ℕ) (other : Raw) → IsRun ts from sort m other → m ≤ n
    more m other i = go (nat_le m n) refl
      where
        us : List Token
        us = drop from ts

        longer : n ≤ m → take m us ≡ take n us ++ take (m - n) (drop n us)
        longer le = let e : m ≡ n + (m - n) = omega arith in ap (λ k. take k us) e ∙ take_split n (m - n) us

        go : (b : Bool) → nat_le m n ≡ b → m ≤ n
        go true e = le_of m n e
        go false e = let le : n ≤ m = gt_of m n e in
            let none : take (m - n) (drop n us) ≡ [] =
            no_longer sort raw other (take n us) (take (m - n) (drop n us)) h.1 (stops_take sort (m - n) (drop n us) s) (subst (λ xs. Parses xs sort other) (longer le) i.1) in
            let k : length us ≡ length ts - from = length-drop from ts in
            let d : length (drop n us) ≡ length us - n = length-drop n us in
            let low : from + m ≤ length ts = i.0 in
            let room : m - n ≤ length (drop n us) = omega arith in
            let l : length (take (m - n) (drop n us)) ≡ m - n = length-take-le (m - n) (drop n us) room in
            let z : length (take (m - n) (drop n us)) ≡ 0 = ap length none in omega arith

first_is : (t : Token) (ts : List Token) → take 1 ts ≡ t ∷ [] → (us : List Token) × (ts ≡ t ∷ us)
first_is t [] e = absurd (differ e)
  where
    differ : [] ≡ t ∷ [] → ⊥
    differ e = cc
first_is t (x ∷ ts) e = let same : x ≡ t = cc in (ts, ap (λ y. y ∷ ts) same)

pub comma_ends_run : CommaEndsRun
comma_ends_run ts from sort n m a b h c lt i =
    let us = first_is (mark comma) (drop n (drop from ts)) c in
    let l : IsLongestRun ts from sort n a = longest_by_stop ts from sort n a h (subst (λ xs. StopsAs sort xs) (sym us.1) (comma_stops sort us.0)) in
    omega (arith, l.longest m b i)
