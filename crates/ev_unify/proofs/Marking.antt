-- Marks and visits, one changed or added.
use Rattle.std.specs.Prelude.{◌≡◌, ◌≢◌, ℕ, zero, suc, ◌+◌, ◌*◌, ◌<◌, ◌≤◌, ◌⊎◌, List, [], ◌∷◌, ◌++◌, length, slice_index, refl}
use Rattle.std.proofs.Common.{ap, sym, ◌∙◌, arith, inl, inr, set}
use Rattle.std.proofs.Math.Nat.{mul-le-mul_left}
use Rattle.std.proofs.lemmas.List.{get_or-set_same, get_or-set_other}
use Rattle.std.proofs.lemmas.Bool.{cases_eq}
use Rattle.ev_unify.specs.declared.patterns.Pat.{Pat}
use Rattle.ev_unify.specs.declared.ranks.Mark.{Mark}
use Rattle.ev_unify.specs.declared.ranks.Mark.TheVariants.{New, Open, Done}
use Rattle.ev_unify.specs.declared.ranks.Visit.{Visit}
use Rattle.ev_unify.specs.inner.Numbered.{IsFlat}
use Rattle.ev_unify.specs.inner.Ranks.{mark, IsDone, IsVisit, IsPath, IsOn, GoesOn, count_new, left_on, labor}

-- marks
pub set_same : (M : List Mark) (t x : ℕ) (m : Mark) → t < length M → x ≡ t → mark (set M t m) x ≡ m
set_same M t x m h e = ap (mark (set M t m)) e ∙ get_or-set_same M t m New h

pub set_other : (M : List Mark) (t x : ℕ) (m : Mark) → x ≢ t → mark (set M t m) x ≡ mark M x
set_other M t x m e = get_or-set_other M t x m New e

pub done_or : (m : Mark) → (m ≡ Done) ⊎ (m ≢ Done)
done_or New = inr (λ e. let q : New ≡ Done = e in absurd (cc))
done_or Open = inr (λ e. let q : Open ≡ Done = e in absurd (cc))
done_or Done = inl refl

pub neither : (m : Mark) → m ≢ New → m ≢ Open → m ≡ Done
neither New n o = absurd (n refl)
neither Open n o = absurd (o refl)
neither Done n o = refl

pub done_after : (M : List Mark) (t x : ℕ) → t < length M → IsDone M x → IsDone (set M t Done) x
done_after M t x h d = elim (cases_eq x t) as (λ _. IsDone (set M t Done) x) [ inl e ↦ set_same M t x Done h e | inr n ↦ set_other M t x Done n ∙ d ]

pub done_opened : (M : List Mark) (c x : ℕ) → mark M c ≡ New → IsDone M x → IsDone (set M c Open) x
done_opened M c x new d = elim (cases_eq x c) as (λ _. IsDone (set M c Open) x) [
  | inl e ↦ let q : New ≡ Done = sym new ∙ ap (mark M) (sym e) ∙ d in absurd (cc)
  | inr n ↦ set_other M c x Open n ∙ d
]

pub done_before : (M : List Mark) (c x : ℕ) → c < length M → IsDone (set M c Open) x → IsDone M x
done_before M c x h d = elim (cases_eq x c) as (λ _. IsDone M x) [
  | inl e ↦ let q : Open ≡ Done = sym (set_same M c x Open h e) ∙ d in absurd (cc)
  | inr n ↦ sym (set_other M c x Open n) ∙ d
]

pub goes_refl : (M : List Mark) → GoesOn M M
goes_refl M = record { done = λ x d. d; begun = λ x n. n }

pub goes_trans : (M M' M'' : List Mark) → GoesOn M M' → GoesOn M' M'' → GoesOn M M''
goes_trans M M' M'' a b = record { done = λ x d. b.done x (a.done x d); begun = λ x n. b.begun x (a.begun x n) }

pub goes_done : (M : List Mark) (t : ℕ) → t < length M → GoesOn M (set M t Done)
goes_done M t h = record {
  done = λ x d. done_after M t x h d;
  begun = λ x n. elim (cases_eq x t) as (λ _. mark (set M t Done) x ≢ New) [
    | inl e ↦ (λ w. let q : Done ≡ New = sym (set_same M t x Done h e) ∙ w in absurd (cc))
    | inr a ↦ (λ w. n (sym (set_other M t x Done a) ∙ w))
  ];
}

pub goes_open : (M : List Mark) (c : ℕ) → c < length M → mark M c ≡ New → GoesOn M (set M c Open)
goes_open M c h new = record {
  done = λ x d. done_opened M c x new d;
  begun = λ x n. elim (cases_eq x c) as (λ _. mark (set M c Open) x ≢ New) [
    | inl e ↦ (λ w. let q : Open ≡ New = sym (set_same M c x Open h e) ∙ w in absurd (cc))
    | inr a ↦ (λ w. n (sym (set_other M c x Open a) ∙ w))
  ];
}

count_open : (M : List Mark) (c : ℕ) → c < length M → mark M c ≡ New → count_new (set M c Open) + 1 ≡ count_new M
count_open [] c h e = absurd (omega (arith, h))
count_open (New ∷ ms) zero h e = omega arith
count_open (Open ∷ ms) zero h e = let q : Open ≡ New = e in absurd (cc)
count_open (Done ∷ ms) zero h e = let q : Done ≡ New = e in absurd (cc)
count_open (New ∷ ms) (suc c) h e = omega (arith, count_open ms c (omega (arith, h)) e)
count_open (Open ∷ ms) (suc c) h e = omega (arith, count_open ms c (omega (arith, h)) e)
count_open (Done ∷ ms) (suc c) h e = omega (arith, count_open ms c (omega (arith, h)) e)

count_done : (M : List Mark) (t : ℕ) → count_new (set M t Done) ≤ count_new M
count_done [] t = omega arith
count_done (New ∷ ms) zero = omega arith
count_done (Open ∷ ms) zero = omega arith
count_done (Done ∷ ms) zero = omega arith
count_done (New ∷ ms) (suc t) = omega (arith, count_done ms t)
count_done (Open ∷ ms) (suc t) = omega (arith, count_done ms t)
count_done (Done ∷ ms) (suc t) = omega (arith, count_done ms t)

-- visits
pub visit_marks : (P : List Pat) (F R : List ℕ) (M M' : List Mark) (v : Visit) → ((x : ℕ) → IsDone M x → IsDone M' x) → IsVisit P F R M v → IsVisit P F R M' v
visit_marks P F R M M' v h t = record { within = t.within; begun = t.begun; ended = t.ended; seen = λ s a b. h (slice_index R s) (t.seen s a b) }

pub path_marks : (P : List Pat) (F R : List ℕ) (M M' : List Mark) (vs : List Visit) → ((x : ℕ) → IsDone M x → IsDone M' x) → IsPath P F R M vs → IsPath P F R M' vs
path_marks P F R M M' [] h t = tt
path_marks P F R M M' (v ∷ vs) h (a, (b, c)) = (visit_marks P F R M M' v h a, (b, path_marks P F R M M' vs h c))

pub path_top : (P : List Pat) (F R : List ℕ) (M : List Mark) (vs : List Visit) (v : Visit) → IsPath P F R M (vs ++ v ∷ []) → IsVisit P F R M v
path_top P F R M [] v (a, (b, c)) = a
path_top P F R M (w ∷ vs) v (a, (b, c)) = path_top P F R M vs v c

pub path_rest : (P : List Pat) (F R : List ℕ) (M : List Mark) (vs : List Visit) (v : Visit) → IsPath P F R M (vs ++ v ∷ []) → IsPath P F R M vs
path_rest P F R M [] v t = tt
path_rest P F R M (w ∷ []) v (a, (b, c)) = (a, (tt, tt))
path_rest P F R M (w ∷ (u ∷ vs)) v (a, (b, c)) = (a, (b, path_rest P F R M (u ∷ vs) v c))

pub path_move : (P : List Pat) (F R : List ℕ) (M : List Mark) (vs : List Visit) (v v' : Visit) → v'.part ≡ v.part → IsVisit P F R M v' → IsPath P F R M (vs ++ v ∷ []) → IsPath P F R M (vs ++ v' ∷ [])
path_move P F R M [] v v' e t (a, (b, c)) = (t, (tt, tt))
path_move P F R M (w ∷ []) v v' e t (a, (b, c)) = (a, ((b.0, b.1 ∙ sym e), (t, (tt, tt))))
path_move P F R M (w ∷ (u ∷ vs)) v v' e t (a, (b, c)) = (a, (b, path_move P F R M (u ∷ vs) v v' e t c))

pub path_push : (P : List Pat) (F R : List ℕ) (M : List Mark) (vs : List Visit) (v w : Visit) → v.next < slice_index F (v.part + 1) → slice_index R v.next ≡ w.part → IsVisit P F R M w → IsPath P F R M (vs ++ v ∷ []) → IsPath P F R M ((vs ++ v ∷ []) ++ w ∷ [])
path_push P F R M [] v w h e t (a, (b, c)) = (a, ((h, e), (t, (tt, tt))))
path_push P F R M (u ∷ []) v w h e t (a, (b, c)) = (a, (b, path_push P F R M [] v w h e t c))
path_push P F R M (u ∷ (x ∷ vs)) v w h e t (a, (b, c)) = (a, (b, path_push P F R M (x ∷ vs) v w h e t c))

pub on_split : (x : ℕ) (vs : List Visit) (v : Visit) → IsOn x (vs ++ v ∷ []) → IsOn x vs ⊎ (v.part ≡ x)
on_split x [] v o = elim o as (λ _. IsOn x [] ⊎ (v.part ≡ x)) [ inl e ↦ inr e | inr n ↦ absurd n ]
on_split x (w ∷ vs) v o = elim o as (λ _. IsOn x (w ∷ vs) ⊎ (v.part ≡ x)) [
  | inl e ↦ inl (inl e)
  | inr r ↦ elim (on_split x vs v r) as (λ _. IsOn x (w ∷ vs) ⊎ (v.part ≡ x)) [ inl a ↦ inl (inr a) | inr b ↦ inr b ]
]

pub on_front : (x : ℕ) (vs : List Visit) (v : Visit) → IsOn x vs → IsOn x (vs ++ v ∷ [])
on_front x [] v o = absurd o
on_front x (w ∷ vs) v o = elim o as (λ _. IsOn x (w ∷ (vs ++ v ∷ []))) [ inl e ↦ inl e | inr r ↦ inr (on_front x vs v r) ]

pub on_last : (x : ℕ) (vs : List Visit) (v : Visit) → v.part ≡ x → IsOn x (vs ++ v ∷ [])
on_last x [] v e = inl e
on_last x (w ∷ vs) v e = inr (on_last x vs v e)

left_on-append : (F : List ℕ) (vs ws : List Visit) → left_on F (vs ++ ws) ≡ left_on F vs + left_on F ws
left_on-append F [] ws = omega arith
left_on-append F (v ∷ vs) ws = omega (arith, left_on-append F vs ws)

-- what is left to do falls with each step
pub labor_done : (P : List Pat) (F : List ℕ) (M : List Mark) (vs : List Visit) (v : Visit) (t : ℕ) → labor P F (set M t Done) vs < labor P F M (vs ++ v ∷ [])
labor_done P F M vs v t =
    let a : (length P + 2) * count_new (set M t Done) ≤ (length P + 2) * count_new M = mul-le-mul_left (length P + 2) (count_done M t) in
    omega (arith, a, left_on-append F vs (v ∷ []))

pub labor_next : (P : List Pat) (F : List ℕ) (M : List Mark) (vs : List Visit) (v v' : Visit) → v.next < slice_index F (v.part + 1) → v'.part ≡ v.part → v'.next ≡ v.next + 1 → labor P F M (vs ++ v' ∷ []) < labor P F M (vs ++ v ∷ [])
labor_next P F M vs v v' h e n =
    let a : slice_index F (v'.part + 1) ≡ slice_index F (v.part + 1) = ap (λ x. slice_index F (x + 1)) e in
    omega (arith, a, n, h, left_on-append F vs (v ∷ []), left_on-append F vs (v' ∷ []))

pub labor_down : (P : List Pat) (F : List ℕ) (M : List Mark) (vs : List Visit) (c : ℕ) (w : Visit) → IsFlat P F → c < length P → c < length M → mark M c ≡ New → w.part ≡ c → labor P F (set M c Open) (vs ++ w ∷ []) < labor P F M vs
labor_down P F M vs c w flat hc hm new e =
    let a : (count_new (set M c Open) + 1) * (length P + 2) ≡ count_new M * (length P + 2) = ap (λ x. x * (length P + 2)) (count_open M c hm new) in
    let b : slice_index F (w.part + 1) ≡ slice_index F (c + 1) = ap (λ x. slice_index F (x + 1)) e in
    omega (arith, a, b, flat.within c hc, left_on-append F vs (w ∷ []))
