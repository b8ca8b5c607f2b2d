-- The walk over the classes into the depth, step by step.
use Rattle.std.specs.Prelude.{◌≡◌, ◌≢◌, ℕ, suc, ◌+◌, ◌-◌, ◌<◌, ◌≤◌, ◌==◌, List, [], ◌∷◌, ◌++◌, length, slice_index, if◌then◌else◌, refl}
use Rattle.std.proofs.Common.{ap, sym, ◌∙◌, arith, inl, inr, subst, set, length-set}
use Rattle.std.proofs.lemmas.Bool.{cases_eq, eq-eqb, ne_eqb}
use Rattle.ev_terms.specs.declared.types.Ty.{Ty}
use Rattle.ev_terms.specs.Measures.{type_size}
use Rattle.ev_unify.specs.declared.patterns.Pat.{Pat}
use Rattle.ev_unify.specs.declared.ranks.Mark.{Mark}
use Rattle.ev_unify.specs.declared.ranks.Mark.TheVariants.{New, Open, Done}
use Rattle.ev_unify.specs.declared.ranks.Visit.{Visit}
use Rattle.ev_unify.specs.inner.Parts.{children_of}
use Rattle.ev_unify.specs.inner.Numbered.{part, type_of, IsFlat}
use Rattle.ev_unify.specs.inner.Links.{Linked, IsClosed}
use Rattle.ev_unify.specs.inner.Ranks.{mark, IsDone, IsRankedSoFar, IsRanked, IsVisit, IsPath, IsOn, IsWalking, IsResting, GoesOn, NeverRanked, AreNew}
use Rattle.ev_unify.proofs.Spread.{split_last}
use Rattle.ev_unify.proofs.PartTypes.{child_smaller}
use Rattle.ev_unify.proofs.Marking.{set_same, set_other, done_or, neither, done_after, done_opened, done_before, goes_refl, goes_trans, goes_done, goes_open, visit_marks, path_marks, path_top, path_rest, path_move, path_push, on_split, on_front, on_last, labor_done, labor_next, labor_down}

abbrev raised : ℕ → ℕ → (ℕ → ℕ) → ℕ → ℕ
raised t most rank x = if x == t then suc most else rank x

raised_same : (t most : ℕ) (rank : ℕ → ℕ) (x : ℕ) → x ≡ t → raised t most rank x ≡ suc most
raised_same t most rank x e = ap (λ b. if b then suc most else rank x) (eq-eqb x t e)

raised_other : (t most : ℕ) (rank : ℕ → ℕ) (x : ℕ) → x ≢ t → raised t most rank x ≡ rank x
raised_other t most rank x n = ap (λ b. if b then suc most else rank x) (ne_eqb x t n)

-- one class more is done, whose children are
module _ (P : List Pat) (F R : List ℕ) (M : List Mark) (t : ℕ) (h : IsRankedSoFar P F R M) (inside : t < length M) (all : (k : ℕ) → k < length (children_of (part P t)) → IsDone M (slice_index R (slice_index F t + k))) where
  was_done : IsDone M t → IsRankedSoFar P F R (set M t Done)
  was_done already =
      let back : (x : ℕ) → IsDone (set M t Done) x → IsDone M x = λ x d. elim (cases_eq x t) as (λ _. IsDone M x) [ inl e ↦ ap (mark M) e ∙ already | inr n ↦ sym (set_other M t x Done n) ∙ d ] in
      record {
        rank = h.rank;
        most = h.most;
        bounded = h.bounded;
        done = λ i k d l. done_after M t (slice_index R (slice_index F i + k)) inside (h.done i k (back i d) l);
        falls = λ i k d l. h.falls i k (back i d) l;
      }

  done_children : (i k : ℕ) → IsDone (set M t Done) i → k < length (children_of (part P i)) → IsDone M (slice_index R (slice_index F i + k))
  done_children i k d l = elim (cases_eq i t) as (λ _. IsDone M (slice_index R (slice_index F i + k))) [
    | inl e ↦ ap (λ x. mark M (slice_index R (slice_index F x + k))) e ∙ all k (let a : length (children_of (part P i)) ≡ length (children_of (part P t)) = ap (λ x. length (children_of (part P x))) e in omega (arith, a, l))
    | inr n ↦ h.done i k (sym (set_other M t i Done n) ∙ d) l
  ]

  newly_done : mark M t ≢ Done → IsRankedSoFar P F R (set M t Done)
  newly_done fresh = record {
    rank = raised t h.most h.rank;
    most = suc h.most;
    bounded = λ x. elim (cases_eq x t) as (λ _. raised t h.most h.rank x ≤ suc h.most) [
      | inl e ↦ omega (arith, raised_same t h.most h.rank x e)
      | inr n ↦ omega (arith, raised_other t h.most h.rank x n, h.bounded x)
    ];
    done = λ i k d l. done_after M t (slice_index R (slice_index F i + k)) inside (done_children i k d l);
    falls = λ i k d l.
        let y : ℕ = slice_index R (slice_index F i + k) in
        let apart : y ≢ t = λ e. fresh (ap (mark M) (sym e) ∙ done_children i k d l) in
        elim (cases_eq i t) as (λ _. raised t h.most h.rank y < raised t h.most h.rank i) [
          | inl e ↦ omega (arith, raised_same t h.most h.rank i e, raised_other t h.most h.rank y apart, h.bounded y)
          | inr n ↦ omega (arith, raised_other t h.most h.rank i n, raised_other t h.most h.rank y apart, h.falls i k (sym (set_other M t i Done n) ∙ d) l)
        ];
  }

  pub ranked_done : IsRankedSoFar P F R (set M t Done)
  ranked_done = elim (done_or (mark M t)) as (λ _. IsRankedSoFar P F R (set M t Done)) [ inl e ↦ was_done e | inr n ↦ newly_done n ]

ranked_open : (P : List Pat) (F R : List ℕ) (M : List Mark) (c : ℕ) → IsRankedSoFar P F R M → c < length M → mark M c ≡ New → IsRankedSoFar P F R (set M c Open)
ranked_open P F R M c h inside new = record {
  rank = h.rank;
  most = h.most;
  bounded = h.bounded;
  done = λ i k d l. done_opened M c (slice_index R (slice_index F i + k)) new (h.done i k (done_before M c i inside d) l);
  falls = λ i k d l. h.falls i k (done_before M c i inside d) l;
}

-- leaving a class
pub walk_leave : (P : List Pat) (F R : List ℕ) (M : List Mark) (vs : List Visit) (v : Visit) → IsFlat P F → IsWalking P F R M (vs ++ v ∷ []) → v.next ≡ slice_index F (v.part + 1) → IsWalking P F R (set M v.part Done) vs
walk_leave P F R M vs v flat w e =
    let t : IsVisit P F R M v = path_top P F R M vs v w.path in
    let inside : v.part < length M = omega (arith, t.within, w.count) in
    record {
      count = length-set M v.part Done ∙ w.count;
      ranked = ranked_done P F R M v.part w.ranked inside (λ k l. t.seen (slice_index F v.part + k) (omega arith) (omega (arith, l, e, flat.ends v.part t.within)));
      path = path_marks P F R M (set M v.part Done) vs (λ x d. done_after M v.part x inside d) (path_rest P F R M vs v w.path);
      opened = λ x o. elim (cases_eq x v.part) as (λ _. IsOn x vs) [
        | inl g ↦ let q : Done ≡ Open = sym (set_same M v.part x Done inside g) ∙ o in absurd (cc)
        | inr n ↦ elim (on_split x vs v (w.opened x (sym (set_other M v.part x Done n) ∙ o))) as (λ _. IsOn x vs) [ inl a ↦ a | inr b ↦ absurd (n (sym b)) ]
      ];
    }

pub goes_leave : (P : List Pat) (F R : List ℕ) (M : List Mark) (vs : List Visit) (v : Visit) → IsWalking P F R M (vs ++ v ∷ []) → GoesOn M (set M v.part Done)
goes_leave P F R M vs v w = goes_done M v.part (omega (arith, (path_top P F R M vs v w.path).within, w.count))

-- the next child of a class
pub before_end : (P : List Pat) (F R : List ℕ) (M : List Mark) (vs : List Visit) (v : Visit) → IsWalking P F R M (vs ++ v ∷ []) → v.next ≢ slice_index F (v.part + 1) → v.next < slice_index F (v.part + 1)
before_end P F R M vs v w n = let t : IsVisit P F R M v = path_top P F R M vs v w.path in omega (arith, t.ended, n)

pub part_within : (P : List Pat) (F R : List ℕ) (M : List Mark) (vs : List Visit) (v : Visit) → IsWalking P F R M (vs ++ v ∷ []) → v.part < length P
part_within P F R M vs v w = (path_top P F R M vs v w.path).within

pub next_within : (P : List Pat) (F R : List ℕ) (M : List Mark) (vs : List Visit) (v : Visit) → IsFlat P F → IsWalking P F R M (vs ++ v ∷ []) → v.next ≢ slice_index F (v.part + 1) → v.next < length P
next_within P F R M vs v flat w n = let t : IsVisit P F R M v = path_top P F R M vs v w.path in omega (arith, t.ended, n, flat.within v.part t.within)

pub walk_next : (P : List Pat) (F R : List ℕ) (M : List Mark) (vs : List Visit) (v v' : Visit) (path : List Visit) → IsWalking P F R M (vs ++ v ∷ []) → v.next ≢ slice_index F (v.part + 1) → IsDone M (slice_index R v.next) → v'.part ≡ v.part → v'.next ≡ v.next + 1 → path ≡ vs ++ v' ∷ [] → IsWalking P F R M path
walk_next P F R M vs v v' path w n d ep en e =
    let t : IsVisit P F R M v = path_top P F R M vs v w.path in
    let a : slice_index F v'.part ≡ slice_index F v.part = ap (slice_index F) ep in
    let b : slice_index F (v'.part + 1) ≡ slice_index F (v.part + 1) = ap (λ x. slice_index F (x + 1)) ep in
    let t' : IsVisit P F R M v' = record {
      within = omega (arith, t.within, ep);
      begun = omega (arith, a, en, t.begun);
      ended = omega (arith, b, en, t.ended, n);
      seen = λ s l m. elim (split_last s v.next (omega (arith, m, en))) as (λ _. IsDone M (slice_index R s)) [
        | inl less ↦ t.seen s (omega (arith, l, a)) less
        | inr g ↦ ap (λ x. mark M (slice_index R x)) g ∙ d
      ];
    } in
    let out : IsWalking P F R M (vs ++ v' ∷ []) = record {
      count = w.count;
      ranked = w.ranked;
      path = path_move P F R M vs v v' ep t' w.path;
      opened = λ x o. elim (on_split x vs v (w.opened x o)) as (λ _. IsOn x (vs ++ v' ∷ [])) [ inl l ↦ on_front x vs v' l | inr r ↦ on_last x vs v' (ep ∙ r) ];
    } in
    let Q : List Visit → Type 0 = λ p. IsWalking P F R M p in subst Q (sym e) out

-- down into a new class
pub walk_down : (P : List Pat) (F R : List ℕ) (M : List Mark) (vs : List Visit) (v w : Visit) (M' : List Mark) (mid path : List Visit) → IsFlat P F → IsClosed P R → IsWalking P F R M (vs ++ v ∷ []) → v.next ≢ slice_index F (v.part + 1) → mark M (slice_index R v.next) ≡ New → w.part ≡ slice_index R v.next → w.next ≡ slice_index F w.part → M' ≡ set M (slice_index R v.next) Open → mid ≡ vs ++ v ∷ [] → path ≡ mid ++ w ∷ [] → IsWalking P F R M' path
walk_down P F R M vs v w M' mid path flat closed walking n new ep en eM em e =
    let c : ℕ = slice_index R v.next in
    let hc : c < length P = closed.within v.next (next_within P F R M vs v flat walking n) in
    let inside : c < length M = omega (arith, hc, walking.count) in
    let ends : slice_index F (w.part + 1) ≡ slice_index F w.part + length (children_of (part P w.part)) = flat.ends w.part (omega (arith, hc, ep)) in
    let t : IsVisit P F R (set M c Open) w = record {
      within = omega (arith, hc, ep);
      begun = omega (arith, en);
      ended = omega (arith, en, ends);
      seen = λ s l m. absurd (omega (arith, l, m, en));
    } in
    let out : IsWalking P F R (set M c Open) ((vs ++ v ∷ []) ++ w ∷ []) = record {
      count = length-set M c Open ∙ walking.count;
      ranked = ranked_open P F R M c walking.ranked inside new;
      path = path_push P F R (set M c Open) vs v w (before_end P F R M vs v walking n) (sym ep) t (path_marks P F R M (set M c Open) (vs ++ v ∷ []) (λ x d. done_opened M c x new d) walking.path);
      opened = λ x o. elim (cases_eq x c) as (λ _. IsOn x ((vs ++ v ∷ []) ++ w ∷ [])) [
        | inl g ↦ on_last x (vs ++ v ∷ []) w (ep ∙ sym g)
        | inr a ↦ on_front x (vs ++ v ∷ []) w (walking.opened x (sym (set_other M c x Open a) ∙ o))
      ];
    } in
    let Q : List Mark → Type 0 = λ m. IsWalking P F R m ((vs ++ v ∷ []) ++ w ∷ []) in
    let S : List Visit → Type 0 = λ p. IsWalking P F R M' p in
    subst S (sym (e ∙ ap (λ p. p ++ w ∷ []) em)) (subst Q (sym eM) out)

-- a class that is a part of itself
step_smaller : (σ : ℕ → Ty) (P : List Pat) (F R : List ℕ) (M : List Mark) (v : Visit) → IsFlat P F → length R ≡ length P → Linked (type_of σ P) R → IsVisit P F R M v → v.next < slice_index F (v.part + 1) → type_size (type_of σ P (slice_index R v.next)) < type_size (type_of σ P v.part)
step_smaller σ P F R M v flat count g t l =
    let k : ℕ = v.next - slice_index F v.part in
    let at : slice_index F v.part + k ≡ v.next = omega (arith, t.begun) in
    let small : type_size (type_of σ P (slice_index F v.part + k)) < type_size (type_of σ P v.part) = child_smaller σ P F flat v.part k t.within (omega (arith, l, flat.ends v.part t.within, t.begun)) in
    let a : type_size (type_of σ P (slice_index F v.part + k)) ≡ type_size (type_of σ P v.next) = ap (λ x. type_size (type_of σ P x)) at in
    let b : type_size (type_of σ P v.next) ≡ type_size (type_of σ P (slice_index R v.next)) = ap type_size (g v.next (omega (arith, l, flat.within v.part t.within, count))) in
    omega (arith, small, a, b)

on_smaller : (σ : ℕ → Ty) (P : List Pat) (F R : List ℕ) (M : List Mark) → IsFlat P F → length R ≡ length P → Linked (type_of σ P) R → (vs : List Visit) (v : Visit) (x : ℕ) → IsPath P F R M (vs ++ v ∷ []) → IsOn x (vs ++ v ∷ []) → type_size (type_of σ P v.part) ≤ type_size (type_of σ P x)
on_smaller σ P F R M flat count g [] v x p o =
    elim o as (λ _. type_size (type_of σ P v.part) ≤ type_size (type_of σ P x)) [
      | inl e ↦ let a : type_size (type_of σ P v.part) ≡ type_size (type_of σ P x) = ap (λ y. type_size (type_of σ P y)) e in omega (arith, a)
      | inr n ↦ absurd n
    ]
on_smaller σ P F R M flat count g (u ∷ []) v x (a, (b, c)) o =
    let small : type_size (type_of σ P (slice_index R u.next)) < type_size (type_of σ P u.part) = step_smaller σ P F R M u flat count g a b.0 in
    let m : type_size (type_of σ P (slice_index R u.next)) ≡ type_size (type_of σ P v.part) = ap (λ y. type_size (type_of σ P y)) b.1 in
    elim o as (λ _. type_size (type_of σ P v.part) ≤ type_size (type_of σ P x)) [
      | inl e ↦ let q : type_size (type_of σ P u.part) ≡ type_size (type_of σ P x) = ap (λ y. type_size (type_of σ P y)) e in omega (arith, q, small, m)
      | inr r ↦ on_smaller σ P F R M flat count g [] v x c r
    ]
on_smaller σ P F R M flat count g (u ∷ (z ∷ vs)) v x (a, (b, c)) o =
    let small : type_size (type_of σ P (slice_index R u.next)) < type_size (type_of σ P u.part) = step_smaller σ P F R M u flat count g a b.0 in
    let m : type_size (type_of σ P (slice_index R u.next)) ≡ type_size (type_of σ P z.part) = ap (λ y. type_size (type_of σ P y)) b.1 in
    let below : type_size (type_of σ P v.part) ≤ type_size (type_of σ P z.part) = on_smaller σ P F R M flat count g (z ∷ vs) v z.part c (inl refl) in
    elim o as (λ _. type_size (type_of σ P v.part) ≤ type_size (type_of σ P x)) [
      | inl e ↦ let q : type_size (type_of σ P u.part) ≡ type_size (type_of σ P x) = ap (λ y. type_size (type_of σ P y)) e in omega (arith, q, small, m, below)
      | inr r ↦ on_smaller σ P F R M flat count g (z ∷ vs) v x c r
    ]

pub walk_clash : (P : List Pat) (F R : List ℕ) (M : List Mark) (vs : List Visit) (v : Visit) → IsFlat P F → IsClosed P R → IsWalking P F R M (vs ++ v ∷ []) → v.next ≢ slice_index F (v.part + 1) → mark M (slice_index R v.next) ≡ Open → NeverRanked P R
walk_clash P F R M vs v flat closed w n o σ g =
    let t : IsVisit P F R M v = path_top P F R M vs v w.path in
    let small : type_size (type_of σ P (slice_index R v.next)) < type_size (type_of σ P v.part) = step_smaller σ P F R M v flat closed.count g t (before_end P F R M vs v w n) in
    let large : type_size (type_of σ P v.part) ≤ type_size (type_of σ P (slice_index R v.next)) = on_smaller σ P F R M flat closed.count g vs v (slice_index R v.next) w.path (w.opened (slice_index R v.next) o) in
    absurd (omega (arith, small, large))

-- a whole walk from one class
pub record IsTour (P : List Pat) (F R : List ℕ) (M0 : List Mark) (start : ℕ) (M : List Mark) (path : List Visit) : Type 0 where
  pub walking : IsWalking P F R M path
  pub goes_on : GoesOn M0 M
  pub begun : mark M start ≢ New

pub tour_start : (P : List Pat) (F R : List ℕ) (M0 : List Mark) (start : ℕ) (M : List Mark) (path : List Visit) → IsFlat P F → IsResting P F R M0 → start < length P → mark M0 start ≡ New → M ≡ set M0 start Open → path ≡ [] ++ record { part = start; next = slice_index F start } ∷ [] → IsTour P F R M0 start M path
tour_start P F R M0 start M path flat rest h new eM e =
    let inside : start < length M0 = omega (arith, h, rest.count) in
    let w : Visit = record { part = start; next = slice_index F start } in
    let walking : IsWalking P F R (set M0 start Open) (w ∷ []) = record {
      count = length-set M0 start Open ∙ rest.count;
      ranked = ranked_open P F R M0 start rest.ranked inside new;
      path = (
        record {
          within = h;
          begun = omega arith;
          ended = omega (arith, flat.ends start h);
          seen = λ s l m. absurd (omega (arith, l, m));
        },
        (tt, tt),
      );
      opened = λ x o. elim (cases_eq x start) as (λ _. IsOn x (w ∷ [])) [ inl g ↦ inl (sym g) | inr a ↦ absurd (rest.opened x (sym (set_other M0 start x Open a) ∙ o)) ];
    } in
    let out : IsTour P F R M0 start (set M0 start Open) (w ∷ []) = record {
      walking = walking;
      goes_on = goes_open M0 start inside new;
      begun = λ q. let r : Open ≡ New = sym (set_same M0 start start Open inside refl) ∙ q in absurd (cc);
    } in
    let Q : List Mark → Type 0 = λ m. IsTour P F R M0 start m (w ∷ []) in
    let S : List Visit → Type 0 = λ p. IsTour P F R M0 start M p in
    subst S (sym e) (subst Q (sym eM) out)

pub tour_at : (P : List Pat) (F R : List ℕ) (M0 : List Mark) (start : ℕ) (M : List Mark) (path vs : List Visit) (v : Visit) → IsTour P F R M0 start M path → path ≡ vs ++ v ∷ [] → IsWalking P F R M (vs ++ v ∷ [])
tour_at P F R M0 start M path vs v t e = let S : List Visit → Type 0 = λ p. IsWalking P F R M p in subst S e t.walking

pub tour_more : (P : List Pat) (F R : List ℕ) (M0 : List Mark) (start : ℕ) (M : List Mark) (path : List Visit) (M' : List Mark) (path' : List Visit) → IsTour P F R M0 start M path → IsWalking P F R M' path' → GoesOn M M' → IsTour P F R M0 start M' path'
tour_more P F R M0 start M path M' path' t w g = record {
  walking = w;
  goes_on = goes_trans M0 M M' t.goes_on g;
  begun = g.begun start t.begun;
}

pub tour_rests : (P : List Pat) (F R : List ℕ) (M0 : List Mark) (start : ℕ) (M : List Mark) (path : List Visit) → IsTour P F R M0 start M path → path ≡ [] → IsResting P F R M
tour_rests P F R M0 start M path t e = let S : List Visit → Type 0 = λ p. IsWalking P F R M p in subst S e t.walking

pub rest_done : (P : List Pat) (F R : List ℕ) (M : List Mark) (x : ℕ) → IsResting P F R M → mark M x ≢ New → IsDone M x
rest_done P F R M x r n = neither (mark M x) n (λ o. r.opened x o)

-- one class after the other
pub record AreSettled (P : List Pat) (F R : List ℕ) (M : List Mark) (n : ℕ) : Type 0 where
  pub resting : IsResting P F R M
  pub done : (j : ℕ) → j < n → IsDone M (slice_index R j)

pub settled_start : (P : List Pat) (F R : List ℕ) (M : List Mark) (n : ℕ) → AreNew n M → n ≡ length P → AreSettled P F R M 0
settled_start P F R M n new e = record {
  resting = record {
    count = new.length_is ∙ e;
    ranked = record {
      rank = λ x. 0;
      most = 0;
      bounded = λ x. omega arith;
      done = λ i k d l. let q : New ≡ Done = sym (new.marks i) ∙ d in absurd (cc);
      falls = λ i k d l. let q : New ≡ Done = sym (new.marks i) ∙ d in absurd (cc);
    };
    path = tt;
    opened = λ x o. let q : New ≡ Open = sym (new.marks x) ∙ o in absurd (cc);
  };
  done = λ j l. absurd (omega (arith, l));
}

pub settled_more : (P : List Pat) (F R : List ℕ) (M M' : List Mark) (n : ℕ) → AreSettled P F R M n → IsResting P F R M' → IsDone M' (slice_index R n) → GoesOn M M' → AreSettled P F R M' (n + 1)
settled_more P F R M M' n t r d g = record {
  resting = r;
  done = λ j l. elim (split_last j n l) as (λ _. IsDone M' (slice_index R j)) [
    | inl a ↦ g.done (slice_index R j) (t.done j a)
    | inr b ↦ ap (λ x. mark M' (slice_index R x)) b ∙ d
  ];
}

pub settled_all : (P : List Pat) (F R : List ℕ) (M : List Mark) (n : ℕ) → AreSettled P F R M n → length P ≤ n → IsRanked P F R
settled_all P F R M n t h = record {
  rank = t.resting.ranked.rank;
  most = t.resting.ranked.most;
  bounded = t.resting.ranked.bounded;
  falls = λ i k l lk. t.resting.ranked.falls (slice_index R i) k (t.done i (omega (arith, l, h))) lk;
}

pub ruleset walk = (goes_refl, part_within, next_within, rest_done, settled_start, settled_more, settled_all, tour_start, tour_at, tour_more, tour_rests)
