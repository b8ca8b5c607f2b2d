-- One link more, from a root to a lower one.
use Rattle.std.specs.Prelude.{◌≡◌, ◌≢◌, ℕ, ◌+◌, ◌*◌, ◌<◌, ◌≤◌, ◌==◌, true, false, List, ◌++◌, length, slice_index, if◌then◌else◌, refl}
use Rattle.std.proofs.Common.{ap, sym, ◌∙◌, arith, inl, inr, subst, set, length-set, length-append}
use Rattle.std.proofs.Math.Nat.{mul-le-mul_left}
use Rattle.std.proofs.lemmas.List.{get_or-set_same, get_or-set_other}
use Rattle.std.proofs.lemmas.Bool.{cases_eq, eq-eqb, ne_eqb}
use Rattle.ev_terms.specs.declared.types.Ty.{Ty}
use Rattle.ev_unify.specs.declared.patterns.Pat.{Pat}
use Rattle.ev_unify.specs.declared.cells.Couple.{Couple}
use Rattle.ev_unify.specs.inner.Parts.{children_of, is_unknown}
use Rattle.ev_unify.specs.inner.Numbered.{part, type_of, IsFlat}
use Rattle.ev_unify.specs.inner.Links.{height, total_height, Linked, IsForest, IsRoot, SameChildren, Agrees, Shortens, IsRootOf, paired, Joins, NeverSame, NeverLinked}
use Rattle.ev_unify.specs.inner.Clashes.{SameForm}
use Rattle.ev_unify.proofs.Siding.{joined_append, joined_front, joined_back, below_append}
use Rattle.ev_unify.proofs.Heights.{known_below, total-set}
use Rattle.ev_unify.proofs.Forest.{children_at, children_from}
use Rattle.ev_unify.proofs.Pairing.{paired_joined, joined_paired, paired_below, length-paired}
use Rattle.ev_unify.proofs.PartTypes.{children_by_type, never_same}

effort_falls : (t t' n w w' : ℕ) → t' < t → w' ≤ w + n → t' * (n + 1) + w' ≤ t * (n + 1) + w
effort_falls t t' n w w' h l =
    let a : (n + 1) * (t' + 1) ≤ (n + 1) * t = mul-le-mul_left (n + 1) (omega (arith, h)) in
    omega (arith, a, l)

abbrev moved : ℕ → ℕ → ℕ → ℕ
moved from to x = if x == from then to else x

moved_same : (from to x : ℕ) → x ≡ from → moved from to x ≡ to
moved_same from to x e = ap (λ b. if b then to else x) (eq-eqb x from e)

moved_other : (from to x : ℕ) → x ≢ from → moved from to x ≡ x
moved_other from to x e = ap (λ b. if b then to else x) (ne_eqb x from e)

module _ (P : List Pat) (F L : List ℕ) (from to : ℕ) (t : IsForest P L) (rf : IsRoot L from) (rt : IsRoot L to) (low : height P to < height P from) where
  same : (q : ℕ) → q ≡ from → slice_index (set L from to) q ≡ to
  same q g = ap (slice_index (set L from to)) g ∙ get_or-set_same L from to 0 rf.0

  other : (q : ℕ) → q ≢ from → slice_index (set L from to) q ≡ slice_index L q
  other q g = get_or-set_other L from q to 0 g

  longer : length (set L from to) ≡ length L
  longer = length-set L from to

  apart : to ≢ from
  apart g = let k : height P to ≡ height P from = ap (height P) g in absurd (omega (arith, k, low))

  linked_forest : IsForest P (set L from to)
  linked_forest = record {
    count = longer ∙ t.count;
    within = λ q l. elim (cases_eq q from) as (λ _. slice_index (set L from to) q < length (set L from to)) [
      | inl g ↦ omega (arith, same q g, longer, rt.0)
      | inr g ↦ omega (arith, other q g, longer, t.within q (omega (arith, l, longer)))
    ];
    falls = λ q l n. elim (cases_eq q from) as (λ _. height P (slice_index (set L from to) q) < height P q) [
      | inl g ↦ let a : height P (slice_index (set L from to) q) ≡ height P to = ap (height P) (same q g) in
          let b : height P q ≡ height P from = ap (height P) g in
          omega (arith, a, b, low)
      | inr g ↦ let a : height P (slice_index (set L from to) q) ≡ height P (slice_index L q) = ap (height P) (other q g) in
          omega (arith, a, t.falls q (omega (arith, l, longer)) (λ w. n (other q g ∙ w)))
    ];
    top = λ q. moved from to (t.top q);
    top_link = λ q l. elim (cases_eq q from) as (λ _. moved from to (t.top q) ≡ moved from to (t.top (slice_index (set L from to) q))) [
      | inl g ↦ moved_same from to (t.top q) (ap t.top g ∙ t.top_root from rf.0 rf.1)
          ∙ sym (ap (λ x. moved from to (t.top x)) (same q g) ∙ ap (moved from to) (t.top_root to rt.0 rt.1) ∙ moved_other from to to apart)
      | inr g ↦ ap (moved from to) (t.top_link q (omega (arith, l, longer)) ∙ ap t.top (sym (other q g)))
    ];
    top_root = λ q l r. elim (cases_eq q from) as (λ _. moved from to (t.top q) ≡ q) [
      | inl g ↦ absurd (apart (sym (same q g) ∙ r ∙ g))
      | inr g ↦ ap (moved from to) (t.top_root q (omega (arith, l, longer)) (sym (other q g) ∙ r)) ∙ moved_other from to q g
    ];
  }

  linked_back : (f : ℕ → Ty) → Linked f (set L from to) → Linked f L
  linked_back f g q l = elim (cases_eq q from) as (λ _. f q ≡ f (slice_index L q)) [
    | inl w ↦ ap f (w ∙ sym rf.1 ∙ ap (slice_index L) (sym w))
    | inr w ↦ g q (omega (arith, l, longer)) ∙ ap f (other q w)
  ]

  linked_same : (f : ℕ → Ty) → Linked f (set L from to) → f from ≡ f to
  linked_same f g = g from (omega (arith, rf.0, longer)) ∙ ap f (same from refl)

  linked_kept : (f : ℕ → Ty) → Linked f L → f from ≡ f to → Linked f (set L from to)
  linked_kept f g e q l = elim (cases_eq q from) as (λ _. f q ≡ f (slice_index (set L from to) q)) [
    | inl w ↦ ap f w ∙ e ∙ ap f (sym (same q w))
    | inr w ↦ g q (omega (arith, l, longer)) ∙ ap f (sym (other q w))
  ]

  linked_agrees : (f : ℕ → Ty) → Agrees f P F L → (is_unknown (part P from) ≡ false → SameChildren f P F from to) → Agrees f P F (set L from to)
  linked_agrees f g s q l known = elim (cases_eq q from) as (λ _. SameChildren f P F q (slice_index (set L from to) q)) [
    | inl w ↦ children_from f P F from q _ (sym w) (children_at f P F from to _ (sym (same q w)) (s (ap (λ x. is_unknown (part P x)) (sym w) ∙ known)))
    | inr w ↦ children_at f P F q (slice_index L q) _ (sym (other q w)) (g q (omega (arith, l, longer)) known)
  ]

  lower : total_height P (set L from to) < total_height P L
  lower = let k : height P (slice_index L from) ≡ height P from = ap (height P) rf.1 in omega (arith, total-set P L from to rf.0, k, low)

  pub joins_unknown : (work : List Couple) → is_unknown (part P from) ≡ true → Joins P F L work (set L from to) work from to
  joins_unknown work free = record {
    forest = linked_forest;
    count = longer;
    below = λ b. b;
    back = λ f g j. (linked_back f g, j, linked_same f g);
    kept = λ σ g j e. (linked_kept (type_of σ P) g e, j);
    agrees = λ f g j a. linked_agrees f a (λ known. let q : true ≡ false = sym free ∙ known in absurd (cc));
    falls = effort_falls (total_height P L) (total_height P (set L from to)) (length P) (length work) (length work) lower (omega arith);
  }

  pub joins_known : (flat : IsFlat P F) (work work' : List Couple) → is_unknown (part P from) ≡ false → SameForm P from to → work' ≡ work ++ paired (slice_index F from) (slice_index F to) (length (children_of (part P from))) → Joins P F L work (set L from to) work' from to
  joins_known flat work work' known s e =
      let n : ℕ = length (children_of (part P from)) in
      let a : ℕ = slice_index F from in
      let b : ℕ = slice_index F to in
      let hf : from < length P = omega (arith, rf.0, t.count) in
      let ht : to < length P = omega (arith, rt.0, t.count) in
      let known' : is_unknown (part P to) ≡ false = known_below P from to hf known low in
      let full : a + n ≤ length P = omega (arith, flat.ends from hf, flat.within from hf) in
      let full' : b + n ≤ length P = omega (arith, flat.ends to ht, flat.within to ht, s.counts) in
      let out : Joins P F L work (set L from to) (work ++ paired a b n) from to = record {
        forest = linked_forest;
        count = longer;
        below = λ w. below_append (length P) work (paired a b n) w (paired_below (length P) a b n full full');
        back = λ f g j. (linked_back f g, joined_front f work (paired a b n) j, linked_same f g);
        kept = λ σ g j q. (linked_kept (type_of σ P) g q, joined_append (type_of σ P) work (paired a b n) j (paired_joined (type_of σ P) a b n (children_by_type σ P F flat from to hf ht known known' q).children));
        agrees = λ f g j w. linked_agrees f w (λ _. record { heads = s.heads; counts = s.counts; children = joined_paired f a b n (joined_back f work (paired a b n) j) });
        falls = effort_falls (total_height P L) (total_height P (set L from to)) (length P) (length work) (length (work ++ paired a b n)) lower (omega (arith, length-append work (paired a b n), length-paired a b n, full));
      } in
      let Q : List Couple → Type 0 = λ w. Joins P F L work (set L from to) w from to in
      subst Q (sym e) out

  pub joins_never : (flat : IsFlat P F) → is_unknown (part P from) ≡ false → (SameForm P from to → ⊥) → NeverSame P from to
  joins_never flat known n =
      let hf : from < length P = omega (arith, rf.0, t.count) in
      let ht : to < length P = omega (arith, rt.0, t.count) in
      never_same P F flat from to hf ht known (known_below P from to hf known low) n

pub joins_flip : (P : List Pat) (F L : List ℕ) (work : List Couple) (L' : List ℕ) (work' : List Couple) (a b : ℕ) → Joins P F L work L' work' a b → Joins P F L work L' work' b a
joins_flip P F L work L' work' a b h = record {
  forest = h.forest;
  count = h.count;
  below = h.below;
  back = λ f g j. let r = h.back f g j in (r.0, r.1, sym r.2);
  kept = λ σ g j e. h.kept σ g j (sym e);
  agrees = h.agrees;
  falls = h.falls;
}

pub joins_none : (P : List Pat) (F L : List ℕ) (work : List Couple) (a b : ℕ) → IsForest P L → a ≡ b → Joins P F L work L work a b
joins_none P F L work a b t e = record {
  forest = t;
  count = refl;
  below = λ w. w;
  back = λ f g j. (g, j, ap f e);
  kept = λ σ g j q. (g, j);
  agrees = λ f g j w. w;
  falls = omega arith;
}

pub never_flip : (P : List Pat) (a b : ℕ) → NeverSame P a b → NeverSame P b a
never_flip P a b n σ e = n σ (sym e)

-- after the walks from two parts to their roots
pub joins_after : (P : List Pat) (F L L1 L2 : List ℕ) (work : List Couple) (L3 : List ℕ) (work' : List Couple) (left right a b : ℕ) → Shortens P F L L1 → IsRootOf L1 left a → Shortens P F L1 L2 → IsRootOf L2 right b → Joins P F L2 work L3 work' a b → Joins P F L work L3 work' left right
joins_after P F L L1 L2 work L3 work' left right a b s ra s' rb h = record {
  forest = h.forest;
  count = h.count ∙ s'.count ∙ s.count;
  below = h.below;
  back = λ f g j.
      let r = h.back f g j in
      let g1 : Linked f L1 = s'.back f r.0 in
      (s.back f g1, r.1, ra.same f g1 ∙ r.2 ∙ sym (rb.same f r.0));
  kept = λ σ g j e.
      let g1 : Linked (type_of σ P) L1 = s.kept (type_of σ P) g in
      let g2 : Linked (type_of σ P) L2 = s'.kept (type_of σ P) g1 in
      h.kept σ g2 j (sym (ra.same (type_of σ P) g1) ∙ e ∙ rb.same (type_of σ P) g2);
  agrees = λ f g j w.
      let g2 : Linked f L2 = (h.back f g j).0 in
      let g1 : Linked f L1 = s'.back f g2 in
      h.agrees f g j (s'.agrees f g2 (s.agrees f g1 w));
  falls = let a1 : (length P + 1) * total_height P L2 ≤ (length P + 1) * total_height P L = mul-le-mul_left (length P + 1) (omega (arith, s.total, s'.total)) in omega (arith, a1, h.falls);
}

pub root_after : (P : List Pat) (F L1 L2 : List ℕ) (left a : ℕ) → IsRootOf L1 left a → Shortens P F L1 L2 → IsRoot L2 a
root_after P F L1 L2 left a ra s = (omega (arith, ra.within, s.count), s.roots a ra.within ra.root)

pub root_of : (L : List ℕ) (right b : ℕ) → IsRootOf L right b → IsRoot L b
root_of L right b r = (r.within, r.root)

pub never_after : (P : List Pat) (F L L1 L2 : List ℕ) (left right a b : ℕ) → Shortens P F L L1 → IsRootOf L1 left a → Shortens P F L1 L2 → IsRootOf L2 right b → NeverSame P a b → NeverLinked P L left right
never_after P F L L1 L2 left right a b s ra s' rb n σ g e =
    let g1 : Linked (type_of σ P) L1 = s.kept (type_of σ P) g in
    let g2 : Linked (type_of σ P) L2 = s'.kept (type_of σ P) g1 in
    n σ (sym (ra.same (type_of σ P) g1) ∙ e ∙ rb.same (type_of σ P) g2)

pub ruleset walk = (joins_unknown, joins_known, joins_never, joins_flip, joins_none, never_flip, joins_after, root_after, root_of, never_after)
