-- The way from a part to its root, each link halved.
use Rattle.std.specs.Prelude.{◌≡◌, ◌≢◌, ℕ, ◌<◌, ◌≤◌, false, List, length, slice_index, refl}
use Rattle.std.proofs.Common.{ap, sym, ◌∙◌, arith, inl, inr, subst, set, length-set}
use Rattle.std.proofs.lemmas.List.{get_or-set_same, get_or-set_other}
use Rattle.std.proofs.lemmas.Bool.{cases_eq}
use Rattle.ev_terms.specs.declared.types.Ty.{Ty}
use Rattle.ev_unify.specs.declared.patterns.Pat.{Pat}
use Rattle.ev_unify.specs.inner.Parts.{is_unknown}
use Rattle.ev_unify.specs.inner.Numbered.{part}
use Rattle.ev_unify.specs.inner.Links.{height, Linked, IsForest, SameChildren, Agrees, Shortens, IsRootOf}
use Rattle.ev_unify.proofs.Heights.{known_alike, total-set}

pub children_refl : (f : ℕ → Ty) (P : List Pat) (F : List ℕ) (i : ℕ) → SameChildren f P F i i
children_refl f P F i = record { heads = refl; counts = refl; children = λ k h. refl }

pub children_trans : (f : ℕ → Ty) (P : List Pat) (F : List ℕ) (i j k : ℕ) → SameChildren f P F i j → SameChildren f P F j k → SameChildren f P F i k
children_trans f P F i j k a b = record {
  heads = a.heads ∙ b.heads;
  counts = a.counts ∙ b.counts;
  children = λ n h. a.children n h ∙ b.children n (omega (arith, h, a.counts));
}

pub children_at : (f : ℕ → Ty) (P : List Pat) (F : List ℕ) (i j j' : ℕ) → j ≡ j' → SameChildren f P F i j → SameChildren f P F i j'
children_at f P F i j j' e s = let Q : ℕ → Type 0 = λ x. SameChildren f P F i x in subst Q e s

pub children_from : (f : ℕ → Ty) (P : List Pat) (F : List ℕ) (i i' j : ℕ) → i ≡ i' → SameChildren f P F i j → SameChildren f P F i' j
children_from f P F i i' j e s = let Q : ℕ → Type 0 = λ x. SameChildren f P F x j in subst Q e s

pub shortens_refl : (P : List Pat) (F L : List ℕ) → IsForest P L → Shortens P F L L
shortens_refl P F L t = record {
  forest = t;
  count = refl;
  kept = λ f h. h;
  back = λ f h. h;
  agrees = λ f h a. a;
  roots = λ i h e. e;
  total = omega arith;
}

pub shortens_trans : (P : List Pat) (F L L' L'' : List ℕ) → Shortens P F L L' → Shortens P F L' L'' → Shortens P F L L''
shortens_trans P F L L' L'' a b = record {
  forest = b.forest;
  count = b.count ∙ a.count;
  kept = λ f h. b.kept f (a.kept f h);
  back = λ f h. a.back f (b.back f h);
  agrees = λ f h g. b.agrees f h (a.agrees f (b.back f h) g);
  roots = λ i h e. b.roots i (omega (arith, h, a.count)) (a.roots i h e);
  total = omega (arith, a.total, b.total);
}

module _ (P : List Pat) (F L : List ℕ) (i next : ℕ) (t : IsForest P L) (h : i < length L) (away : slice_index L i ≢ i) (e : next ≡ slice_index L (slice_index L i)) where
  same : (q : ℕ) → q ≡ i → slice_index (set L i next) q ≡ next
  same q g = ap (slice_index (set L i next)) g ∙ get_or-set_same L i next 0 h

  other : (q : ℕ) → q ≢ i → slice_index (set L i next) q ≡ slice_index L q
  other q g = get_or-set_other L i q next 0 g

  longer : length (set L i next) ≡ length L
  longer = length-set L i next

  pub lower : height P next ≤ height P (slice_index L i)
  lower = elim (cases_eq next (slice_index L i)) as (λ _. height P next ≤ height P (slice_index L i)) [
    | inl g ↦ let k : height P next ≡ height P (slice_index L i) = ap (height P) g in omega (arith, k)
    | inr g ↦ let k : height P next ≡ height P (slice_index L (slice_index L i)) = ap (height P) e in
        omega (arith, k, t.falls (slice_index L i) (t.within i h) (λ w. g (e ∙ w)))
  ]

  pub next_falls : height P next < height P i
  next_falls = omega (arith, lower, t.falls i h away)

  next_within : next < length L
  next_within = omega (arith, e, t.within (slice_index L i) (t.within i h))

  not_next : next ≢ i
  not_next g = let k : height P next ≡ height P i = ap (height P) g in absurd (omega (arith, k, next_falls))

  halved_forest : IsForest P (set L i next)
  halved_forest = record {
    count = longer ∙ t.count;
    within = λ q l. elim (cases_eq q i) as (λ _. slice_index (set L i next) q < length (set L i next)) [
      | inl g ↦ omega (arith, same q g, longer, next_within)
      | inr g ↦ omega (arith, other q g, longer, t.within q (omega (arith, l, longer)))
    ];
    falls = λ q l n. elim (cases_eq q i) as (λ _. height P (slice_index (set L i next) q) < height P q) [
      | inl g ↦ let a : height P (slice_index (set L i next) q) ≡ height P next = ap (height P) (same q g) in
          let b : height P q ≡ height P i = ap (height P) g in
          omega (arith, a, b, next_falls)
      | inr g ↦ let a : height P (slice_index (set L i next) q) ≡ height P (slice_index L q) = ap (height P) (other q g) in
          omega (arith, a, t.falls q (omega (arith, l, longer)) (λ w. n (other q g ∙ w)))
    ];
    top = t.top;
    top_link = λ q l. elim (cases_eq q i) as (λ _. t.top q ≡ t.top (slice_index (set L i next) q)) [
      | inl g ↦ ap t.top g ∙ t.top_link i h ∙ t.top_link (slice_index L i) (t.within i h) ∙ ap t.top (sym e ∙ sym (same q g))
      | inr g ↦ t.top_link q (omega (arith, l, longer)) ∙ ap t.top (sym (other q g))
    ];
    top_root = λ q l r. elim (cases_eq q i) as (λ _. t.top q ≡ q) [
      | inl g ↦ absurd (not_next (sym (same q g) ∙ r ∙ g))
      | inr g ↦ t.top_root q (omega (arith, l, longer)) (sym (other q g) ∙ r)
    ];
  }

  halved_back : (f : ℕ → Ty) → Linked f (set L i next) → Linked f L
  halved_back f g q l = elim (cases_eq q i) as (λ _. f q ≡ f (slice_index L q)) [
    | inl w ↦ ap f w ∙ g i (omega (arith, h, longer)) ∙ ap f (same i refl ∙ e ∙ sym (other (slice_index L i) away)) ∙ sym (g (slice_index L i) (omega (arith, t.within i h, longer))) ∙ ap (λ x. f (slice_index L x)) (sym w)
    | inr w ↦ g q (omega (arith, l, longer)) ∙ ap f (other q w)
  ]

  halved_kept : (f : ℕ → Ty) → Linked f L → Linked f (set L i next)
  halved_kept f g q l = elim (cases_eq q i) as (λ _. f q ≡ f (slice_index (set L i next) q)) [
    | inl w ↦ ap f w ∙ g i h ∙ g (slice_index L i) (t.within i h) ∙ ap f (sym e ∙ sym (same q w))
    | inr w ↦ g q (omega (arith, l, longer)) ∙ ap f (sym (other q w))
  ]

  halved_agrees : (f : ℕ → Ty) → Agrees f P F L → Agrees f P F (set L i next)
  halved_agrees f g q l known = elim (cases_eq q i) as (λ _. SameChildren f P F q (slice_index (set L i next) q)) [
    | inl w ↦ let known_i : is_unknown (part P i) ≡ false = ap (λ x. is_unknown (part P x)) (sym w) ∙ known in
        let a : SameChildren f P F i (slice_index L i) = g i h known_i in
        let b : SameChildren f P F (slice_index L i) (slice_index L (slice_index L i)) = g (slice_index L i) (t.within i h) (known_alike (part P i) (part P (slice_index L i)) a.heads known_i) in
        children_from f P F i q _ (sym w) (children_at f P F i (slice_index L (slice_index L i)) _ (sym e ∙ sym (same q w)) (children_trans f P F i _ _ a b))
    | inr w ↦ children_at f P F q (slice_index L q) _ (sym (other q w)) (g q (omega (arith, l, longer)) known)
  ]

  pub halved : Shortens P F L (set L i next)
  halved = record {
    forest = halved_forest;
    count = longer;
    kept = halved_kept;
    back = halved_back;
    agrees = λ f g a. halved_agrees f a;
    roots = λ q l r. elim (cases_eq q i) as (λ _. slice_index (set L i next) q ≡ q) [
      | inl w ↦ absurd (away (ap (slice_index L) (sym w) ∙ r ∙ w))
      | inr w ↦ other q w ∙ r
    ];
    total = omega (arith, total-set P L i next h, lower);
  }

-- the way as far as the walk has come
pub record IsWalk (P : List Pat) (F L0 : List ℕ) (start : ℕ) (L : List ℕ) (i : ℕ) : Type 0 where
  pub shortens : Shortens P F L0 L
  pub within : i < length L
  pub same : (f : ℕ → Ty) → Linked f L → f start ≡ f i

pub walk_start : (P : List Pat) (F L : List ℕ) (start : ℕ) → IsForest P L → start < length L → IsWalk P F L start L start
walk_start P F L start t h = record { shortens = shortens_refl P F L t; within = h; same = λ f g. refl }

pub walk_more : (P : List Pat) (F L0 : List ℕ) (start : ℕ) (L : List ℕ) (i next : ℕ) → IsWalk P F L0 start L i → slice_index L i ≢ i → next ≡ slice_index L (slice_index L i) → IsWalk P F L0 start (set L i next) next
walk_more P F L0 start L i next w away e =
    let t = w.shortens.forest in
    let s : Shortens P F L (set L i next) = halved P F L i next t w.within away e in
    record {
      shortens = shortens_trans P F L0 L (set L i next) w.shortens s;
      within = omega (arith, s.count, e, t.within (slice_index L i) (t.within i w.within));
      same = λ f g. w.same f (s.back f g) ∙ s.back f g i w.within ∙ s.back f g (slice_index L i) (t.within i w.within) ∙ ap f (sym e);
    }

pub walk_falls : (P : List Pat) (F L0 : List ℕ) (start : ℕ) (L : List ℕ) (i next : ℕ) → IsWalk P F L0 start L i → slice_index L i ≢ i → next ≡ slice_index L (slice_index L i) → height P next < height P i
walk_falls P F L0 start L i next w away e = next_falls P F L i next w.shortens.forest w.within away e

pub walk_within : (P : List Pat) (F L0 : List ℕ) (start : ℕ) (L : List ℕ) (i : ℕ) → IsWalk P F L0 start L i → slice_index L i < length L
walk_within P F L0 start L i w = w.shortens.forest.within i w.within

pub walk_end : (P : List Pat) (F L0 : List ℕ) (start : ℕ) (L : List ℕ) (i : ℕ) → IsWalk P F L0 start L i → slice_index L i ≡ i → IsRootOf L start i
walk_end P F L0 start L i w e = record { within = w.within; root = e; same = w.same }

pub ruleset walk = (walk_start, walk_more, walk_falls, walk_within, walk_end)
