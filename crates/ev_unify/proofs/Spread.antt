-- The parts of patterns by number, the children of one part after those of the other.
use Rattle.std.specs.Prelude.{◌≡◌, ℕ, ◌+◌, ◌<◌, ◌≤◌, ◌⊎◌, Bool as Boolean, true, false, List, [], ◌∷◌, ◌++◌, length, slice_index, slice_index_or, Option, Some, None, unwrap_or, if◌then◌else◌, ◌==◌, refl}
use Rattle.std.proofs.Common.{ap, sym, ◌∙◌, arith, inl, inr, subst, length-append, append_assoc, append-nil, drop}
use Rattle.std.proofs.lemmas.List.{get_or_append_left, get_or-append-add, get_or_push, drop_more, drop-append-le}
use Rattle.std.proofs.lemmas.Bool.{eqb-true, eq-eqb, cases_lt}
use Rattle.ev_unify.specs.declared.patterns.Pat.{Pat, Int, Bool, Param, Data, Unknown}
use Rattle.ev_unify.specs.declared.patterns.Pats.{Pats, Empty}
use Rattle.ev_unify.specs.Patterns.{pow_pat, prod_pat, more_pats, pat_list}
use Rattle.ev_unify.specs.inner.Parts.{children_of, is_unknown, is_at}
use Rattle.ev_unify.specs.inner.Numbered.{part, HasChildren, HasPlaces, HasHomes, home_of, place_with}
use Rattle.ev_unify.specs.inner.Cells.{IsCells, AreNumbered}
use Rattle.ev_unify.proofs.Siding.{part_before}

pub split_last : (j i : ℕ) → j < i + 1 → (j < i) ⊎ (j ≡ i)
split_last j i h = elim (cases_lt j i) as (λ _. (j < i) ⊎ (j ≡ i)) [ inl a ↦ inl a | inr b ↦ inr (omega (arith, h, b)) ]

pub known_or : (p : Pat) → (is_unknown p ≡ false) ⊎ ((u : ℕ) × (p ≡ Unknown u))
known_or Int = inl refl
known_or Bool = inl refl
known_or (Param i) = inl refl
known_or (pow_pat a) = inl refl
known_or (prod_pat a b) = inl refl
known_or (Data n ps) = inl refl
known_or (Unknown u) = inr (u, refl)

-- the sizes of what is left to do fall
abbrev mutual
  pub pat_size : Pat → ℕ
  pat_size Int = 1
  pat_size Bool = 1
  pat_size (Param i) = 1
  pat_size (pow_pat a) = 1 + pat_size a
  pat_size (prod_pat a b) = 1 + (pat_size a + pat_size b)
  pat_size (Data n ps) = 1 + pats_size ps
  pat_size (Unknown u) = 1

  pub pats_size : Pats → ℕ
  pats_size Empty = 0
  pats_size (more_pats p ps) = pat_size p + pats_size ps

abbrev pub weight : List Pat → ℕ
weight [] = 0
weight (p ∷ ps) = pat_size p + weight ps

weight-append : (ps qs : List Pat) → weight (ps ++ qs) ≡ weight ps + weight qs
weight-append [] qs = omega arith
weight-append (p ∷ ps) qs = omega (arith, weight-append ps qs)

list_weight : (ps : Pats) → weight (pat_list ps) ≡ pats_size ps
list_weight Empty = refl
list_weight (more_pats p ps) = omega (arith, list_weight ps)

children_weight : (p : Pat) → weight (children_of p) < pat_size p
children_weight Int = omega arith
children_weight Bool = omega arith
children_weight (Param i) = omega arith
children_weight (pow_pat a) = omega arith
children_weight (prod_pat a b) = omega arith
children_weight (Data n ps) = omega (arith, list_weight ps)
children_weight (Unknown u) = omega arith

pub weight_falls : (P : List Pat) (i : ℕ) (p : Pat) → i < length P → p ≡ part P i → weight (drop (i + 1) (P ++ children_of p)) < weight (drop i P)
weight_falls P i p h e =
    let a : weight (drop i P) ≡ weight (part P i ∷ drop (i + 1) P) = ap weight (drop_more P i Int h) in
    let b : weight (drop (i + 1) (P ++ children_of p)) ≡ weight (drop (i + 1) P ++ children_of p) = ap weight (drop-append-le (i + 1) P (children_of p) (omega (arith, h))) in
    let s : pat_size (part P i) ≡ pat_size p = ap pat_size (sym e) in
    omega (arith, a, b, s, weight-append (drop (i + 1) P) (children_of p), children_weight p)

-- the children of one part more
children_more : (P : List Pat) (F : List ℕ) (i : ℕ) → HasChildren P F i → i < length P → HasChildren (P ++ children_of (part P i)) (F ++ length (P ++ children_of (part P i)) ∷ []) (i + 1)
children_more P F i h lt =
    let K : List Pat = children_of (part P i) in
    let x : ℕ = length (P ++ K) in
    let grown : x ≡ length P + length K = length-append P K in
    let new : slice_index (F ++ x ∷ []) (i + 1) ≡ x = get_or_push F x 0 (i + 1) h.count in
    let old = λ (j : ℕ) (l : j < i + 1). get_or_append_left F (x ∷ []) 0 j (omega (arith, l, h.count)) in
    let same = λ (j : ℕ) (l : j < length P). part_before P K j l in
    record {
      count = omega (arith, length-append F (x ∷ []), h.count);
      last = new;
      ends = λ j l. elim (split_last j i l) as (λ _. slice_index (F ++ x ∷ []) (j + 1) ≡ slice_index (F ++ x ∷ []) j + length (children_of (part (P ++ K) j))) [
        | inl a ↦ let e1 : length (children_of (part (P ++ K) j)) ≡ length (children_of (part P j)) = ap (λ p. length (children_of p)) (same j (omega (arith, a, lt))) in
            omega (arith, old (j + 1) (omega (arith, a)), old j (omega (arith, a)), e1, h.ends j a)
        | inr b ↦ let e1 : length (children_of (part (P ++ K) j)) ≡ length K = ap (λ p. length (children_of p)) (same j (omega (arith, b, lt)) ∙ ap (part P) b) in
            let e2 : slice_index (F ++ x ∷ []) (j + 1) ≡ x = ap (λ k. slice_index (F ++ x ∷ []) (k + 1)) b ∙ new in
            let e3 : slice_index (F ++ x ∷ []) j ≡ slice_index F i = ap (slice_index (F ++ x ∷ [])) b ∙ old i (omega arith) in
            omega (arith, e1, e2, e3, grown, h.last)
      ];
      within = λ j l. elim (split_last j i l) as (λ _. slice_index (F ++ x ∷ []) (j + 1) ≤ x) [
        | inl a ↦ omega (arith, old (j + 1) (omega (arith, a)), h.within j a, grown)
        | inr b ↦ let e2 : slice_index (F ++ x ∷ []) (j + 1) ≡ x = ap (λ k. slice_index (F ++ x ∷ []) (k + 1)) b ∙ new in omega (arith, e2)
      ];
      parts = λ j k l m. elim (split_last j i l) as (λ _. part (P ++ K) (slice_index (F ++ x ∷ []) j + k) ≡ slice_index_or (children_of (part (P ++ K) j)) k Int) [
        | inl a ↦ let pj : part (P ++ K) j ≡ part P j = same j (omega (arith, a, lt)) in
            let m' : k < length (children_of (part P j)) = omega (arith, m, ap (λ p. length (children_of p)) pj) in
            let e : slice_index (F ++ x ∷ []) j ≡ slice_index F j = old j (omega (arith, a)) in
            ap (λ y. part (P ++ K) (y + k)) e ∙ same (slice_index F j + k) (omega (arith, h.ends j a, h.within j a, m')) ∙ h.parts j k a m' ∙ ap (λ p. slice_index_or (children_of p) k Int) (sym pj)
        | inr b ↦ let pj : part (P ++ K) j ≡ part P i = same j (omega (arith, b, lt)) ∙ ap (part P) b in
            let e : slice_index (F ++ x ∷ []) j ≡ length P = ap (slice_index (F ++ x ∷ [])) b ∙ old i (omega arith) ∙ h.last in
            ap (λ y. part (P ++ K) (y + k)) e ∙ get_or-append-add P K k Int ∙ ap (λ p. slice_index_or (children_of p) k Int) (sym pj)
      ];
    }

-- the first place of the unknown at one place more
abbrev Places : (place place' : ℕ → Option ℕ) (P : List Pat) (H : List ℕ) (p : Pat) (h : ℕ) → Type 0
Places place place' P H p h = (part P (length H) ≡ p) × ((u : ℕ) → place' u ≡ place_with place p h u)

pub not_at : (u : ℕ) (p : Pat) → is_unknown p ≡ false → is_at u p ≡ false
not_at u Int e = refl
not_at u Bool e = refl
not_at u (Param i) e = refl
not_at u (pow_pat a) e = refl
not_at u (prod_pat a b) e = refl
not_at u (Data n ps) e = refl
not_at u (Unknown w) e = cc

pub home_known : (place : ℕ → Option ℕ) (p : Pat) (i : ℕ) → is_unknown p ≡ false → home_of place p i ≡ i
home_known place Int i e = refl
home_known place Bool i e = refl
home_known place (Param j) i e = refl
home_known place (pow_pat a) i e = refl
home_known place (prod_pat a b) i e = refl
home_known place (Data n ps) i e = refl
home_known place (Unknown u) i e = cc

pub unknown_is : (p : Pat) (u : ℕ) → p ≡ Unknown u → is_unknown p ≡ true
unknown_is p u e = ap is_unknown e

pub with_not : (place : ℕ → Option ℕ) (p : Pat) (h u : ℕ) → is_at u p ≡ false → place_with place p h u ≡ place u
with_not place p h u e = ap (λ b. if b then Some h else place u) e

with_at : (place : ℕ → Option ℕ) (p : Pat) (h u : ℕ) → is_at u p ≡ true → place_with place p h u ≡ Some h
with_at place p h u e = ap (λ b. if b then Some h else place u) e

module _ (place place' : ℕ → Option ℕ) (P : List Pat) (H : List ℕ) (h : ℕ) (t : HasPlaces place P H) where
  old : (j : ℕ) → j < length H → slice_index (H ++ h ∷ []) j ≡ slice_index H j
  old j l = get_or_append_left H (h ∷ []) 0 j l

  new : slice_index (H ++ h ∷ []) (length H) ≡ h
  new = get_or_push H h 0 (length H) refl

  longer : length (H ++ h ∷ []) ≡ length H + 1
  longer = length-append H (h ∷ [])

  known_place : is_unknown (part P (length H)) ≡ false → h ≡ length H → ((u : ℕ) → place' u ≡ place u) → HasPlaces place' P (H ++ h ∷ [])
  known_place known e same = record {
    found = λ u j q. let (a, b, c) = t.found u j (sym (same u) ∙ q) in (omega (arith, a, longer), b, old j a ∙ c);
    kept = λ i u l q. elim (split_last i (length H) (omega (arith, l, longer))) as (λ _. place' u ≡ Some (slice_index (H ++ h ∷ []) i)) [
      | inl a ↦ same u ∙ t.kept i u a q ∙ ap Some (sym (old i a))
      | inr b ↦ let r : true ≡ false = sym (unknown_is (part P i) u q) ∙ ap (λ j. is_unknown (part P j)) b ∙ known in cc
    ];
    own = λ i l q. elim (split_last i (length H) (omega (arith, l, longer))) as (λ _. slice_index (H ++ h ∷ []) i ≡ i) [
      | inl a ↦ old i a ∙ t.own i a q
      | inr b ↦ ap (slice_index (H ++ h ∷ [])) b ∙ new ∙ e ∙ sym b
    ];
    below = λ i l. elim (split_last i (length H) (omega (arith, l, longer))) as (λ _. slice_index (H ++ h ∷ []) i ≤ i) [
      | inl a ↦ omega (arith, old i a, t.below i a)
      | inr b ↦ let r : slice_index (H ++ h ∷ []) i ≡ h = ap (slice_index (H ++ h ∷ [])) b ∙ new in omega (arith, r, e, b)
    ];
  }

  -- what is to hold of the home of an unknown
  record IsHome (w : ℕ) : Type 0 where
    pub at_most : h ≤ length H
    pub there : part P h ≡ Unknown w
    pub itself : slice_index (H ++ h ∷ []) h ≡ h
    pub others : (i : ℕ) → i < length H → part P i ≡ Unknown w → slice_index H i ≡ h

  unknown_place : (w : ℕ) → part P (length H) ≡ Unknown w → IsHome w → ((u : ℕ) → place' u ≡ place_with place (Unknown w) h u) → HasPlaces place' P (H ++ h ∷ [])
  unknown_place w here g with_it = record {
    found = λ u j q. go u j (w == u) refl q;
    kept = λ i u l q. elim (split_last i (length H) (omega (arith, l, longer))) as (λ _. place' u ≡ Some (slice_index (H ++ h ∷ []) i)) [
      | inl a ↦ stays i u (w == u) refl a q
      | inr b ↦ let r : Unknown w ≡ Unknown u = sym here ∙ ap (part P) (sym b) ∙ q in
          let s : w ≡ u = cc in
          with_it u ∙ with_at place (Unknown w) h u (eq-eqb w u s) ∙ ap Some (sym (ap (slice_index (H ++ h ∷ [])) b ∙ new))
    ];
    own = λ i l q. elim (split_last i (length H) (omega (arith, l, longer))) as (λ _. slice_index (H ++ h ∷ []) i ≡ i) [
      | inl a ↦ old i a ∙ t.own i a q
      | inr b ↦ let r : true ≡ false = sym (unknown_is (part P (length H)) w here) ∙ ap (λ j. is_unknown (part P j)) (sym b) ∙ q in cc
    ];
    below = λ i l. elim (split_last i (length H) (omega (arith, l, longer))) as (λ _. slice_index (H ++ h ∷ []) i ≤ i) [
      | inl a ↦ omega (arith, old i a, t.below i a)
      | inr b ↦ let r : slice_index (H ++ h ∷ []) i ≡ h = ap (slice_index (H ++ h ∷ [])) b ∙ new in omega (arith, r, g.at_most, b)
    ];
  }
    where
      go : (u j : ℕ) (b : Boolean) → (w == u) ≡ b → place' u ≡ Some j → (j < length (H ++ h ∷ [])) × (part P j ≡ Unknown u) × (slice_index (H ++ h ∷ []) j ≡ j)
      go u j true e q =
          let r : Some h ≡ Some j = sym (with_at place (Unknown w) h u e) ∙ sym (with_it u) ∙ q in
          let s : h ≡ j = cc in
          let v : w ≡ u = eqb-true w u e in
          (omega (arith, s, g.at_most, longer), ap (part P) (sym s) ∙ g.there ∙ ap Unknown v, ap (slice_index (H ++ h ∷ [])) (sym s) ∙ g.itself ∙ s)
      go u j false e q =
          let (a, b, c) = t.found u j (sym (with_not place (Unknown w) h u e) ∙ sym (with_it u) ∙ q) in (omega (arith, a, longer), b, old j a ∙ c)

      stays : (i u : ℕ) (b : Boolean) → (w == u) ≡ b → i < length H → part P i ≡ Unknown u → place' u ≡ Some (slice_index (H ++ h ∷ []) i)
      stays i u true e a q =
          let v : w ≡ u = eqb-true w u e in
          with_it u ∙ with_at place (Unknown w) h u e ∙ ap Some (sym (old i a ∙ g.others i a (q ∙ ap Unknown (sym v))))
      stays i u false e a q = with_it u ∙ with_not place (Unknown w) h u e ∙ t.kept i u a q ∙ ap Some (sym (old i a))

  is_home : (w : ℕ) (o : Option ℕ) → place w ≡ o → part P (length H) ≡ Unknown w → h ≡ unwrap_or o (length H) → IsHome w
  is_home w None e here q = record {
    at_most = omega (arith, q);
    there = ap (part P) q ∙ here;
    itself = ap (slice_index (H ++ h ∷ [])) q ∙ new;
    others = λ i a r. let s : None ≡ Some (slice_index H i) = sym e ∙ t.kept i w a r in cc;
  }
  is_home w (Some j) e here q =
      let (a, b, c) = t.found w j e in
      record {
        at_most = omega (arith, q, a);
        there = ap (part P) q ∙ b;
        itself = ap (slice_index (H ++ h ∷ [])) q ∙ old j a ∙ c ∙ sym q;
        others = λ i l r. let s : Some j ≡ Some (slice_index H i) = sym e ∙ t.kept i w l r in let v : j ≡ slice_index H i = cc in sym v ∙ sym q;
      }

  places_more : h ≡ home_of place (part P (length H)) (length H) → ((u : ℕ) → place' u ≡ place_with place (part P (length H)) h u) → HasPlaces place' P (H ++ h ∷ [])
  places_more e with_it = elim (known_or (part P (length H))) as (λ _. HasPlaces place' P (H ++ h ∷ [])) [
    | inl known ↦ known_place known (e ∙ home_known place (part P (length H)) (length H) known) (λ u. with_it u ∙ with_not place (part P (length H)) h u (not_at u (part P (length H)) known))
    | inr r ↦ unknown_place r.0 r.1 (is_home r.0 (place r.0) refl r.1 (e ∙ ap (λ p. home_of place p (length H)) r.1)) (λ u. with_it u ∙ ap (λ p. place_with place p h u) r.1)
  ]

places_grown : (place : ℕ → Option ℕ) (P Q : List Pat) (H : List ℕ) → length H ≤ length P → HasPlaces place P H → HasPlaces place (P ++ Q) H
places_grown place P Q H l t = record {
  found = λ u j q. let (a, b, c) = t.found u j q in (a, part_before P Q j (omega (arith, a, l)) ∙ b, c);
  kept = λ i u a q. t.kept i u a (sym (part_before P Q i (omega (arith, a, l))) ∙ q);
  own = λ i a q. t.own i a (ap is_unknown (sym (part_before P Q i (omega (arith, a, l)))) ∙ q);
  below = t.below;
}

pub homes_of : (place : ℕ → Option ℕ) (P : List Pat) (H : List ℕ) → length H ≡ length P → HasPlaces place P H → HasHomes P H
homes_of place P H n t = record {
  count = n;
  own = t.own;
  below = t.below;
  home = λ i u a q. (t.found u (slice_index H i) (t.kept i u a q)).1;
  fixed = λ i a. elim (known_or (part P i)) as (λ _. slice_index H (slice_index H i) ≡ slice_index H i) [
    | inl known ↦ ap (slice_index H) (t.own i a known)
    | inr r ↦ (t.found r.0 (slice_index H i) (t.kept i r.0 a r.1)).2
  ];
  alike = λ i j u a b q r. let s : Some (slice_index H i) ≡ Some (slice_index H j) = sym (t.kept i u a q) ∙ t.kept j u b r in cc;
}

pub numbered_start : (pats : List Pat) (place : ℕ → Option ℕ) → ((u : ℕ) → place u ≡ None) → AreNumbered pats pats (length pats ∷ []) [] place 0
numbered_start pats place none = record {
  more = [];
  begins = sym (append-nil pats);
  children = record {
    count = refl;
    last = refl;
    ends = λ i l. absurd (omega (arith, l));
    within = λ i l. absurd (omega (arith, l));
    parts = λ i k l m. absurd (omega (arith, l));
  };
  places = record {
    found = λ u j q. let s : None ≡ Some j = sym (none u) ∙ q in cc;
    kept = λ i u l q. absurd (omega (arith, l));
    own = λ i l q. absurd (omega (arith, l));
    below = λ i l. absurd (omega (arith, l));
  };
  count = refl;
  within = omega arith;
}

pub numbered_more : (pats P P' : List Pat) (F F' H H' : List ℕ) (place place' : ℕ → Option ℕ) (i h x : ℕ) (p : Pat) → AreNumbered pats P F H place i → i < length P → p ≡ part P i → h ≡ home_of place p i → ((u : ℕ) → place' u ≡ place_with place p h u) → H' ≡ H ++ h ∷ [] → P' ≡ P ++ children_of p → x ≡ length P' → F' ≡ F ++ x ∷ [] → AreNumbered pats P' F' H' place' (i + 1)
numbered_more pats P P' F F' H H' place place' i h x p t l ep eh with_it eH eP ex eF =
    let K : List Pat = children_of (part P i) in
    let eP' : P' ≡ P ++ K = eP ∙ ap (λ q. P ++ children_of q) ep in
    let eF' : F' ≡ F ++ length (P ++ K) ∷ [] = eF ∙ ap (λ y. F ++ y ∷ []) (ex ∙ ap length eP') in
    let epl : p ≡ part P (length H) = ep ∙ ap (part P) (sym t.count) in
    let eh' : h ≡ home_of place (part P (length H)) (length H) = eh ∙ ap (λ q. home_of place q i) epl ∙ ap (home_of place (part P (length H))) (sym t.count) in
    let places : HasPlaces place' P (H ++ h ∷ []) = places_more place place' P H h t.places eh' (λ u. with_it u ∙ ap (λ q. place_with place q h u) epl) in
    let longer : length (H ++ h ∷ []) ≡ length H + 1 = length-append H (h ∷ []) in
    let out : AreNumbered pats (P ++ K) (F ++ length (P ++ K) ∷ []) (H ++ h ∷ []) place' (i + 1) = record {
      more = t.more ++ K;
      begins = ap (λ y. y ++ K) t.begins ∙ append_assoc pats t.more K;
      children = children_more P F i t.children l;
      places = places_grown place' P K (H ++ h ∷ []) (omega (arith, longer, t.count, l)) places;
      count = omega (arith, longer, t.count);
      within = omega (arith, length-append P K, l);
    } in
    rw (eP', eF', eH) out

pub numbered_all : (pats P : List Pat) (F H : List ℕ) (place : ℕ → Option ℕ) (i : ℕ) → AreNumbered pats P F H place i → length P ≤ i → IsCells pats P F H
numbered_all pats P F H place i t h =
    let e : i ≡ length P = omega (arith, t.within, h) in
    record {
      more = t.more;
      begins = t.begins;
      flat = let Q : ℕ → Type 0 = λ n. HasChildren P F n in subst Q e t.children;
      homes = homes_of place P H (t.count ∙ e) t.places;
    }

pub ruleset walk = (numbered_start, numbered_more, numbered_all, weight_falls)
