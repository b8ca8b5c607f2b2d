-- The classes of parts, once all couples are done and each part's root is known.
use Rattle.std.specs.Prelude.{◌≡◌, ℕ, zero, suc, ◌+◌, ◌<◌, false, List, [], ◌∷◌, ◌++◌, length, slice_index, refl}
use Rattle.std.proofs.Common.{ap, sym, ◌∙◌, arith, inl, inr, subst, length-append}
use Rattle.std.proofs.lemmas.List.{get_or_append_left, get_or_push}
use Rattle.std.proofs.lemmas.Bool.{cases_eq}
use Rattle.ev_terms.specs.declared.types.Ty.{Ty, Int as IntType, Bool as BoolType, Prop, Param as ParamType, Data as DataType}
use Rattle.ev_terms.specs.Types.{pow, prod}
use Rattle.ev_unify.specs.declared.patterns.Pat.{Pat}
use Rattle.ev_unify.specs.declared.cells.Couple.{Couple}
use Rattle.ev_unify.specs.Patterns.{value}
use Rattle.ev_unify.specs.inner.Parts.{is_unknown}
use Rattle.ev_unify.specs.inner.Numbered.{part, type_of, HasHomes, Joined, AllBelow}
use Rattle.ev_unify.specs.inner.Links.{height, Linked, IsForest, SameChildren, Agrees, Shortens, IsRootOf, IsMerging, IsMerged, NeverJoined, RootsAre, IsPartition}
use Rattle.ev_unify.proofs.Spread.{split_last, known_or}
use Rattle.ev_unify.proofs.Heights.{height_unknown, known_alike}
use Rattle.ev_unify.proofs.Forest.{children_refl, children_trans, children_at, shortens_trans}

-- roots, one after the other
pub roots_more : (P : List Pat) (F L0 L R : List ℕ) (i : ℕ) (L' R' : List ℕ) (r : ℕ) → RootsAre P F L0 L R i → Shortens P F L L' → IsRootOf L' i r → R' ≡ R ++ r ∷ [] → RootsAre P F L0 L' R' (i + 1)
roots_more P F L0 L R i L' R' r h s new e =
    let out : RootsAre P F L0 L' (R ++ r ∷ []) (i + 1) = record {
      shortens = shortens_trans P F L0 L L' h.shortens s;
      count = omega (arith, length-append R (r ∷ []), h.count);
      roots = λ j l. elim (split_last j i l) as (λ _. IsRootOf L' j (slice_index (R ++ r ∷ []) j)) [
        | inl a ↦ let o : IsRootOf L j (slice_index R j) = h.roots j a in
            let moved : IsRootOf L' j (slice_index R j) = record {
              within = omega (arith, o.within, s.count);
              root = s.roots (slice_index R j) o.within o.root;
              same = λ f g. o.same f (s.back f g);
            } in
            let Q : ℕ → Type 0 = λ x. IsRootOf L' j x in subst Q (sym (get_or_append_left R (r ∷ []) 0 j (omega (arith, a, h.count)))) moved
        | inr b ↦ let Q : ℕ → Type 0 = λ x. IsRootOf L' x (slice_index (R ++ r ∷ []) x) in
            let S : ℕ → Type 0 = λ x. IsRootOf L' i x in
            subst Q (sym b) (subst S (sym (get_or_push R r 0 i h.count)) new)
      ];
    } in
    let Q : List ℕ → Type 0 = λ x. RootsAre P F L0 L' x (i + 1) in subst Q (sym e) out

-- the links that unknowns begin with
homes_forest : (P : List Pat) (H : List ℕ) → HasHomes P H → IsForest P H
homes_forest P H t = record {
  count = t.count;
  within = λ i l. omega (arith, l, t.below i l);
  falls = λ i l n. elim (known_or (part P i)) as (λ _. height P (slice_index H i) < height P i) [
    | inl known ↦ absurd (n (t.own i l known))
    | inr r ↦ let a : height P i ≡ length P + i = height_unknown P i (ap is_unknown r.1) in
        let b : height P (slice_index H i) ≡ length P + slice_index H i = height_unknown P (slice_index H i) (ap is_unknown (t.home i r.0 l r.1)) in
        omega (arith, a, b, t.below i l, n)
  ];
  top = λ i. slice_index H i;
  top_link = λ i l. sym (t.fixed i l);
  top_root = λ i l r. r;
}

homes_linked : (σ : ℕ → Ty) (P : List Pat) (H : List ℕ) → HasHomes P H → Linked (type_of σ P) H
homes_linked σ P H t i l = elim (known_or (part P i)) as (λ _. type_of σ P i ≡ type_of σ P (slice_index H i)) [
  | inl known ↦ ap (type_of σ P) (sym (t.own i l known))
  | inr r ↦ ap (value σ) (r.1 ∙ sym (t.home i r.0 l r.1))
]

pub merging_start : (P : List Pat) (F H L : List ℕ) (work : List Couple) → HasHomes P H → AllBelow (length P) work → L ≡ H → IsMerging P F L work L work
merging_start P F H L work t below e =
    let out : IsMerging P F H work H work = record {
      forest = homes_forest P H t;
      count = refl;
      below = below;
      back = λ f g j. (g, j);
      kept = λ σ g j. (g, j);
      agrees = λ f g j i l known. children_at f P F i i (slice_index H i) (sym (t.own i l known)) (children_refl f P F i);
    } in
    let Q : List ℕ → Type 0 = λ x. IsMerging P F x work x work in subst Q (sym e) out

pub never_joined : (P : List Pat) (H L : List ℕ) (work : List Couple) → HasHomes P H → L ≡ H → NeverJoined P L work → (σ : ℕ → Ty) → Joined (type_of σ P) work → ⊥
never_joined P H L work t e n σ j =
    let Q : List ℕ → Type 0 = λ x. Linked (type_of σ P) x in
    n σ (subst Q (sym e) (homes_linked σ P H t)) j

-- numbers as types
abbrev number_of : Ty → ℕ
number_of IntType = 0
number_of BoolType = 0
number_of Prop = 0
number_of (ParamType i) = i
number_of (pow a) = 0
number_of (prod a b) = 0
number_of (DataType n As) = 0

module _ (P : List Pat) (F H : List ℕ) (couples : List Couple) (L0 L L' R : List ℕ) (t : HasHomes P H) (e0 : L0 ≡ H) (m : IsMerged P F L0 couples L) (h : RootsAre P F L L' R (length L)) where
  forest : IsForest P L'
  forest = h.shortens.forest

  size' : length L' ≡ length P
  size' = forest.count

  size : length L ≡ length P
  size = m.forest.count

  root : (i : ℕ) → i < length P → IsRootOf L' i (slice_index R i)
  root i l = h.roots i (omega (arith, l, size))

  is_top : (i : ℕ) → i < length P → slice_index R i ≡ forest.top i
  is_top i l =
      let r = root i l in
      let g : Linked (λ x. ParamType (forest.top x)) L' = λ x k. ap ParamType (forest.top_link x k) in
      sym (ap number_of (r.same (λ x. ParamType (forest.top x)) g) ∙ forest.top_root (slice_index R i) r.within r.root)

  step : (i : ℕ) → i < length P → slice_index R i ≡ slice_index R (slice_index L' i)
  step i l = is_top i l ∙ forest.top_link i (omega (arith, l, size')) ∙ sym (is_top (slice_index L' i) (omega (arith, forest.within i (omega (arith, l, size')), size')))

  -- the roots themselves are the same at both ends of each link
  tops_linked : Linked (λ x. ParamType (slice_index R x)) L'
  tops_linked i l = ap ParamType (step i (omega (arith, l, size')))

  tops_agree : Agrees (λ x. ParamType (slice_index R x)) P F L'
  tops_agree =
      let g : Linked (λ x. ParamType (slice_index R x)) L = h.shortens.back (λ x. ParamType (slice_index R x)) tops_linked in
      h.shortens.agrees (λ x. ParamType (slice_index R x)) tops_linked (m.agrees (λ x. ParamType (slice_index R x)) g tt)

  like_root : (n i : ℕ) → height P i < n → i < length P → is_unknown (part P i) ≡ false → SameChildren (λ x. ParamType (slice_index R x)) P F i (slice_index R i)
  like_root zero i less l known = absurd (omega (arith, less))
  like_root (suc n) i less l known = go (like_root n)
    where
      go : ((j : ℕ) → height P j < n → j < length P → is_unknown (part P j) ≡ false → SameChildren (λ x. ParamType (slice_index R x)) P F j (slice_index R j)) → SameChildren (λ x. ParamType (slice_index R x)) P F i (slice_index R i)
      go again =
          let k : i < length L' = omega (arith, l, size') in
          elim (cases_eq (slice_index L' i) i) as (λ _. SameChildren (λ x. ParamType (slice_index R x)) P F i (slice_index R i)) [
            | inl e ↦ children_at (λ x. ParamType (slice_index R x)) P F i i (slice_index R i) (sym (is_top i l ∙ forest.top_root i k e)) (children_refl (λ x. ParamType (slice_index R x)) P F i)
            | inr n' ↦ let a : SameChildren (λ x. ParamType (slice_index R x)) P F i (slice_index L' i) = tops_agree i k known in
                let b : SameChildren (λ x. ParamType (slice_index R x)) P F (slice_index L' i) (slice_index R (slice_index L' i)) = again (slice_index L' i) (omega (arith, forest.falls i k n', less)) (omega (arith, forest.within i k, size')) (known_alike (part P i) (part P (slice_index L' i)) a.heads known) in
                children_at (λ x. ParamType (slice_index R x)) P F i (slice_index R (slice_index L' i)) (slice_index R i) (sym (step i l)) (children_trans (λ x. ParamType (slice_index R x)) P F i (slice_index L' i) (slice_index R (slice_index L' i)) a b)
          ]

  like : (i : ℕ) → i < length P → is_unknown (part P i) ≡ false → SameChildren (λ x. ParamType (slice_index R x)) P F i (slice_index R i)
  like i l known = like_root (suc (height P i)) i (omega arith) l known

  partition : IsPartition P F H couples R
  partition = record {
    count = h.count ∙ size;
    within = λ i l. omega (arith, (root i l).within, size');
    fixed = λ i l. is_top (slice_index R i) (omega (arith, (root i l).within, size')) ∙ forest.top_root (slice_index R i) (root i l).within (root i l).root;
    heads = λ i l known. (like i l known).heads;
    counts = λ i l known. (like i l known).counts;
    children = λ i k l known lk. ap number_of ((like i l known).children k lk);
    homes = λ i l.
        let g : Linked (λ x. ParamType (slice_index R x)) L0 = (m.back (λ x. ParamType (slice_index R x)) (h.shortens.back (λ x. ParamType (slice_index R x)) tops_linked) tt).0 in
        let Q : List ℕ → Type 0 = λ x. Linked (λ y. ParamType (slice_index R y)) x in
        let g' : Linked (λ x. ParamType (slice_index R x)) H = subst Q e0 g in
        ap number_of (g' i (omega (arith, l, t.count)));
    joined = λ σ g.
        let k : Linked (type_of σ P) L' = λ i l.
        let l' : i < length P = omega (arith, l, size') in
        let w : slice_index L' i < length P = omega (arith, forest.within i l, size') in
        g i (omega (arith, l', h.count, size)) ∙ ap (type_of σ P) (step i l') ∙ sym (g (slice_index L' i) (omega (arith, w, h.count, size))) in
        (m.back (type_of σ P) (h.shortens.back (type_of σ P) k) tt).1;
    linked = λ σ j.
        let Q : List ℕ → Type 0 = λ x. Linked (type_of σ P) x in
        let k : Linked (type_of σ P) L' = h.shortens.kept (type_of σ P) (m.kept σ (subst Q (sym e0) (homes_linked σ P H t)) j).0 in
        λ i l. (root i (omega (arith, l, h.count, size))).same (type_of σ P) k;
  }

pub classes_are : (P : List Pat) (F H : List ℕ) (couples : List Couple) (L0 L L' R : List ℕ) → HasHomes P H → L0 ≡ H → IsMerged P F L0 couples L → RootsAre P F L L' R (length L) → IsPartition P F H couples R
classes_are P F H couples L0 L L' R t e0 m h = partition P F H couples L0 L L' R t e0 m h
