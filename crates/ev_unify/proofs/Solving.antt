-- What was found is a unifier.
use Rattle.std.specs.Prelude.{◌≡◌, ℕ, zero, suc, ◌+◌, ◌*◌, ◌<◌, ◌≤◌, ◌⊎◌, ◌||◌, ◌==◌, Bool as Boolean, true, false, List, [], ◌∷◌, length, slice_index, slice_index_or, Some, if◌then◌else◌, refl}
use Rattle.std.proofs.Common.{ap, sym, ◌∙◌, arith, inl, inr, subst}
use Rattle.std.proofs.lemmas.Bool.{eqb-true}
use Rattle.ev_terms.specs.declared.types.Ty.{Ty, Int as IntType}
use Rattle.ev_unify.specs.declared.patterns.Pat.{Pat, Int, Bool, Param, Data, Unknown}
use Rattle.ev_unify.specs.declared.patterns.Pats.{Pats, Empty}
use Rattle.ev_unify.specs.declared.patterns.Bind.{Bind}
use Rattle.ev_unify.specs.declared.patterns.PatPair.{PatPair}
use Rattle.ev_unify.specs.declared.cells.Couple.{Couple}
use Rattle.ev_unify.specs.Patterns.{pow_pat, prod_pat, more_pats, pat_list, value, has_unknown, have_unknown}
use Rattle.ev_unify.specs.inner.Parts.{children_of, is_unknown, is_at}
use Rattle.ev_unify.specs.inner.Numbered.{part, type_of, IsFlat, HasHomes, Joined, AllBelow}
use Rattle.ev_unify.specs.inner.Sides.{HasSides}
use Rattle.ev_unify.specs.inner.Cells.{IsCells}
use Rattle.ev_unify.specs.inner.Links.{Linked, SameChildren, IsPartition, IsClosed, AreClasses}
use Rattle.ev_unify.specs.inner.Ranks.{IsRanked, NeverRanked}
use Rattle.ev_unify.specs.inner.Binding.{ComesFrom, HasBinds}
use Rattle.ev_unify.specs.Solutions.{Solves, HasSolution, bound_to, Meets, IsUnifier, follow, FollowsToGeneral}
use Rattle.ev_unify.proofs.Followed.{unifier_general, follow_step}
use Rattle.ev_unify.proofs.Siding.{sides_grown}
use Rattle.ev_unify.proofs.Spread.{known_or, unknown_is}
use Rattle.ev_unify.proofs.Heights.{known_alike}
use Rattle.ev_unify.proofs.PartTypes.{type_by_children}
use Rattle.ev_unify.proofs.Binding.{at_unknown, is_at_itself}

-- the child in which an unknown stands
pub record InChild (w : ℕ) (ps : List Pat) : Type 0 where
  pub child : ℕ
  pub within : child < length ps
  pub there : has_unknown w (slice_index_or ps child Int) ≡ true

in_first : (w : ℕ) (p : Pat) (ps : List Pat) → has_unknown w p ≡ true → InChild w (p ∷ ps)
in_first w p ps e = record { child = 0; within = omega arith; there = e }

in_rest : (w : ℕ) (p : Pat) (ps : List Pat) → InChild w ps → InChild w (p ∷ ps)
in_rest w p ps r = record { child = suc r.child; within = omega (arith, r.within); there = r.there }

or_split : (a b : Boolean) → (a || b) ≡ true → (a ≡ true) ⊎ (b ≡ true)
or_split true b e = inl refl
or_split false b e = inr e

in_list : (w : ℕ) (ps : Pats) → have_unknown w ps ≡ true → InChild w (pat_list ps)
in_list w Empty e = let q : false ≡ true = e in absurd (cc)
in_list w (more_pats p ps) e = elim (or_split (has_unknown w p) (have_unknown w ps) e) as (λ _. InChild w (p ∷ pat_list ps)) [
  | inl a ↦ in_first w p (pat_list ps) a
  | inr b ↦ in_rest w p (pat_list ps) (in_list w ps b)
]

in_child : (w : ℕ) (p : Pat) → is_unknown p ≡ false → has_unknown w p ≡ true → InChild w (children_of p)
in_child w Int k e = let q : false ≡ true = e in absurd (cc)
in_child w Bool k e = let q : false ≡ true = e in absurd (cc)
in_child w (Param i) k e = let q : false ≡ true = e in absurd (cc)
in_child w (pow_pat a) k e = in_first w a [] e
in_child w (prod_pat a b) k e = elim (or_split (has_unknown w a) (has_unknown w b) e) as (λ _. InChild w (a ∷ b ∷ [])) [
  | inl x ↦ in_first w a (b ∷ []) x
  | inr y ↦ in_rest w a (b ∷ []) (in_first w b [] y)
]
in_child w (Data n ps) k e = in_list w ps e
in_child w (Unknown u) k e = let q : true ≡ false = k in absurd (cc)

-- the first place of an unknown
abbrev place_of : ℕ → List Pat → ℕ
place_of u [] = 0
place_of u (p ∷ ps) = if is_at u p then 0 else suc (place_of u ps)

pub record IsPlace (u : ℕ) (P : List Pat) : Type 0 where
  pub within : place_of u P < length P
  pub there : part P (place_of u P) ≡ Unknown u

place_found : (u : ℕ) (P : List Pat) (i : ℕ) → i < length P → part P i ≡ Unknown u → IsPlace u P
place_found u [] i l e = absurd (omega (arith, l))
place_found u (p ∷ ps) i l e = go (is_at u p) refl i l e (place_found u ps)
  where
    go : (b : Boolean) → is_at u p ≡ b → (i : ℕ) → i < length (p ∷ ps) → part (p ∷ ps) i ≡ Unknown u → ((j : ℕ) → j < length ps → part ps j ≡ Unknown u → IsPlace u ps) → IsPlace u (p ∷ ps)
    go true q i l e again =
        let z : place_of u (p ∷ ps) ≡ 0 = ap (λ b. if b then 0 else suc (place_of u ps)) q in
        record { within = omega (arith, z); there = ap (part (p ∷ ps)) z ∙ at_unknown p u q }
    go false q zero l e again = let r : true ≡ false = sym (is_at_itself p u e) ∙ q in absurd (cc)
    go false q (suc i) l e again =
        let z : place_of u (p ∷ ps) ≡ suc (place_of u ps) = ap (λ b. if b then 0 else suc (place_of u ps)) q in
        let r : IsPlace u ps = again i (omega (arith, l)) e in
        record { within = omega (arith, z, r.within); there = ap (part (p ∷ ps)) z ∙ r.there }

module _ (pairs : List PatPair) (P : List Pat) (F H : List ℕ) (couples : List Couple) (R : List ℕ) (S : List Bind)
    (sides : HasSides pairs P couples) (flat : IsFlat P F) (homes : HasHomes P H) (classes : IsPartition P F H couples R) (ranked : IsRanked P F R) (binds : HasBinds P R S (length P)) where
  -- the rank of a part's class falls to its children's
  child_rank : (i k : ℕ) → i < length P → is_unknown (part P i) ≡ false → k < length (children_of (part P i)) → ranked.rank (slice_index R (slice_index F i + k)) < ranked.rank (slice_index R i)
  child_rank i k l known lk =
      let e : ranked.rank (slice_index R (slice_index F i + k)) ≡ ranked.rank (slice_index R (slice_index F (slice_index R i) + k)) = ap ranked.rank (classes.children i k l known lk) in
      omega (arith, e, ranked.falls i k l (omega (arith, lk, classes.counts i l known)))

  child_within : (i k : ℕ) → i < length P → k < length (children_of (part P i)) → slice_index F i + k < length P
  child_within i k l lk = omega (arith, lk, flat.ends i l, flat.within i l)

  -- what meets the binds makes all parts of each class one type
  met_linked : (σ : ℕ → Ty) → Meets σ S → (m i : ℕ) → ranked.rank (slice_index R i) < m → i < length P → type_of σ P i ≡ type_of σ P (slice_index R i)
  met_linked σ meets zero i less l = absurd (omega (arith, less))
  met_linked σ meets (suc m) i less l = go (met_linked σ meets m)
    where
      go : ((j : ℕ) → ranked.rank (slice_index R j) < m → j < length P → type_of σ P j ≡ type_of σ P (slice_index R j)) → type_of σ P i ≡ type_of σ P (slice_index R i)
      go again = elim (known_or (part P i)) as (λ _. type_of σ P i ≡ type_of σ P (slice_index R i)) [
        | inl known ↦
            let known' : is_unknown (part P (slice_index R i)) ≡ false = known_alike (part P i) (part P (slice_index R i)) (classes.heads i l known) known in
            let same : SameChildren (type_of σ P) P F i (slice_index R i) = record {
              heads = classes.heads i l known;
              counts = classes.counts i l known;
              children = λ k lk.
                  let a : ranked.rank (slice_index R (slice_index F i + k)) < ranked.rank (slice_index R i) = child_rank i k l known lk in
                  let e : slice_index R (slice_index F i + k) ≡ slice_index R (slice_index F (slice_index R i) + k) = classes.children i k l known lk in
                  let b : ranked.rank (slice_index R (slice_index F i + k)) ≡ ranked.rank (slice_index R (slice_index F (slice_index R i) + k)) = ap ranked.rank e in
                  again (slice_index F i + k) (omega (arith, a, less)) (child_within i k l lk)
                  ∙ ap (type_of σ P) e
                  ∙ sym (again (slice_index F (slice_index R i) + k) (omega (arith, a, b, less)) (child_within (slice_index R i) k (classes.within i l) (omega (arith, lk, classes.counts i l known))));
            } in
            type_by_children σ P F flat i (slice_index R i) l (classes.within i l) known known' same
        | inr r ↦ elim (binds.complete i r.0 l r.1) as (λ _. type_of σ P i ≡ type_of σ P (slice_index R i)) [
          | inl bound ↦ ap (value σ) r.1 ∙ meets r.0 (part P (slice_index R i)) bound
          | inr free ↦ ap (value σ) (r.1 ∙ sym free)
        ]
      ]

  all_linked : (σ : ℕ → Ty) → Meets σ S → Linked (type_of σ P) R
  all_linked σ meets i l = met_linked σ meets (suc (ranked.rank (slice_index R i))) i (omega arith) (omega (arith, l, classes.count))

  solution_meets : (σ : ℕ → Ty) → Solves σ pairs → Meets σ S
  solution_meets σ s u p e =
      let c : ComesFrom P R (length P) u p = binds.sound u p e in
      let g : Linked (type_of σ P) R = classes.linked σ (sides.joined σ s) in
      ap (value σ) (sym c.there) ∙ g c.place (omega (arith, c.within, classes.count)) ∙ ap (value σ) (sym c.value)

  -- one class for all places of an unknown
  one_class : (u i j : ℕ) → i < length P → j < length P → part P i ≡ Unknown u → part P j ≡ Unknown u → slice_index R i ≡ slice_index R j
  one_class u i j li lj ei ej =
      classes.homes i li ∙ ap (slice_index R) (homes.alike i j u (omega (arith, li, homes.count)) (omega (arith, lj, homes.count)) ei ej) ∙ sym (classes.homes j lj)

  -- where an unknown stands in a part
  record StandsIn (w i : ℕ) : Type 0 where
    pub at : ℕ
    pub within : at < length P
    pub there : part P at ≡ Unknown w
    pub below : ranked.rank (slice_index R at) ≤ ranked.rank (slice_index R i)
    pub strict : is_unknown (part P i) ≡ false → ranked.rank (slice_index R at) < ranked.rank (slice_index R i)

  stands_in : (w m i : ℕ) → ranked.rank (slice_index R i) < m → i < length P → has_unknown w (part P i) ≡ true → StandsIn w i
  stands_in w zero i less l e = absurd (omega (arith, less))
  stands_in w (suc m) i less l e = go (stands_in w m)
    where
      go : ((j : ℕ) → ranked.rank (slice_index R j) < m → j < length P → has_unknown w (part P j) ≡ true → StandsIn w j) → StandsIn w i
      go again = elim (known_or (part P i)) as (λ _. StandsIn w i) [
        | inl known ↦
            let r : InChild w (children_of (part P i)) = in_child w (part P i) known e in
            let j : ℕ = slice_index F i + r.child in
            let a : ranked.rank (slice_index R j) < ranked.rank (slice_index R i) = child_rank i r.child l known r.within in
            let s : StandsIn w j = again j (omega (arith, a, less)) (child_within i r.child l r.within) (ap (has_unknown w) (flat.parts i r.child l r.within) ∙ r.there) in
            record { at = s.at; within = s.within; there = s.there; below = omega (arith, a, s.below); strict = λ _. omega (arith, a, s.below) }
        | inr r ↦
            let q : (r.0 == w) ≡ true = sym (ap (has_unknown w) r.1) ∙ e in
            record {
              at = i;
              within = l;
              there = r.1 ∙ ap Unknown (eqb-true r.0 w q);
              below = omega arith;
              strict = λ known. let x : true ≡ false = sym (unknown_is (part P i) r.0 r.1) ∙ known in absurd (cc);
            }
      ]

  -- ranks of unknowns: that of the class, and above it those that do not stand for the class
  abbrev step_of : ℕ → ℕ
  step_of u = if is_at u (part P (slice_index R (place_of u P))) then 0 else 1

  abbrev unknown_rank : ℕ → ℕ
  unknown_rank u = 2 * ranked.rank (slice_index R (place_of u P)) + step_of u

  step_le : (u : ℕ) → step_of u ≤ 1
  step_le u = go (is_at u (part P (slice_index R (place_of u P)))) refl
    where
      go : (b : Boolean) → is_at u (part P (slice_index R (place_of u P))) ≡ b → step_of u ≤ 1
      go true q = let z : step_of u ≡ 0 = ap (λ b. if b then 0 else 1) q in omega (arith, z)
      go false q = let z : step_of u ≡ 1 = ap (λ b. if b then 0 else 1) q in omega (arith, z)

  class_at : (u i : ℕ) → i < length P → part P i ≡ Unknown u → slice_index R (place_of u P) ≡ slice_index R i
  class_at u i l e = let g : IsPlace u P = place_found u P i l e in one_class u (place_of u P) i g.within l g.there e

  unknown_falls : (u w : ℕ) (p : Pat) → bound_to S u ≡ Some p → has_unknown w p ≡ true → unknown_rank w < unknown_rank u
  unknown_falls u w p e has =
      let c : ComesFrom P R (length P) u p = binds.sound u p e in
      let r : ℕ = slice_index R c.place in
      let lr : r < length P = classes.within c.place c.within in
      let ru : slice_index R (place_of u P) ≡ r = class_at u c.place c.within c.there in
      let ranku : ranked.rank (slice_index R (place_of u P)) ≡ ranked.rank r = ap ranked.rank ru in
      let stepu : step_of u ≡ 1 = ap (λ b. if b then 0 else 1) (ap (λ x. is_at u (part P x)) ru ∙ ap (is_at u) (sym c.value) ∙ c.other) in
      let has' : has_unknown w (part P r) ≡ true = ap (has_unknown w) (sym c.value) ∙ has in
      let fixed : ranked.rank (slice_index R r) ≡ ranked.rank r = ap ranked.rank (classes.fixed c.place c.within) in
      let s : StandsIn w r = stands_in w (suc (ranked.rank (slice_index R r))) r (omega arith) lr has' in
      elim (known_or (part P r)) as (λ _. unknown_rank w < unknown_rank u) [
        | inl known ↦
            let rw' : ranked.rank (slice_index R (place_of w P)) ≡ ranked.rank (slice_index R s.at) = ap ranked.rank (class_at w s.at s.within s.there) in
            omega (arith, ranku, stepu, fixed, rw', s.strict known, step_le w)
        | inr x ↦
            let q : (x.0 == w) ≡ true = sym (ap (has_unknown w) x.1) ∙ has' in
            let there : part P r ≡ Unknown w = x.1 ∙ ap Unknown (eqb-true x.0 w q) in
            let cw : slice_index R (place_of w P) ≡ r = class_at w r lr there ∙ classes.fixed c.place c.within in
            let rankw : ranked.rank (slice_index R (place_of w P)) ≡ ranked.rank r = ap ranked.rank cw in
            let stepw : step_of w ≡ 0 = ap (λ b. if b then 0 else 1) (ap (λ y. is_at w (part P y)) cw ∙ is_at_itself (part P r) w there) in
            omega (arith, ranku, stepu, rankw, stepw)
      ]

  unifier : IsUnifier S pairs
  unifier = record {
    triangular = record {
      rank = unknown_rank;
      most = 2 * ranked.most + 1;
      falls = unknown_falls;
      bounded = λ u. omega (arith, ranked.bounded (slice_index R (place_of u P)), step_le u);
    };
    meets = solution_meets;
    solves = λ σ m. sides.solves σ (classes.joined σ (all_linked σ m));
  }

pub sides_cells : (pairs : List PatPair) (pats P : List Pat) (F H : List ℕ) (couples : List Couple) → HasSides pairs pats couples → IsCells pats P F H → HasSides pairs P couples
sides_cells pairs pats P F H couples s c = let Q : List Pat → Type 0 = λ x. HasSides pairs x couples in subst Q (sym c.begins) (sides_grown pairs pats c.more couples s)

pub cells_below : (pairs : List PatPair) (pats P : List Pat) (F H : List ℕ) (couples : List Couple) → HasSides pairs pats couples → IsCells pats P F H → AllBelow (length P) couples
cells_below pairs pats P F H couples s c = (sides_cells pairs pats P F H couples s c).below

pub partition_closed : (P : List Pat) (F H : List ℕ) (couples : List Couple) (R R' : List ℕ) → IsPartition P F H couples R → R' ≡ R → IsClosed P R'
partition_closed P F H couples R R' t e = let Q : List ℕ → Type 0 = λ x. IsClosed P x in subst Q (sym e) (record { count = t.count; within = t.within })

pub partition_classes : (P : List Pat) (F H : List ℕ) (couples : List Couple) (R R' : List ℕ) → IsPartition P F H couples R → R' ≡ R → AreClasses P H R'
partition_classes P F H couples R R' t e = let Q : List ℕ → Type 0 = λ x. AreClasses P H x in subst Q (sym e) (record { count = t.count; within = t.within; homes = t.homes })

pub unify_found : (pairs : List PatPair) (pats P : List Pat) (F H : List ℕ) (couples : List Couple) (R R' R'' : List ℕ) (S : List Bind) → HasSides pairs pats couples → IsCells pats P F H → IsPartition P F H couples R → R' ≡ R → IsRanked P F R' → R'' ≡ R → HasBinds P R'' S (length P) → IsUnifier S pairs
unify_found pairs pats P F H couples R R' R'' S s c t e k e' b =
    let Q : List ℕ → Type 0 = λ x. IsRanked P F x in
    let T : List ℕ → Type 0 = λ x. HasBinds P x S (length P) in
    unifier pairs P F H couples R S (sides_cells pairs pats P F H couples s c) c.flat c.homes t (subst Q e k) (subst T e' b)

pub unify_general : (S : List Bind) (pairs : List PatPair) → IsUnifier S pairs → FollowsToGeneral S pairs
unify_general S pairs h = record {
  depth = suc h.triangular.most;
  ended = follow_step S h.triangular;
  general = unifier_general S pairs h;
}

pub unify_solvable : (S : List Bind) (pairs : List PatPair) → IsUnifier S pairs → HasSolution pairs
unify_solvable S pairs h =
    let g = unifier_general S pairs h in
    ((λ u. value (λ w. IntType) (follow S (suc h.triangular.most) u)), g.solves (λ w. IntType))

pub clash_joined : (pairs : List PatPair) (pats P : List Pat) (F H : List ℕ) (couples : List Couple) → HasSides pairs pats couples → IsCells pats P F H → ((σ : ℕ → Ty) → Joined (type_of σ P) couples → ⊥) → HasSolution pairs → ⊥
clash_joined pairs pats P F H couples s c n (σ, g) = n σ ((sides_cells pairs pats P F H couples s c).joined σ g)

pub clash_ranked : (pairs : List PatPair) (pats P : List Pat) (F H : List ℕ) (couples : List Couple) (R R' : List ℕ) → HasSides pairs pats couples → IsCells pats P F H → IsPartition P F H couples R → R' ≡ R → NeverRanked P R' → HasSolution pairs → ⊥
clash_ranked pairs pats P F H couples R R' s c t e n (σ, g) =
    let Q : List ℕ → Type 0 = λ x. Linked (type_of σ P) x in
    n σ (subst Q (sym e) (t.linked σ ((sides_cells pairs pats P F H couples s c).joined σ g)))

pub ruleset walk = (cells_below, partition_closed, partition_classes)
