-- The binds, one place after the other.
use Rattle.std.specs.Prelude.{◌≡◌, ◌≢◌, ℕ, ◌+◌, ◌<◌, ◌⊎◌, ◌==◌, Bool as Boolean, true, false, List, [], ◌∷◌, ◌++◌, length, slice_index, Option, Some, None, if◌then◌else◌, refl}
use Rattle.std.proofs.Common.{ap, sym, ◌∙◌, arith, inl, inr, subst}
use Rattle.std.proofs.lemmas.Bool.{eqb-true, eq-eqb, eqb-false, ne_eqb}
use Rattle.ev_unify.specs.declared.patterns.Pat.{Pat, Int, Bool, Param, Data, Unknown}
use Rattle.ev_unify.specs.declared.patterns.Bind.{Bind}
use Rattle.ev_unify.specs.Patterns.{pow_pat, prod_pat}
use Rattle.ev_unify.specs.inner.Parts.{is_unknown, is_at}
use Rattle.ev_unify.specs.inner.Numbered.{part, HasHomes}
use Rattle.ev_unify.specs.inner.Links.{AreClasses}
use Rattle.ev_unify.specs.Solutions.{bound_to, BindsOnce}
use Rattle.ev_unify.specs.inner.Binding.{ComesFrom, HasBinds}
use Rattle.ev_unify.proofs.Parts.{known_by}
use Rattle.ev_unify.proofs.Spread.{split_last, unknown_is}

pub at_unknown : (p : Pat) (u : ℕ) → is_at u p ≡ true → p ≡ Unknown u
at_unknown Int u e = cc
at_unknown Bool u e = cc
at_unknown (Param i) u e = cc
at_unknown (pow_pat a) u e = cc
at_unknown (prod_pat a b) u e = cc
at_unknown (Data n ps) u e = cc
at_unknown (Unknown w) u e = ap Unknown (eqb-true w u e)

pub is_at_itself : (p : Pat) (u : ℕ) → p ≡ Unknown u → is_at u p ≡ true
is_at_itself p u e = ap (is_at u) e ∙ eq-eqb u u refl

-- look-ups in a longer list
bound_front : (S T : List Bind) (u : ℕ) (p : Pat) → bound_to S u ≡ Some p → bound_to (S ++ T) u ≡ Some p
bound_front [] T u p e = let q : None ≡ Some p = e in cc
bound_front (b ∷ S) T u p e = go (b.unknown == u) refl (bound_front S T u p)
  where
    go : (x : Boolean) → (b.unknown == u) ≡ x → (bound_to S u ≡ Some p → bound_to (S ++ T) u ≡ Some p) → (if b.unknown == u then Some b.value else bound_to (S ++ T) u) ≡ Some p
    go true w again = ap (λ y. if y then Some b.value else bound_to (S ++ T) u) w ∙ sym (ap (λ y. if y then Some b.value else bound_to S u) w) ∙ e
    go false w again = ap (λ y. if y then Some b.value else bound_to (S ++ T) u) w ∙ again (sym (ap (λ y. if y then Some b.value else bound_to S u) w) ∙ e)

bound_back : (S T : List Bind) (u : ℕ) → bound_to S u ≡ None → bound_to (S ++ T) u ≡ bound_to T u
bound_back [] T u e = refl
bound_back (b ∷ S) T u e = go (b.unknown == u) refl (bound_back S T u)
  where
    go : (x : Boolean) → (b.unknown == u) ≡ x → (bound_to S u ≡ None → bound_to (S ++ T) u ≡ bound_to T u) → (if b.unknown == u then Some b.value else bound_to (S ++ T) u) ≡ bound_to T u
    go true w again = let q : Some b.value ≡ None = sym (ap (λ y. if y then Some b.value else bound_to S u) w) ∙ e in cc
    go false w again = ap (λ y. if y then Some b.value else bound_to (S ++ T) u) w ∙ again (sym (ap (λ y. if y then Some b.value else bound_to S u) w) ∙ e)

once_more : (S : List Bind) (b : Bind) → BindsOnce S → bound_to S b.unknown ≡ None → BindsOnce (S ++ b ∷ [])
once_more [] b h e = (refl, tt)
once_more (c ∷ S) b (here, h) e = go (c.unknown == b.unknown) refl (once_more S b h)
  where
    go : (x : Boolean) → (c.unknown == b.unknown) ≡ x → (bound_to S b.unknown ≡ None → BindsOnce (S ++ b ∷ [])) → BindsOnce (c ∷ (S ++ b ∷ []))
    go true w again = let q : Some c.value ≡ None = sym (ap (λ y. if y then Some c.value else bound_to S b.unknown) w) ∙ e in absurd (cc)
    go false w again = (
      bound_back S (b ∷ []) c.unknown here ∙ ap (λ y. if y then Some b.value else None) (ne_eqb b.unknown c.unknown (λ g. eqb-false c.unknown b.unknown w (sym g))),
      again (sym (ap (λ y. if y then Some c.value else bound_to S b.unknown) w) ∙ e),
    )

comes_later : (P : List Pat) (R : List ℕ) (n u : ℕ) (p : Pat) → ComesFrom P R n u p → ComesFrom P R (n + 1) u p
comes_later P R n u p c = record { place = c.place; within = omega (arith, c.within); there = c.there; value = c.value; other = c.other }

pub no_binds : (P : List Pat) (R : List ℕ) → HasBinds P R [] 0
no_binds P R = record {
  sound = λ u p e. let q : None ≡ Some p = e in absurd (cc);
  complete = λ i u l e. absurd (omega (arith, l));
  once = tt;
}

module _ (P : List Pat) (H R : List ℕ) (S : List Bind) (i : ℕ) (t : HasHomes P H) (c : AreClasses P H R) (inside : i < length P) (h : HasBinds P R S i) where
  -- nothing new, where the place's unknown is done
  kept : ((u : ℕ) → part P i ≡ Unknown u → (bound_to S u ≡ Some (part P (slice_index R i))) ⊎ (part P (slice_index R i) ≡ Unknown u)) → HasBinds P R S (i + 1)
  kept new = record {
    sound = λ u p e. comes_later P R i u p (h.sound u p e);
    complete = λ j u l e. elim (split_last j i l) as (λ _. (bound_to S u ≡ Some (part P (slice_index R j))) ⊎ (part P (slice_index R j) ≡ Unknown u)) [
      | inl a ↦ h.complete j u a e
      | inr b ↦ let Q : ℕ → Type 0 = λ x. (bound_to S u ≡ Some (part P (slice_index R x))) ⊎ (part P (slice_index R x) ≡ Unknown u) in
          subst Q (sym b) (new u (ap (part P) (sym b) ∙ e))
    ];
    once = h.once;
  }

  binds_away_lem : slice_index H i ≢ i → HasBinds P R S (i + 1)
  binds_away_lem n = kept (λ u e.
      let l : i < length H = omega (arith, inside, t.count) in
      let Q : ℕ → Type 0 = λ x. (bound_to S u ≡ Some (part P x)) ⊎ (part P x ≡ Unknown u) in
      subst Q (sym (c.homes i inside)) (h.complete (slice_index H i) u (omega (arith, t.below i l, n)) (t.home i u l e)))

  binds_known_lem : is_unknown (part P i) ≡ false → HasBinds P R S (i + 1)
  binds_known_lem known = kept (λ u e. let q : true ≡ false = sym (unknown_is (part P i) u e) ∙ known in absurd (cc))

  binds_itself_lem : (u : ℕ) → part P i ≡ Unknown u → is_at u (part P (slice_index R i)) ≡ true → HasBinds P R S (i + 1)
  binds_itself_lem u e a = kept (λ w g.
      let q : Unknown u ≡ Unknown w = sym e ∙ g in
      inr (at_unknown (part P (slice_index R i)) u a ∙ q))

  unbound : (u : ℕ) (o : Option Pat) → bound_to S u ≡ o → slice_index H i ≡ i → part P i ≡ Unknown u → bound_to S u ≡ None
  unbound u None q e there = q
  unbound u (Some p) q e there =
      let g = h.sound u p q in
      let l : i < length H = omega (arith, inside, t.count) in
      let m : g.place < length H = omega (arith, g.within, l) in
      let same : slice_index H g.place ≡ slice_index H i = t.alike g.place i u m l g.there there in
      absurd (omega (arith, same, e, t.below g.place m, g.within))

  binds_push : (u : ℕ) (b : Bind) → slice_index H i ≡ i → part P i ≡ Unknown u → is_at u (part P (slice_index R i)) ≡ false → b.unknown ≡ u → b.value ≡ part P (slice_index R i) → HasBinds P R (S ++ b ∷ []) (i + 1)
  binds_push u b e there a eu ev =
      let free : bound_to S u ≡ None = unbound u (bound_to S u) refl e there in
      let here : bound_to (S ++ b ∷ []) u ≡ Some (part P (slice_index R i)) = bound_back S (b ∷ []) u free ∙ ap (λ y. if y then Some b.value else None) (eq-eqb b.unknown u eu) ∙ ap Some ev in
      record {
        sound = λ w p q. from w p q (bound_to S w) refl;
        complete = λ j w l g. elim (split_last j i l) as (λ _. (bound_to (S ++ b ∷ []) w ≡ Some (part P (slice_index R j))) ⊎ (part P (slice_index R j) ≡ Unknown w)) [
          | inl k ↦ elim (h.complete j w k g) as (λ _. (bound_to (S ++ b ∷ []) w ≡ Some (part P (slice_index R j))) ⊎ (part P (slice_index R j) ≡ Unknown w)) [
            | inl x ↦ inl (bound_front S (b ∷ []) w (part P (slice_index R j)) x)
            | inr y ↦ inr y
          ]
          | inr k ↦ let q : Unknown u ≡ Unknown w = sym there ∙ ap (part P) (sym k) ∙ g in
              let v : u ≡ w = cc in
              inl (ap (bound_to (S ++ b ∷ [])) (sym v) ∙ here ∙ ap (λ x. Some (part P (slice_index R x))) (sym k))
        ];
        once = once_more S b h.once (ap (bound_to S) eu ∙ free);
      }
    where
      last : (w : ℕ) (p : Pat) (x : Boolean) → (b.unknown == w) ≡ x → (if b.unknown == w then Some b.value else None) ≡ Some p → ComesFrom P R (i + 1) w p
      last w p true k q =
          let v : b.unknown ≡ w = eqb-true b.unknown w k in
          let r : Some b.value ≡ Some p = sym (ap (λ y. if y then Some b.value else None) k) ∙ q in
          let s : b.value ≡ p = cc in
          let uw : u ≡ w = sym eu ∙ v in
          record {
            place = i;
            within = omega arith;
            there = there ∙ ap Unknown uw;
            value = sym s ∙ ev;
            other = ap (is_at w) (sym s ∙ ev) ∙ ap (λ x. is_at x (part P (slice_index R i))) (sym uw) ∙ a;
          }
      last w p false k q = let r : None ≡ Some p = sym (ap (λ y. if y then Some b.value else None) k) ∙ q in absurd (cc)

      from : (w : ℕ) (p : Pat) → bound_to (S ++ b ∷ []) w ≡ Some p → (o : Option Pat) → bound_to S w ≡ o → ComesFrom P R (i + 1) w p
      from w p q None k = last w p (b.unknown == w) refl (sym (bound_back S (b ∷ []) w k) ∙ q)
      from w p q (Some r) k =
          let x : Some r ≡ Some p = sym (bound_front S (b ∷ []) w r k) ∙ q in
          comes_later P R i w p (h.sound w p (k ∙ x))

pub binds_away : (P : List Pat) (H R : List ℕ) (S : List Bind) (i : ℕ) → HasHomes P H → AreClasses P H R → i < length P → HasBinds P R S i → slice_index H i ≢ i → HasBinds P R S (i + 1)
binds_away P H R S i t c l h n = binds_away_lem P H R S i t c l h n

pub binds_known : (P : List Pat) (H R : List ℕ) (S : List Bind) (i : ℕ) (p : Pat) → HasHomes P H → AreClasses P H R → i < length P → HasBinds P R S i → p ≡ part P i → ((u : ℕ) → p ≡ Unknown u → ⊥) → HasBinds P R S (i + 1)
binds_known P H R S i p t c l h e n = binds_known_lem P H R S i t c l h (ap is_unknown (sym e) ∙ known_by p n)

pub binds_itself : (P : List Pat) (H R : List ℕ) (S : List Bind) (i u : ℕ) (p v : Pat) → HasHomes P H → AreClasses P H R → i < length P → HasBinds P R S i → p ≡ part P i → p ≡ Unknown u → v ≡ part P (slice_index R i) → is_at u v ≡ true → HasBinds P R S (i + 1)
binds_itself P H R S i u p v t c l h e g ev a = binds_itself_lem P H R S i t c l h u (sym e ∙ g) (ap (is_at u) (sym ev) ∙ a)

pub binds_more : (P : List Pat) (H R : List ℕ) (S S' : List Bind) (i u : ℕ) (p v : Pat) (b : Bind) → HasHomes P H → AreClasses P H R → i < length P → HasBinds P R S i → slice_index H i ≡ i → p ≡ part P i → p ≡ Unknown u → v ≡ part P (slice_index R i) → is_at u v ≡ false → b.unknown ≡ u → b.value ≡ v → S' ≡ S ++ b ∷ [] → HasBinds P R S' (i + 1)
binds_more P H R S S' i u p v b t c l h home e g ev a eu eb es =
    let Q : List Bind → Type 0 = λ s. HasBinds P R s (i + 1) in
    subst Q (sym es) (binds_push P H R S i t c l h u b home (sym e ∙ g) (ap (is_at u) (sym ev) ∙ a) eu (eb ∙ ev))

pub ruleset walk = (no_binds, binds_away, binds_known, binds_itself, binds_more)
