-- A substitution that puts in no condition goes into conditions.
use Rattle.std.specs.Prelude.{pred, if◌then◌else◌, ◌||◌, ◌==◌}
use Rattle.std.proofs.Common.{◌≡◌, ℕ, zero, suc, ◌+◌, ◌-◌, ◌≤◌, ◌<◌, Bool as Boolean, true, false, List, [], ◌∷◌, ◌++◌, map, ap, sym, ◌∙◌, refl, arith, ⊎_elim}
use Rattle.std.proofs.Math.Path.{fun_ext}
use Rattle.std.proofs.lemmas.Bool.{cases_Bool, eqb-true}
use Rattle.std.proofs.lemmas.Bool.Decides.{nat_tests}
use Rattle.std.proofs.lemmas.List.{map-append}
use Rattle.ev_terms.specs.declared.types.Ty.{Ty, Int}
use Rattle.ev_terms.specs.declared.types.Tys.{Tys, Empty}
use Rattle.ev_terms.specs.declared.types.Sym.TheVariants.{Base, User}
use Rattle.ev_terms.specs.Types.{more}
use Rattle.ev_terms.specs.Term.{Term, Terms, var, lit, node, nil, cons}
use Rattle.ev_terms.specs.Symbols.{binds}
use Rattle.ev_terms.specs.Substitution.{shift_var, shift, shifts, lift, lifts, inst, insts}
use Rattle.ev_terms.proofs.Subst.{inst-inst}
use Rattle.ev_terms.proofs.Laws.{lifts-below, lifts-past, lifts-lifts, inst-id, shift-shift_merge}
use Rattle.ev_terms.proofs.AnyLaws.{inst-of_shift, inst-under_binders}
use Rattle.ev_typing.specs.Occurs.{has_var, have_var}
use Rattle.ev_forms.specs.Forms.{truth, is_truth, conj, disj, imp, forall, exists, mem, at_most}
use Rattle.ev_wd.specs.Makers.{make_and, make_imp, make_or, make_all, lowered, joined_after, joined}
use Rattle.ev_wd.specs.declared.rows.Demand.{Demand}
use Rattle.ev_wd.specs.declared.rows.Demand.TheVariants.{Nothing, Application, Quotient, Remainder, Power, Cardinality, Intersection, Minimum, Maximum}
use Rattle.ev_wd.specs.Demands.{is_not_empty, is_bounded, is_bounded_below, is_bounded_above, parts_of_one, parts_of_two, parts_of}
use Rattle.ev_wd.specs.WellDefined.{guarded}
use Rattle.ev_wd.proofs.Rules.{apart, or_false}

-- Substitutions that agree but at one variable agree on a term in which it does not occur.
lifts_but : (n k : ℕ) (σ τ : ℕ → Term) → ((i : ℕ) → (i ≡ k → ⊥) → σ i ≡ τ i) → (i : ℕ) → (i ≡ k + n → ⊥) → lifts n σ i ≡ lifts n τ i
lifts_but zero k σ τ h i ne = h i (λ e. ne (omega arith))
lifts_but (suc n) k σ τ h zero ne = refl
lifts_but (suc n) k σ τ h (suc i) ne = ap (λ t. shift t 0 1) (lifts_but n k σ τ h i (λ e. ne (omega arith)))

mutual
  pub inst_but : (t : Term) (k : ℕ) (σ τ : ℕ → Term) → ((i : ℕ) → (i ≡ k → ⊥) → σ i ≡ τ i) → has_var k t ≡ false → inst σ t ≡ inst τ t
  inst_but (var i) k σ τ h e = h i (apart i k e)
  inst_but (lit n) k σ τ h e = refl
  inst_but (node s As ts) k σ τ h e =
      ap (node s As) (insts_but ts (k + binds s) (lifts (binds s) σ) (lifts (binds s) τ) (lifts_but (binds s) k σ τ h) e)

  pub insts_but : (ts : Terms) (k : ℕ) (σ τ : ℕ → Term) → ((i : ℕ) → (i ≡ k → ⊥) → σ i ≡ τ i) → have_var k ts ≡ false → insts σ ts ≡ insts τ ts
  insts_but nil k σ τ h e = refl
  insts_but (cons t ts) k σ τ h e =
      let f = or_false (has_var k t) (have_var k ts) e in
      let p = inst_but t k σ τ h f.0 in let q = insts_but ts k σ τ h f.1 in cc

-- no variable that a shift has opened occurs
opened : (from by i j : ℕ) → from ≤ j → j < from + by → (shift_var from by i == j) ≡ false
opened from by i j h g = grind (arith, nat_tests)

mutual
  pub none_opened : (t : Term) (from by j : ℕ) → from ≤ j → j < from + by → has_var j (shift t from by) ≡ false
  none_opened (var i) from by j h g = opened from by i j h g
  none_opened (lit n) from by j h g = refl
  none_opened (node s As ts) from by j h g = none_opened_all ts (from + binds s) by (j + binds s) (omega arith) (omega arith)

  pub none_opened_all : (ts : Terms) (from by j : ℕ) → from ≤ j → j < from + by → have_var j (shifts ts from by) ≡ false
  none_opened_all nil from by j h g = refl
  none_opened_all (cons t ts) from by j h g =
      ap (λ b. b || have_var j (shifts ts from by)) (none_opened t from by j h g) ∙ none_opened_all ts from by j h g

-- A bound variable occurs after a substitution where it did before.
var_kept : (n : ℕ) (σ : ℕ → Term) (i : ℕ) → has_var n (lifts n (lift σ) i) ≡ (i == n)
var_kept n σ i = by (i - n) refl
  where
    below : i < n → has_var n (lifts n (lift σ) i) ≡ (i == n)
    below h = ap (has_var n) (lifts-below n (lift σ) i h)

    raised : (shift_var 0 n 0 == n) ≡ true
    raised = grind (arith, nat_tests)

    by : (j : ℕ) → j ≡ i - n → has_var n (lifts n (lift σ) i) ≡ (i == n)
    by zero e = ⊎_elim at_it (λ f. below (differs f)) (cases_Bool (i == n))
      where
        at_it : (i == n) ≡ true → has_var n (lifts n (lift σ) i) ≡ (i == n)
        at_it f =
            let g : i ≡ n = eqb-true i n f in
            let z : i - n ≡ zero = omega arith in
            ap (has_var n) (lifts-past n (lift σ) i (omega arith) ∙ ap (λ k. shift (lift σ k) 0 n) z) ∙ raised ∙ sym f

        differs : (i == n) ≡ false → i < n
        differs f = let g = apart i n f in omega (arith, g)
    by (suc j) e =
        let h : n ≤ i = omega arith in
        ap (has_var n) (lifts-past n (lift σ) i h ∙ ap (λ k. shift (lift σ k) 0 n) (sym e) ∙ shift-shift_merge (σ j) 0 1 0 n (omega arith) (omega arith))
        ∙ none_opened (σ j) 0 (1 + n) n (omega arith) (omega arith)
        ∙ sym (unequal (omega arith))
      where
        unequal : n < i → (i == n) ≡ false
        unequal g = grind (arith, nat_tests)

mutual
  pub has_var-inst : (t : Term) (n : ℕ) (σ : ℕ → Term) → has_var n (inst (lifts n (lift σ)) t) ≡ has_var n t
  has_var-inst (var i) n σ = var_kept n σ i
  has_var-inst (lit m) n σ = refl
  has_var-inst (node s As ts) n σ =
      ap (λ τ. have_var (n + binds s) (insts τ ts)) (lifts-lifts (binds s) n (lift σ)) ∙ have_var-insts ts (n + binds s) σ

  pub have_var-insts : (ts : Terms) (n : ℕ) (σ : ℕ → Term) → have_var n (insts (lifts n (lift σ)) ts) ≡ have_var n ts
  have_var-insts nil n σ = refl
  have_var-insts (cons t ts) n σ = let p = has_var-inst t n σ in let q = have_var-insts ts n σ in cc

-- what is lowered after a shift by one is as before
lowered-shift : (t : Term) → lowered (shift t 0 1) ≡ t
lowered-shift t = inst-of_shift (λ i. var (pred i)) t 0 1 ∙ ap (λ σ. inst σ t) (fun_ext (λ i. ap var (each i))) ∙ inst-id t
  where
    each : (i : ℕ) → pred (shift_var 0 1 i) ≡ i
    each i = grind (arith, nat_tests)

pub lowered-inst : (σ : ℕ → Term) (t : Term) → has_var 0 t ≡ false → inst σ (lowered t) ≡ lowered (inst (lift σ) t)
lowered-inst σ t e =
    inst-inst σ (λ i. var (pred i)) t
    ∙ inst_but t 0 (λ i. σ (pred i)) (λ i. lowered (lift σ i)) each e
    ∙ sym (inst-inst (λ i. var (pred i)) (lift σ) t)
  where
    each : (i : ℕ) → (i ≡ 0 → ⊥) → σ (pred i) ≡ lowered (lift σ i)
    each zero ne = absurd (ne refl)
    each (suc i) ne = sym (lowered-shift (σ i))

-- The makers, under a substitution that puts `true` for no variable.
abbrev pub IsNoTruth : (ℕ → Term) → Type 0
IsNoTruth σ = (i : ℕ) → is_truth (σ i) ≡ false

pub is_truth-inst : (σ : ℕ → Term) → IsNoTruth σ → (t : Term) → is_truth (inst σ t) ≡ is_truth t
is_truth-inst σ h (var i) = h i
is_truth-inst σ h (lit n) = refl
is_truth-inst σ h (node (Base zero) Empty nil) = refl
is_truth-inst σ h (node (Base zero) Empty (cons t ts)) = refl
is_truth-inst σ h (node (Base zero) (more A As) ts) = refl
is_truth-inst σ h (node (Base (suc k)) As ts) = refl
is_truth-inst σ h (node (User n) As ts) = refl

pub and-inst : (σ : ℕ → Term) → IsNoTruth σ → (P Q : Term) → inst σ (make_and P Q) ≡ make_and (inst σ P) (inst σ Q)
unfolding binds
and-inst σ h P Q =
    by (is_truth P) (is_truth Q)
    ∙ sym (ap (λ b. if b then inst σ Q else (if is_truth (inst σ Q) then inst σ P else conj (inst σ P) (inst σ Q))) (is_truth-inst σ h P)
    ∙ ap (λ c. if is_truth P then inst σ Q else (if c then inst σ P else conj (inst σ P) (inst σ Q))) (is_truth-inst σ h Q))
  where
    by : (b c : Boolean) → inst σ (if b then Q else (if c then P else conj P Q)) ≡ (if b then inst σ Q else (if c then inst σ P else conj (inst σ P) (inst σ Q)))
    by true c = refl
    by false true = refl
    by false false = refl

pub imp-inst : (σ : ℕ → Term) → IsNoTruth σ → (P Q : Term) → inst σ (make_imp P Q) ≡ make_imp (inst σ P) (inst σ Q)
unfolding binds
imp-inst σ h P Q =
    by (is_truth Q) (is_truth P)
    ∙ sym (ap (λ b. if b then truth else (if is_truth (inst σ P) then inst σ Q else imp (inst σ P) (inst σ Q))) (is_truth-inst σ h Q)
    ∙ ap (λ c. if is_truth Q then truth else (if c then inst σ Q else imp (inst σ P) (inst σ Q))) (is_truth-inst σ h P))
  where
    by : (b c : Boolean) → inst σ (if b then truth else (if c then Q else imp P Q)) ≡ (if b then truth else (if c then inst σ Q else imp (inst σ P) (inst σ Q)))
    by true c = refl
    by false true = refl
    by false false = refl

pub or-inst : (σ : ℕ → Term) → IsNoTruth σ → (P Q : Term) → inst σ (make_or P Q) ≡ make_or (inst σ P) (inst σ Q)
unfolding binds
or-inst σ h P Q =
    by (is_truth P) (is_truth Q)
    ∙ sym (ap (λ b. if b || is_truth (inst σ Q) then truth else disj (inst σ P) (inst σ Q)) (is_truth-inst σ h P)
    ∙ ap (λ c. if is_truth P || c then truth else disj (inst σ P) (inst σ Q)) (is_truth-inst σ h Q))
  where
    by : (b c : Boolean) → inst σ (if b || c then truth else disj P Q) ≡ (if b || c then truth else disj (inst σ P) (inst σ Q))
    by true c = refl
    by false true = refl
    by false false = refl

pub all-inst : (σ : ℕ → Term) (A : Ty) (P : Term) → inst σ (make_all A P) ≡ make_all A (inst (lift σ) P)
unfolding binds
all-inst σ A P =
    by (has_var 0 P) refl
    ∙ sym (ap (λ b. if b then forall A (inst (lift σ) P) else lowered (inst (lift σ) P)) (has_var-inst P 0 σ))
  where
    by : (b : Boolean) → has_var 0 P ≡ b → inst σ (if b then forall A P else lowered P) ≡ (if b then forall A (inst (lift σ) P) else lowered (inst (lift σ) P))
    by true e = refl
    by false e = lowered-inst σ P e

pub after-inst : (σ : ℕ → Term) → IsNoTruth σ → (P : Term) (Qs : List Term) → inst σ (joined_after P Qs) ≡ joined_after (inst σ P) (map (inst σ) Qs)
after-inst σ h P [] = refl
after-inst σ h P (Q ∷ Qs) = after-inst σ h (make_and P Q) Qs ∙ ap (λ R. joined_after R (map (inst σ) Qs)) (and-inst σ h P Q)

pub joined-inst : (σ : ℕ → Term) → IsNoTruth σ → (Qs : List Term) → inst σ (joined Qs) ≡ joined (map (inst σ) Qs)
joined-inst σ h Qs = after-inst σ h truth Qs

-- What a base symbol asks.
bounded-inst : (σ : ℕ → Term) (S : Term) (P : Term) → inst (lift (lift σ)) P ≡ P → inst σ (is_bounded P S) ≡ is_bounded P (inst σ S)
unfolding binds
bounded-inst σ S P e =
    ap (λ X. exists Int (forall Int (imp (mem Int (var 0) X) (inst (lift (lift σ)) P)))) (inst-under_binders 2 σ S)
    ∙ ap (λ X. exists Int (forall Int (imp (mem Int (var 0) (shift (inst σ S) 0 2)) X))) e

below-inst : (σ : ℕ → Term) (S : Term) → inst σ (is_bounded_below S) ≡ is_bounded_below (inst σ S)
unfolding binds
below-inst σ S = bounded-inst σ S (at_most (var 1) (var 0)) refl

above-inst : (σ : ℕ → Term) (S : Term) → inst σ (is_bounded_above S) ≡ is_bounded_above (inst σ S)
unfolding binds
above-inst σ S = bounded-inst σ S (at_most (var 0) (var 1)) refl

one-inst : (σ : ℕ → Term) (a : Demand) (As : Tys) (S : Term) → map (inst σ) (parts_of_one a As S) ≡ parts_of_one a As (inst σ S)
unfolding binds
one-inst σ Nothing As S = refl
one-inst σ Application As S = refl
one-inst σ Quotient As S = refl
one-inst σ Remainder As S = refl
one-inst σ Power As S = refl
one-inst σ Cardinality As S = refl
one-inst σ Intersection As S = refl
one-inst σ Minimum As S = ap (λ X. is_not_empty Int (inst σ S) ∷ X ∷ []) (below-inst σ S)
one-inst σ Maximum As S = ap (λ X. is_not_empty Int (inst σ S) ∷ X ∷ []) (above-inst σ S)

two-inst : (σ : ℕ → Term) (a : Demand) (As : Tys) (E F : Term) → map (inst σ) (parts_of_two a As E F) ≡ parts_of_two a As (inst σ E) (inst σ F)
unfolding binds
two-inst σ Nothing As E F = refl
two-inst σ Application As E F = refl
two-inst σ Quotient As E F = refl
two-inst σ Remainder As E F = refl
two-inst σ Power As E F = refl
two-inst σ Cardinality As E F = refl
two-inst σ Intersection As E F = refl
two-inst σ Minimum As E F = refl
two-inst σ Maximum As E F = refl

pub parts-inst : (σ : ℕ → Term) (a : Demand) (As : Tys) (ts : List Term) → map (inst σ) (parts_of a As ts) ≡ parts_of a As (map (inst σ) ts)
parts-inst σ a As [] = refl
parts-inst σ a As (S ∷ []) = one-inst σ a As S
parts-inst σ a As (E ∷ F ∷ []) = two-inst σ a As E F
parts-inst σ a As (E ∷ F ∷ G ∷ ts) = refl

-- Guards.
pub guarded-inst : (σ : ℕ → Term) → IsNoTruth σ → (make : Term → Term → Term) → ((P Q : Term) → inst σ (make P Q) ≡ make (inst σ P) (inst σ Q)) → (ts Ds : List Term) →
    inst σ (guarded make ts Ds) ≡ guarded make (map (inst σ) ts) (map (inst σ) Ds)
guarded-inst σ h make m [] Ds = joined-inst σ h Ds
guarded-inst σ h make m (P ∷ []) Ds = joined-inst σ h Ds
guarded-inst σ h make m (P ∷ Q ∷ []) [] = joined-inst σ h []
guarded-inst σ h make m (P ∷ Q ∷ []) (D ∷ []) = joined-inst σ h (D ∷ [])
guarded-inst σ h make m (P ∷ Q ∷ []) (D ∷ E ∷ []) = and-inst σ h D (make P E) ∙ ap (make_and (inst σ D)) (m P E)
guarded-inst σ h make m (P ∷ Q ∷ []) (D ∷ E ∷ F ∷ Ds) = joined-inst σ h (D ∷ E ∷ F ∷ Ds)
guarded-inst σ h make m (P ∷ Q ∷ R ∷ ts) Ds = joined-inst σ h Ds

pub map-parts : (σ : ℕ → Term) → IsNoTruth σ → (Ds ps qs : List Term) → map (inst σ) ps ≡ qs → inst σ (joined (Ds ++ ps)) ≡ joined (map (inst σ) Ds ++ qs)
map-parts σ h Ds ps qs e = joined-inst σ h (Ds ++ ps) ∙ ap joined (map-append (inst σ) Ds ps ∙ ap (λ us. map (inst σ) Ds ++ us) e)
