-- Steps that cite a rule.
use Rattle.std.specs.Prelude.{◌≡◌, ◌++◌, ℕ, List, [], ◌∷◌, Option, Some, None, map, length, reverse, refl}
use Rattle.std.specs.List.{AllByRecursion}
use Rattle.std.proofs.Common.{ap, sym, ◌∙◌, subst as transport}
use Rattle.ev_terms.specs.declared.types.Ty.{Ty, Int, Bool, Prop, Param, Data}
use Rattle.ev_terms.specs.Types.{pow, prod, type_list}
use Rattle.ev_terms.specs.Term.{Term, terms}
use Rattle.ev_terms.specs.Substitution.{shift, lifts, inst, entry, fill, retype, type_inst}
use Rattle.ev_forms.specs.Forms.{conj, imp, eq, iff, forall, forall_all, equation}
use Rattle.ev_typing.specs.declared.typing.Sequent.{Sequent}
use Rattle.ev_typing.specs.Env.{Env}
use Rattle.ev_typing.specs.Parts.{base}
use Rattle.ev_typing.specs.Typing.{IsProper, AreTyped, IsPredicate, IsSequent}
use Rattle.ev_typing.specs.Sequents.{◌⊢◌}
use Rattle.ev_typing.specs.BaseSequents.{widened}
use Rattle.ev_typing.proofs.Laws.{type_list-types}
use Rattle.ev_typing.proofs.Names.{all_append}
use Rattle.ev_kernel.specs.declared.rules.BaseRule.TheVariants as rule
use Rattle.ev_kernel.specs.Derivable.{Derivable}
use Rattle.ev_rewrite.specs.Places.{node_at, path_types, replace_at}
use Rattle.ev_oblig.specs.Obligations.{conj_all, under_condition, inference_formula}
use Rattle.ev_sound.specs.Equations.{AreEqual}
use Rattle.ev_sound.proofs.Established.{IsEstablished}
use Rattle.ev_typing.specs.WellFormed.{IsWellFormed}
use Rattle.ev_congruence.proofs.Terms.{equation_eq, proper_list, list_proper}
use Rattle.ev_congruence.proofs.Contexts.{base_goal, shifted_typed}
use Rattle.ev_sound.proofs.Derived.{base_of, by_row, two, ponens}
use Rattle.ev_sound.proofs.Connectives.{and_binds, implies_binds, equal_binds, iff_binds, conj_typed}
use Rattle.ev_sound.proofs.Rows.{U, US}
use Rattle.ev_sound.proofs.Quantified.{unfolded_widened}
use Rattle.ev_sound.proofs.Bodies.{equation_unfolded}
use Rattle.ev_sound.proofs.Cong.{head_of, tail_of}
use Rattle.ev_sound.proofs.Citing.{formula_cited}
use Rattle.ev_sound.proofs.Replaced.{replaced_at}
use Rattle.ev_sound.proofs.Steps.{Unfolded, AllUnfolded}

both : (env : Env) (S : Sequent) (P Q : Term) → Derivable env (S ⊢ P) → Derivable env (S ⊢ Q) → Derivable env (S ⊢ conj P Q)
both env S P Q d e =
    let p = base_of env (S ⊢ P) d in
    let q = base_of env (S ⊢ Q) e in
    by_row env ((S ⊢ P) ∷ (S ⊢ Q) ∷ []) rule.AndI (S ⊢ conj P Q) (P, Q, record { concludes = refl; premises_are = refl })
    (base_goal env S (conj P Q) (record { proper = p.typed.context; hyps = p.typed.hyps; plain = p.plain_hyps }) (conj_typed env (type_list S.context) P Q p.typed.goal q.typed.goal) (refl, (p.plain_goal, (q.plain_goal, tt))))
    (two env (S ⊢ P) (S ⊢ Q) d e)

-- Types and terms put into formulas.
module _ (θ : ℕ → Ty) (ts : List Term) where
  abbrev pub filled : Term → Term
  filled P = fill (retype θ P) ts

  filled_conj : (P Q : Term) → filled (conj P Q) ≡ conj (filled P) (filled Q)
  filled_conj P Q = ap (λ k. conj (inst (lifts k (entry (reverse ts))) (retype θ P)) (inst (lifts k (entry (reverse ts))) (retype θ Q))) and_binds

  filled_imp : (P Q : Term) → filled (imp P Q) ≡ imp (filled P) (filled Q)
  filled_imp P Q = ap (λ k. imp (inst (lifts k (entry (reverse ts))) (retype θ P)) (inst (lifts k (entry (reverse ts))) (retype θ Q))) implies_binds

  pub filled_eq : (A : Ty) (l r : Term) → filled (eq A l r) ≡ eq (type_inst θ A) (filled l) (filled r)
  filled_eq A l r = ap (λ k. eq (type_inst θ A) (inst (lifts k (entry (reverse ts))) (retype θ l)) (inst (lifts k (entry (reverse ts))) (retype θ r))) equal_binds

  filled_iff : (l r : Term) → filled (iff l r) ≡ iff (filled l) (filled r)
  filled_iff l r = ap (λ k. iff (inst (lifts k (entry (reverse ts))) (retype θ l)) (inst (lifts k (entry (reverse ts))) (retype θ r))) iff_binds

  pub filled_equation : (env : Env) → ((i : ℕ) → IsProper env (θ i)) → (A : Ty) (l r : Term) → filled (equation A l r) ≡ equation (type_inst θ A) (filled l) (filled r)
  filled_equation env p Int l r = filled_eq Int l r
  filled_equation env p Bool l r = filled_eq Bool l r
  filled_equation env p Prop l r = filled_iff l r
  filled_equation env p (Param i) l r = filled_eq (Param i) l r ∙ equation_eq (θ i) (filled l) (filled r) (λ e. transport (IsProper env) e (p i))
  filled_equation env p (pow A) l r = filled_eq (pow A) l r
  filled_equation env p (prod A B) l r = filled_eq (prod A B) l r
  filled_equation env p (Data n As) l r = filled_eq (Data n As) l r

  filled_all : (P : Term) (Ps : List Term) → filled (conj_all P Ps) ≡ conj_all (filled P) (map filled Ps)
  filled_all P [] = refl
  filled_all P (Q ∷ Qs) = filled_all (conj P Q) Qs ∙ ap (λ x. conj_all x (map filled Qs)) (filled_conj P Q)

-- Types put into a quantified formula.
retype_all : (θ : ℕ → Ty) (Bs : List Ty) (P : Term) → retype θ (forall_all Bs P) ≡ forall_all (map (type_inst θ) Bs) (retype θ P)
retype_all θ [] P = refl
retype_all θ (B ∷ Bs) P = ap (forall (type_inst θ B)) (retype_all θ Bs P)

-- Predicates in a longer context.
shifted_all : (env : Env) (C Bs : List Ty) (Ps : List Term) → AllByRecursion (IsPredicate env C) Ps → AllByRecursion (IsPredicate env (C ++ Bs)) (map (λ P. shift P 0 (length Bs)) Ps)
shifted_all env C Bs [] h = tt
shifted_all env C Bs (P ∷ Ps) h = (shifted_typed env C Bs P Prop h.0, shifted_all env C Bs Ps h.1)

-- the goal for a condition, where there is one
abbrev pub condition_goal_of : Sequent → (Term → Term) → Option Term → List Sequent
condition_goal_of W f None = []
condition_goal_of W f (Some C) = (W ⊢ f C) ∷ []

module _ (env : Env) (u : IsWellFormed env) where
  -- the formula of a rule at its instance
  pub rule_cited : (S : Sequent) (xs : List Ty) (P : Term) (θ : ℕ → Ty) (ts : List Term) → IsSequent env S → ((i : ℕ) → IsProper env (θ i)) → AreTyped env (type_list S.context) (terms ts) (map (type_inst θ) xs) →
      IsEstablished env (forall_all xs P) → Derivable (base env) (US env S ⊢ U env (fill (retype θ P) ts))
  rule_cited S xs P θ ts h p k e = formula_cited env u S (forall_all xs P) θ (map (type_inst θ) xs) (retype θ P) ts h e.typed p (retype_all θ xs P) k e.derivable

  -- all givens together
  all_together : (S : Sequent) (P : Term) (Ps : List Term) → Derivable (base env) (US env S ⊢ U env P) → AllUnfolded env u (map (λ G. S ⊢ G) Ps) → Derivable (base env) (US env S ⊢ U env (conj_all P Ps))
  all_together S P [] d ds = d
  all_together S P (Q ∷ Qs) d ds =
      all_together S (conj P Q) Qs (both (base env) (US env S) (U env P) (U env Q) d (head_of (base env) (US env (S ⊢ Q)) (map (US env) (map (λ G. S ⊢ G) Qs)) ds))
      (tail_of (base env) (US env (S ⊢ Q)) (map (US env) (map (λ G. S ⊢ G) Qs)) ds)

  map_map : (S : Sequent) (f : Term → Term) (Ps : List Term) → map (λ G. S ⊢ f G) Ps ≡ map (λ G. S ⊢ G) (map f Ps)
  map_map S f [] = refl
  map_map S f (P ∷ Ps) = ap (λ xs. (S ⊢ f P) ∷ xs) (map_map S f Ps)

  -- An inference rule.
  pub infer_sound : (S : Sequent) (xs : List Ty) (givens : List Term) (Q : Term) (θ : ℕ → Ty) (ts : List Term) → IsSequent env S → ((i : ℕ) → IsProper env (θ i)) → AreTyped env (type_list S.context) (terms ts) (map (type_inst θ) xs) →
      fill (retype θ Q) ts ≡ S.goal → IsEstablished env (forall_all xs (inference_formula givens Q)) → AllUnfolded env u (map (λ G. S ⊢ fill (retype θ G) ts) givens) → Unfolded env u S
  infer_sound S xs [] Q θ ts h p k i e ds = transport (λ G. Derivable (base env) (US env S ⊢ U env G)) i (rule_cited S xs Q θ ts h p k e)
  infer_sound S xs (G ∷ Gs) Q θ ts h p k i e ds =
      let f = filled θ ts in
      let rule : Derivable (base env) (US env S ⊢ U env (imp (conj_all (f G) (map f Gs)) S.goal)) =
      transport (λ x. Derivable (base env) (US env S ⊢ U env x)) (filled_imp θ ts (conj_all G Gs) Q ∙ ap (λ x. imp x (f Q)) (filled_all θ ts G Gs) ∙ ap (imp (conj_all (f G) (map f Gs))) i)
      (rule_cited S xs (imp (conj_all G Gs) Q) θ ts h p k e) in
      ponens (base env) (US env S) (U env (conj_all (f G) (map f Gs))) (U env S.goal) rule
      (all_together S (f G) (map f Gs) (head_of (base env) (US env (S ⊢ f G)) (map (US env) (map (λ x. S ⊢ f x) Gs)) ds)
      (transport (AllUnfolded env u) (map_map S f Gs) (tail_of (base env) (US env (S ⊢ f G)) (map (US env) (map (λ x. S ⊢ f x) Gs)) ds)))

  -- A sequent in a longer context.
  pub widened_typed : (S : Sequent) (Bs : List Ty) → IsSequent env S → AllByRecursion (IsProper env) Bs → IsSequent env (widened S Bs)
  widened_typed S Bs h p = record {
    context = list_proper env (type_list S.context ++ Bs) (all_append (IsProper env) (type_list S.context) Bs (proper_list env S.context h.context) p);
    hyps = transport (λ D. AllByRecursion (IsPredicate env D) (widened S Bs).hyps) (sym (type_list-types (type_list S.context ++ Bs))) (shifted_all env (type_list S.context) Bs S.hyps h.hyps);
    goal = transport (λ D. IsPredicate env D (widened S Bs).goal) (sym (type_list-types (type_list S.context ++ Bs))) (shifted_typed env (type_list S.context) Bs S.goal Prop h.goal);
  }

  -- from an equation at a place
  pub by_equation : (S : Sequent) (place : List ℕ) (old new G : Term) (Bs : List Ty) (B : Ty) → IsSequent env S → IsSequent env (S ⊢ G) → node_at S.goal place ≡ Some old → path_types S.goal place ≡ Some Bs →
      replace_at S.goal place new ≡ Some G → Derivable (base env) (US env (widened S Bs) ⊢ U env (equation B old new)) → Unfolded env u (S ⊢ G) → Unfolded env u S
  by_equation S place old new G Bs B h g n q v line d =
      let equal : AreEqual (base env) (widened (US env S) Bs) B (U env old) (U env new) =
      transport (λ x. Derivable (base env) (widened (US env S) Bs ⊢ x)) (equation_unfolded env B old new)
      (transport (Derivable (base env)) (unfolded_widened env u S Bs (equation B old new) h.hyps) line) in
      replaced_at env u place S old new G Bs B h g n q v equal d

  -- the equation of a branch, where its condition is
  branch_equal : (W : Sequent) (xs : List Ty) (o : Option Term) (A : Ty) (l r : Term) (θ : ℕ → Ty) (ts : List Term) → IsSequent env W → ((i : ℕ) → IsProper env (θ i)) →
      AreTyped env (type_list W.context) (terms ts) (map (type_inst θ) xs) → IsEstablished env (forall_all xs (under_condition o (equation A l r))) → AllUnfolded env u (condition_goal_of W (filled θ ts) o) →
      Derivable (base env) (US env W ⊢ U env (equation (type_inst θ A) (filled θ ts l) (filled θ ts r)))
  branch_equal W xs None A l r θ ts h p k e ds = transport (λ x. Derivable (base env) (US env W ⊢ U env x)) (filled_equation θ ts env p A l r) (rule_cited W xs (equation A l r) θ ts h p k e)
  branch_equal W xs (Some C) A l r θ ts h p k e ds =
      let f = filled θ ts in
      ponens (base env) (US env W) (U env (f C)) (U env (equation (type_inst θ A) (f l) (f r)))
      (transport (λ x. Derivable (base env) (US env W ⊢ U env x)) (filled_imp θ ts C (equation A l r) ∙ ap (imp (f C)) (filled_equation θ ts env p A l r)) (rule_cited W xs (imp C (equation A l r)) θ ts h p k e))
      (head_of (base env) (US env (W ⊢ f C)) [] ds)

  -- A branch of a rewrite rule.
  pub rewrite_sound : (S : Sequent) (place : List ℕ) (xs : List Ty) (o : Option Term) (A : Ty) (l r : Term) (θ : ℕ → Ty) (ts : List Term) (Bs : List Ty) (old G : Term) → IsSequent env S → IsSequent env (S ⊢ G) →
      AllByRecursion (IsProper env) Bs → ((i : ℕ) → IsProper env (θ i)) → AreTyped env (type_list S.context ++ Bs) (terms ts) (map (type_inst θ) xs) → fill (retype θ l) ts ≡ old →
      node_at S.goal place ≡ Some old → path_types S.goal place ≡ Some Bs → replace_at S.goal place (fill (retype θ r) ts) ≡ Some G →
      IsEstablished env (forall_all xs (under_condition o (equation A l r))) → AllUnfolded env u (condition_goal_of (widened S Bs) (filled θ ts) o) → Unfolded env u (S ⊢ G) → Unfolded env u S
  rewrite_sound S place xs o A l r θ ts Bs old G h g b p k i n q v e ds d =
      let f = filled θ ts in
      let W = widened S Bs in
      let line : Derivable (base env) (US env W ⊢ U env (equation (type_inst θ A) (f l) (f r))) =
      branch_equal W xs o A l r θ ts (widened_typed S Bs h b) p (transport (λ D. AreTyped env D (terms ts) (map (type_inst θ) xs)) (sym (type_list-types (type_list S.context ++ Bs))) k) e ds in
      by_equation S place old (f r) G Bs (type_inst θ A) h g n q v (transport (λ x. Derivable (base env) (US env W ⊢ U env (equation (type_inst θ A) x (f r)))) i line) d
