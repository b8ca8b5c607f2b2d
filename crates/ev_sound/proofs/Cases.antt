-- A complete rewrite rule: by cases on the conditions of its branches.
use Rattle.std.specs.Prelude.{◌≡◌, ◌≢◌, ◌++◌, ℕ, suc, List, [], ◌∷◌, Option, Some, None, map, slice_get, fold, reverse, Contains, refl}
use Rattle.std.specs.List.{AllByRecursion, AllZip}
use Rattle.std.proofs.Common.{ap, sym, ◌∙◌, subst as transport}
use Rattle.ev_terms.specs.declared.types.Ty.{Ty, Prop}
use Rattle.ev_terms.specs.Types.{type_list}
use Rattle.ev_terms.specs.Term.{Term, terms}
use Rattle.ev_terms.specs.Substitution.{lifts, inst, entry, retype, type_inst}
use Rattle.ev_forms.specs.Forms.{disj, forall_all, equation}
use Rattle.ev_typing.specs.declared.typing.Sequent.{Sequent}
use Rattle.ev_typing.specs.Env.{Env}
use Rattle.ev_typing.specs.Parts.{base}
use Rattle.ev_typing.specs.Typing.{IsProper, Typed, AreTyped, IsPredicate, IsSequent, type_in}
use Rattle.ev_typing.specs.Occurs.{IsPlain}
use Rattle.ev_typing.specs.Sequents.{◌⊢◌, ◌▹◌}
use Rattle.ev_typing.specs.BaseSequents.{IsBaseSequent, widened}
use Rattle.ev_typing.proofs.Names.{all_append}
use Rattle.ev_kernel.specs.declared.rules.BaseRule.TheVariants as rule
use Rattle.ev_kernel.specs.Derivable.{numbered, Derivable, none, more}
use Rattle.ev_rewrite.specs.Places.{node_at, path_types, replace_at}
use Rattle.ev_rewrite.specs.Instances.{assigned}
use Rattle.ev_rules.specs.Params.{element_params}
use Rattle.ev_rules.specs.declared.elements.Element.TheVariants as element
use Rattle.ev_rules.specs.declared.elements.Branch.{Branch}
use Rattle.ev_oblig.specs.Obligations.{condition_or_truth, under_condition, disj_all}
use Rattle.ev_proof.specs.declared.steps.Ref.{Ref}
use Rattle.ev_proof.specs.declared.steps.Cite.{Cite}
use Rattle.ev_replay.specs.declared.scopes.Scope.{Scope}
use Rattle.ev_replay.specs.StepForms.{IsBranchGoal, ByCases}
use Rattle.ev_sound.specs.Unfoldings.{HasDerivableUnfolding, HaveDerivableUnfoldings}
use Rattle.ev_sound.proofs.Established.{IsEstablished}
use Rattle.ev_sound.proofs.Citable.{IsCitable}
use Rattle.ev_typing.specs.WellFormed.{IsWellFormed}
use Rattle.ev_congruence.proofs.Terms.{append_nil}
use Rattle.ev_sound.proofs.Congruence.{widened_none}
use Rattle.ev_sound.proofs.Connectives.{or_binds, disj_typed}
use Rattle.ev_sound.proofs.Derived.{base_of, by_row, weakened, cut}
use Rattle.ev_sound.proofs.Rows.{U, US, added}
use Rattle.ev_ops.proofs.Basics.{contains_more, contains_first}
use Rattle.ev_ops.proofs.Basing.{sequent_over_base}
use Rattle.ev_ops.proofs.Fitting.{contains_front, contains_last}
use Rattle.ev_sound.proofs.Cong.{head_of, tail_of}
use Rattle.ev_sound.proofs.Rules.{filled, condition_goal_of, rule_cited, rewrite_sound}
use Rattle.ev_sound.proofs.Typing.{place_typed}
use Rattle.ev_sound.proofs.Table.{rule_types}

-- Hypotheses at the end.
last_of : (P : Term → Type 0) (H : List Term) (Q : Term) → AllByRecursion P (H ++ Q ∷ []) → P Q
last_of P [] Q h = h.0
last_of P (R ∷ H) Q h = last_of P H Q h.1

front_of : (P : Term → Type 0) (H : List Term) (Q : Term) → AllByRecursion P (H ++ Q ∷ []) → AllByRecursion P H
front_of P [] Q h = tt
front_of P (R ∷ H) Q h = (h.0, front_of P H Q h.1)

each_contained : (H K : List Term) → ((x : Term) → Contains H x → Contains K x) → AllByRecursion (Contains K) H
each_contained [] K f = tt
each_contained (x ∷ H) K f = (f x (contains_first x H), each_contained H K (λ y c. f y (contains_more y x H c)))

beside : (H : List Term) (D P : Term) → AllByRecursion (Contains ((H ++ D ∷ []) ++ P ∷ [])) (H ++ P ∷ [])
beside H D P =
    all_append (Contains ((H ++ D ∷ []) ++ P ∷ [])) H (P ∷ []) (each_contained H ((H ++ D ∷ []) ++ P ∷ []) (λ x c. contains_front (H ++ D ∷ []) (P ∷ []) x (contains_front H (D ∷ []) x c))) (contains_last (H ++ D ∷ []) P, tt)

module _ (env : Env) where
  -- a hypothesis before the last one more
  under_more : (S : Sequent) (D P : Term) → IsPredicate env (type_list S.context) D → IsPlain env D → Derivable env (S ▹ P) → Derivable env (S ▹ D ▹ P)
  under_more S D P h p d =
      let b = base_of env (S ▹ P) d in
      weakened env (S ▹ P) ((S.hyps ++ D ∷ []) ++ P ∷ []) (beside S.hyps D P)
      (all_append (IsPredicate env (type_list S.context)) (S.hyps ++ D ∷ []) (P ∷ [])
      (all_append (IsPredicate env (type_list S.context)) S.hyps (D ∷ []) (front_of (IsPredicate env (type_list S.context)) S.hyps P b.typed.hyps) (h, tt)) (last_of (IsPredicate env (type_list S.context)) S.hyps P b.typed.hyps, tt))
      (all_append (IsPlain env) (S.hyps ++ D ∷ []) (P ∷ []) (all_append (IsPlain env) S.hyps (D ∷ []) (front_of (IsPlain env) S.hyps P b.plain_hyps) (p, tt)) (last_of (IsPlain env) S.hyps P b.plain_hyps, tt)) d

  -- the last hypothesis
  last_hyp : (S : Sequent) (P : Term) → IsBaseSequent env (S ▹ P) → Derivable env (S ▹ P ⊢ P)
  last_hyp S P b =
      by_row env [] rule.Hyp (S ▹ P ⊢ P) (refl, contains_last S.hyps P)
      (record {
        typed = record { context = b.typed.context; hyps = b.typed.hyps; goal = last_of (IsPredicate env (type_list S.context)) S.hyps P b.typed.hyps };
        plain_hyps = b.plain_hyps;
        plain_goal = last_of (IsPlain env) S.hyps P b.plain_hyps;
      }) none

  -- from either of two
  either : (S : Sequent) (P Q : Term) → Derivable env (S ▹ P) → Derivable env (S ▹ Q) → Derivable env (S ▹ disj P Q)
  either S P Q d e =
      let p = base_of env (S ▹ P) d in
      let q = base_of env (S ▹ Q) e in
      let D = disj P Q in
      let typed : IsPredicate env (type_list S.context) D =
      disj_typed env (type_list S.context) P Q (last_of (IsPredicate env (type_list S.context)) S.hyps P p.typed.hyps) (last_of (IsPredicate env (type_list S.context)) S.hyps Q q.typed.hyps) in
      let plain : IsPlain env D = (refl, (last_of (IsPlain env) S.hyps P p.plain_hyps, (last_of (IsPlain env) S.hyps Q q.plain_hyps, tt))) in
      let b : IsBaseSequent env (S ▹ D) = record {
        typed = record {
          context = p.typed.context;
          hyps = all_append (IsPredicate env (type_list S.context)) S.hyps (D ∷ []) (front_of (IsPredicate env (type_list S.context)) S.hyps P p.typed.hyps) (typed, tt);
          goal = p.typed.goal;
        };
        plain_hyps = all_append (IsPlain env) S.hyps (D ∷ []) (front_of (IsPlain env) S.hyps P p.plain_hyps) (plain, tt);
        plain_goal = p.plain_goal;
      } in
      by_row env ((S ▹ D ⊢ D) ∷ (S ▹ D ▹ P) ∷ (S ▹ D ▹ Q) ∷ []) rule.OrE (S ▹ D) (P, Q, refl) b
      (more (S ▹ D ⊢ D) ((S ▹ D ▹ P) ∷ (S ▹ D ▹ Q) ∷ []) (last_hyp S D b)
      (more (S ▹ D ▹ P) ((S ▹ D ▹ Q) ∷ []) (under_more S D P typed plain d) (more (S ▹ D ▹ Q) [] (under_more S D Q typed plain e) none)))

  -- from each of several
  any_of : (S : Sequent) (P : Term) (Ps : List Term) → Derivable env (S ⊢ fold disj P Ps) → Derivable env (S ▹ P) → AllByRecursion (λ Q. Derivable env (S ▹ Q)) Ps → Derivable env S
  any_of S P [] c d ds = cut env S P c d
  any_of S P (Q ∷ Qs) c d ds = any_of S (disj P Q) Qs c (either S P Q d ds.0) ds.1

module _ (θ : ℕ → Ty) (ts : List Term) where
  filled_disj : (P Q : Term) → filled θ ts (disj P Q) ≡ disj (filled θ ts P) (filled θ ts Q)
  filled_disj P Q = ap (λ k. disj (inst (lifts k (entry (reverse ts))) (retype θ P)) (inst (lifts k (entry (reverse ts))) (retype θ Q))) or_binds

  filled_any : (P : Term) (Ps : List Term) → filled θ ts (fold disj P Ps) ≡ fold disj (filled θ ts P) (map (filled θ ts) Ps)
  filled_any P [] = refl
  filled_any P (Q ∷ Qs) = filled_any (disj P Q) Qs ∙ ap (λ x. fold disj x (map (filled θ ts) Qs)) (filled_disj P Q)

any_unfolded : (env : Env) (P : Term) (Ps : List Term) → U env (fold disj P Ps) ≡ fold disj (U env P) (map (U env) Ps)
any_unfolded env P [] = refl
any_unfolded env P (Q ∷ Qs) = any_unfolded env (disj P Q) Qs

module _ (cs : Scope) (u : IsWellFormed cs.env) where
  -- the goal under the condition of one branch
  branch_sound : (S : Sequent) (place : List ℕ) (xs : List Ty) (A : Ty) (l : Term) (θ : ℕ → Ty) (ts : List Term) (old : Term) (b : Branch) (g : Sequent) → IsSequent cs.env S → IsSequent cs.env g → ((i : ℕ) → IsProper cs.env (θ i)) →
      AreTyped cs.env (type_list S.context) (terms ts) (map (type_inst θ) xs) → filled θ ts l ≡ old → node_at S.goal place ≡ Some old → path_types S.goal place ≡ Some [] →
      replace_at S.goal place (filled θ ts b.right) ≡ Some g.goal → g ≡ (S ▹ filled θ ts (condition_or_truth b.condition) ⊢ g.goal) → IsEstablished cs.env (forall_all xs (under_condition b.condition (equation A l b.right))) →
      HasDerivableUnfolding cs.env g → HasDerivableUnfolding cs.env (S ▹ filled θ ts (condition_or_truth b.condition))
  branch_sound S place xs A l θ ts old b g h k p t i n q v same est d =
      let C = filled θ ts (condition_or_truth b.condition) in
      let T = S ▹ C in
      let k' : IsSequent cs.env (T ⊢ g.goal) = transport (IsSequent cs.env) same k in
      let h' : IsSequent cs.env T = record { context = h.context; hyps = k'.hyps; goal = h.goal } in
      rewrite_sound cs.env u T place xs b.condition A l b.right θ ts [] old g.goal h' k' tt p
      (transport (λ D. AreTyped cs.env D (terms ts) (map (type_inst θ) xs)) (sym (append_nil (type_list S.context))) t) i n q v est
      (conditions b.condition refl h') (transport (HasDerivableUnfolding cs.env) same d)
    where
      conditions : (o : Option Term) → b.condition ≡ o → IsSequent cs.env (S ▹ filled θ ts (condition_or_truth b.condition)) →
          HaveDerivableUnfoldings cs.env (condition_goal_of (widened (S ▹ filled θ ts (condition_or_truth b.condition)) []) (filled θ ts) o)
      conditions None f m = none
      conditions (Some C) f m =
          let T = S ▹ filled θ ts (condition_or_truth b.condition) in
          let is : filled θ ts (condition_or_truth b.condition) ≡ filled θ ts C = ap (λ x. filled θ ts (condition_or_truth x)) f in
          let line : HasDerivableUnfolding cs.env (T ⊢ filled θ ts (condition_or_truth b.condition)) =
          transport (Derivable (base cs.env)) (sym (added cs.env S (filled θ ts (condition_or_truth b.condition)) (filled θ ts (condition_or_truth b.condition))))
          (last_hyp (base cs.env) (US cs.env S) (U cs.env (filled θ ts (condition_or_truth b.condition)))
          (transport (IsBaseSequent (base cs.env)) (added cs.env S (filled θ ts (condition_or_truth b.condition)) S.goal) (sequent_over_base cs.env u T m))) in
          more (US cs.env (widened T [] ⊢ filled θ ts C)) []
          (transport (λ x. Derivable (base cs.env) (US cs.env x)) (widened_none T (filled θ ts C)) (transport (λ x. HasDerivableUnfolding cs.env (T ⊢ x)) is line)) none

  module _ (S : Sequent) (place : List ℕ) (ids : List ℕ) (xs : List Ty) (A : Ty) (l : Term) (As : List Ty) (ts : List Term) (old : Term) (h : IsSequent cs.env S) (p : (i : ℕ) → IsProper cs.env (assigned ids As i))
      (t : AreTyped cs.env (type_list S.context) (terms ts) (map (type_inst (assigned ids As)) xs)) (i : filled (assigned ids As) ts l ≡ old) (n : node_at S.goal place ≡ Some old) (q : path_types S.goal place ≡ Some []) where
    all_branches : (bs : List Branch) (gs : List Sequent) → AllZip (IsBranchGoal cs S place ids As ts) bs gs → AllByRecursion (IsSequent cs.env) gs →
        AllByRecursion (λ (b : Branch). IsEstablished cs.env (forall_all xs (under_condition b.condition (equation A l b.right)))) bs → HaveDerivableUnfoldings cs.env gs →
        AllByRecursion (λ Q. Derivable (base cs.env) (US cs.env S ▹ Q)) (map (U cs.env) (map (filled (assigned ids As) ts) (map (λ (b : Branch). condition_or_truth b.condition) bs)))
    all_branches [] gs z k est d = tt
    all_branches (b ∷ bs) [] z k est d = absurd z
    all_branches (b ∷ bs) (g ∷ gs) z k est d = (
      transport (Derivable (base cs.env)) (added cs.env S (filled (assigned ids As) ts (condition_or_truth b.condition)) S.goal)
          (branch_sound S place xs A l (assigned ids As) ts old b g h k.0 p t i n q z.0.replaced z.0.otherwise_same est.0 (head_of (base cs.env) (US cs.env g) (map (US cs.env) gs) d)),
      all_branches bs gs z.1 k.1 est.1 (tail_of (base cs.env) (US cs.env g) (map (US cs.env) gs) d),
    )

    by_conditions : (bs : List Branch) (gs : List Sequent) → bs ≢ [] → AllZip (IsBranchGoal cs S place ids As ts) bs gs → AllByRecursion (IsSequent cs.env) gs →
        AllByRecursion (λ (b : Branch). IsEstablished cs.env (forall_all xs (under_condition b.condition (equation A l b.right)))) bs → IsEstablished cs.env (forall_all xs (disj_all (map (λ (b : Branch). condition_or_truth b.condition) bs))) →
        HaveDerivableUnfoldings cs.env gs → HasDerivableUnfolding cs.env S
    by_conditions [] gs some z k est c d = absurd (some refl)
    by_conditions (b ∷ bs) gs some z k est c d =
        let f = filled (assigned ids As) ts in
        let P = condition_or_truth b.condition in
        let Ps = map (λ (x : Branch). condition_or_truth x.condition) bs in
        let each = all_branches (b ∷ bs) gs z k est d in
        any_of (base cs.env) (US cs.env S) (U cs.env (f P)) (map (U cs.env) (map f Ps))
        (transport (λ G. Derivable (base cs.env) (US cs.env S ⊢ G)) (ap (U cs.env) (filled_any (assigned ids As) ts P Ps) ∙ any_unfolded cs.env (f P) (map f Ps))
        (rule_cited cs.env u S xs (fold disj P Ps) (assigned ids As) ts h p t c)) each.0 each.1

  -- branches by number
  each_established : (xs : List Ty) (A : Ty) (l : Term) (bs : List Branch) → ((i : ℕ) (b : Branch) → numbered bs i ≡ Some b → IsEstablished cs.env (forall_all xs (under_condition b.condition (equation A l b.right)))) →
      AllByRecursion (λ (b : Branch). IsEstablished cs.env (forall_all xs (under_condition b.condition (equation A l b.right)))) bs
  each_established xs A l bs f = from bs (λ i b q. f (suc i) b q)
    where
      from : (bs' : List Branch) → ((i : ℕ) (b : Branch) → slice_get bs' i ≡ Some b → IsEstablished cs.env (forall_all xs (under_condition b.condition (equation A l b.right)))) →
          AllByRecursion (λ (b : Branch). IsEstablished cs.env (forall_all xs (under_condition b.condition (equation A l b.right)))) bs'
      from [] g = tt
      from (b ∷ bs') g = (g 0 b refl, from bs' (λ i c q. g (suc i) c q))

  pub cases_sound : (ref : Ref) → IsCitable cs ref → (S : Sequent) (place : List ℕ) (cite : Cite) (gs : List Sequent) (used : List Term) → IsSequent cs.env S → AllByRecursion (IsSequent cs.env) gs → ByCases cs S ref place cite gs used →
      HaveDerivableUnfoldings cs.env gs → HasDerivableUnfolding cs.env S
  cases_sound ref e S place cite gs used h g b d =
      let ids = element_params (element.Rewrite b.r) in
      let xs = type_list b.r.vars in
      let A = type_in cs.env xs b.r.left in
      let at = place_typed cs.env place (type_list S.context) S.goal b.old [] Prop h.goal b.stands b.no_binder in
      let old_typed : Typed cs.env (type_list S.context) b.old at.type = transport (λ D. Typed cs.env D b.old at.type) (append_nil (type_list S.context)) at.typed in
      by_conditions S place ids xs A b.r.left b.As b.ts b.old h (rule_types cs u (type_list S.context) ids xs b.r.left cite b.As b.ts b.old at.type b.fits old_typed)
      b.fits.typed b.fits.is_instance b.stands b.no_binder b.r.branches gs (e.branched b.r b.may) b.goals_are g
      (each_established xs A b.r.left b.r.branches (λ i x q. e.branches b.r i x b.may q)) (e.complete b.r b.may b.complete) d
