-- What may be cited is typed, and established.
use Rattle.std.specs.Prelude.{◌≡◌, ◌≢◌, ◌-◌, ℕ, zero, suc, Bool as Boolean, true, false, List, [], ◌∷◌, Option, Some, None, find, fold, map, take, length, cond, option_map, IsTrue, refl}
use Rattle.std.specs.List.{AllByRecursion}
use Rattle.std.proofs.Common.{subst as transport}
use Rattle.ev_terms.specs.declared.types.Ty.{Ty, Prop}
use Rattle.ev_terms.specs.declared.types.Tys.{Tys}
use Rattle.ev_terms.specs.Types.{type_list}
use Rattle.ev_terms.specs.Term.{Term}
use Rattle.ev_forms.specs.Forms.{truth, conj, disj, equation, forall_all}
use Rattle.ev_typing.specs.Env.{Env, Name}
use Rattle.ev_typing.specs.Typing.{AreProper, Typed, IsPredicate, type_in}
use Rattle.ev_typing.specs.WellFormed.{IsWellFormed}
use Rattle.ev_typing.proofs.Laws.{Typed-type_in}
use Rattle.ev_data.proofs.Formulas.{equation_typed, forall_all_typed}
use Rattle.ev_kernel.specs.Derivable.{numbered}
use Rattle.ev_rules.specs.declared.elements.Element.{Element}
use Rattle.ev_rules.specs.declared.elements.Element.TheVariants.{Theorem, Rewrite, Inference}
use Rattle.ev_rules.specs.declared.elements.InferenceRule.{InferenceRule}
use Rattle.ev_rules.specs.declared.elements.RewriteRule.{RewriteRule}
use Rattle.ev_rules.specs.declared.elements.Branch.{Branch}
use Rattle.ev_ops.specs.Formulas.{HasFormulas, IsFormula, IsOptional, IsBranch, IsRewriteRule, IsInferenceRule}
use Rattle.ev_oblig.specs.Obligations.{condition_or_truth, under_condition, conj_all, disj_all, inference_formula, branch_formula, complete_formula}
use Rattle.ev_proof.specs.declared.steps.Ref.{Ref}
use Rattle.ev_replay.specs.declared.scopes.Scope.{Scope}
use Rattle.ev_replay.specs.declared.scopes.CiteElement.{CiteElement}
use Rattle.ev_replay.specs.Scopes.{IsScope, elements_of, is_named, cited}
use Rattle.ev_congruence.proofs.Terms.{proper_list}
use Rattle.ev_sound.specs.Proofs.{LabelIsEstablished}
use Rattle.ev_sound.proofs.Established.{IsEstablished}
use Rattle.ev_sound.proofs.Named.{all_slice}
use Rattle.ev_sound.proofs.Connectives.{conj_typed, disj_typed, imp_typed}

-- An element that is found is one of the list.
found_holds : (P : Element → Type 0) (test : CiteElement → Boolean) (es : List CiteElement) (e : Element) → AllByRecursion P (elements_of es) → option_map (λ (x : CiteElement). x.element) (find test es) ≡ Some e → P e
found_holds P test [] e h f = cc
found_holds P test (x ∷ es) e h f = by (test x) f (found_holds P test es e h.1)
  where
    by : (b : Boolean) → option_map (λ (y : CiteElement). y.element) (cond b (Some x) (find test es)) ≡ Some e → (option_map (λ (y : CiteElement). y.element) (find test es) ≡ Some e → P e) → P e
    by true g r = let q : x.element ≡ e = cc in transport P q h.0
    by false g r = r g

taken_hold : (P : Element → Type 0) (n : ℕ) (es : List CiteElement) → AllByRecursion P (elements_of es) → AllByRecursion P (elements_of (take n es))
taken_hold P zero es h = tt
taken_hold P (suc n) [] h = tt
taken_hold P (suc n) (x ∷ es) h = (h.0, taken_hold P n es h.1)

cited_formulas : (cs : Scope) → IsScope cs → (ref : Ref) (e : Element) → cited cs ref ≡ Some e → HasFormulas cs.env e
cited_formulas cs scope ref e h =
    found_holds (HasFormulas cs.env) (is_named ref) (take (length cs.elements - 1) cs.elements) e (taken_hold (HasFormulas cs.env) (length cs.elements - 1) cs.elements scope.formulas) h

-- The formulas of rules are typed.
pub truth_typed : (env : Env) (C : List Ty) → Typed env C truth Prop
truth_typed env C = record { count = refl; proper = tt; children = tt; result = refl }

pub all_together_typed : (env : Env) (C : List Ty) (P : Term) (Ps : List Term) → Typed env C P Prop → AllByRecursion (IsFormula env C Prop) Ps → Typed env C (conj_all P Ps) Prop
all_together_typed env C P [] h k = h
all_together_typed env C P (Q ∷ Qs) h k = all_together_typed env C (conj P Q) Qs (conj_typed env C P Q h k.0.typed) k.1

pub inference_typed : (env : Env) (C : List Ty) (givens : List Term) (Q : Term) → AllByRecursion (IsFormula env C Prop) givens → Typed env C Q Prop → Typed env C (inference_formula givens Q) Prop
inference_typed env C [] Q h k = k
inference_typed env C (G ∷ Gs) Q h k = imp_typed env C (conj_all G Gs) Q (all_together_typed env C G Gs h.0.typed h.1) k

under_typed : (env : Env) (C : List Ty) (o : Option Term) (P : Term) → IsOptional env C o → Typed env C P Prop → Typed env C (under_condition o P) Prop
under_typed env C None P h k = k
under_typed env C (Some Q) P h k = imp_typed env C Q P h.typed k

pub condition_typed : (env : Env) (C : List Ty) (o : Option Term) → IsOptional env C o → Typed env C (condition_or_truth o) Prop
condition_typed env C None h = truth_typed env C
condition_typed env C (Some Q) h = h.typed

any_typed : (env : Env) (C : List Ty) (A : Ty) (P : Term) (bs : List Branch) → Typed env C P Prop → AllByRecursion (IsBranch env C A) bs → Typed env C (fold disj P (map (λ (b : Branch). condition_or_truth b.condition) bs)) Prop
any_typed env C A P [] h k = h
any_typed env C A P (b ∷ bs) h k =
    any_typed env C A (disj P (condition_or_truth b.condition)) bs (disj_typed env C P (condition_or_truth b.condition) h (condition_typed env C b.condition k.0.condition)) k.1

pub covering_typed : (env : Env) (C : List Ty) (A : Ty) (bs : List Branch) → bs ≢ [] → AllByRecursion (IsBranch env C A) bs → Typed env C (disj_all (map (λ (b : Branch). condition_or_truth b.condition) bs)) Prop
covering_typed env C A [] n k = absurd (n refl)
covering_typed env C A (b ∷ bs) n k = any_typed env C A (condition_or_truth b.condition) bs (condition_typed env C b.condition k.0.condition) k.1

pub branch_typed : (env : Env) (r : RewriteRule) (b : Branch) (f : IsRewriteRule env r) → IsBranch env (type_list r.vars) f.type b → Typed env (type_list r.vars) (branch_formula env r b) Prop
branch_typed env r b f k =
    under_typed env (type_list r.vars) b.condition (equation (type_in env (type_list r.vars) r.left) r.left b.right) k.condition
    (transport (λ A. Typed env (type_list r.vars) (equation A r.left b.right) Prop) (Typed-type_in env (type_list r.vars) r.left f.type f.left.typed)
    (equation_typed env (type_list r.vars) f.type r.left b.right f.sort f.left.typed k.right.typed))

numbered_holds : (P : Branch → Type 0) (bs : List Branch) (i : ℕ) (b : Branch) → AllByRecursion P bs → numbered bs i ≡ Some b → P b
numbered_holds P bs zero b h e = cc
numbered_holds P bs (suc i) b h e = all_slice P bs i b h e

-- What a label means is typed, and established.
pub record IsCitable (cs : Scope) (ref : Ref) : Type 0 where
  pub theorem : (label : Name) (P : Term) → cited cs ref ≡ Some (Theorem label P) → IsEstablished cs.env P
  pub inference : (r : InferenceRule) → cited cs ref ≡ Some (Inference r) → IsEstablished cs.env (forall_all (type_list r.vars) (inference_formula r.givens r.conclusion))
  pub branches : (r : RewriteRule) (i : ℕ) (b : Branch) → cited cs ref ≡ Some (Rewrite r) → numbered r.branches i ≡ Some b → IsEstablished cs.env (forall_all (type_list r.vars) (branch_formula cs.env r b))
  pub branched : (r : RewriteRule) → cited cs ref ≡ Some (Rewrite r) → r.branches ≢ []
  pub complete : (r : RewriteRule) → cited cs ref ≡ Some (Rewrite r) → IsTrue r.complete → IsEstablished cs.env (forall_all (type_list r.vars) (complete_formula r))

pub citable : (cs : Scope) → IsScope cs → IsWellFormed cs.env → (ref : Ref) → LabelIsEstablished cs ref → IsCitable cs ref
citable cs scope w ref e = record {
  theorem = λ label P h.
      let f : IsFormula cs.env [] Prop P = cited_formulas cs scope ref (Theorem label P) h in
      record { typed = f.typed; derivable = e.theorem label P h };
  inference = λ r h.
      let f : IsInferenceRule cs.env r = cited_formulas cs scope ref (Inference r) h in
      record { typed = closed r.vars (inference_formula r.givens r.conclusion) f.vars (inference_typed cs.env (type_list r.vars) r.givens r.conclusion f.givens f.conclusion.typed); derivable = e.inference r h };
  branches = λ r i b h n.
      let f : IsRewriteRule cs.env r = cited_formulas cs scope ref (Rewrite r) h in
      record {
        typed = closed r.vars (branch_formula cs.env r b) f.vars (branch_typed cs.env r b f (numbered_holds (IsBranch cs.env (type_list r.vars) f.type) r.branches i b f.branches n));
        derivable = e.branches r i b h n;
      };
  branched = λ r h. let f : IsRewriteRule cs.env r = cited_formulas cs scope ref (Rewrite r) h in f.some;
  complete = λ r h c.
      let f : IsRewriteRule cs.env r = cited_formulas cs scope ref (Rewrite r) h in
      record { typed = closed r.vars (complete_formula r) f.vars (covering_typed cs.env (type_list r.vars) f.type r.branches f.some f.branches); derivable = e.complete r h c };
}
  where
    closed : (vars : Tys) (P : Term) → AreProper cs.env vars → Typed cs.env (type_list vars) P Prop → IsPredicate cs.env [] (forall_all (type_list vars) P)
    closed vars P p h = forall_all_typed cs.env (type_list vars) [] P (proper_list cs.env vars p) h
