-- A condition that is too large makes an obligation too large.
use Rattle.std.proofs.Common.{◌≡◌, ◌≢◌, ℕ, ap, sym, ◌∙◌, subst, refl}
use Rattle.std.specs.Prelude.{Option, Some, None, flat_map, IfNone}
use Rattle.std.specs.List.{enumerate_from}
use Rattle.ev_terms.specs.declared.types.Tys.{Tys}
use Rattle.ev_terms.specs.Types.{type_list}
use Rattle.ev_terms.specs.Term.{Term}
use Rattle.ev_terms.specs.declared.obligation.ObKind.TheVariants.{Wd, WdOf}
use Rattle.ev_typing.specs.declared.typing.Signature.{Signature}
use Rattle.ev_typing.specs.declared.typing.Con.{Con}
use Rattle.ev_typing.specs.Env.{Env}
use Rattle.ev_typing.specs.WellFormed.{case_context}
use Rattle.ev_rules.specs.declared.elements.RewriteRule.{RewriteRule}
use Rattle.ev_rules.specs.declared.elements.InferenceRule.{InferenceRule}
use Rattle.ev_rules.specs.declared.elements.Branch.{Branch}
use Rattle.ev_forms.specs.Forms.{truth}
use Rattle.ev_wd.specs.Limits.{IsSmall}
use Rattle.ev_wd.specs.Makers.{make_and}
use Rattle.ev_wd.specs.WellDefined.{wd}
use Rattle.ev_wd.proofs.Making.{and_left, and_right}
use Rattle.ev_oblig.specs.Obligations.{condition_or_truth, case_condition, case_wd, case_obligation, branch_guard, branch_wd, branch_obligations, complete_obligation, rewrite_obligations, givens_formula, inference_wd, inference_obligations, direct_wd, theorem_obligations, wd_named, AreSmall}
use Rattle.ev_oblig.proofs.Quantifying.{alls_guarded, alls_guard}
use Rattle.ev_oblig.proofs.Listing.{wd_small, small_before}

pub direct_small : (env : Env) (sig : Signature) (condition : Option Term) (body : Term) → AreSmall (wd_named Wd (direct_wd env sig condition body)) → IsSmall (wd env body)
direct_small env sig condition body h =
    alls_guarded (type_list sig.args) (condition_or_truth condition) (wd env body) (wd_small Wd (direct_wd env sig condition body) h)

pub theorem_small : (env : Env) (P : Term) → AreSmall (theorem_obligations env P) → IsSmall (wd env P)
theorem_small env P h = wd_small Wd (wd env P) h.1

pub case_small : (env : Env) (sig : Signature) (condition : Option Term) (place : ℕ) (As : Tys) (c : Con) (body : Term) → IsSmall (case_wd env sig condition place As c body) → IsSmall (wd env body)
case_small env sig condition place As c body h =
    alls_guarded (case_context sig place As c) (case_condition sig condition place As c) (wd env body) h

pub numbered_case_small : (env : Env) (sig : Signature) (condition : Option Term) (place : ℕ) (As : Tys) (n : ℕ) (c : Con) (body : Term) →
    AreSmall (case_obligation env sig condition place As (n, (c, body))) → IsSmall (case_wd env sig condition place As c body)
numbered_case_small env sig condition place As n c body h = wd_small (WdOf n) (case_wd env sig condition place As c body) h

pub right_small : (env : Env) (r : RewriteRule) (b : Branch) → IsSmall (branch_wd env r b) → IsSmall (wd env b.right)
right_small env r b h = alls_guarded (type_list r.vars) (branch_guard env r b.condition) (wd env b.right) h

pub guard_small : (env : Env) (r : RewriteRule) (b : Branch) (R : Term) → R ≡ wd env b.right → R ≢ truth → IsSmall (branch_wd env r b) → IsSmall (branch_guard env r b.condition)
guard_small env r b R e ne h =
    alls_guard (type_list r.vars) (branch_guard env r b.condition) (wd env b.right) (λ p. ne (e ∙ p)) h

pub left_small : (env : Env) (r : RewriteRule) (condition : Option Term) → IsSmall (branch_guard env r condition) → IsSmall (wd env r.left)
left_small env r condition h =
    and_left (wd env r.left) (wd env (condition_or_truth condition))
    (and_left (make_and (wd env r.left) (wd env (condition_or_truth condition))) (condition_or_truth condition) h)

pub asked_small : (env : Env) (r : RewriteRule) (condition : Option Term) (C : Term) → C ≡ condition_or_truth condition → IsSmall (branch_guard env r condition) → IsSmall (wd env C)
asked_small env r condition C e h =
    subst (λ t. IsSmall (wd env t)) (sym e)
    (and_right (wd env r.left) (wd env (condition_or_truth condition))
    (and_left (make_and (wd env r.left) (wd env (condition_or_truth condition))) (condition_or_truth condition) h))

pub branch_small : (env : Env) (r : RewriteRule) (n : ℕ) (b : Branch) → AreSmall (branch_obligations env r (n, b)) → IsSmall (branch_wd env r b)
branch_small env r n b h = wd_small (WdOf n) (branch_wd env r b) h.1

pub branches_small : (env : Env) (r : RewriteRule) → AreSmall (rewrite_obligations env r) → AreSmall (flat_map (branch_obligations env r) (enumerate_from 1 r.branches))
branches_small env r h = small_before (flat_map (branch_obligations env r) (enumerate_from 1 r.branches)) (complete_obligation r) h

pub inference_small : (env : Env) (r : InferenceRule) → AreSmall (inference_obligations env r) → IsSmall (inference_wd env r)
inference_small env r h = wd_small Wd (inference_wd env r) h.1

pub givens_small : (env : Env) (r : InferenceRule) (G : Term) → G ≡ givens_formula r.givens → IsSmall (inference_wd env r) → IsSmall (wd env G)
givens_small env r G e h =
    subst (λ t. IsSmall (wd env t)) (sym e) (alls_guarded (type_list r.vars) (wd env r.conclusion) (wd env (givens_formula r.givens)) h)

pub conclusion_small : (env : Env) (r : InferenceRule) (G D : Term) → G ≡ givens_formula r.givens → D ≡ wd env G → D ≢ truth → IsSmall (inference_wd env r) → IsSmall (wd env r.conclusion)
conclusion_small env r G D e f ne h =
    alls_guard (type_list r.vars) (wd env r.conclusion) (wd env (givens_formula r.givens)) (λ p. ne (f ∙ ap (wd env) e ∙ p)) h

pub none_holds : {X : Type 0} (P : Type 0) (o : Option X) → IfNone o P → ((x : X) → o ≡ Some x → ⊥) → P
none_holds P None h n = h
none_holds P (Some x) h n = absurd (n x refl)
