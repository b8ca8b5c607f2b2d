-- The obligations of an element, closed formulas under the kinds of their sequents, after Butler and Maamria, Practical Theory
-- Extension in Event-B, in outline; names, formulas and order are this project's own.
use Rattle.std.specs.Prelude.{◌++◌, ℕ, List, [], ◌∷◌, Option, Some, None, if◌then◌else◌, map, flat_map, fold, zip, length, ⊤}
use Rattle.std.specs.List.{AllByRecursion, enumerate_from}
use Rattle.ev_terms.specs.declared.types.Ty.{Ty}
use Rattle.ev_terms.specs.declared.types.Tys.{Tys}
use Rattle.ev_terms.specs.Types.{type_list}
use Rattle.ev_terms.specs.Term.{Term}
use Rattle.ev_terms.specs.Substitution.{fill}
use Rattle.ev_typing.specs.declared.typing.Signature.{Signature}
use Rattle.ev_typing.specs.declared.typing.DataDecl.{DataDecl}
use Rattle.ev_typing.specs.declared.typing.Con.{Con}
use Rattle.ev_rules.specs.declared.elements.Element.{Element}
use Rattle.ev_rules.specs.declared.elements.Element.TheVariants.{Import, Params, Data, Direct, Recursive, Constant, Axiom, Theorem, Rewrite, Inference}
use Rattle.ev_rules.specs.declared.elements.RewriteRule.{RewriteRule}
use Rattle.ev_rules.specs.declared.elements.InferenceRule.{InferenceRule}
use Rattle.ev_rules.specs.declared.elements.Branch.{Branch}
use Rattle.ev_oblig.specs.declared.named.Named.{Named}
use Rattle.ev_terms.specs.declared.obligation.ObKind.{ObKind}
use Rattle.ev_terms.specs.declared.obligation.ObKind.TheVariants.{Thm, Wd, WdOf, Sound, SoundOf, Complete}
use Rattle.ev_forms.specs.Forms.{truth, falsity, is_truth, conj, disj, imp, equation, forall_all, vars}
use Rattle.ev_typing.specs.Env.{Env}
use Rattle.ev_typing.specs.Typing.{Typed, type_in}
use Rattle.ev_typing.specs.WellFormed.{inductive_data, case_context}
use Rattle.ev_data.specs.Closed.{case_arguments}
use Rattle.ev_wd.specs.Makers.{make_and, make_imp, make_all}
use Rattle.ev_wd.specs.WellDefined.{wd}
use Rattle.ev_wd.specs.Limits.{IsSmall}

-- an obligation of a kind
abbrev pub named : ObKind → Term → Named
named kind goal = record { kind = kind; goal = goal }

-- a well-definedness obligation, which does not exist where its formula is `true`
abbrev pub wd_named : ObKind → Term → List Named
wd_named kind P = if is_truth P then [] else named kind P ∷ []

-- `!xs. P`, without the quantifiers over variables that do not occur
abbrev pub make_alls : List Ty → Term → Term
make_alls [] P = P
make_alls (A ∷ As) P = make_all A (make_alls As P)

-- an absent condition is `true`
abbrev pub condition_or_truth : Option Term → Term
condition_or_truth None = truth
condition_or_truth (Some C) = C

-- `C => P`, or `P` where there is no condition
abbrev pub under_condition : Option Term → Term → Term
under_condition None P = P
under_condition (Some C) P = imp C P

-- one or more predicates joined by `&` to the left
abbrev pub conj_all : Term → List Term → Term
conj_all P Ps = fold conj P Ps

-- predicates joined by `or` to the left; none of them covers nothing
abbrev pub disj_all : List Term → Term
disj_all [] = falsity
disj_all (P ∷ Ps) = fold disj P Ps

-- an operator's condition in a case, with the constructor in the inductive place
abbrev pub case_condition : Signature → Option Term → ℕ → Tys → Con → Term
case_condition sig condition place As c =
    fill (condition_or_truth condition) (case_arguments place (length c.fields) c As (vars (length (case_context sig place As c))))

-- the body of a case is well defined where the condition holds
abbrev pub case_wd : Env → Signature → Option Term → ℕ → Tys → Con → Term → Term
case_wd env sig condition place As c body =
    make_alls (case_context sig place As c) (make_imp (case_condition sig condition place As c) (wd env body))

-- that of a constructor with its body, by the constructor's number
abbrev pub case_obligation : Env → Signature → Option Term → ℕ → Tys → ℕ × (Con × Term) → List Named
case_obligation env sig condition place As n = wd_named (WdOf n.0) (case_wd env sig condition place As n.1.0 n.1.1)

-- one obligation for each constructor with its body, numbered from 1
abbrev pub case_obligations : Env → Signature → Option Term → ℕ → List Term → Option (DataDecl × Tys) → List Named
case_obligations env sig condition place bodies None = []
case_obligations env sig condition place bodies (Some (d, As)) = flat_map (case_obligation env sig condition place As) (enumerate_from 1 (zip d.cons bodies))

-- `C => L ~~ R` for a branch of a rewrite rule
abbrev pub branch_formula : Env → RewriteRule → Branch → Term
branch_formula env r b = under_condition b.condition (equation (type_in env (type_list r.vars) r.left) r.left b.right)

-- `C1 or C2 or ..`
abbrev pub complete_formula : RewriteRule → Term
complete_formula r = disj_all (map (λ (b : Branch). condition_or_truth b.condition) r.branches)

-- `G1 & .. & Gk => Q`, or `Q`
abbrev pub inference_formula : List Term → Term → Term
inference_formula [] Q = Q
inference_formula (G ∷ Gs) Q = imp (conj_all G Gs) Q

-- the left side and a branch's condition are well defined, and the condition holds
abbrev pub branch_guard : Env → RewriteRule → Option Term → Term
branch_guard env r condition = make_and (make_and (wd env r.left) (wd env (condition_or_truth condition))) (condition_or_truth condition)

-- the right side of a branch is well defined where that holds
abbrev pub branch_wd : Env → RewriteRule → Branch → Term
branch_wd env r b = make_alls (type_list r.vars) (make_imp (branch_guard env r b.condition) (wd env b.right))

-- that a branch is sound, and that its right side is well defined, by the branch's number
abbrev pub branch_obligations : Env → RewriteRule → ℕ × Branch → List Named
branch_obligations env r n =
    named (SoundOf n.0) (forall_all (type_list r.vars) (branch_formula env r n.1)) ∷ wd_named (WdOf n.0) (branch_wd env r n.1)

-- that the conditions cover all cases, for a rule that says so
abbrev pub complete_obligation : RewriteRule → List Named
complete_obligation r =
    if r.complete then named Complete (forall_all (type_list r.vars) (complete_formula r)) ∷ []
    else []

-- those of all branches, numbered from 1
abbrev pub rewrite_obligations : Env → RewriteRule → List Named
rewrite_obligations env r =
    flat_map (branch_obligations env r) (enumerate_from 1 r.branches) ++ complete_obligation r

-- what all givens together say
abbrev pub givens_formula : List Term → Term
givens_formula [] = truth
givens_formula (G ∷ Gs) = conj_all G Gs

-- the givens are well defined where the conclusion is
abbrev pub inference_wd : Env → InferenceRule → Term
inference_wd env r = make_alls (type_list r.vars) (make_imp (wd env r.conclusion) (wd env (givens_formula r.givens)))

-- that an inference rule is sound, and that its givens are well defined
abbrev pub inference_obligations : Env → InferenceRule → List Named
inference_obligations env r =
    named Sound (forall_all (type_list r.vars) (inference_formula r.givens r.conclusion)) ∷ wd_named Wd (inference_wd env r)

-- the body of a direct operator is well defined where the condition holds
abbrev pub direct_wd : Env → Signature → Option Term → Term → Term
direct_wd env sig condition body = make_alls (type_list sig.args) (make_imp (condition_or_truth condition) (wd env body))

-- a theorem, and that it is well defined
abbrev pub theorem_obligations : Env → Term → List Named
theorem_obligations env P = named Thm P ∷ wd_named Wd (wd env P)

-- the obligations in their order, over an environment in which the element itself stands
abbrev pub obligations : Env → Element → List Named
obligations env (Import n) = []
obligations env (Params ns) = []
obligations env (Data d) = []
obligations env (Direct sig condition body) = wd_named Wd (direct_wd env sig condition body)
obligations env (Recursive sig condition place bodies) = case_obligations env sig condition place bodies (inductive_data env sig place)
obligations env (Constant sig condition) = []
obligations env (Axiom label P) = []
obligations env (Theorem label P) = theorem_obligations env P
obligations env (Rewrite r) = rewrite_obligations env r
obligations env (Inference r) = inference_obligations env r

-- the left side of a rewrite rule has a type, so that its branches say one thing
abbrev pub HasTypedLeft : Env → Element → Type 0
HasTypedLeft env (Rewrite r) = (A : Ty) × Typed env (type_list r.vars) r.left A
HasTypedLeft env _ = ⊤

-- each goal is within the limits of formulas
abbrev pub AreSmall : List Named → Type 0
AreSmall obs = AllByRecursion (λ (o : Named). IsSmall o.goal) obs
