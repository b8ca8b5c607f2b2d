-- The elements that forms are read as.
use Rattle.std.specs.Prelude.{◌≡◌, ◌++◌, ℕ, List, [], ◌∷◌, Option, Some, None, bytes_eq, cond, map, flat_map, option_map, option_and_then, zip, length, Contains, ⊤}
use Rattle.std.specs.List.{AllZip}
use Rattle.ev_terms.specs.declared.types.Ty.{Ty}
use Rattle.ev_terms.specs.Term.{Term}
use Rattle.ev_syntax.specs.Raw.{Raw}
use Rattle.ev_theory_text.specs.declared.forms.RawCase.{RawCase}
use Rattle.ev_theory_text.specs.declared.forms.RawBody.{RawBody}
use Rattle.ev_theory_text.specs.declared.forms.RawBody.TheVariants.{Direct, Recursive}
use Rattle.ev_theory_text.specs.declared.forms.RawArg.{RawArg}
use Rattle.ev_theory_text.specs.declared.forms.RawBranch.{RawBranch}
use Rattle.ev_theory_text.specs.declared.forms.ElementForm.{ElementForm}
use Rattle.ev_theory_text.specs.declared.forms.ElementForm.TheVariants.{Import, Param, Datatype, Operator, Constant, Axiom, Theorem, Rewrite, Inference}
use Rattle.ev_typing.specs.declared.typing.Con.{Con}
use Rattle.ev_typing.specs.declared.typing.DataDecl.{DataDecl}
use Rattle.ev_typing.specs.declared.typing.Var.{Var}
use Rattle.ev_typing.specs.TypeLists.{types}
use Rattle.ev_typing.specs.Env.{Env, Name}
use Rattle.ev_typing.specs.Typing.{type_in}
use Rattle.ev_ops.specs.declared.cases.Case.{Case}
use Rattle.ev_rules.specs.declared.elements.Branch.{Branch}
use Rattle.ev_rules.specs.declared.elements.RewriteRule.{RewriteRule}
use Rattle.ev_rules.specs.declared.elements.InferenceRule.{InferenceRule}
use Rattle.ev_rules.specs.declared.elements.Element.{Element}
use Rattle.ev_rules.specs.declared.elements.Element.TheVariants as element
use Rattle.ev_elab.specs.States.{State}
use Rattle.ev_elab.specs.Types.{Head, signature_of, by_own, read_head, read_args, read_data, var_types}
use Rattle.ev_elab.specs.Formulas.{Formula, Induction, IsRead, predicate, condition, body_formulas, read_recursion, direct_body, left_side, right_side}

-- the formulas of a form but for the right sides of a rewrite rule, if its types and cases are such
abbrev pub of_head : ℕ → Env → Option Raw → RawBody → Head → Option (List Formula)
of_head count env c body h = option_map (λ fs. condition env h.vars c ++ fs) (body_formulas count env h body)

abbrev pub of_constant : Env → Option Raw → Head → List Formula
of_constant env c h = condition env h.vars c

abbrev pub of_rewrite : Env → Raw → List RawBranch → List Var → List Formula
of_rewrite env left branches vars = left_side env vars left ∷ flat_map (λ (b : RawBranch). condition env vars b.condition) branches

abbrev pub of_inference : Env → List Raw → Raw → List Var → List Formula
of_inference env givens p vars = map (predicate env vars) givens ++ predicate env vars p ∷ []

-- nothing, where a datatype is read
abbrev pub no_formulas : DataDecl → List Formula
no_formulas d = []

abbrev pub formulas : State → ElementForm → Option (List Formula)
formulas s (Import n) = Some []
formulas s (Param names) = Some []
formulas s (Datatype n listed cons) = option_map no_formulas (read_data s.params s.env n listed cons)
formulas s (Operator h c body) = option_and_then (of_head (length s.params) s.env c body) (read_head s.params s.env h)
formulas s (Constant h c) = option_map (of_constant s.env c) (read_head s.params s.env h)
formulas s (Axiom n p) = Some (predicate s.env [] p ∷ [])
formulas s (Theorem n p) = Some (predicate s.env [] p ∷ [])
formulas s (Rewrite n vars left branches complete) = option_map (of_rewrite s.env left branches) (read_args s.params s.env vars)
formulas s (Inference n vars givens p) = option_map (of_inference s.env givens p) (read_args s.params s.env vars)

-- a right side, where the left side is read, so that its type is known
pub record IsRightOf (params : List Name) (env : Env) (vars : List RawArg) (left : Raw) (branches : List RawBranch) (f : Formula) : Type 0 where
  pub variables : List Var
  pub args : read_args params env vars ≡ Some variables
  pub term : Term
  pub left_read : IsRead params (left_side env variables left) term
  pub branch : RawBranch
  pub stands : Contains branches branch
  pub is : f ≡ right_side env variables (type_in env (var_types variables) term) branch

abbrev pub IsRight : State → ElementForm → Formula → Type 0
IsRight s (Rewrite n vars left branches complete) f = IsRightOf s.params s.env vars left branches f
IsRight s _ f = ⊥

-- an optional formula, and one of a list each
abbrev pub ReadsOptional : List Name → Env → List Var → Option Raw → Option Term → Type 0
ReadsOptional params env vars None None = ⊤
ReadsOptional params env vars (Some p) (Some t) = IsRead params (predicate env vars p) t
ReadsOptional params env vars _ _ = ⊥

-- the cases that are read, by the operator's own type parameters
abbrev pub case_of : ℕ → Head → (Con × Formula) × Term → Case
case_of count h p = record { con = p.0.0.name; body = by_own count h p.1 }

abbrev pub cases_of : ℕ → Head → List (Con × Formula) → List Term → List Case
cases_of count h cs ts = map (case_of count h) (zip cs ts)

-- the bodies in the order of the constructors, each that of the first case that names it
abbrev pub body_for : List Case → Con → List Term
body_for [] c = []
body_for (k ∷ ks) c = cond (bytes_eq k.con c.name) (k.body ∷ []) (body_for ks c)

abbrev pub bodies_for : DataDecl → List Case → List Term
bodies_for d cases = flat_map (body_for cases) d.cons

-- what a recursive operator is read as besides: its inductive place, and its cases as they stand
pub record Recursion : Type 0 where
  pub place : ℕ
  pub cases : List Case

abbrev pub ReadsCases : List Name → List (Con × Formula) → List Term → Type 0
ReadsCases params cs ts = AllZip (λ (c : Con × Formula) t. IsRead params c.1 t) cs ts

pub record ReadsRecursive (params : List Name) (env : Env) (h : Head) (C : Option Term) (by : Name) (cases : List RawCase) (r : Option Recursion) (x : Element) : Type 0 where
  pub induction : Induction
  pub read : List (Con × Formula)
  pub cases_are : read_recursion (length params) env h by cases ≡ Some (induction, read)
  pub terms : List Term
  pub bodies : ReadsCases params read terms
  pub recursion_is : r ≡ Some (record { place = induction.place; cases = cases_of (length params) h read terms })
  pub is : x ≡ element.Recursive (signature_of (length params) h) (option_map (by_own (length params) h) C) induction.place (bodies_for induction.decl (cases_of (length params) h read terms))

-- the operator that a head, a condition and a body are read as
abbrev pub ReadsBody : List Name → Env → Head → Option Term → RawBody → Option Recursion → Element → Type 0
ReadsBody params env h C (Direct e) r x =
    (t : Term) × IsRead params (direct_body (length params) env h e) t × (r ≡ None)
    × (x ≡ element.Direct (signature_of (length params) h) (option_map (by_own (length params) h) C) (by_own (length params) h t))
ReadsBody params env h C (Recursive by cases) r x = ReadsRecursive params env h C by cases r x

pub record ReadsBranch (params : List Name) (env : Env) (vars : List Var) (A : Ty) (raw : RawBranch) (b : Branch) : Type 0 where
  pub condition : ReadsOptional params env vars raw.condition b.condition
  pub right : IsRead params (right_side env vars A raw) b.right

pub record ReadsRewrite (params : List Name) (env : Env) (vars : List RawArg) (left : Raw) (branches : List RawBranch) (r : RewriteRule) : Type 0 where
  pub variables : List Var
  pub args : read_args params env vars ≡ Some variables
  pub vars_are : r.vars ≡ types (var_types variables)
  pub left_read : IsRead params (left_side env variables left) r.left
  pub branches_read : AllZip (ReadsBranch params env variables (type_in env (var_types variables) r.left)) branches r.branches

pub record ReadsInference (params : List Name) (env : Env) (vars : List RawArg) (givens : List Raw) (p : Raw) (r : InferenceRule) : Type 0 where
  pub variables : List Var
  pub args : read_args params env vars ≡ Some variables
  pub vars_are : r.vars ≡ types (var_types variables)
  pub givens_read : AllZip (λ raw t. IsRead params (predicate env variables raw) t) givens r.givens
  pub conclusion_read : IsRead params (predicate env variables p) r.conclusion

-- the element that a form is read as, with the cases of a recursive operator as they stand
abbrev pub ReadsElement : State → ElementForm → Option Recursion → Element → Type 0
ReadsElement s (Import n) r x = (r ≡ None) × (x ≡ element.Import n)
ReadsElement s (Param names) r x = (r ≡ None) × (x ≡ element.Params names)
ReadsElement s (Datatype n listed cons) r x = (r ≡ None) × ((d : DataDecl) × (read_data s.params s.env n listed cons ≡ Some d) × (x ≡ element.Data d))
ReadsElement s (Operator h c body) r x =
    (k : Head) × (C : Option Term) × (read_head s.params s.env h ≡ Some k) × ReadsOptional s.params s.env k.vars c C × ReadsBody s.params s.env k C body r x
ReadsElement s (Constant h c) r x =
    (r ≡ None)
    × ((k : Head) × (C : Option Term) × (read_head s.params s.env h ≡ Some k) × ReadsOptional s.params s.env k.vars c C
    × (x ≡ element.Constant (signature_of (length s.params) k) (option_map (by_own (length s.params) k) C)))
ReadsElement s (Axiom n p) r x = (r ≡ None) × ((t : Term) × IsRead s.params (predicate s.env [] p) t × (x ≡ element.Axiom n t))
ReadsElement s (Theorem n p) r x = (r ≡ None) × ((t : Term) × IsRead s.params (predicate s.env [] p) t × (x ≡ element.Theorem n t))
ReadsElement s (Rewrite n vars left branches complete) r x =
    (r ≡ None) × ((w : RewriteRule) × (w.label ≡ n) × (w.complete ≡ complete) × ReadsRewrite s.params s.env vars left branches w × (x ≡ element.Rewrite w))
ReadsElement s (Inference n vars givens p) r x =
    (r ≡ None) × ((w : InferenceRule) × (w.label ≡ n) × ReadsInference s.params s.env vars givens p w × (x ≡ element.Inference w))
