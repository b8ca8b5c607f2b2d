-- The forms of proof steps that stand at a place or cite something: what fits, and which subgoals come of it.
use Rattle.std.specs.Prelude.{◌≡◌, ◌++◌, ◌+◌, ℕ, List, [], ◌∷◌, Option, Some, None, IsTrue, map, flat_map, length, slice_get, option_map, option_to_list}
use Rattle.std.specs.List.{AllZip}
use Rattle.ev_terms.specs.declared.types.Ty.{Ty}
use Rattle.ev_terms.specs.declared.types.Tys.{Tys}
use Rattle.ev_terms.specs.declared.types.Sym.TheVariants.{User}
use Rattle.ev_terms.specs.Types.{type_list}
use Rattle.ev_terms.specs.Term.{Term, Terms, node, nil, cons, term_list}
use Rattle.ev_terms.specs.Substitution.{fill, instance, retype, type_inst, type_at}
use Rattle.ev_typing.specs.declared.typing.DataDecl.{DataDecl}
use Rattle.ev_typing.specs.declared.typing.Con.{Con}
use Rattle.ev_typing.specs.declared.typing.Var.{Var}
use Rattle.ev_typing.specs.declared.typing.Signature.{Signature}
use Rattle.ev_typing.specs.declared.typing.Sequent.{Sequent}
use Rattle.ev_proof.specs.declared.steps.Ref.{Ref}
use Rattle.ev_proof.specs.declared.steps.Cite.{Cite}
use Rattle.ev_replay.specs.declared.scopes.Scope.{Scope}
use Rattle.ev_rules.specs.declared.elements.Element.TheVariants as element
use Rattle.ev_rules.specs.declared.elements.InferenceRule.{InferenceRule}
use Rattle.ev_rules.specs.declared.elements.RewriteRule.{RewriteRule}
use Rattle.ev_rules.specs.declared.elements.Branch.{Branch}
use Rattle.ev_forms.specs.Forms.{forall_all, call}
use Rattle.ev_typing.specs.TypeLists.{types}
use Rattle.ev_typing.specs.Env.{Name, DesOf, DirectOf, RecursiveOf, find_symbol, look_up}
use Rattle.ev_typing.specs.WellFormed.{inductive_data, spliced}
use Rattle.ev_data.specs.Closed.{destructor_row, recursion_row, cases_by_name}
use Rattle.ev_typing.specs.Sequents.{◌⊢◌, ◌▹◌}
use Rattle.ev_typing.specs.BaseSequents.{widened}
use Rattle.ev_kernel.specs.Derivable.{numbered}
use Rattle.ev_rules.specs.Params.{element_params}
use Rattle.ev_oblig.specs.Obligations.{condition_or_truth, branch_formula, complete_formula, inference_formula}
use Rattle.ev_rewrite.specs.Places.{node_at, path_types, replace_at}
use Rattle.ev_rewrite.specs.Instances.{assigned, put}
use Rattle.ev_replay.specs.Reading.{ReadEach, ReadTypes}
use Rattle.ev_replay.specs.Scopes.{cited, written_in}
use Rattle.ev_replay.specs.Citing.{leading, IsCitation, IsRuleInstance}

module _ (cs : Scope) where
  -- the node at a place of the goal, and the goal with another node there
  pub record AtPlace (S : Sequent) (place : List ℕ) (Bs : List Ty) (old new : Term) (after : Sequent) : Type 0 where
    pub stands : node_at S.goal place ≡ Some old
    pub binders : path_types S.goal place ≡ Some Bs
    pub replaced : replace_at S.goal place new ≡ Some after.goal
    pub otherwise_same : after ≡ (S ⊢ after.goal)

  -- G is a closed formula at types and terms; the formula at the types and G are cited
  abbrev pub Cites : Sequent → List ℕ → Term → Cite → List Term → Type 0
  Cites S ids P cite used = (F : Term) × IsCitation cs (type_list S.context) ids P cite F S.goal × (used ≡ F ∷ S.goal ∷ [])

  -- a rule's formula, quantified over its variables, at types; and with the terms put in
  abbrev pub rule_uses : List ℕ → List Ty → List Term → List Ty → Term → List Term
  rule_uses ids As ts xs P = retype (assigned ids As) (forall_all xs P) ∷ put ids As ts P ∷ []

  -- a closed formula with as many quantifiers taken off as there are terms, and the terms put in
  abbrev pub opened : List Term → Term → List Term
  opened ts F = option_to_list (option_map (λ (l : List Ty × Term). fill l.1 ts) (leading (length ts) F))

  -- a closed formula of a datatype or recursive operator at types; and with its quantifiers taken off and terms put in
  abbrev pub row_uses : Tys → List Term → Option Term → List Term
  row_uses As ts None = []
  row_uses As ts (Some F) = instance F As ∷ opened ts (instance F As)

  -- an inference rule whose conclusion is the goal under the instance: the givens in order
  pub record ByInference (S : Sequent) (ref : Ref) (cite : Cite) (goals : List Sequent) (used : List Term) : Type 0 where
    pub r : InferenceRule
    pub may : cited cs ref ≡ Some (element.Inference r)
    pub As : List Ty
    pub ts : List Term
    pub fits : IsRuleInstance cs (type_list S.context) (element_params (element.Inference r)) (type_list r.vars) r.conclusion cite As ts S.goal
    pub goals_are : goals ≡ map (λ G. S ⊢ put (element_params (element.Inference r)) As ts G) r.givens
    pub used_are : used ≡ rule_uses (element_params (element.Inference r)) As ts (type_list r.vars) (inference_formula r.givens r.conclusion)

  -- the goal for a condition, where there is one
  abbrev pub condition_goal : Sequent → (Term → Term) → Option Term → List Sequent
  condition_goal S f None = []
  condition_goal S f (Some C) = (S ⊢ f C) ∷ []

  -- a branch of a rewrite rule whose left side under the instance stands at the place: the condition in the context extended by
  -- the binders on the way, under the shifted hypotheses; then the goal with the right side there
  pub record ByRewriting (S : Sequent) (ref : Ref) (i : ℕ) (place : List ℕ) (cite : Cite) (goals : List Sequent) (used : List Term) : Type 0 where
    pub r : RewriteRule
    pub may : cited cs ref ≡ Some (element.Rewrite r)
    pub b : Branch
    pub branch : numbered r.branches i ≡ Some b
    pub As : List Ty
    pub ts : List Term
    pub Bs : List Ty
    pub old : Term
    pub after : Sequent
    pub rewritten : AtPlace S place Bs old (put (element_params (element.Rewrite r)) As ts b.right) after
    pub fits : IsRuleInstance cs (type_list S.context ++ Bs) (element_params (element.Rewrite r)) (type_list r.vars) r.left cite As ts old
    pub goals_are : goals ≡ condition_goal (widened S Bs) (put (element_params (element.Rewrite r)) As ts) b.condition ++ after ∷ []
    pub used_are : used ≡ rule_uses (element_params (element.Rewrite r)) As ts (type_list r.vars) (branch_formula cs.env r b)

  -- the goal for a branch of a rule by cases: under its condition, the goal with the right side at the place
  pub record IsBranchGoal (S : Sequent) (place : List ℕ) (ids : List ℕ) (As : List Ty) (ts : List Term) (b : Branch) (g : Sequent) : Type 0 where
    pub replaced : replace_at S.goal place (put ids As ts b.right) ≡ Some g.goal
    pub otherwise_same : g ≡ (S ▹ put ids As ts (condition_or_truth b.condition) ⊢ g.goal)

  -- a complete rewrite rule whose left side under the instance stands at a place under no binder: one goal per branch
  pub record ByCases (S : Sequent) (ref : Ref) (place : List ℕ) (cite : Cite) (goals : List Sequent) (used : List Term) : Type 0 where
    pub r : RewriteRule
    pub may : cited cs ref ≡ Some (element.Rewrite r)
    pub complete : IsTrue r.complete
    pub As : List Ty
    pub ts : List Term
    pub old : Term
    pub stands : node_at S.goal place ≡ Some old
    pub no_binder : path_types S.goal place ≡ Some []
    pub fits : IsRuleInstance cs (type_list S.context) (element_params (element.Rewrite r)) (type_list r.vars) r.left cite As ts old
    pub goals_are : AllZip (IsBranchGoal S place (element_params (element.Rewrite r)) As ts) r.branches goals
    pub used_are : used ≡ flat_map (λ b. rule_uses (element_params (element.Rewrite r)) As ts (type_list r.vars) (branch_formula cs.env r b)) r.branches
        ++ rule_uses (element_params (element.Rewrite r)) As ts (type_list r.vars) (complete_formula r)

  -- a direct operator at the place: the goal with its body there, types and arguments put in
  pub record ByUnfolding (S : Sequent) (place : List ℕ) (goals : List Sequent) : Type 0 where
    pub n : Name
    pub As : Tys
    pub args : Terms
    pub sig : Signature
    pub condition : Option Term
    pub body : Term
    pub found : find_symbol cs.env n ≡ Some (DirectOf sig condition body)
    pub Bs : List Ty
    pub after : Sequent
    pub unfolded_there : AtPlace S place Bs (node (User n) As args) (fill (instance body As) (term_list args)) after
    pub goals_are : goals ≡ after ∷ []

  -- the body of a direct operator under the types and terms at the place: the goal with the application there
  pub record ByFolding (S : Sequent) (n : Name) (place : List ℕ) (cite : Cite) (goals : List Sequent) : Type 0 where
    pub sig : Signature
    pub condition : Option Term
    pub body : Term
    pub found : find_symbol cs.env n ≡ Some (DirectOf sig condition body)
    pub As : List Ty
    pub ts : List Term
    pub Bs : List Ty
    pub after : Sequent
    pub types_read : ReadTypes cs.env cs.params cite.types As
    pub types_counted : length As ≡ sig.params
    pub terms_read : ReadEach cs.env cs.params (type_list S.context ++ Bs) (map (type_inst (type_at (types As))) (type_list sig.args)) cite.terms ts
    pub folded_there : AtPlace S place Bs (fill (instance body (types As)) ts) (call n (types As) ts) after
    pub goals_are : goals ≡ after ∷ []

  -- a recursive operator at the place, with a constructor at its inductive place: the goal with the case body as written there
  pub record ByRecursion (S : Sequent) (place : List ℕ) (goals : List Sequent) (used : List Term) : Type 0 where
    pub n : Name
    pub As : Tys
    pub args : Terms
    pub sig : Signature
    pub condition : Option Term
    pub inductive : ℕ
    pub bodies : List Term
    pub found : find_symbol cs.env n ≡ Some (RecursiveOf sig condition inductive bodies)
    pub c : Name
    pub Cs : Tys
    pub xs : Terms
    pub constructed : slice_get (term_list args) inductive ≡ Some (node (User c) Cs xs)
    pub d : DataDecl
    pub Ds : Tys
    pub recurs_on : inductive_data cs.env sig inductive ≡ Some (d, Ds)
    pub written : List Term
    pub are_written : written_in n cs.elements ≡ Some written
    pub k : Con
    pub body : Term
    pub case_is : look_up (cases_by_name d.cons written) c ≡ Some (k, body)
    pub Bs : List Ty
    pub after : Sequent
    pub put_there : AtPlace S place Bs (node (User n) As args) (fill (instance body As) (spliced (term_list args) inductive (term_list xs))) after
    pub goals_are : goals ≡ after ∷ []
    pub used_are : used ≡ row_uses As (spliced (term_list args) inductive (term_list xs)) (recursion_row cs.env n c)

  -- a destructor on its own constructor at the place: the goal with that argument there
  pub record ByDestructor (S : Sequent) (place : List ℕ) (goals : List Sequent) (used : List Term) : Type 0 where
    pub n : Name
    pub As : Tys
    pub d : DataDecl
    pub c : Con
    pub i : ℕ
    pub f : Var
    pub found : find_symbol cs.env n ≡ Some (DesOf d c i f)
    pub Cs : Tys
    pub xs : Terms
    pub x : Term
    pub argument : slice_get (term_list xs) i ≡ Some x
    pub Bs : List Ty
    pub after : Sequent
    pub put_there : AtPlace S place Bs (node (User n) As (cons (node (User c.name) Cs xs) nil)) x after
    pub goals_are : goals ≡ after ∷ []
    pub used_are : used ≡ row_uses As (term_list xs) (destructor_row cs.env c.name (i + 1))
