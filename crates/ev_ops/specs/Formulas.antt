-- What holds of the formulas of elements, and which elements may follow one another.
use Rattle.std.specs.Prelude.{◌++◌, ◌≢◌, ℕ, List, [], ◌∷◌, Option, Some, None, IsSomeAnd, ⊤}
use Rattle.std.specs.List.{AllByRecursion, AllZip}
use Rattle.ev_terms.specs.declared.types.Ty.{Ty, Prop}
use Rattle.ev_terms.specs.Types.{type_list}
use Rattle.ev_terms.specs.Term.{Term}
use Rattle.ev_typing.specs.declared.typing.Entry.{Entry}
use Rattle.ev_typing.specs.declared.typing.Signature.{Signature}
use Rattle.ev_typing.specs.declared.typing.Con.{Con}
use Rattle.ev_typing.specs.Env.{Env}
use Rattle.ev_typing.specs.Typing.{AreProper, Typed}
use Rattle.ev_typing.specs.Proper.{IsResult}
use Rattle.ev_typing.specs.WellFormed.{HasNewNames, IsGoodEntry, inductive_data, case_context}
use Rattle.ev_wd.specs.Limits.{IsSmall}
use Rattle.ev_data.specs.Sound.{IsAdmittedEntry}
use Rattle.ev_rules.specs.declared.elements.Branch.{Branch}
use Rattle.ev_rules.specs.declared.elements.RewriteRule.{RewriteRule}
use Rattle.ev_rules.specs.declared.elements.InferenceRule.{InferenceRule}
use Rattle.ev_rules.specs.declared.elements.Element.{Element}
use Rattle.ev_rules.specs.declared.elements.Element.TheVariants.{Import, Params, Data, Direct, Recursive, Constant, Axiom, Theorem, Rewrite, Inference}
use Rattle.ev_ops.specs.Entries.{entry_of, with_element}

-- a formula of the type in the context, within the limits
pub record IsFormula (env : Env) (C : List Ty) (A : Ty) (t : Term) : Type 0 where
  pub typed : Typed env C t A
  pub small : IsSmall t

-- a condition, where there is one
abbrev pub IsOptional : Env → List Ty → Option Term → Type 0
IsOptional env C None = ⊤
IsOptional env C (Some P) = IsFormula env C Prop P

-- the bodies of a recursive operator as they are written, one for each constructor
abbrev pub AreBodies : Env → Signature → ℕ → List Term → Type 0
AreBodies env sig place bodies =
    IsSomeAnd (inductive_data env sig place) (λ p. AllZip (λ (c : Con). IsFormula env (case_context sig place p.1 c) sig.result) p.0.cons bodies)

-- a right side of a rewrite rule, whose left side has the type
pub record IsBranch (env : Env) (C : List Ty) (A : Ty) (b : Branch) : Type 0 where
  pub condition : IsOptional env C b.condition
  pub right : IsFormula env C A b.right

-- a rewrite rule has at least one right side: without any, a split by its cases would prove everything
pub record IsRewriteRule (env : Env) (r : RewriteRule) : Type 0 where
  pub vars : AreProper env r.vars
  pub type : Ty
  pub sort : IsResult env type
  pub left : IsFormula env (type_list r.vars) type r.left
  pub some : r.branches ≢ []
  pub branches : AllByRecursion (IsBranch env (type_list r.vars) type) r.branches

pub record IsInferenceRule (env : Env) (r : InferenceRule) : Type 0 where
  pub vars : AreProper env r.vars
  pub givens : AllByRecursion (IsFormula env (type_list r.vars) Prop) r.givens
  pub conclusion : IsFormula env (type_list r.vars) Prop r.conclusion

-- the formulas of an element are typed and within the limits, over an environment in which the element itself stands
abbrev pub HasFormulas : Env → Element → Type 0
HasFormulas env (Import n) = ⊤
HasFormulas env (Params names) = ⊤
HasFormulas env (Data d) = ⊤
HasFormulas env (Direct sig condition body) = IsOptional env (type_list sig.args) condition × IsFormula env (type_list sig.args) sig.result body
HasFormulas env (Recursive sig condition place bodies) = IsOptional env (type_list sig.args) condition × AreBodies env sig place bodies
HasFormulas env (Constant sig condition) = IsOptional env (type_list sig.args) condition
HasFormulas env (Axiom label P) = IsFormula env [] Prop P
HasFormulas env (Theorem label P) = IsFormula env [] Prop P
HasFormulas env (Rewrite r) = IsRewriteRule env r
HasFormulas env (Inference r) = IsInferenceRule env r

-- an entry, where there is one, is well formed over those before it and admitted
abbrev pub IsNewEntry : Env → Option Entry → Type 0
IsNewEntry env None = ⊤
IsNewEntry env (Some e) = HasNewNames env e × IsGoodEntry env e × IsAdmittedEntry (env ++ e ∷ []) e

-- the element may follow the entries: what it declares is new and admitted, and its formulas are such
abbrev pub MayFollow : Env → Element → Type 0
MayFollow env e = IsNewEntry env (entry_of env e) × HasFormulas (with_element env e) e

-- each element may follow the entries and the elements before it
abbrev pub MayFollowAll : Env → List Element → Type 0
MayFollowAll env [] = ⊤
MayFollowAll env (e ∷ es) = MayFollow env e × MayFollowAll (with_element env e) es
