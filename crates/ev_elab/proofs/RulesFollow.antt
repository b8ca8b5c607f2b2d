-- Axioms, theorems and rules that are read may follow.
use Rattle.std.specs.Prelude.{◌≡◌, ◌≢◌, List, [], ◌∷◌, Some, refl}
use Rattle.std.specs.List.{AllByRecursion, AllZip}
use Rattle.std.proofs.Common.{ap, sym, ◌∙◌, subst as transport}
use Rattle.ev_terms.specs.declared.types.Ty.{Ty, Prop}
use Rattle.ev_terms.specs.Types.{type_list}
use Rattle.ev_terms.specs.Term.{Term}
use Rattle.ev_syntax.specs.Raw.{Raw}
use Rattle.ev_theory_text.specs.declared.forms.RawArg.{RawArg}
use Rattle.ev_theory_text.specs.declared.forms.RawBranch.{RawBranch}
use Rattle.ev_typing.specs.declared.typing.Var.{Var}
use Rattle.ev_typing.specs.TypeLists.{types}
use Rattle.ev_typing.specs.Env.{Env, Name}
use Rattle.ev_typing.specs.Typing.{IsProper, AreProper, type_in}
use Rattle.ev_typing.specs.WellFormed.{IsWellFormed}
use Rattle.ev_typing.proofs.Laws.{type_list-types}
use Rattle.ev_typing.proofs.ProperSignatures.{signatures_proper}
use Rattle.ev_rules.specs.declared.elements.Branch.{Branch}
use Rattle.ev_rules.specs.declared.elements.RewriteRule.{RewriteRule}
use Rattle.ev_rules.specs.declared.elements.InferenceRule.{InferenceRule}
use Rattle.ev_ops.specs.Formulas.{IsFormula, IsOptional, IsBranch, IsRewriteRule, IsInferenceRule}
use Rattle.ev_elab.specs.Types.{read_args, var_types}
use Rattle.ev_elab.specs.Formulas.{IsRead, formula_at, predicate}
use Rattle.ev_elab.specs.Readings.{ReadsBranch, ReadsRewrite, ReadsInference}
use Rattle.ev_elab.proofs.TypedFormulas.{formula_read, any_read, optional_read, typed_result}
use Rattle.ev_elab.proofs.ProperArgs.{args_read, args_proper, types_proper}

-- An axiom or a theorem.
pub closed_formula : (params : List Name) (env : Env) (p : Raw) (t : Term) → IsRead params (predicate env [] p) t → IsFormula env [] Prop t
closed_formula params env p t r = formula_read params env [] Prop p t tt r

-- The variables of a rule.
module _ (params : List Name) (env : Env) (args : List RawArg) (vars : List Var) (e : read_args params env args ≡ Some vars) where
  proper_variables : AllByRecursion (IsProper env) (var_types vars)
  proper_variables = args_proper params env args vars (args_read params env args vars e)

  formula_over : (A : Ty) (raw : Raw) (t : Term) → IsRead params (formula_at env vars (Some A) raw) t → IsFormula env (type_list (types (var_types vars))) A t
  formula_over A raw t r = transport (λ C. IsFormula env C A t) (sym (type_list-types (var_types vars))) (formula_read params env vars A raw t proper_variables r)

  branch_follows : (A : Ty) (raw : RawBranch) (b : Branch) → ReadsBranch params env vars A raw b → IsBranch env (type_list (types (var_types vars))) A b
  branch_follows A raw b r = record {
    condition = transport (λ C. IsOptional env C b.condition) (sym (type_list-types (var_types vars))) (optional_read params env vars raw.condition b.condition proper_variables r.condition);
    right = formula_over A raw.right b.right r.right;
  }

  branches_follow : (A : Ty) (raws : List RawBranch) (bs : List Branch) → AllZip (ReadsBranch params env vars A) raws bs → AllByRecursion (IsBranch env (type_list (types (var_types vars))) A) bs
  branches_follow A [] [] h = tt
  branches_follow A [] (b ∷ bs) h = absurd h
  branches_follow A (raw ∷ raws) [] h = absurd h
  branches_follow A (raw ∷ raws) (b ∷ bs) h = (branch_follows A raw b h.0, branches_follow A raws bs h.1)

  givens_follow : (raws : List Raw) (ts : List Term) → AllZip (λ raw t. IsRead params (predicate env vars raw) t) raws ts → AllByRecursion (IsFormula env (type_list (types (var_types vars))) Prop) ts
  givens_follow [] [] h = tt
  givens_follow [] (t ∷ ts) h = absurd h
  givens_follow (raw ∷ raws) [] h = absurd h
  givens_follow (raw ∷ raws) (t ∷ ts) h = (formula_over Prop raw t h.0, givens_follow raws ts h.1)

no_branch : (R : RawBranch → Branch → Type 0) (raws : List RawBranch) (bs : List Branch) → raws ≢ [] → AllZip R raws bs → bs ≢ []
no_branch R [] bs n h e = n refl
no_branch R (raw ∷ raws) [] n h e = h
no_branch R (raw ∷ raws) (b ∷ bs) n h e = cc

pub rewrite_follows : (params : List Name) (env : Env) → IsWellFormed env → (vars : List RawArg) (left : Raw) (branches : List RawBranch) (r : RewriteRule) → branches ≢ [] →
    ReadsRewrite params env vars left branches r → IsRewriteRule env r
rewrite_follows params env w args left branches r n h =
    let p = proper_variables params env args h.variables h.args in
    let C = var_types h.variables in
    let A = type_in env C r.left in
    let f : IsFormula env C A r.left = any_read params env h.variables left r.left p h.left_read in
    let e : type_list r.vars ≡ type_list (types C) = ap type_list h.vars_are in
    record {
      vars = transport (AreProper env) (sym h.vars_are) (types_proper env C p);
      type = A;
      sort = typed_result env (signatures_proper env w) C p r.left A f.typed;
      left = transport (λ D. IsFormula env D A r.left) (sym (e ∙ type_list-types C)) f;
      some = no_branch (ReadsBranch params env h.variables A) branches r.branches n h.branches_read;
      branches = transport (λ D. AllByRecursion (IsBranch env D A) r.branches) (sym e) (branches_follow params env args h.variables h.args A branches r.branches h.branches_read);
    }

pub inference_follows : (params : List Name) (env : Env) (vars : List RawArg) (givens : List Raw) (p : Raw) (r : InferenceRule) → ReadsInference params env vars givens p r → IsInferenceRule env r
inference_follows params env args givens p r h =
    let q = proper_variables params env args h.variables h.args in
    let C = var_types h.variables in
    let e : type_list r.vars ≡ type_list (types C) = ap type_list h.vars_are in
    record {
      vars = transport (AreProper env) (sym h.vars_are) (types_proper env C q);
      givens = transport (λ D. AllByRecursion (IsFormula env D Prop) r.givens) (sym e) (givens_follow params env args h.variables h.args givens r.givens h.givens_read);
      conclusion = transport (λ D. IsFormula env D Prop r.conclusion) (sym e) (formula_over params env args h.variables h.args Prop p r.conclusion h.conclusion_read);
    }
