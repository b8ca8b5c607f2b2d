-- The tests of an element's names, and the definition of names that are not in scope.
use Rattle.std.specs.Prelude.{◌≡◌, ◌||◌, ◌++◌, ℕ, Bool, true, false, not, List, [], ◌∷◌, Option, Some, None, length, flat_map, map, refl}
use Rattle.std.specs.List.{list_any}
use Rattle.std.proofs.Common.{ap, sym, ◌∙◌}
use Rattle.std.proofs.lemmas.List.Folds.{list_any-append}
use Rattle.ev_syntax.specs.Raw.{RawType, Raw}
use Rattle.ev_theory_text.specs.declared.forms.RawArg.{RawArg}
use Rattle.ev_theory_text.specs.declared.forms.RawCon.{RawCon}
use Rattle.ev_theory_text.specs.declared.forms.RawHead.{RawHead}
use Rattle.ev_theory_text.specs.declared.forms.RawCase.{RawCase}
use Rattle.ev_theory_text.specs.declared.forms.RawBody.{RawBody}
use Rattle.ev_theory_text.specs.declared.forms.RawBody.TheVariants.{Direct, Recursive}
use Rattle.ev_theory_text.specs.declared.forms.RawResult.{RawResult}
use Rattle.ev_theory_text.specs.declared.forms.RawResult.TheVariants.{Predicate, Typed}
use Rattle.ev_theory_text.specs.declared.forms.RawBranch.{RawBranch}
use Rattle.ev_theory_text.specs.declared.forms.ElementForm.{ElementForm}
use Rattle.ev_theory_text.specs.declared.forms.ElementForm.TheVariants.{Import, Param, Datatype, Operator, Constant, Axiom, Theorem, Rewrite, Inference}
use Rattle.ev_typing.specs.Env.{Env, Name}
use Rattle.ev_typing.proofs.Names.{drop_at, drop_all}
use Rattle.ev_resolve.specs.UsedNames.{type_names, type_params, used_names, used_params}
use Rattle.ev_elab.specs.Types.{with_data}
use Rattle.ev_elab.specs.Parts.{arg_names, arg_types, result_types, head_types, formula_in, optional, case_names, formula_of_case, formulas_of_body, formulas_of_branch}
use Rattle.ev_elab.specs.Unknown.{type_unknown, formula_unknown, body_unknown, element_unknown, is_no_param}
use Rattle.ev_elab.specs.inner.Tests.{type_fails, arg_fails, con_fails, result_fails, head_fails, formula_fails, optional_fails, branch_fails, case_fails, body_fails, element_fails}
use Rattle.ev_elab.proofs.OwnNames.{known_data, known_name}

pub any_same : {X : Type 0} (p q : X → Bool) → ((x : X) → p x ≡ q x) → (xs : List X) → list_any p xs ≡ list_any q xs
any_same {X = X} p q h [] = refl
any_same {X = X} p q h (x ∷ xs) = ap (λ b. b || list_any p xs) (h x) ∙ ap (λ b. q x || b) (any_same p q h xs)

pub any_map : {X Y : Type 0} (p : Y → Bool) (f : X → Y) (xs : List X) → list_any p (map f xs) ≡ list_any (λ x. p (f x)) xs
any_map p f [] = refl
any_map p f (x ∷ xs) = ap (λ b. p (f x) || b) (any_map p f xs)

pub any_flat : {X Y : Type 0} (p : Y → Bool) (f : X → List Y) (xs : List X) → list_any p (flat_map f xs) ≡ list_any (λ x. list_any p (f x)) xs
any_flat p f [] = refl
any_flat p f (x ∷ xs) = list_any-append p (f x) (flat_map f xs) ∙ ap (λ b. list_any p (f x) || b) (any_flat p f xs)

-- the types of constructors, in which the datatype's own name is known
data_type : (params : List Name) (env : Env) (n : Name) (k : ℕ) (a : RawType)
    → type_fails env (params ++ n ∷ []) (length params) a ≡ type_unknown params (record { type_env = with_data env n k; type = a })
data_type params env n k a =
    ap (λ b. b || list_any (is_no_param params) (type_params a)) (any_same _ _ (λ m. ap not (known_data params env n k m)) (type_names a))

data_args : (params : List Name) (env : Env) (n : Name) (k : ℕ) (args : List RawArg)
    → list_any (arg_fails env (params ++ n ∷ []) (length params)) args ≡ list_any (type_unknown params) (arg_types (with_data env n k) args)
data_args params env n k args =
    any_same _ _ (λ (a : RawArg). data_type params env n k a.written) args
    ∙ sym (any_map (type_unknown params) (λ (a : RawArg). record { type_env = with_data env n k; type = a.written }) args)

pub data_cons : (params : List Name) (env : Env) (n : Name) (k : ℕ) (cons : List RawCon)
    → list_any (con_fails env (params ++ n ∷ []) (length params)) cons ≡ list_any (type_unknown params) (flat_map (λ (c : RawCon). arg_types (with_data env n k) c.args) cons)
data_cons params env n k cons =
    any_same _ _ (λ (c : RawCon). data_args params env n k c.args) cons
    ∙ sym (any_flat (type_unknown params) (λ (c : RawCon). arg_types (with_data env n k) c.args) cons)

or_false : (b : Bool) → (b || false) ≡ b
or_false true = refl
or_false false = refl

or_assoc : (a b c : Bool) → ((a || b) || c) ≡ (a || (b || c))
or_assoc true b c = refl
or_assoc false b c = refl

or_both : {a b c d : Bool} → a ≡ b → c ≡ d → (a || c) ≡ (b || d)
or_both {a = a} {b = b} {c = c} {d = d} p q = ap (λ x. x || c) p ∙ ap (λ x. b || x) q

-- The parts of an element, over the theory's type parameters and an environment.
module _ (params : List Name) (env : Env) where
  args_fail : (args : List RawArg) → list_any (type_unknown params) (arg_types env args) ≡ list_any (arg_fails env params (length params)) args
  args_fail args = any_map (type_unknown params) (λ (a : RawArg). record { type_env = env; type = a.written }) args

  result_fail : (g : RawResult) → list_any (type_unknown params) (result_types env g) ≡ result_fails env params (length params) g
  result_fail Predicate = refl
  result_fail (Typed a) = or_false _

  head_fail : (h : RawHead) → list_any (type_unknown params) (head_types env h) ≡ head_fails env params (length params) h
  head_fail h = list_any-append (type_unknown params) (arg_types env h.args) (result_types env h.gives) ∙ or_both (args_fail h.args) (result_fail h.gives)

  one_fail : (bound : List Name) (e : Raw) → list_any (formula_unknown params) (formula_in env bound e ∷ []) ≡ formula_fails env params (length params) bound e
  one_fail bound e = or_false _

  optional_fail : (bound : List Name) (c : Option Raw) → list_any (formula_unknown params) (optional env bound c) ≡ optional_fails env params (length params) bound c
  optional_fail bound None = refl
  optional_fail bound (Some e) = or_false _

  branch_fail : (bound : List Name) (b : RawBranch) → list_any (formula_unknown params) (formulas_of_branch env bound b) ≡ branch_fails env params (length params) bound b
  branch_fail bound b =
      list_any-append (formula_unknown params) (optional env bound b.condition) (formula_in env bound b.right ∷ [])
      ∙ or_both (optional_fail bound b.condition) (one_fail bound b.right)

  branches_fail : (bound : List Name) (bs : List RawBranch) → list_any (formula_unknown params) (flat_map (formulas_of_branch env bound) bs)
      ≡ list_any (branch_fails env params (length params) bound) bs
  branches_fail bound bs = any_flat (formula_unknown params) (formulas_of_branch env bound) bs ∙ any_same _ _ (branch_fail bound) bs

  givens_fail : (bound : List Name) (es : List Raw) → list_any (formula_unknown params) (map (formula_in env bound) es)
      ≡ list_any (formula_fails env params (length params) bound) es
  givens_fail bound es = any_map (formula_unknown params) (formula_in env bound) es

  case_fail : (h : RawHead) (by : Name) (c : RawCase) → formula_unknown params (formula_of_case env h by c)
      ≡ case_fails env (params ++ h.name ∷ []) (length params) (arg_names h.args) by c
  case_fail h by c =
      ap (λ b. b || list_any (is_no_param params) (used_params c.body))
      (any_same _ _ (λ m. ap not (sym (known_name params env h.name m))) (used_names c.body (case_names by c.vars (arg_names h.args))))

  body_fail : (h : RawHead) (b : RawBody) → (list_any (formula_unknown params) (formulas_of_body env h b) || body_unknown params env (arg_names h.args) b) ≡ body_fails env params h b
  body_fail h (Direct e) = or_false _ ∙ or_false _
  body_fail h (Recursive by cases) =
      or_both (any_map (formula_unknown params) (formula_of_case env h by) cases ∙ any_same _ _ (case_fail h by) cases) refl

  pub whole_fails : (form : ElementForm) → element_unknown params env form ≡ element_fails env params form
  whole_fails (Import n) = refl
  whole_fails (Param names) = refl
  whole_fails (Datatype n listed cons) = or_both (sym (data_cons params env n (length listed) cons)) refl
  whole_fails (Operator h c body) =
      or_both (head_fail h)
      (ap (λ x. x || body_unknown params env (arg_names h.args) body) (list_any-append (formula_unknown params) (optional env (arg_names h.args) c) (formulas_of_body env h body))
      ∙ or_assoc (list_any (formula_unknown params) (optional env (arg_names h.args) c)) (list_any (formula_unknown params) (formulas_of_body env h body)) (body_unknown params env (arg_names h.args) body)
      ∙ or_both (optional_fail (arg_names h.args) c) (body_fail h body))
  whole_fails (Constant h c) = or_both (head_fail h) (or_false _ ∙ optional_fail (arg_names h.args) c)
  whole_fails (Axiom n p) = or_false _ ∙ one_fail [] p
  whole_fails (Theorem n p) = or_false _ ∙ one_fail [] p
  whole_fails (Rewrite n vars left branches complete) =
      or_both (args_fail vars) (or_false _ ∙ or_both refl (branches_fail (arg_names vars) branches))
  whole_fails (Inference n vars givens p) =
      or_both (args_fail vars)
      (or_false _
      ∙ list_any-append (formula_unknown params) (map (formula_in env (arg_names vars)) givens) (formula_in env (arg_names vars) p ∷ [])
      ∙ or_both (givens_fail (arg_names vars) givens) (one_fail (arg_names vars) p))

pub ruleset walk = (drop_at, drop_all)

pub ruleset whole = (whole_fails)
