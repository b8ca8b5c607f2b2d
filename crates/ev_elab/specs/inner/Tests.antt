-- Whether parts of an element use a name that is no formula name, or a number that no type parameter has.
use Rattle.std.specs.Prelude.{◌++◌, ◌||◌, ◌&&◌, ℕ, Bool as Boolean, false, not, List, [], ◌∷◌, Option, Some, None, length}
use Rattle.std.specs.List.{list_any}
use Rattle.ev_syntax.specs.Raw.{RawType, Raw}
use Rattle.ev_theory_text.specs.declared.forms.RawArg.{RawArg}
use Rattle.ev_theory_text.specs.declared.forms.RawCon.{RawCon}
use Rattle.ev_theory_text.specs.declared.forms.RawHead.{RawHead}
use Rattle.ev_theory_text.specs.declared.forms.RawCase.{RawCase}
use Rattle.ev_theory_text.specs.declared.forms.RawBody.{RawBody}
use Rattle.ev_theory_text.specs.declared.forms.RawBody.TheVariants.{Direct, Recursive}
use Rattle.ev_theory_text.specs.declared.forms.RawResult.{RawResult}
use Rattle.ev_theory_text.specs.declared.forms.RawResult.TheVariants.{Predicate, Typed}
use Rattle.ev_theory_text.specs.declared.forms.RawBranch.{RawBranch}
use Rattle.ev_theory_text.specs.declared.forms.ElementForm.{ElementForm}
use Rattle.ev_theory_text.specs.declared.forms.ElementForm.TheVariants.{Import, Param, Datatype, Operator, Constant, Axiom, Theorem, Rewrite, Inference}
use Rattle.ev_typing.specs.Env.{Env, Name}
use Rattle.ev_resolve.specs.UsedNames.{is_name_among, type_names, type_params, used_names, used_params}
use Rattle.ev_resolve.specs.inner.Unknown.{is_unknown}
use Rattle.ev_elab.specs.Parts.{arg_names, case_names}
use Rattle.ev_elab.specs.Unknown.{is_no_number}

-- Over the formula names of an environment and of type parameters, so many of which have numbers.
module _ (env : Env) (params : List Name) (count : ℕ) where
  abbrev pub type_fails : RawType → Boolean
  type_fails a = list_any (is_unknown env params) (type_names a) || list_any (is_no_number count) (type_params a)

  abbrev pub arg_fails : RawArg → Boolean
  arg_fails a = type_fails a.written

  abbrev pub con_fails : RawCon → Boolean
  con_fails c = list_any arg_fails c.args

  abbrev pub result_fails : RawResult → Boolean
  result_fails Predicate = false
  result_fails (Typed a) = type_fails a

  abbrev pub head_fails : RawHead → Boolean
  head_fails h = list_any arg_fails h.args || result_fails h.gives

  -- under these bound names
  abbrev pub formula_fails : List Name → Raw → Boolean
  formula_fails bound e = list_any (is_unknown env params) (used_names e bound) || list_any (is_no_number count) (used_params e)

  abbrev pub optional_fails : List Name → Option Raw → Boolean
  optional_fails bound None = false
  optional_fails bound (Some e) = formula_fails bound e

  abbrev pub branch_fails : List Name → RawBranch → Boolean
  branch_fails bound b = optional_fails bound b.condition || formula_fails bound b.right

  -- under the arguments
  abbrev pub case_fails : List Name → Name → RawCase → Boolean
  case_fails args by c = formula_fails (case_names by c.vars args) c.body

-- a constructor that a case names
abbrev pub con_unknown : Env → List Name → RawCase → Boolean
con_unknown env params c = is_unknown env params c.con

-- what stands behind BY
abbrev pub by_unknown : Env → List Name → List Name → Name → Boolean
by_unknown env params args by = not (is_name_among args by) && is_unknown env params by

-- The same of the parts of an element, where these are the theory's type parameters. In a case the operator's own name is one more
-- formula name, as a datatype's is in its constructors.
module _ (env : Env) (params : List Name) where
  abbrev pub body_fails : RawHead → RawBody → Boolean
  body_fails h (Direct e) = formula_fails env params (length params) (arg_names h.args) e
  body_fails h (Recursive by cases) =
      list_any (case_fails env (params ++ h.name ∷ []) (length params) (arg_names h.args) by) cases
      || (by_unknown env params (arg_names h.args) by || list_any (con_unknown env params) cases)

  abbrev pub operator_fails : RawHead → Option Raw → RawBody → Boolean
  operator_fails h c body =
      head_fails env params (length params) h || (optional_fails env params (length params) (arg_names h.args) c || body_fails h body)

  abbrev pub constant_fails : RawHead → Option Raw → Boolean
  constant_fails h c = head_fails env params (length params) h || optional_fails env params (length params) (arg_names h.args) c

  abbrev pub data_fails : Name → List Name → List RawCon → Boolean
  data_fails n listed cons =
      list_any (con_fails env (params ++ n ∷ []) (length params)) cons || list_any (is_unknown env params) listed

  abbrev pub rewrite_fails : List RawArg → Raw → List RawBranch → Boolean
  rewrite_fails vars left branches =
      list_any (arg_fails env params (length params)) vars
      || (formula_fails env params (length params) (arg_names vars) left || list_any (branch_fails env params (length params) (arg_names vars)) branches)

  abbrev pub inference_fails : List RawArg → List Raw → Raw → Boolean
  inference_fails vars givens p =
      list_any (arg_fails env params (length params)) vars
      || (list_any (formula_fails env params (length params) (arg_names vars)) givens || formula_fails env params (length params) (arg_names vars) p)

  abbrev pub element_fails : ElementForm → Boolean
  element_fails (Import n) = false
  element_fails (Param names) = false
  element_fails (Datatype n listed cons) = data_fails n listed cons
  element_fails (Operator h c body) = operator_fails h c body
  element_fails (Constant h c) = constant_fails h c
  element_fails (Axiom n p) = formula_fails env params (length params) [] p
  element_fails (Theorem n p) = formula_fails env params (length params) [] p
  element_fails (Rewrite n vars left branches complete) = rewrite_fails vars left branches
  element_fails (Inference n vars givens p) = inference_fails vars givens p
