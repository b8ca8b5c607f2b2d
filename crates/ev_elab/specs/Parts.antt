-- The types and formulas of an element as they are written, each where its names are looked up.
use Rattle.std.specs.Prelude.{◌++◌, not, List, [], ◌∷◌, Option, Some, None, bytes_eq, cond, map, filter, flat_map, length}
use Rattle.ev_terms.specs.declared.types.Ty.{Prop}
use Rattle.ev_terms.specs.declared.types.Tys.{Empty}
use Rattle.ev_syntax.specs.Raw.{RawType, Raw}
use Rattle.ev_theory_text.specs.declared.forms.RawArg.{RawArg}
use Rattle.ev_theory_text.specs.declared.forms.RawCon.{RawCon}
use Rattle.ev_theory_text.specs.declared.forms.RawHead.{RawHead}
use Rattle.ev_theory_text.specs.declared.forms.RawCase.{RawCase}
use Rattle.ev_theory_text.specs.declared.forms.RawBody.{RawBody}
use Rattle.ev_theory_text.specs.declared.forms.RawBody.TheVariants.{Direct, Recursive}
use Rattle.ev_theory_text.specs.declared.forms.RawResult.{RawResult}
use Rattle.ev_theory_text.specs.declared.forms.RawResult.TheVariants.{Predicate, Typed}
use Rattle.ev_theory_text.specs.declared.forms.RawBranch.{RawBranch}
use Rattle.ev_theory_text.specs.declared.forms.ElementForm.{ElementForm}
use Rattle.ev_theory_text.specs.declared.forms.ElementForm.TheVariants.{Import, Param, Datatype, Operator, Constant, Axiom, Theorem, Rewrite, Inference}
use Rattle.ev_typing.specs.declared.typing.Entry.TheVariants as entry
use Rattle.ev_typing.specs.Env.{Env, Name}
use Rattle.ev_elab.specs.Types.{with_data}

-- a type with the environment of its names
pub record WrittenType : Type 0 where
  pub type_env : Env
  pub type : RawType

-- a formula with the environment of its names and the names of its variables
pub record WrittenFormula : Type 0 where
  pub formula_env : Env
  pub bound : List Name
  pub formula : Raw

abbrev pub arg_names : List RawArg → List Name
arg_names args = map (λ (a : RawArg). a.name) args

abbrev pub arg_types : Env → List RawArg → List WrittenType
arg_types env args = map (λ (a : RawArg). record { type_env = env; type = a.written }) args

abbrev pub result_types : Env → RawResult → List WrittenType
result_types env Predicate = []
result_types env (Typed a) = record { type_env = env; type = a } ∷ []

abbrev pub head_types : Env → RawHead → List WrittenType
head_types env h = arg_types env h.args ++ result_types env h.gives

-- the types of an element; those of a constructor's arguments may name the datatype
abbrev pub written_types : Env → ElementForm → List WrittenType
written_types env (Datatype n listed cons) = flat_map (λ (c : RawCon). arg_types (with_data env n (length listed)) c.args) cons
written_types env (Operator h c body) = head_types env h
written_types env (Constant h c) = head_types env h
written_types env (Rewrite n vars left branches complete) = arg_types env vars
written_types env (Inference n vars givens p) = arg_types env vars
written_types env _ = []

abbrev pub formula_in : Env → List Name → Raw → WrittenFormula
formula_in env bound p = record { formula_env = env; bound = bound; formula = p }

abbrev pub optional : Env → List Name → Option Raw → List WrittenFormula
optional env bound None = []
optional env bound (Some p) = formula_in env bound p ∷ []

-- the environment in which an operator's own name is known
abbrev pub with_name : Env → Name → Env
with_name env n = env ++ entry.Constant (record { name = n; params = 0; args = Empty; result = Prop }) None ∷ []

-- the names without one of them
abbrev pub but : Name → List Name → List Name
but n names = filter (λ m. not (bytes_eq n m)) names

-- the variables of a case: the arguments, with the constructor's variables in place of the one that BY names, which is no variable
-- there; behind them, where it names none
abbrev pub case_names : Name → List Name → List Name → List Name
case_names by vars [] = vars
case_names by vars (a ∷ args) = cond (bytes_eq by a) (vars ++ but by args) (a ∷ case_names by vars args)

-- in a case the operator's own name is known
abbrev pub formula_of_case : Env → RawHead → Name → RawCase → WrittenFormula
formula_of_case env h by c = formula_in (with_name env h.name) (case_names by c.vars (arg_names h.args)) c.body

abbrev pub formulas_of_body : Env → RawHead → RawBody → List WrittenFormula
formulas_of_body env h (Direct e) = formula_in env (arg_names h.args) e ∷ []
formulas_of_body env h (Recursive by cases) = map (formula_of_case env h by) cases

abbrev pub formulas_of_branch : Env → List Name → RawBranch → List WrittenFormula
formulas_of_branch env bound b = optional env bound b.condition ++ formula_in env bound b.right ∷ []

-- the formulas of an element
abbrev pub written_formulas : Env → ElementForm → List WrittenFormula
written_formulas env (Import n) = []
written_formulas env (Param names) = []
written_formulas env (Datatype n listed cons) = []
written_formulas env (Operator h c body) = optional env (arg_names h.args) c ++ formulas_of_body env h body
written_formulas env (Constant h c) = optional env (arg_names h.args) c
written_formulas env (Axiom n p) = formula_in env [] p ∷ []
written_formulas env (Theorem n p) = formula_in env [] p ∷ []
written_formulas env (Rewrite n vars left branches complete) = formula_in env (arg_names vars) left ∷ flat_map (formulas_of_branch env (arg_names vars)) branches
written_formulas env (Inference n vars givens p) = map (formula_in env (arg_names vars)) givens ++ formula_in env (arg_names vars) p ∷ []
