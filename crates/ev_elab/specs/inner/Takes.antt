-- Whether names of an element are taken, by tests of names.
use Rattle.std.specs.Prelude.{◌++◌, ◌||◌, Bool as Boolean, false, List, [], ◌∷◌, Option, Some, None}
use Rattle.std.specs.List.{list_any}
use Rattle.ev_syntax.specs.Raw.{Raw}
use Rattle.ev_syntax.specs.Names.{is_variable_name}
use Rattle.ev_theory_text.specs.declared.forms.RawHead.{RawHead}
use Rattle.ev_theory_text.specs.declared.forms.RawCase.{RawCase}
use Rattle.ev_theory_text.specs.declared.forms.RawBody.{RawBody}
use Rattle.ev_theory_text.specs.declared.forms.RawBody.TheVariants.{Direct, Recursive}
use Rattle.ev_theory_text.specs.declared.forms.RawBranch.{RawBranch}
use Rattle.ev_theory_text.specs.declared.forms.ElementForm.{ElementForm}
use Rattle.ev_theory_text.specs.declared.forms.ElementForm.TheVariants.{Import, Param, Datatype, Operator, Constant, Axiom, Theorem, Rewrite, Inference}
use Rattle.ev_typing.specs.Env.{Env, Name}
use Rattle.ev_resolve.specs.TakenNames.{takes_name}
use Rattle.ev_elab.specs.Unknown.{is_known}
use Rattle.ev_elab.specs.Taken.{declared_formulas, declared_labels, repeats, variable_list, others_taken}

-- some branch of a rule has a binder with a formula name
abbrev pub optional_takes : Env → List Name → Option Raw → Boolean
optional_takes env params None = false
optional_takes env params (Some e) = takes_name env params e

abbrev pub branch_takes : Env → List Name → RawBranch → Boolean
branch_takes env params b = optional_takes env params b.condition || takes_name env params b.right

abbrev pub case_takes : Env → List Name → RawCase → Boolean
case_takes env params c = takes_name env params c.body

-- in a case the operator's own name is one more formula name
abbrev pub body_takes : Env → List Name → RawHead → RawBody → Boolean
body_takes env params h (Direct e) = takes_name env params e
body_takes env params h (Recursive by cases) = list_any (case_takes env (params ++ h.name ∷ [])) cases

-- some binder of the element has a formula name
abbrev pub form_takes : Env → List Name → ElementForm → Boolean
form_takes env params (Import n) = false
form_takes env params (Param names) = false
form_takes env params (Datatype n listed cons) = false
form_takes env params (Operator h c body) = optional_takes env params c || body_takes env params h body
form_takes env params (Constant h c) = optional_takes env params c
form_takes env params (Axiom n p) = takes_name env params p
form_takes env params (Theorem n p) = takes_name env params p
form_takes env params (Rewrite n vars left branches complete) = takes_name env params left || list_any (branch_takes env params) branches
form_takes env params (Inference n vars givens p) = list_any (takes_name env params) givens || takes_name env params p

-- variables of a case, one of which stands twice or is one of some arguments
abbrev pub case_repeats : (other : Name → Boolean) → RawCase → Boolean
case_repeats other c = repeats c.vars || list_any other c.vars

-- The names that the element declares and its variables, by tests whether a name is a formula name in scope, a label and a formula name of
-- the theory.
abbrev pub formula_name_taken : (known label : Name → Boolean) → Name → Boolean
formula_name_taken known label n = known n || label n

abbrev pub label_taken : (label own : Name → Boolean) → Name → Boolean
label_taken label own n = label n || own n

abbrev pub declared_taken : (known label own : Name → Boolean) → List Name → List Name → Boolean
declared_taken known label own formulas labels =
    list_any (formula_name_taken known label) formulas
    || (list_any (label_taken label own) labels || (list_any is_variable_name (formulas ++ labels) || repeats formulas))

abbrev pub variables_taken : (known : Name → Boolean) → ElementForm → Boolean
variables_taken known form = repeats (variable_list form) || (others_taken form || list_any known (variable_list form))

abbrev pub takes_names : Env → List Name → (label own : Name → Boolean) → ElementForm → Boolean
takes_names env params label own form =
    declared_taken (is_known params env) label own (declared_formulas form) (declared_labels form)
    || (variables_taken (is_known params env) form || form_takes env params form)
