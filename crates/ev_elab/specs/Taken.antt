-- Names that an element declares or binds and that are taken.
use Rattle.std.specs.Prelude.{◌++◌, ◌||◌, Bool as Boolean, false, List, [], ◌∷◌, flat_map}
use Rattle.std.specs.List.{list_any}
use Rattle.ev_syntax.specs.Names.{is_variable_name}
use Rattle.ev_theory_text.specs.declared.forms.RawCon.{RawCon}
use Rattle.ev_theory_text.specs.declared.forms.RawCase.{RawCase}
use Rattle.ev_theory_text.specs.declared.forms.RawBody.{RawBody}
use Rattle.ev_theory_text.specs.declared.forms.RawBody.TheVariants.{Direct, Recursive}
use Rattle.ev_theory_text.specs.declared.forms.ElementForm.{ElementForm}
use Rattle.ev_theory_text.specs.declared.forms.ElementForm.TheVariants.{Param, Datatype, Operator, Constant, Axiom, Theorem, Rewrite, Inference}
use Rattle.ev_typing.specs.Env.{Env, Name}
use Rattle.ev_resolve.specs.UsedNames.{is_name_among, binder_names}
use Rattle.ev_elab.specs.Parts.{WrittenFormula, arg_names, but, written_formulas}
use Rattle.ev_elab.specs.Unknown.{is_known}

abbrev pub raw_con_names : RawCon → List Name
raw_con_names c = c.name ∷ arg_names c.args

-- the formula names that an element declares, and its label
abbrev pub declared_formulas : ElementForm → List Name
declared_formulas (Param names) = names
declared_formulas (Datatype n listed cons) = n ∷ flat_map raw_con_names cons
declared_formulas (Operator h c body) = h.name ∷ []
declared_formulas (Constant h c) = h.name ∷ []
declared_formulas _ = []

abbrev pub declared_labels : ElementForm → List Name
declared_labels (Axiom n p) = n ∷ []
declared_labels (Theorem n p) = n ∷ []
declared_labels (Rewrite n vars left branches complete) = n ∷ []
declared_labels (Inference n vars givens p) = n ∷ []
declared_labels _ = []

-- a name stands twice
abbrev pub repeats : List Name → Boolean
repeats [] = false
repeats (n ∷ ns) = is_name_among ns n || repeats ns

-- arguments of an operator or constant, or variables of a rule
abbrev pub variable_list : ElementForm → List Name
variable_list (Operator h c body) = arg_names h.args
variable_list (Constant h c) = arg_names h.args
variable_list (Rewrite n vars left branches complete) = arg_names vars
variable_list (Inference n vars givens p) = arg_names vars
variable_list _ = []

-- the variables of a case, one of which stands twice, or is an argument that BY does not name
abbrev pub case_taken : List Name → Name → RawCase → Boolean
case_taken args by c = repeats c.vars || list_any (is_name_among (but by args)) c.vars

abbrev pub body_taken : List Name → RawBody → Boolean
body_taken args (Direct e) = false
body_taken args (Recursive by cases) = list_any (case_taken args by) cases

abbrev pub others_taken : ElementForm → Boolean
others_taken (Datatype n listed cons) = repeats listed
others_taken (Operator h c body) = body_taken (arg_names h.args) body
others_taken _ = false

abbrev pub binder_taken : List Name → WrittenFormula → Boolean
binder_taken params w = list_any (is_known params w.formula_env) (binder_names w.formula)

-- a name that the element declares or binds is taken, over the theory's type parameters so far, an environment, and the labels and the
-- formula names that the theory has declared so far: a formula name is one in scope or an earlier label of the theory; a label is an
-- earlier label or formula name of the theory; one of them is `v` and digits; a formula name is declared twice; arguments, rule variables,
-- variables of a case or listed parameters have one name; an argument, a rule variable or a binder has a formula name in scope. Of imports
-- see elsewhere.
abbrev pub element_taken : List Name → Env → List Name → List Name → ElementForm → Boolean
element_taken params env labels own form =
    list_any (λ n. is_known params env n || is_name_among labels n) (declared_formulas form)
    || (list_any (λ n. is_name_among labels n || is_name_among own n) (declared_labels form)
    || (list_any is_variable_name (declared_formulas form ++ declared_labels form)
    || (repeats (declared_formulas form)
    || (repeats (variable_list form)
    || (others_taken form
    || (list_any (is_known params env) (variable_list form)
    || list_any (binder_taken params) (written_formulas env form)))))))
