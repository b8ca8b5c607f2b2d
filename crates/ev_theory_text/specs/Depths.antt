-- Elements in which a formula or a type is nested too deeply.
use Rattle.std.specs.Prelude.{ℕ, Bool, false, ◌||◌, List, Option, Some, None}
use Rattle.std.specs.List.{list_any}
use Rattle.ev_syntax.specs.Raw.{Raw}
use Rattle.ev_parse.specs.Depths.{formula_deep, type_deep}
use Rattle.ev_theory_text.specs.declared.forms.RawArg.{RawArg}
use Rattle.ev_theory_text.specs.declared.forms.RawCon.{RawCon}
use Rattle.ev_theory_text.specs.declared.forms.RawResult.{RawResult}
use Rattle.ev_theory_text.specs.declared.forms.RawResult.TheVariants.{Predicate, Typed}
use Rattle.ev_theory_text.specs.declared.forms.RawHead.{RawHead}
use Rattle.ev_theory_text.specs.declared.forms.RawCase.{RawCase}
use Rattle.ev_theory_text.specs.declared.forms.RawBody.{RawBody}
use Rattle.ev_theory_text.specs.declared.forms.RawBody.TheVariants.{Direct, Recursive}
use Rattle.ev_theory_text.specs.declared.forms.RawBranch.{RawBranch}
use Rattle.ev_theory_text.specs.declared.forms.ElementForm.{ElementForm}
use Rattle.ev_theory_text.specs.declared.forms.ElementForm.TheVariants.{Import, Param, Datatype, Operator, Constant, Axiom, Theorem, Rewrite, Inference}

abbrev pub maybe_deep : Option Raw → Bool
maybe_deep None = false
maybe_deep (Some p) = formula_deep p

abbrev pub arg_deep : RawArg → Bool
arg_deep a = type_deep a.written

abbrev pub args_deep : List RawArg → Bool
args_deep args = list_any arg_deep args

abbrev pub con_deep : RawCon → Bool
con_deep c = args_deep c.args

abbrev pub cons_deep : List RawCon → Bool
cons_deep cons = list_any con_deep cons

abbrev pub result_deep : RawResult → Bool
result_deep Predicate = false
result_deep (Typed a) = type_deep a

abbrev pub head_deep : RawHead → Bool
head_deep h = args_deep h.args || result_deep h.gives

abbrev pub case_deep : RawCase → Bool
case_deep c = formula_deep c.body

abbrev pub body_deep : RawBody → Bool
body_deep (Direct e) = formula_deep e
body_deep (Recursive n cases) = list_any case_deep cases

abbrev pub branch_deep : RawBranch → Bool
branch_deep b = maybe_deep b.condition || formula_deep b.right

abbrev pub labelled_deep : List ℕ × Raw → Bool
labelled_deep p = formula_deep p.1

abbrev pub form_deep : ElementForm → Bool
form_deep (Import n) = false
form_deep (Param names) = false
form_deep (Datatype n params cons) = cons_deep cons
form_deep (Operator h c body) = head_deep h || (maybe_deep c || body_deep body)
form_deep (Constant h c) = head_deep h || maybe_deep c
form_deep (Axiom n p) = formula_deep p
form_deep (Theorem n p) = formula_deep p
form_deep (Rewrite n vars left branches complete) = args_deep vars || (formula_deep left || list_any branch_deep branches)
form_deep (Inference n vars givens p) = args_deep vars || (list_any formula_deep givens || formula_deep p)
