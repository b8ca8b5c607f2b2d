-- The elements of theory texts, as a grammar: which form stands at the front of some tokens.
use Rattle.std.specs.Prelude.{◌≡◌, ℕ, true, List}
use Rattle.ev_syntax.specs.Marks.{open_paren, close_paren, comma, in_sign, equal_sign, bar, pred_word, import_word, param_word, datatype_word, operator_word, constant_word, axiom_word, theorem_word, rewrite_word, inference_word, where_word, is_word, by_word, case_word, for_word, when_word, then_word, complete_word, given_word, infer_word}
use Rattle.ev_syntax.specs.Tokens.{mark}
use Rattle.ev_syntax.specs.Raw.{Raw}
use Rattle.ev_syntax.specs.Grammar.{Front, Is, ◌then◌, ReadsType}
use Rattle.ev_syntax.specs.declared.sorts.Sort.{Sort}
use Rattle.ev_syntax.specs.declared.sorts.Sort.TheVariants.{Pred, Expr, Either}
use Rattle.ev_syntax.specs.Parses.{ReadsAs}
use Rattle.ev_theory_text.specs.declared.forms.RawArg.{RawArg}
use Rattle.ev_theory_text.specs.declared.forms.RawCon.{RawCon}
use Rattle.ev_theory_text.specs.declared.forms.RawResult.{RawResult}
use Rattle.ev_theory_text.specs.declared.forms.RawResult.TheVariants.{Predicate, Typed}
use Rattle.ev_theory_text.specs.declared.forms.RawHead.{RawHead}
use Rattle.ev_theory_text.specs.declared.forms.RawCase.{RawCase}
use Rattle.ev_theory_text.specs.declared.forms.RawBody.{RawBody}
use Rattle.ev_theory_text.specs.declared.forms.RawBody.TheVariants.{Direct, Recursive}
use Rattle.ev_theory_text.specs.declared.forms.RawBranch.{RawBranch}
use Rattle.ev_theory_text.specs.declared.forms.ElementForm.{ElementForm}
use Rattle.ev_theory_text.specs.declared.forms.ElementForm.TheVariants.{Import, Param, Datatype, Operator, Constant, Axiom, Theorem, Rewrite, Inference}
use Rattle.ev_parse.specs.Sequences.{Word, Nothing, Maybe, AtLeastOne, Separated, MaybeBegun, MaybeMark}

abbrev pub ReadsNames : List (List ℕ) → Front
ReadsNames names = Separated comma Word names

abbrev pub ReadsArg : RawArg → Front
ReadsArg a = Word a.name then Is (mark in_sign) then ReadsType a.written true

abbrev pub ReadsArgs : List RawArg → Front
ReadsArgs args = Separated comma ReadsArg args

-- `[( .. , .. )]`
abbrev pub InParens : {A : Type 0} → (A → Front) → List A → Front
InParens reads items = MaybeBegun open_paren (Is (mark close_paren)) comma reads items

abbrev pub ReadsCon : RawCon → Front
ReadsCon c = Word c.name then InParens ReadsArg c.args

abbrev pub ReadsCons : List RawCon → Front
ReadsCons cons = Separated bar ReadsCon cons

abbrev pub ReadsResult : RawResult → Front
ReadsResult Predicate = Is (mark pred_word)
ReadsResult (Typed a) = ReadsType a true

abbrev pub ReadsHead : RawHead → Front
ReadsHead h = Word h.name then InParens ReadsArg h.args then Is (mark in_sign) then ReadsResult h.gives

-- a formula of an operator is a predicate exactly where its head says PRED
abbrev pub sort_of : RawResult → Sort
sort_of Predicate = Pred
sort_of (Typed a) = Expr

abbrev pub head_sort : RawHead → Sort
head_sort h = sort_of h.gives

-- a word and a predicate
abbrev pub Clause : ℕ → Raw → Front
Clause m p = Is (mark m) then ReadsAs Pred p

-- a case behind its word
abbrev pub BehindCase : Sort → RawCase → Front
BehindCase sort c = Word c.con then InParens Word c.vars then Is (mark is_word) then ReadsAs sort c.body

abbrev pub ReadsCase : Sort → RawCase → Front
ReadsCase sort c = Is (mark case_word) then BehindCase sort c

abbrev pub ReadsBody : Sort → RawBody → Front
ReadsBody sort (Direct e) = Is (mark is_word) then ReadsAs sort e
ReadsBody sort (Recursive n cases) = Is (mark by_word) then Word n then AtLeastOne (ReadsCase sort) cases

abbrev pub ReadsBranch : RawBranch → Front
ReadsBranch b = Maybe (Clause when_word) b.condition then Is (mark then_word) then ReadsAs Either b.right

-- the variables of a rule
abbrev pub ReadsVars : List RawArg → Front
ReadsVars vars = MaybeBegun for_word Nothing comma ReadsArg vars

abbrev pub ReadsGivens : List Raw → Front
ReadsGivens givens = MaybeBegun given_word Nothing comma (ReadsAs Pred) givens

-- a label, a colon and a predicate
abbrev pub Labelled : List ℕ × Raw → Front
Labelled p = Word p.0 then Is (mark in_sign) then ReadsAs Pred p.1

abbrev pub ReadsForm : ElementForm → Front
ReadsForm (Import n) = Is (mark import_word) then Word n
ReadsForm (Param names) = Is (mark param_word) then ReadsNames names
ReadsForm (Datatype n params cons) = Is (mark datatype_word) then Word n then InParens Word params then Is (mark equal_sign) then ReadsCons cons
ReadsForm (Operator h c body) = Is (mark operator_word) then ReadsHead h then Maybe (Clause where_word) c then ReadsBody (head_sort h) body
ReadsForm (Constant h c) = Is (mark constant_word) then ReadsHead h then Maybe (Clause where_word) c
ReadsForm (Axiom n p) = Is (mark axiom_word) then Labelled (n, p)
ReadsForm (Theorem n p) = Is (mark theorem_word) then Labelled (n, p)
ReadsForm (Rewrite n vars left branches complete) =
    Is (mark rewrite_word) then Word n then ReadsVars vars then Is (mark in_sign) then ReadsAs Either left then AtLeastOne ReadsBranch branches
    then MaybeMark complete_word complete
ReadsForm (Inference n vars givens p) =
    Is (mark inference_word) then Word n then ReadsVars vars then Is (mark in_sign) then ReadsGivens givens then Clause infer_word p

-- the word that begins a form
abbrev pub first_word : ElementForm → ℕ
first_word (Import n) = import_word
first_word (Param names) = param_word
first_word (Datatype n params cons) = datatype_word
first_word (Operator h c body) = operator_word
first_word (Constant h c) = constant_word
first_word (Axiom n p) = axiom_word
first_word (Theorem n p) = theorem_word
first_word (Rewrite n vars left branches complete) = rewrite_word
first_word (Inference n vars givens p) = inference_word

-- the forms that begin with a word
abbrev pub OfWord : ℕ → ElementForm → Front
OfWord m form ts rest = (first_word form ≡ m) × ReadsForm form ts rest
