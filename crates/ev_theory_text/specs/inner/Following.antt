-- What comes next, and what may follow a part of an element.
use Rattle.std.specs.Prelude.{◌≡◌, ℕ, Bool, true, false, ◌||◌, List, if◌then◌else◌}
use Rattle.ev_syntax.specs.Marks.{open_paren, comma, bar, pred_word, for_word, case_word, when_word, then_word, given_word}
use Rattle.ev_syntax.specs.Tokens.{Token}
use Rattle.ev_syntax.specs.inner.TypeParser.{begins}
use Rattle.ev_syntax.specs.declared.sorts.Sort.{Sort}
use Rattle.ev_syntax.specs.declared.sorts.Sort.TheVariants.{Pred, Expr}
use Rattle.ev_parse.specs.inner.Taking.{State, next_is, NotBefore, EndsType, EndsFormula}

-- a right side of a rewrite rule
abbrev pub begins_branch : List Token → Bool
begins_branch ts = begins when_word ts || begins then_word ts

-- the sort of formulas behind a result that comes next
abbrev pub sort_behind : State → Sort
sort_behind s = if next_is pred_word s then Pred else Expr

-- what may follow a part
abbrev pub EndsArgs : List Token → Type 0
EndsArgs ts = EndsType ts × NotBefore comma ts

abbrev pub EndsVars : List Token → Type 0
EndsVars ts = EndsArgs ts × NotBefore for_word ts

abbrev pub NoParen : List Token → Type 0
NoParen ts = NotBefore open_paren ts

abbrev pub EndsCons : List Token → Type 0
EndsCons ts = NoParen ts × NotBefore bar ts

abbrev pub EndsClause : ℕ → List Token → Type 0
EndsClause m ts = EndsFormula ts × NotBefore m ts

abbrev pub EndsCases : List Token → Type 0
EndsCases ts = EndsFormula ts × NotBefore case_word ts

abbrev pub EndsBranches : List Token → Type 0
EndsBranches ts = EndsFormula ts × (begins_branch ts ≡ false)

abbrev pub EndsGivens : List Token → Type 0
EndsGivens ts = EndsFormula ts × NotBefore comma ts × NotBefore given_word ts
