use Rattle.ev_syntax.specs.Marks.{case_word}
use Rattle.ev_syntax.specs.Tokens.{mark}
use Rattle.ev_syntax.specs.Grammar.{Is, ◌then◌}
use Rattle.ev_theory_text.specs.Elements.{BehindCase}
use Rattle.ev_theory_text.specs.Depths.{case_deep}
use Rattle.ev_theory_text.specs.inner.Following.{EndsCases}
use Rattle.ev_parse.proofs.Takings.{left}
use Rattle.ev_parse.proofs.Listing.{Listed}
use Rattle.ev_theory_text.proofs.cases.further_cases.Given as goal

abbrev pub invariant-further : goal.invariant-further
invariant-further l = Listed (λ a. Is (mark case_word) then BehindCase l.sort a) EndsCases case_deep l.fn.first l.fn.cursor l.cases l.cursor

abbrev pub decreases-further : goal.decreases-further
decreases-further l = left l.cursor
