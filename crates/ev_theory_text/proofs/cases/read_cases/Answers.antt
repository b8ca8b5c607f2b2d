use Rattle.std.proofs.lemmas.Result.{IfOk-weaker}
use Rattle.ev_syntax.specs.Marks.{case_word}
use Rattle.ev_syntax.specs.inner.TypeParser.{begins}
use Rattle.ev_parse.proofs.Takings.{mark_took}
use Rattle.ev_parse.proofs.Listing.{at_least_took}
use Rattle.ev_theory_text.proofs.Ending.{cases_ties}
use Rattle.ev_theory_text.proofs.cases.read_cases.Goals as goal

pub returns : goal.returns
returns c = IfOk-weaker c.further_cases.result _ _ (λ v h. at_least_took (begins case_word) (cases_ties c.args.sort) (mark_took case_word c.mark.ensures c.in_ok-case.ensures) c.in_ok-first.ensures h) c.further_cases.ensures
