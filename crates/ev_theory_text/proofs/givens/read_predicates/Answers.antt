use Rattle.std.proofs.lemmas.Result.{IfOk-weaker}
use Rattle.ev_syntax.specs.Marks.{comma}
use Rattle.ev_syntax.specs.inner.TypeParser.{begins}
use Rattle.ev_parse.proofs.Listing.{separated_took}
use Rattle.ev_theory_text.proofs.Ending.{givens_ties}
use Rattle.ev_theory_text.proofs.givens.read_predicates.Goals as goal

pub returns : goal.returns
returns c = IfOk-weaker c.further_predicates.result _ _ (λ v h. separated_took comma (begins comma) givens_ties c.in_ok-predicate.ensures c.in_ok-first.ensures h) c.further_predicates.ensures
