use Rattle.std.proofs.lemmas.Result.{IfOk-weaker}
use Rattle.ev_syntax.specs.Marks.{bar}
use Rattle.ev_syntax.specs.inner.TypeParser.{begins}
use Rattle.ev_parse.proofs.Listing.{separated_took}
use Rattle.ev_theory_text.proofs.Ending.{cons_ties}
use Rattle.ev_theory_text.proofs.datatypes.read_cons.Goals as goal

pub returns : goal.returns
returns c = IfOk-weaker c.further_cons.result _ _ (λ v h. separated_took bar (begins bar) cons_ties c.in_ok-con.ensures c.in_ok-first.ensures h) c.further_cons.ensures
