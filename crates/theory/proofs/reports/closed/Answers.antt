use Rattle.theory.proofs.ReportLaws.{closed_is}
use Rattle.theory.proofs.reports.closed.Goals as goal

pub returns : goal.returns
returns c = closed_is c.new.result c.new-2.result c.in_ok-try_copy.field-0 c.args.formula.now c.new.ensures c.new-2.ensures c.in_ok-try_copy.ensures
