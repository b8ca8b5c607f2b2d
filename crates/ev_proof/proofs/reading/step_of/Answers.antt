use Rattle.std.proofs.Common.{subst, sym}
use Rattle.ev_proof.specs.inner.StepAnswers.{StepOf}
use Rattle.ev_proof.proofs.LineLaws.{whole_line}
use Rattle.ev_proof.proofs.reading.step_of.Goals as goal

pub returns : goal.returns
returns c = subst (StepOf c.args.reader.now) (sym c.whole_step.ensures)
    (whole_line c.args.reader.now c.in_ok-cursor.cursor c.read_step.new.cursor c.in_ok-step.step c.is_at_end.result c.in_ok-cursor.ensures c.in_ok-step.ensures c.is_at_end.ensures)
