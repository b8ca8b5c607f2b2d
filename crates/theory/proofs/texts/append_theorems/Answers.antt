use Rattle.std.proofs.Common.{◌++◌, arith}
use Rattle.theory.specs.Reports.{theorem_lines}
use Rattle.theory.proofs.ReportLaws.{no_lines}
use Rattle.theory.proofs.texts.append_theorems.Goals as goal

pub returns : goal.returns
returns c =
    no_lines c.args.theory.now c.args.theorems.now c.args.statuses.now c.loop-at.at c.loop-at.text.items (c.args.text.now.items ++ theorem_lines c.args.theory.now c.args.theorems.now c.args.statuses.now) (omega (arith, c.loop-at-test.false)) c.loop-at.invariant
