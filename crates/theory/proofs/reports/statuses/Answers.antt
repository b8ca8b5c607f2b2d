use Rattle.std.specs.Prelude.{bytes_eq, option_copied}
use Rattle.indexmap.specs.IndexMap.{get}
use Rattle.theory.proofs.ReportLaws.{has_status, statuses_next}
use Rattle.theory.proofs.reports.statuses.Goals as goal

pub loop-at-preserved : goal.loop-at-preserved
loop-at-preserved g c =
    statuses_next c.args.proofs.now c.args.theory.now.name c.as_slice-theorems.result.now c.loop-at.statuses c.push.new.self c.loop-at.at c.index-theorems-at.result c.in_ok-status.status c.loop-at-test.true c.index-theorems-at.is c.in_ok-push.ensures.ok
    (has_status c.args.proofs.now c.args.theory.now.name c.index-theorems-at.result (get bytes_eq c.in_ok-index.index) (option_copied c.steps_for-steps.result) c.in_ok-status.status c.in_ok-index.ensures c.steps_for-steps.ensures c.in_ok-status.ensures)
    c.loop-at.invariant
