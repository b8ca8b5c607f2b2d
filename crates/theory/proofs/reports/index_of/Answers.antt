use Rattle.std.specs.Prelude.{bytes_eq}
use Rattle.indexmap.specs.IndexMap.{get}
use Rattle.theory.proofs.IndexLaws.{index_next}
use Rattle.theory.proofs.reports.index_of.Goals as goal

pub loop-at-preserved : goal.loop-at-preserved
loop-at-preserved c =
    index_next c.args.theory.now c.as_slice-all.result.now c.loop-at.at (get bytes_eq c.loop-at.index) (get bytes_eq c.note_place.new.index) c.index-all-at.result c.loop-at-test.true c.index-all-at.is c.loop-at.invariant c.in_ok-note_place.ensures
