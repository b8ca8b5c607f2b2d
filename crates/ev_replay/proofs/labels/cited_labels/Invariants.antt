use Rattle.std.proofs.Common.{◌≡◌, take}
use Rattle.ev_replay.specs.Replay.{cites}
use Rattle.ev_replay.specs.inner.Labels.{refs_of}
use Rattle.ev_replay.proofs.labels.cited_labels.Given as goal

abbrev pub invariant-loop-line : goal.invariant-loop-line
invariant-loop-line l = refs_of l.labels.keys ≡ cites (take l.line-index l.lines)
