use Rattle.std.proofs.Common.{◌≡◌, ◌++◌}
use Rattle.ev_replay.specs.Replay.{cites}
use Rattle.ev_replay.specs.inner.Labels.{refs_of}
use Rattle.ev_replay.proofs.labels.cites.Given as goal

abbrev pub invariant-loop-key : goal.invariant-loop-key
invariant-loop-key l = l.refs ++ refs_of l.key-iterator ≡ cites l.lines
