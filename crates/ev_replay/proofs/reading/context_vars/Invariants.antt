use Rattle.std.proofs.Common.{◌≡◌, ◌++◌, drop}
use Rattle.ev_replay.specs.Reading.{context_vars}
use Rattle.ev_replay.proofs.reading.context_vars.Given as goal

abbrev pub invariant-loop-i : goal.invariant-loop-i
invariant-loop-i l = l.vars ++ context_vars l.i (drop l.i l.context) ≡ context_vars 0 l.context
