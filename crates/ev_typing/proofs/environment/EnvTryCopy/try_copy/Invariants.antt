use Rattle.std.proofs.Common.{◌≡◌, take}
use Rattle.ev_typing.proofs.environment.EnvTryCopy.try_copy.Given as goal

abbrev pub invariant-loop-entry : goal.invariant-loop-entry
invariant-loop-entry l = l.copy ≡ take l.entry-index l.entries
