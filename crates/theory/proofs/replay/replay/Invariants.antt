use Rattle.std.proofs.Common.{◌+◌, ◌≤◌, drop, reverse}
use Rattle.theory.specs.declared.steps.Outcome.{Outcome}
use Rattle.theory.specs.Steps.{Replays, ReplaysFrom}
use Rattle.theory.proofs.replay.replay.Given as goal

-- what the rest gives, the whole gives
abbrev pub invariant-loop-i : goal.invariant-loop-i
invariant-loop-i g l = record {
  few : l.left ≤ l.i;
  goes_on : (o : Outcome) → ReplaysFrom l.env (l.i + 1) l.left (reverse l.stack.items) (drop l.i l.steps) o → Replays l.env l.fn.goal l.steps o;
}
