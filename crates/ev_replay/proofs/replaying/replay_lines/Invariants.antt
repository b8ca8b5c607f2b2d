use Rattle.std.proofs.Common.{◌≡◌, ◌+◌, ◌≤◌, ℕ, [], ◌∷◌, drop, reverse}
use Rattle.ev_replay.specs.declared.steps.Outcome.{Outcome}
use Rattle.ev_replay.proofs.ReplayLaws.{Ends}
use Rattle.ev_replay.proofs.replaying.replay_lines.Given as goal

-- what the rest gives, the whole gives
abbrev pub invariant-loop-i : goal.invariant-loop-i
invariant-loop-i g l = record {
  few : l.left ≤ l.i;
  goes_on : (count : ℕ) (o : Outcome) → Ends l.scope (l.i + 1) l.left (reverse l.stack.items) (drop l.i l.lines) count o
      → (whole : ℕ) × Ends l.scope 1 0 (l.fn.sequent ∷ []) l.lines whole o × (l.initial.steps + whole ≡ l.steps + count);
}
