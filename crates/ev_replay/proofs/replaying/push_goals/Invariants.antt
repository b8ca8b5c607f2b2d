use Rattle.std.proofs.Common.{◌≡◌, ◌++◌, reverse, vec_len}
use Rattle.ev_replay.proofs.replaying.push_goals.Given as goal

abbrev pub invariant-goals : goal.invariant-goals
invariant-goals l = l.goals.items ++ reverse l.stack.items ≡ l.initial.goals.items ++ reverse l.initial.stack.items

abbrev pub decreases-goals : goal.decreases-goals
decreases-goals l = vec_len l.goals
