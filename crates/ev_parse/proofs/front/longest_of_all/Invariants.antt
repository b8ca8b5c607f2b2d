use Rattle.std.proofs.Common.{◌≤◌, length}
use Rattle.ev_syntax.specs.Views.{all_seen_in}
use Rattle.ev_syntax.specs.Tokens.{tokens_of}
use Rattle.ev_parse.proofs.FrontMoves.{NoneBehind}
use Rattle.ev_parse.proofs.front.longest_of_all.Given as goal

abbrev pub invariant-loop-to : goal.invariant-loop-to
invariant-loop-to l = record { inside : l.to ≤ length l.tokens; behind : NoneBehind (tokens_of (all_seen_in l.text l.tokens)) l.from l.sort l.to }

abbrev pub decreases-loop-to : goal.decreases-loop-to
decreases-loop-to l = l.to
