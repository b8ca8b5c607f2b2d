use Rattle.std.proofs.Common.{◌≡◌, length}
use Rattle.ev_script.specs.Scripts.{drop_last_blanks}
use Rattle.ev_script.proofs.lines.drop_last_blanks.Given as goal

abbrev pub invariant-loop-rest : goal.invariant-loop-rest
invariant-loop-rest l = drop_last_blanks l.rest ≡ drop_last_blanks l.text

abbrev pub decreases-loop-rest : goal.decreases-loop-rest
decreases-loop-rest l = length l.rest
