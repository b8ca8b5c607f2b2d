use Rattle.ev_parse.specs.Sequences.{Number}
use Rattle.ev_parse.specs.inner.Taking.{NoNumber, never}
use Rattle.ev_parse.proofs.Takings.{left}
use Rattle.ev_parse.proofs.Listing.{SoFar}
use Rattle.ev_proof.proofs.numbers.read_numbers.Given as goal

abbrev pub invariant-numbers : goal.invariant-numbers
invariant-numbers l = SoFar Number NoNumber never l.fn.cursor l.numbers l.cursor

abbrev pub decreases-numbers : goal.decreases-numbers
decreases-numbers l = left l.cursor
