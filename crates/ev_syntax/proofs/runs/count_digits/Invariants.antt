use Rattle.std.proofs.Common.{◌-◌, length}
use Rattle.ev_syntax.specs.inner.Places.{CountsTo}
use Rattle.ev_syntax.proofs.runs.count_digits.Given as goal

abbrev pub invariant-digits : goal.invariant-digits
invariant-digits l = CountsTo l.text l.from l.counted.end l.counted.value

abbrev pub decreases-digits : goal.decreases-digits
decreases-digits l = length l.text - l.counted.end
