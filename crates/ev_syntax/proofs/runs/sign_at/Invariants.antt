use Rattle.ev_syntax.specs.inner.Places.{IsLongest}
use Rattle.ev_syntax.proofs.runs.sign_at.Given as goal

abbrev pub invariant-sizes : goal.invariant-sizes
invariant-sizes l = IsLongest l.bytes l.size

abbrev pub decreases-sizes : goal.decreases-sizes
decreases-sizes l = l.size
