use Rattle.std.proofs.Common.{◌-◌, length}
use Rattle.ev_syntax.specs.Chars.{is_blank}
use Rattle.ev_syntax.specs.inner.Places.{PassesAll}
use Rattle.ev_syntax.proofs.runs.blanks_end.Given as goal

abbrev pub invariant-blanks : goal.invariant-blanks
invariant-blanks l = PassesAll is_blank l.text l.from l.at

abbrev pub decreases-blanks : goal.decreases-blanks
decreases-blanks l = length l.text - l.at
