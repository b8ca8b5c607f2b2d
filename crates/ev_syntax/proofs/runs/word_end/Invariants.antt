use Rattle.std.proofs.Common.{◌-◌, length}
use Rattle.unicode_ident.specs.Ident.{is_xid_continue}
use Rattle.ev_syntax.specs.inner.Places.{PassesAll}
use Rattle.ev_syntax.proofs.runs.word_end.Given as goal

abbrev pub invariant-words : goal.invariant-words
invariant-words l = PassesAll is_xid_continue l.text l.from l.at

abbrev pub decreases-words : goal.decreases-words
decreases-words l = length l.text - l.at
