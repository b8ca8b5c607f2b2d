use Rattle.std.proofs.Common.{◌-◌, length, List}
use Rattle.ev_syntax.specs.Tokens.{Spanned}
use Rattle.ev_syntax.specs.inner.Reading.{ReadsTo}
use Rattle.ev_syntax.proofs.lexer.has_tokens_from.Given as goal

abbrev pub invariant-pieces : goal.invariant-pieces
invariant-pieces l = (done : List Spanned) × ReadsTo l.text l.from done l.at

abbrev pub decreases-pieces : goal.decreases-pieces
decreases-pieces l = length l.text - l.at
