use Rattle.std.proofs.Common.{◌-◌, length}
use Rattle.ev_syntax.specs.Views.{all_seen_in}
use Rattle.ev_syntax.specs.inner.Reading.{ReadsTo, AreSmall}
use Rattle.ev_syntax.proofs.lexer.lex_text.Given as goal

abbrev pub invariant-pieces : goal.invariant-pieces
invariant-pieces l = record { reads : ReadsTo l.text 0 (all_seen_in l.text l.tokens) l.at; small : AreSmall l.tokens }

abbrev pub decreases-pieces : goal.decreases-pieces
decreases-pieces l = length l.text - l.at
