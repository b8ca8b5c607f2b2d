use Rattle.ev_syntax.specs.Marks.{comma}
use Rattle.ev_syntax.specs.Tokens.{mark}
use Rattle.ev_syntax.specs.Grammar.{Is, ◌then◌}
use Rattle.ev_parse.specs.Sequences.{Word}
use Rattle.ev_parse.specs.inner.Taking.{never, NotBefore}
use Rattle.ev_parse.proofs.Takings.{left}
use Rattle.ev_parse.proofs.Listing.{Listed}
use Rattle.ev_theory_text.proofs.names.further_names.Given as goal

abbrev pub invariant-further : goal.invariant-further
invariant-further l = Listed (λ a. Is (mark comma) then Word a) (NotBefore comma) never l.fn.first l.fn.cursor l.names l.cursor

abbrev pub decreases-further : goal.decreases-further
decreases-further l = left l.cursor
