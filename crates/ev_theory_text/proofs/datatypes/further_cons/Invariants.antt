use Rattle.ev_syntax.specs.Marks.{bar}
use Rattle.ev_syntax.specs.Tokens.{mark}
use Rattle.ev_syntax.specs.Grammar.{Is, ◌then◌}
use Rattle.ev_theory_text.specs.Elements.{ReadsCon}
use Rattle.ev_theory_text.specs.Depths.{con_deep}
use Rattle.ev_theory_text.specs.inner.Following.{EndsCons}
use Rattle.ev_parse.proofs.Takings.{left}
use Rattle.ev_parse.proofs.Listing.{Listed}
use Rattle.ev_theory_text.proofs.datatypes.further_cons.Given as goal

abbrev pub invariant-further : goal.invariant-further
invariant-further l = Listed (λ a. Is (mark bar) then ReadsCon a) EndsCons con_deep l.fn.first l.fn.cursor l.cons l.cursor

abbrev pub decreases-further : goal.decreases-further
decreases-further l = left l.cursor
