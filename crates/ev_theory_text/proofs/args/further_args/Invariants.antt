use Rattle.ev_syntax.specs.Marks.{comma}
use Rattle.ev_syntax.specs.Tokens.{mark}
use Rattle.ev_syntax.specs.Grammar.{Is, ◌then◌}
use Rattle.ev_theory_text.specs.Elements.{ReadsArg}
use Rattle.ev_theory_text.specs.Depths.{arg_deep}
use Rattle.ev_theory_text.specs.inner.Following.{EndsArgs}
use Rattle.ev_parse.proofs.Takings.{left}
use Rattle.ev_parse.proofs.Listing.{Listed}
use Rattle.ev_theory_text.proofs.args.further_args.Given as goal

abbrev pub invariant-further : goal.invariant-further
invariant-further l = Listed (λ a. Is (mark comma) then ReadsArg a) EndsArgs arg_deep l.fn.first l.fn.cursor l.args l.cursor

abbrev pub decreases-further : goal.decreases-further
decreases-further l = left l.cursor
