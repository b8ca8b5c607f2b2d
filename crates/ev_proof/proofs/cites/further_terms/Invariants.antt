use Rattle.ev_syntax.specs.Marks.{comma}
use Rattle.ev_syntax.specs.Tokens.{mark}
use Rattle.ev_syntax.specs.Grammar.{Is, ◌then◌}
use Rattle.ev_syntax.specs.declared.sorts.Sort.TheVariants.{Expr}
use Rattle.ev_syntax.specs.Parses.{ReadsAs}
use Rattle.ev_parse.specs.Depths.{formula_deep}
use Rattle.ev_proof.specs.inner.Following.{EndsTerms}
use Rattle.ev_parse.proofs.Takings.{left}
use Rattle.ev_parse.proofs.Listing.{Listed}
use Rattle.ev_proof.proofs.cites.further_terms.Given as goal

abbrev pub invariant-further : goal.invariant-further
invariant-further l = Listed (λ a. Is (mark comma) then ReadsAs Expr a) EndsTerms formula_deep l.fn.first l.fn.cursor l.terms l.cursor

abbrev pub decreases-further : goal.decreases-further
decreases-further l = left l.cursor
