use Rattle.ev_syntax.specs.Marks.{comma}
use Rattle.ev_syntax.specs.Tokens.{mark}
use Rattle.ev_syntax.specs.Grammar.{Is, ◌then◌}
use Rattle.ev_syntax.specs.declared.sorts.Sort.TheVariants.{Pred}
use Rattle.ev_syntax.specs.Parses.{ReadsAs}
use Rattle.ev_parse.specs.Depths.{formula_deep}
use Rattle.ev_theory_text.specs.inner.Following.{EndsGivens}
use Rattle.ev_parse.proofs.Takings.{left}
use Rattle.ev_parse.proofs.Listing.{Listed}
use Rattle.ev_theory_text.proofs.givens.further_predicates.Given as goal

abbrev pub invariant-further : goal.invariant-further
invariant-further l = Listed (λ a. Is (mark comma) then ReadsAs Pred a) EndsGivens formula_deep l.fn.first l.fn.cursor l.predicates l.cursor

abbrev pub decreases-further : goal.decreases-further
decreases-further l = left l.cursor
