use Rattle.std.specs.Prelude.{true}
use Rattle.ev_syntax.specs.Marks.{comma}
use Rattle.ev_syntax.specs.Tokens.{mark}
use Rattle.ev_syntax.specs.Grammar.{Is, ◌then◌, ReadsType}
use Rattle.ev_parse.specs.Depths.{type_deep}
use Rattle.ev_proof.specs.inner.Following.{EndsTypes}
use Rattle.ev_parse.proofs.Takings.{left}
use Rattle.ev_parse.proofs.Listing.{Listed}
use Rattle.ev_proof.proofs.cites.further_types.Given as goal

abbrev pub invariant-further : goal.invariant-further
invariant-further l = Listed (λ a. Is (mark comma) then ReadsType a true) EndsTypes type_deep l.fn.first l.fn.cursor l.types l.cursor

abbrev pub decreases-further : goal.decreases-further
decreases-further l = left l.cursor
