use Rattle.std.proofs.Common.{refl, sym, ◌∙◌}
use Rattle.ev_syntax.specs.Marks.{comma}
use Rattle.ev_syntax.specs.inner.TypeParser.{begins}
use Rattle.ev_parse.proofs.Listing.{separated_took, not_begun, begun}
use Rattle.ev_proof.proofs.Ending.{types_ties}
use Rattle.ev_proof.proofs.cites.read_types.Goals as goal

pub returns-then-not-begins : goal.returns-then-not-begins
returns-then-not-begins c = not_begun c.new.result c.new.ensures refl (sym c.begins.ensures ∙ c.if-not-begins.true)

pub returns : goal.returns
returns c = begun (sym c.begins.ensures ∙ c.if-not-begins.false) c.mark.ensures
    (separated_took comma (begins comma) types_ties c.in_ok-written.ensures c.in_ok-first.ensures c.in_ok-types.ensures) c.mark-2.ensures (λ us. ((refl, refl), refl)) (λ rest e. e)
