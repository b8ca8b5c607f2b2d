use Rattle.std.proofs.Common.{refl, sym, ◌∙◌}
use Rattle.std.proofs.lemmas.Result.{IfOk-weaker}
use Rattle.ev_syntax.specs.Marks.{comma}
use Rattle.ev_syntax.specs.inner.TypeParser.{begins}
use Rattle.ev_parse.proofs.Listing.{separated_took, not_begun, begun_open}
use Rattle.ev_proof.proofs.Ending.{terms_ties}
use Rattle.ev_proof.proofs.cites.read_terms.Goals as goal

pub returns-then-not-begins : goal.returns-then-not-begins
returns-then-not-begins c = not_begun c.new.result c.new.ensures refl (sym c.begins.ensures ∙ c.if-not-begins.true)

pub returns : goal.returns
returns c = IfOk-weaker c.further_terms.result _ _
    (λ v h. begun_open (sym c.begins.ensures ∙ c.if-not-begins.false) c.mark.ensures (separated_took comma (begins comma) terms_ties c.in_ok-term.ensures c.in_ok-first.ensures h)
    (λ rest e. e) (λ rest e. e.2))
    c.further_terms.ensures
