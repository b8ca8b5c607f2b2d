use Rattle.std.proofs.Common.{◌≤◌, suc, arith, sym, ◌∙◌}
use Rattle.ev_syntax.specs.Marks.{comma}
use Rattle.ev_syntax.specs.inner.TypeParser.{begins}
use Rattle.ev_parse.proofs.Takings.{left, mark_falls, took_left, mark_took}
use Rattle.ev_parse.proofs.Listing.{listed_none, listed_one, listed_all}
use Rattle.ev_proof.proofs.Ending.{types_ties}
use Rattle.ev_proof.proofs.cites.further_types.Goals as goal

pub further-init : goal.further-init
further-init c = listed_none c.args.first

pub further-smaller : goal.further-smaller
further-smaller c = let less : suc (left c.mark.new.self) ≤ left c.further.cursor = mark_falls comma c.further.cursor c.mark.new.self (sym c.begins.ensures ∙ c.further-test.true) c.mark.ensures in
    let rest : left c.written.new.self ≤ left c.mark.new.self = took_left c.in_ok-written.ensures in omega arith

pub further-preserved : goal.further-preserved
further-preserved c =
    listed_one (begins comma) types_ties c.further.invariant (sym c.begins.ensures ∙ c.further-test.true) (mark_took comma c.mark.ensures c.in_ok-written.ensures) c.in_ok-types.ensures

pub returns : goal.returns
returns c = listed_all (begins comma) types_ties c.further.invariant (sym c.begins.ensures ∙ c.further-test.false)
