use Rattle.std.proofs.Common.{subst, sym, ◌∙◌}
use Rattle.std.specs.Prelude.{Some}
use Rattle.ev_parse.specs.Sequences.{Number}
use Rattle.ev_parse.specs.inner.Taking.{NoNumber, begins_number, never}
use Rattle.ev_parse.proofs.Takings.{took_strict}
use Rattle.ev_parse.proofs.Listing.{SoFar, first_of_all, one_further, no_further}
use Rattle.ev_proof.proofs.Ending.{numbers_ties, number_shrinks}
use Rattle.ev_proof.proofs.numbers.read_numbers.Goals as goal

pub numbers-init : goal.numbers-init
numbers-init c = subst (λ l. SoFar Number NoNumber never c.args.cursor.now (Some l) c.args.cursor.now) (sym c.new.ensures) first_of_all

pub numbers-smaller : goal.numbers-smaller
numbers-smaller c = took_strict begins_number number_shrinks (sym c.begins_number.ensures ∙ c.numbers-test.true) c.number-number.ensures

pub numbers-preserved : goal.numbers-preserved
numbers-preserved c = subst (λ l. SoFar Number NoNumber never c.args.cursor.now l c.number-number.new.self) (sym c.in_ok-numbers.ensures)
    (one_further begins_number numbers_ties c.numbers.invariant (sym c.begins_number.ensures ∙ c.numbers-test.true) c.number-number.ensures)

pub returns : goal.returns
returns c = no_further begins_number numbers_ties c.numbers.invariant (sym c.begins_number.ensures ∙ c.numbers-test.false)
