use Rattle.ev_data.specs.Induction.{premises_for}
use Rattle.ev_kernel.specs.Derivable.{named}
use Rattle.ev_kernel.proofs.Declared.{expected_premises, no_premises}
use Rattle.ev_kernel.proofs.declarations.induction.Goals as goal

pub returns-in-Some : goal.returns-in-Some
returns-in-Some c =
    expected_premises (premises_for c.args.env.now c.args.sequent.now) c.in_ok-expected.field-0 c.as_slice.result.now c.in-Some.expected (named c.args.earlier.now c.args.premises.now)
    c.are_named.result c.in_ok-expected.ensures c.in-Some.is c.as_slice.ensures c.are_named.ensures

pub returns-in-None : goal.returns-in-None
returns-in-None c =
    no_premises (premises_for c.args.env.now c.args.sequent.now) c.in_ok-expected.field-0 (named c.args.earlier.now c.args.premises.now) c.in_ok-expected.ensures c.in-None.is
