use Rattle.std.proofs.Common.{◌≡◌, get_or}
use Rattle.ev_kernel.specs.Derivable.{named}
use Rattle.ev_kernel.proofs.Equations.{apart}
use Rattle.ev_kernel.proofs.Congruence.{read_any}
use Rattle.ev_kernel.proofs.Declared.{named_step, named_fails, named_ends, other_count}
use Rattle.ev_kernel.proofs.declarations.are_named.Goals as goal

pub returns-then-expected-premises : goal.returns-then-expected-premises
returns-then-expected-premises c = other_count c.args.earlier.now c.args.premises.now c.args.expected.now c.requires c.if-expected-premises.true

pub returns-then-not-is_same_sequent : goal.returns-then-not-is_same_sequent
returns-then-not-is_same_sequent c =
    named_fails c.args.earlier.now c.args.premises.now c.args.expected.now c.loop-i.i (get_or c.args.premises.now c.loop-i.i 0) c.premise_of-premise.result.now c.index-expected-i.result
    (named c.args.earlier.now c.args.premises.now ≡ c.args.expected.now) c.index-expected-i.is (read_any c.args.premises.now c.loop-i.i 0 c.loop-i-test.true) c.loop-i-test.true
    c.if-expected-premises.false c.premise_of-premise.ensures (apart c.is_same_sequent.result c.is_same_sequent.ensures c.if-not-is_same_sequent.true) c.loop-i.invariant

pub loop-i-preserved : goal.loop-i-preserved
loop-i-preserved c =
    named_step c.args.earlier.now c.args.premises.now c.args.expected.now c.loop-i.i (get_or c.args.premises.now c.loop-i.i 0) c.premise_of-premise.result.now c.index-expected-i.result
    (named c.args.earlier.now c.args.premises.now ≡ c.args.expected.now) c.index-expected-i.is (read_any c.args.premises.now c.loop-i.i 0 c.loop-i-test.true) c.loop-i-test.true
    c.if-expected-premises.false c.premise_of-premise.ensures (c.is_same_sequent.ensures.0 c.if-not-is_same_sequent.false) c.loop-i.invariant

pub returns : goal.returns
returns c =
    named_ends c.args.earlier.now c.args.premises.now c.args.expected.now c.loop-i.i (named c.args.earlier.now c.args.premises.now ≡ c.args.expected.now) c.loop-i-test.false
    c.if-expected-premises.false c.loop-i.invariant
