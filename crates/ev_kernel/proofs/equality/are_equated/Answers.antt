use Rattle.std.proofs.Common.{get_or}
use Rattle.std.specs.Option.{option_copied}
use Rattle.ev_typing.specs.BaseSequents.{widened}
use Rattle.ev_kernel.specs.inner.Contexts.{optional}
use Rattle.ev_kernel.specs.Row.{AreEquated}
use Rattle.ev_kernel.specs.Derivable.{named}
use Rattle.ev_kernel.proofs.Equations.{apart}
use Rattle.ev_kernel.proofs.Congruence.{read_any, fewer_lefts, fewer_rights, equated_step, equated_fails, equated_ends}
use Rattle.ev_kernel.proofs.equality.are_equated.Goals as goal

pub returns-then-lefts-premises : goal.returns-then-lefts-premises
returns-then-lefts-premises c =
    fewer_lefts (widened c.args.sequent.now (optional (option_copied c.args.bound))) c.args.lefts.now c.args.rights.now c.args.earlier.now c.args.premises.now c.requires c.if-lefts-premises.true

pub returns-then-rights-premises : goal.returns-then-rights-premises
returns-then-rights-premises c =
    fewer_rights (widened c.args.sequent.now (optional (option_copied c.args.bound))) c.args.lefts.now c.args.rights.now c.args.earlier.now c.args.premises.now c.requires c.if-rights-premises.true

pub returns-then-not-equates : goal.returns-then-not-equates
returns-then-not-equates c =
    equated_fails (widened c.args.sequent.now (optional (option_copied c.args.bound))) c.args.lefts.now c.args.rights.now c.args.earlier.now c.args.premises.now c.loop-i.i
    c.index-lefts-i.result c.index-rights-i.result (get_or c.args.premises.now c.loop-i.i 0) c.premise_of-premise.result.now
    (AreEquated (widened c.args.sequent.now (optional (option_copied c.args.bound))) c.args.lefts.now c.args.rights.now (named c.args.earlier.now c.args.premises.now))
    c.index-lefts-i.is c.index-rights-i.is (read_any c.args.premises.now c.loop-i.i 0 c.loop-i-test.true) c.loop-i-test.true c.if-lefts-premises.false c.if-rights-premises.false c.premise_of-premise.ensures
    (apart c.equates.result c.equates.ensures c.if-not-equates.true) c.loop-i.invariant

pub loop-i-preserved : goal.loop-i-preserved
loop-i-preserved c =
    equated_step (widened c.args.sequent.now (optional (option_copied c.args.bound))) c.args.lefts.now c.args.rights.now c.args.earlier.now c.args.premises.now c.loop-i.i
    c.index-lefts-i.result c.index-rights-i.result (get_or c.args.premises.now c.loop-i.i 0) c.premise_of-premise.result.now
    (AreEquated (widened c.args.sequent.now (optional (option_copied c.args.bound))) c.args.lefts.now c.args.rights.now (named c.args.earlier.now c.args.premises.now))
    c.index-lefts-i.is c.index-rights-i.is (read_any c.args.premises.now c.loop-i.i 0 c.loop-i-test.true) c.loop-i-test.true c.if-lefts-premises.false c.if-rights-premises.false c.premise_of-premise.ensures
    (c.equates.ensures.0 c.if-not-equates.false) c.loop-i.invariant

pub returns : goal.returns
returns c =
    equated_ends (widened c.args.sequent.now (optional (option_copied c.args.bound))) c.args.lefts.now c.args.rights.now c.args.earlier.now c.args.premises.now c.loop-i.i
    (AreEquated (widened c.args.sequent.now (optional (option_copied c.args.bound))) c.args.lefts.now c.args.rights.now (named c.args.earlier.now c.args.premises.now))
    c.loop-i-test.false c.if-lefts-premises.false c.if-rights-premises.false c.loop-i.invariant
