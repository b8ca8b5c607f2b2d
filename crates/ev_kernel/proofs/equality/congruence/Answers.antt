use Rattle.ev_forms.specs.Binders.{equated}
use Rattle.ev_kernel.specs.Derivable.{named}
use Rattle.ev_kernel.proofs.Equations.{congruent}
use Rattle.ev_kernel.proofs.equality.congruence.Goals as goal

pub returns-in-Some : goal.returns-in-Some
returns-in-Some c =
    congruent c.args.sequent.now (equated c.in-Some.field-0-0.now) c.in-Some.left.now c.in-Some.right.now (named c.args.earlier.now c.args.premises.now) c.are_congruent.result
    c.in-Some.ensures.found.0 c.are_congruent.ensures
