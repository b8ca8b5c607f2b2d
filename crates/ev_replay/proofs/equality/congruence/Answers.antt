use Rattle.ev_forms.specs.Binders.{equated}
use Rattle.ev_replay.proofs.Equations.{congruence_at}
use Rattle.ev_replay.proofs.equality.congruence.Goals as goal

pub returns-in-Some : goal.returns-in-Some
returns-in-Some c =
    congruence_at c.args.env.now c.args.goal.now (equated c.in-Some.field-0-0.now) c.in-Some.left.now c.in-Some.right.now c.congruent.result c.in-Some.ensures.found.0 c.congruent.ensures
