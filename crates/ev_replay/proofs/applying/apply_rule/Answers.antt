use Rattle.std.proofs.Common.{subst}
use Rattle.ev_replay.specs.inner.Applying.{Found}
use Rattle.ev_replay.proofs.StepAnswers.{refused_none}
use Rattle.ev_replay.proofs.applying.apply_rule.Goals as goal

pub returns-in-None : goal.returns-in-None
returns-in-None c =
    refused_none c.args.scope.now c.args.goal.now c.args.step.now c.requires (subst (Found c.args.scope.now c.args.goal.now c.args.step.now) c.in-None.is c.in_ok-goals.ensures)
