use Rattle.std.proofs.Common.{subst as transport}
use Rattle.std.proofs.lemmas.Result.{IfOk-weaker}
use Rattle.ev_congruence.specs.Equating.{IsSettled}
use Rattle.ev_congruence.proofs.Equal.{equates_itself}
use Rattle.ev_congruence.proofs.Within.{between_itself}
use Rattle.ev_congruence.proofs.walking.line_for.Goals as goal

pub returns-in_ok-ty-in-None-clause-line : goal.returns-in_ok-ty-in-None-clause-line
returns-in_ok-ty-in-None-clause-line c =
    IfOk-weaker c.reflexivity.result _ _ (λ n h r k.
    equates_itself c.reflexivity.new.lines c.args.at.now c.args.left.now r c.in_ok-ty-in-None.ty n h (transport (IsSettled c.args.lines.now c.args.at.now c.args.left.now r) c.in-None.is k)) c.reflexivity.ensures.concludes

pub returns-in-Some-clause-line : goal.returns-in-Some-clause-line
returns-in-Some-clause-line c = λ r k. transport (IsSettled c.args.lines.now c.args.at.now c.args.left.now r) c.in-Some.is k

pub returns-in_ok-ty-in-None-clause-limits : goal.returns-in_ok-ty-in-None-clause-limits
returns-in_ok-ty-in-None-clause-limits c =
    between_itself c.args.env.now c.args.lines.now c.reflexivity.new.lines c.args.at.now c.in_ok-ty-in-None.ty c.args.left.now c.in_ok-ty-in-None.ensures c.reflexivity.ensures.limits
