use Rattle.ev_infer.proofs.PatternSteps.{result_plain}
use Rattle.ev_infer.proofs.patterns.is_result.Goals as goal

pub returns-in_default : goal.returns-in_default
returns-in_default c = result_plain c.args.env.now c.args.ty.now c.is_proper.result c.in_default.not-Prop c.is_proper.ensures
