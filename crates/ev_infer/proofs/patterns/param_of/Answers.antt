use Rattle.std.proofs.Common.{◌∙◌}
use Rattle.ev_typing.proofs.Signatures.{ok_weaker}
use Rattle.ev_infer.proofs.PatternSteps.{param_inside, param_outside}
use Rattle.ev_infer.proofs.patterns.param_of.Goals as goal

pub returns-in-Some : goal.returns-in-Some
returns-in-Some c =
    ok_weaker c.try_copy.result (λ p h. h ∙ param_inside c.args.types.now c.args.i c.in-Some.pat.now c.in-Some.ensures.lookup.3.0 c.in-Some.ensures.lookup.1) c.try_copy.ensures

pub returns-in-None : goal.returns-in-None
returns-in-None c = param_outside c.args.types.now c.args.i c.in-None.ensures.lookup.3
