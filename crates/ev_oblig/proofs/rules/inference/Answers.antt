use Rattle.std.proofs.Common.{rules}
use Rattle.ev_oblig.proofs.Sizes.{inference_small}
use Rattle.ev_oblig.proofs.rules.inference.Goals as goal

pub returns-in_err-asked-clause-large : goal.returns-in_err-asked-clause-large
returns-in_err-asked-clause-large c = λ e small. c.in_err-asked.ensures.large (search rules) (inference_small c.args.env.now c.args.rule.now small)
