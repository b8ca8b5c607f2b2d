use Rattle.std.proofs.Common.{rules}
use Rattle.ev_oblig.proofs.Sizes.{direct_small}
use Rattle.ev_oblig.proofs.making.direct.Goals as goal

pub returns-in_err-inner-clause-large : goal.returns-in_err-inner-clause-large
returns-in_err-inner-clause-large c =
    λ e small. c.in_err-inner.ensures.large (search rules) (direct_small c.args.env.now c.args.signature.now c.args.condition.now c.args.body.now small)
