use Rattle.ev_typing.proofs.Signatures.{ok_weaker}
use Rattle.ev_print.proofs.OpenSteps.{user_there, user_absent}
use Rattle.ev_print.proofs.annotations.user_type.Goals as goal

pub returns-in-Some : goal.returns-in-Some
returns-in-Some c =
    ok_weaker c.entry_type.result (λ o h. user_there c.args.env.now c.args.name.now c.in-Some.entry.now o c.symbol.ensures.well_formed c.in-Some.ensures.is h) c.entry_type.ensures

pub returns-in-None : goal.returns-in-None
returns-in-None c = user_absent c.args.env.now c.args.name.now c.symbol.ensures.well_formed c.in-None.ensures.is
