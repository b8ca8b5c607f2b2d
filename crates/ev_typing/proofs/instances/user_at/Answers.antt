use Rattle.ev_typing.specs.Told.{declared_told}
use Rattle.ev_typing.proofs.Signatures.{user_some, user_none, ok_weaker}
use Rattle.ev_typing.proofs.instances.user_at.Goals as goal

pub returns-in-Some : goal.returns-in-Some
returns-in-Some c =
    ok_weaker c.declared_at.result (λ o h. user_some c.args.env.now c.args.name.now (declared_told c.in-Some.declared) c.args.types.now o c.in-Some.ensures.is h) c.declared_at.ensures

pub returns-in-None : goal.returns-in-None
returns-in-None c = user_none c.args.env.now c.args.name.now c.args.types.now c.in-None.ensures.is
