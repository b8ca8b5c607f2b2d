use Rattle.ev_typing.proofs.PlaceLaws.{kept_before, well_formed_before}
use Rattle.ev_typing.proofs.environment.Env.pop.Goals as goal

pub invariant_of-self : goal.invariant_of-self
invariant_of-self c = (
  kept_before c.self.inside.places c.cut.new.places c.pop.new.self.items c.self.inside.entries.items c.in-Some.entry c.first_name.result.now c.in-Some.ensures.items c.self.invariant.0
      c.self.invariant.1 c.first_name.ensures c.cut.ensures,
  well_formed_before c.pop.new.self.items c.self.inside.entries.items c.in-Some.entry c.in-Some.ensures.items c.self.invariant.1,
)
