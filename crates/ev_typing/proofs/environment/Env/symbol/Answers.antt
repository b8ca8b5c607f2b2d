use Rattle.ev_typing.proofs.PlaceLaws.{entry_at_place, no_entry}
use Rattle.ev_typing.proofs.environment.Env.symbol.Goals as goal

pub returns-in-Some-clause-is : goal.returns-in-Some-clause-is
returns-in-Some-clause-is c =
    entry_at_place c.self.inside.places c.self.inside.entries.items c.args.self.now c.args.name.now c.in-Some.place.now _ c.self.view_is c.self.invariant.0 c.in-Some.ensures.value
    c.entry.ensures

pub returns-in-None-clause-is : goal.returns-in-None-clause-is
returns-in-None-clause-is c =
    no_entry c.self.inside.places c.self.inside.entries.items c.args.self.now c.args.name.now c.self.view_is c.self.invariant.0 c.in-None.ensures.value
