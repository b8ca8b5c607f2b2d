use Rattle.ev_typing.proofs.PlaceLaws.{symbol_at_place, no_symbol_at_place, no_symbol}
use Rattle.ev_typing.proofs.environment.Env.declared.Goals as goal

pub returns-in-Some-entry-clause-is : goal.returns-in-Some-entry-clause-is
returns-in-Some-entry-clause-is c =
    symbol_at_place c.self.inside.places c.self.inside.entries.items c.args.self.now c.args.name.now c.in-Some.place.now c.in-Some-entry.entry.now _ c.self.view_is c.self.invariant.0
    c.self.invariant.1 c.in-Some.ensures.value c.in-Some-entry.ensures c.part_of.ensures

pub returns-in-None-entry-clause-is : goal.returns-in-None-entry-clause-is
returns-in-None-entry-clause-is c =
    no_symbol_at_place c.self.inside.places c.self.inside.entries.items c.args.self.now c.args.name.now c.in-Some.place.now c.self.view_is c.self.invariant.0 c.self.invariant.1
    c.in-Some.ensures.value c.in-None-entry.ensures

pub returns-in-None-clause-is : goal.returns-in-None-clause-is
returns-in-None-clause-is c =
    no_symbol c.self.inside.places c.self.inside.entries.items c.args.self.now c.args.name.now c.self.view_is c.self.invariant.0 c.self.invariant.1 c.in-None.ensures.value
