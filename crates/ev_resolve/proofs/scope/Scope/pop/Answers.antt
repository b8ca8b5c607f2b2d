use Rattle.ev_resolve.proofs.PlaceSteps.{named_there, popped}
use Rattle.ev_resolve.proofs.scope.Scope.pop.Goals as goal

pub show_again-requires : goal.show_again-requires
show_again-requires c = λ k named.
    named_there c.self.inside.innermost c.self.inside.slots.items c.self.invariant c.pop.new.self.items c.in-Some.slot c.in-Some.ensures.items k named

pub invariant_of-self : goal.invariant_of-self
invariant_of-self c =
    popped c.self.inside.innermost c.self.inside.slots.items c.self.invariant c.pop.new.self.items c.in-Some.slot c.in-Some.ensures.items c.show_again.new.innermost c.show_again.ensures
