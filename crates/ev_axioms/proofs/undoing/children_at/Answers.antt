use Rattle.ev_axioms.specs.inner.Building.{types_of}
use Rattle.ev_axioms.proofs.Undone.{other_count}
use Rattle.ev_axioms.proofs.undoing.children_at.Goals as goal

pub returns-then-children-count-clause-none : goal.returns-then-children-count-clause-none
returns-then-children-count-clause-none c =
    other_count c.args.tree.now c.in-Some-Base-default-default.field-0-0.now c.in-Some-Base-default-default.types.now c.in-Some-Base-default-default.children.now c.args.count
    c.in-Some-Base-default-default.ensures.found c.if-children-count.true c.args.row (types_of c.args.args)
