use Rattle.ev_ops.proofs.Making.{fits_in}
use Rattle.ev_ops.proofs.entries.env_of.Goals as goal

pub add_element-requires-clause-well_formed : goal.add_element-requires-clause-well_formed
add_element-requires-clause-well_formed c =
    fits_in c.args.elements.now c.as_slice-element-items.result.now c.loop-element.element-index c.element-item.result c.get.result.now c.loop-element.env c.as_slice-element-items.ensures
    c.requires c.element-item.is c.get.ensures c.loop-element-test.true c.loop-element.invariant.env
