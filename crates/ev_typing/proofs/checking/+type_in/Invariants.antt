use Rattle.std.proofs.Common.{◌≡◌, ◌*◌, ◌+◌}
use Rattle.std.specs.Prelude.{◌↔◌}
use Rattle.ev_terms.specs.Term.{terms}
use Rattle.ev_terms.specs.Measures.{depth, depths}
use Rattle.ev_typing.specs.Typing.{AreTyped}
use Rattle.ev_typing.proofs.Checks.{RestTyped}
use Rattle.ev_typing.proofs.checking.+type_in.Given as goal

abbrev pub decreases-type_in : goal.decreases-type_in
decreases-type_in l = 6 * depth l.tree.now

abbrev pub decreases-node_type : goal.decreases-node_type
decreases-node_type l = 6 * depths (terms l.children.now) + 5

abbrev pub decreases-fit_inside : goal.decreases-fit_inside
decreases-fit_inside l = 6 * depths (terms l.children.now) + 4

abbrev pub decreases-all_fit : goal.decreases-all_fit
decreases-all_fit l = 6 * depths (terms l.children.now) + 3

abbrev pub decreases-fits : goal.decreases-fits
decreases-fits l = 6 * depth l.tree.now + 1

abbrev pub invariant-all_fit-loop-i : goal.invariant-all_fit-loop-i
invariant-all_fit-loop-i l = record {
  kept : l.context.items ≡ l.initial.context.items;
  rest : RestTyped l.env l.initial.context.items l.children l.args l.i ↔ AreTyped l.env l.initial.context.items (terms l.children) l.args;
}
