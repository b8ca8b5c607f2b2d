use Rattle.std.proofs.Common.{◌≡◌, ◌+◌, ◌*◌, ◌++◌, ◌≤◌}
use Rattle.ev_terms.specs.Measures.{type_size, types_size}
use Rattle.ev_print.specs.Canon.{type_texts}
use Rattle.ev_print.specs.inner.Lists.{after_commas}
use Rattle.ev_print.proofs.type_texts.+push_type.Given as goal

abbrev pub decreases-push_type : goal.decreases-push_type
decreases-push_type l = 6 * type_size l.ty.now

abbrev pub decreases-push_enclosed : goal.decreases-push_enclosed
decreases-push_enclosed l = 6 * type_size l.ty.now + 1

abbrev pub decreases-push_power : goal.decreases-push_power
decreases-push_power l = 6 * type_size l.ty.now + 5

abbrev pub decreases-push_factor : goal.decreases-push_factor
decreases-push_factor l = 6 * type_size l.ty.now + 2

abbrev pub decreases-push_product : goal.decreases-push_product
decreases-push_product l = 6 * (type_size l.left.now + type_size l.right.now) + 5

abbrev pub decreases-push_data : goal.decreases-push_data
decreases-push_data l = 6 * types_size l.types.now + 5

abbrev pub decreases-push_list : goal.decreases-push_list
decreases-push_list l = 6 * (type_size l.first.now + types_size l.rest.now) + 4

abbrev pub decreases-push_rest : goal.decreases-push_rest
decreases-push_rest l = 6 * types_size l.types.now + 1

abbrev pub invariant-push_rest-loop-left : goal.invariant-push_rest-loop-left
invariant-push_rest-loop-left l =
    (l.text.items ++ after_commas (type_texts l.left) ≡ l.initial.text.items ++ after_commas (type_texts l.types)) × (types_size l.left ≤ types_size l.types)
