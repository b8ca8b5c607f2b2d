use Rattle.std.proofs.Common.{◌≡◌, ◌*◌, ◌+◌, drop}
use Rattle.ev_resolve.specs.inner.BareView.{bares, height, heights}
use Rattle.ev_infer.specs.inner.Walks.{pats}
use Rattle.ev_infer.proofs.EmissionSteps.{rest_walk}
use Rattle.ev_infer.proofs.emission.+emit.Given as goal

abbrev pub decreases-emit : goal.decreases-emit
decreases-emit l = 5 * height l.bare.now

abbrev pub decreases-emit_typed : goal.decreases-emit_typed
decreases-emit_typed l = 5 * height l.bare.now + 1

abbrev pub decreases-emit_node : goal.decreases-emit_node
decreases-emit_node l = 5 * heights (bares l.children.now) + 4

abbrev pub decreases-emit_inside : goal.decreases-emit_inside
decreases-emit_inside l = 5 * heights (bares l.children.now) + 3

abbrev pub decreases-emit_all : goal.decreases-emit_all
decreases-emit_all l = 5 * heights (bares l.children.now) + 2

abbrev pub decreases-emit_child : goal.decreases-emit_child
decreases-emit_child l = 5 * height l.bare.now + 1

abbrev pub invariant-emit_all-loop-i : goal.invariant-emit_all-loop-i
invariant-emit_all-loop-i l = record {
  kept : l.context.items ≡ l.initial.context.items;
  rest : rest_walk l.env (drop l.i l.children) (drop l.i l.args) (pats l.types) l.initial.context.items l.unused l.pairs ≡ rest_walk l.env l.children l.args (pats l.types) l.initial.context.items l.next l.initial.pairs;
}
