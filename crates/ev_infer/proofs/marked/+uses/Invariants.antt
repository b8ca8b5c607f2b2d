use Rattle.std.proofs.Common.{◌≡◌, ◌*◌, ◌+◌, reverse, drop}
use Rattle.ev_resolve.specs.inner.BareView.{bares, height, heights}
use Rattle.ev_infer.specs.inner.Marked.{use_marked}
use Rattle.ev_infer.proofs.marked.+uses.Given as goal

abbrev pub decreases-uses_marked : goal.decreases-uses_marked
decreases-uses_marked l = 3 * height l.bare.now

abbrev pub decreases-use_under : goal.decreases-use_under
decreases-use_under l = 3 * heights (bares l.children.now) + 2

abbrev pub decreases-use_marked : goal.decreases-use_marked
decreases-use_marked l = 3 * heights (bares l.children.now) + 1

abbrev pub invariant-use_marked-loop-child : goal.invariant-use_marked-loop-child
invariant-use_marked-loop-child l = record {
  kept : l.marks.items ≡ l.initial.marks.items;
  rest : use_marked (bares (drop l.child-index l.children)) (reverse l.initial.marks.items) ≡ use_marked (bares l.children) (reverse l.initial.marks.items);
}
