use Rattle.std.proofs.Common.{◌*◌, ◌+◌}
use Rattle.ev_resolve.specs.inner.BareView.{bares, height, heights}
use Rattle.cases_infer.proofs.bares.+texts.Given as goal

abbrev pub decreases-push_bare : goal.decreases-push_bare
decreases-push_bare l = 3 * height l.bare.now

abbrev pub decreases-push_node : goal.decreases-push_node
decreases-push_node l = 3 * heights (bares l.children.now) + 2

abbrev pub decreases-push_children : goal.decreases-push_children
decreases-push_children l = 3 * heights (bares l.children.now) + 1
