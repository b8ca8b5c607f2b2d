use Rattle.std.proofs.Common.{◌*◌, ◌+◌, drop}
use Rattle.ev_resolve.specs.inner.BareView.{bares, height, heights}
use Rattle.ev_infer.specs.inner.Bulks.{type_at_unknown}
use Rattle.ev_infer.specs.inner.Filling.{all_made}
use Rattle.ev_infer.proofs.FillingSteps.{RestMade}
use Rattle.ev_infer.proofs.filling.+build.Given as goal

abbrev pub decreases-build : goal.decreases-build
decreases-build l = 2 * height l.bare.now

abbrev pub decreases-build_all : goal.decreases-build_all
decreases-build_all l = 2 * heights (bares l.children.now) + 1

abbrev pub invariant-build_all-loop-child : goal.invariant-build_all-loop-child
invariant-build_all-loop-child l = RestMade l.env (type_at_unknown l.types) (drop l.child-index l.children) l.unused l.trees (all_made l.env (bares l.children) l.next (type_at_unknown l.types))
