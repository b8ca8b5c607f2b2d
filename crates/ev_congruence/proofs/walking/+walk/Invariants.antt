use Rattle.std.proofs.Common.{◌≡◌, ◌*◌, ◌+◌, take, map}
use Rattle.ev_terms.specs.Term.{terms}
use Rattle.ev_terms.specs.Measures.{depth, depths}
use Rattle.ev_congruence.specs.Growing.{Extends}
use Rattle.ev_congruence.specs.Limits.{KeepBetween}
use Rattle.ev_congruence.specs.Equating.{AreSettled}
use Rattle.ev_congruence.specs.inner.Inside.{put}
use Rattle.ev_congruence.proofs.walking.+walk.Given as goal

abbrev pub decreases-walk : goal.decreases-walk
decreases-walk l = 4 * depth l.body.now

abbrev pub decreases-apply : goal.decreases-apply
decreases-apply l = 4 * depths (terms l.of.now.children.now) + 3

abbrev pub decreases-walk_all : goal.decreases-walk_all
decreases-walk_all l = 4 * depths (terms l.bodies.now) + 2

abbrev pub invariant-walk_all-loop-body : goal.invariant-walk_all-loop-body
invariant-walk_all-loop-body l = record {
  extends : Extends l.env l.initial.lines l.lines;
  limits : KeepBetween l.env l.initial.lines l.lines l.at (map (put l.count l.pairs.lefts) l.bodies) (map (put l.count l.pairs.rights) l.bodies);
  lefts : l.lefts ≡ map (put l.count l.pairs.lefts) (take l.body-index l.bodies);
  rights : l.rights ≡ map (put l.count l.pairs.rights) (take l.body-index l.bodies);
  found : AreSettled l.lines l.at l.lefts l.rights l.found;
}
