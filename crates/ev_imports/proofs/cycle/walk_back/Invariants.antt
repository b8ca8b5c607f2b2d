use Rattle.ev_imports.proofs.Trail.{TrailSoFar}
use Rattle.ev_imports.proofs.cycle.walk_back.Given as goal

abbrev pub invariant-loop-place : goal.invariant-loop-place
invariant-loop-place l = TrailSoFar l.found l.from l.last l.place l.walk.items

abbrev pub decreases-loop-place : goal.decreases-loop-place
decreases-loop-place l = l.place
