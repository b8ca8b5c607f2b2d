use Rattle.std.proofs.Common.{length}
use Rattle.ev_rewrite.proofs.places.+node_from.Given as goal

abbrev pub decreases-node_from : goal.decreases-node_from
decreases-node_from l = length l.place.now
