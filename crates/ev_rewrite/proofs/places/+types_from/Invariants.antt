use Rattle.std.proofs.Common.{length}
use Rattle.ev_rewrite.proofs.places.+types_from.Given as goal

abbrev pub decreases-types_from : goal.decreases-types_from
decreases-types_from l = length l.place.now
