use Rattle.std.proofs.Common.{length}
use Rattle.ev_wd.proofs.renaming.+new_number.Given as goal

abbrev pub decreases-new_number : goal.decreases-new_number
decreases-new_number l = length l.kept.now
