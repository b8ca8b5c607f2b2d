use Rattle.std.proofs.Common.{◌-◌, length}
use Rattle.ev_script.proofs.UnitLaws.{ReadSoFar}
use Rattle.ev_script.proofs.units.read_script.Given as goal

abbrev pub invariant-units : goal.invariant-units
invariant-units l = ReadSoFar l.bytes l.events l.at

abbrev pub decreases-units : goal.decreases-units
decreases-units l = length l.bytes - l.at
