use Rattle.std.proofs.Common.{◌↔◌, drop}
use Rattle.ev_oblig.specs.Obligations.{AreSmall}
use Rattle.ev_oblig.proofs.making.are_small.Given as goal

abbrev pub invariant-loop-one : goal.invariant-loop-one
invariant-loop-one l = AreSmall (drop l.one-index l.all) ↔ AreSmall l.all
