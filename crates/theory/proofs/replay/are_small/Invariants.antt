use Rattle.std.proofs.Common.{◌↔◌, drop}
use Rattle.std.specs.List.{AllByRecursion}
use Rattle.ev_typing.specs.Sequents.{IsWithin}
use Rattle.theory.specs.Formulas.{size_limit}
use Rattle.theory.specs.Steps.{depth_limit}
use Rattle.theory.proofs.replay.are_small.Given as goal

abbrev pub invariant-loop-sequent : goal.invariant-loop-sequent
invariant-loop-sequent l = AllByRecursion (IsWithin size_limit depth_limit) (drop l.sequent-index l.sequents) ↔ AllByRecursion (IsWithin size_limit depth_limit) l.sequents
