use Rattle.std.proofs.Common.{◌≡◌, ◌+◌, ◌++◌, drop}
use Rattle.std.specs.Prelude.{flat_map}
use Rattle.std.specs.List.{enumerate_from}
use Rattle.ev_oblig.specs.Obligations.{branch_obligations}
use Rattle.ev_oblig.proofs.rules.branches.Given as goal

abbrev pub invariant-loop-i : goal.invariant-loop-i
invariant-loop-i l =
    l.all ++ flat_map (branch_obligations l.env l.sides.rule.now) (enumerate_from (l.i + 1) (drop l.i l.sides.rule.now.branches))
    ≡ flat_map (branch_obligations l.env l.sides.rule.now) (enumerate_from 1 l.sides.rule.now.branches)
