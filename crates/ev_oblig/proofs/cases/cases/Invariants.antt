use Rattle.std.proofs.Common.{◌≡◌, ◌+◌, ◌++◌, drop}
use Rattle.std.specs.Prelude.{flat_map, zip}
use Rattle.std.specs.List.{enumerate_from}
use Rattle.ev_oblig.specs.Obligations.{case_obligation}
use Rattle.ev_oblig.proofs.cases.cases.Given as goal

abbrev pub invariant-loop-i : goal.invariant-loop-i
invariant-loop-i l =
    l.all
    ++ flat_map (case_obligation l.env l.operator.signature.now l.operator.condition.now l.operator.place l.operator.types.now)
    (enumerate_from (l.i + 1) (zip (drop l.i l.cons) (drop l.i l.bodies)))
    ≡ flat_map (case_obligation l.env l.operator.signature.now l.operator.condition.now l.operator.place l.operator.types.now) (enumerate_from 1 (zip l.cons l.bodies))
