use Rattle.std.proofs.Common.{arith}
use Rattle.ev_script.specs.inner.Spans.{head_told, unit_at}
use Rattle.ev_script.proofs.LineLaws.{line_some, rest_of}
use Rattle.ev_script.proofs.UnitLaws.{told_none, told_some, no_head, no_unit, a_unit}
use Rattle.ev_script.proofs.units.read_unit.Goals as goal

pub returns-in_default-clause-unit : goal.returns-in_default-clause-unit
returns-in_default-clause-unit c =
    no_head c.args.text.now c.line_length-first.result c.requires c.line_length-first.ensures.value
    (told_none head_told c.in_ok-head.field-0 _ c.in_default.not-Some c.in_ok-head.ensures)

pub returns-in_default-2-clause-unit : goal.returns-in_default-2-clause-unit
returns-in_default-2-clause-unit c =
    no_unit c.args.text.now c.line_length-first.result _ c.in-Some.head c.requires c.line_length-first.ensures.value (rest_of c.args.text.now c.line_length-first.result)
    (told_some head_told c.in_ok-head.field-0 _ c.in-Some.head c.in-Some.is c.in_ok-head.ensures)
    (told_none (unit_at _) c.in_ok-unit.field-0 _ c.in_default-2.not-Some c.in_ok-unit.ensures.unit)

pub returns-clause-unit : goal.returns-clause-unit
returns-clause-unit c =
    a_unit c.args.text.now c.line_length-first.result _ c.in-Some.head c.requires c.line_length-first.ensures.value (rest_of c.args.text.now c.line_length-first.result)
    (told_some head_told c.in_ok-head.field-0 _ c.in-Some.head c.in-Some.is c.in_ok-head.ensures)
    c.in-Some-2.unit.event c.in-Some-2.unit.length
    (told_some (unit_at _) c.in_ok-unit.field-0 _ c.in-Some-2.unit c.in-Some-2.is c.in_ok-unit.ensures.unit)

pub returns-clause-some : goal.returns-clause-some
returns-clause-some c = omega (arith, line_some c.args.text.now c.requires, c.line_length-first.ensures.value)
