use Rattle.std.proofs.Common.{Ok, Err, arith}
use Rattle.ev_script.specs.declared.faults.ScriptFault.TheVariants.{BadScript}
use Rattle.ev_script.specs.inner.Spans.{unit_at}
use Rattle.ev_script.proofs.LineLaws.{rest_of}
use Rattle.ev_script.proofs.UnitLaws.{told_none, told_some, bad_here, read_more, whole_script, answer_succeeds, answer_bad}
use Rattle.ev_script.proofs.units.read_script.Goals as goal

pub returns-in_default-clause-succeeds : goal.returns-in_default-clause-succeeds
returns-in_default-clause-succeeds c =
    answer_succeeds c.args.bytes.now (Err (BadScript c.units.at))
    (bad_here c.args.bytes.now c.units.events c.units.at _ c.units.invariant (rest_of c.args.bytes.now c.units.at) c.units-test.true
    (told_none (unit_at _) c.in_ok-unit.field-0 _ c.in_default.not-Some c.in_ok-unit.ensures.unit))

pub returns-in_default-clause-bad : goal.returns-in_default-clause-bad
returns-in_default-clause-bad c =
    answer_bad c.args.bytes.now (Err (BadScript c.units.at))
    (bad_here c.args.bytes.now c.units.events c.units.at _ c.units.invariant (rest_of c.args.bytes.now c.units.at) c.units-test.true
    (told_none (unit_at _) c.in_ok-unit.field-0 _ c.in_default.not-Some c.in_ok-unit.ensures.unit))

pub units-preserved : goal.units-preserved
units-preserved c =
    read_more c.args.bytes.now c.units.events c.units.at _ c.units.invariant (rest_of c.args.bytes.now c.units.at)
    c.in-Some.unit.event c.in-Some.unit.length c.blanks_end-at-in-units.result c.push.new.self
    (told_some (unit_at _) c.in_ok-unit.field-0 _ c.in-Some.unit c.in-Some.is c.in_ok-unit.ensures.unit)
    c.in_ok-push.ensures.ok c.blanks_end-at-in-units.ensures.rest c.blanks_end-at-in-units.ensures.within

pub returns-clause-ok : goal.returns-clause-ok
returns-clause-ok c = whole_script c.args.bytes.now c.units.events c.units.at (omega (arith, c.units-test.false)) c.units.invariant

pub returns-clause-bad : goal.returns-clause-bad
returns-clause-bad c =
    answer_bad c.args.bytes.now (Ok c.units.events) (whole_script c.args.bytes.now c.units.events c.units.at (omega (arith, c.units-test.false)) c.units.invariant)
