use Rattle.theory.specs.inner.Pieces.{texts}
use Rattle.theory.specs.Scripts.{IsProof}
use Rattle.theory.specs.inner.Scripts.{IsUnitAt}
use Rattle.theory.specs.declared.script.UnitSpan.{UnitSpan}
use Rattle.theory.specs.declared.script.StoredProof.{StoredProof}
use Rattle.theory.proofs.ReadLaws.{none_holds, some_holds}
use Rattle.theory.proofs.ScriptLaws.{no_unit, not_all_blank, all_blank, on_lines, none_on_lines, proofs_end}
use Rattle.theory.proofs.script.proofs_of.Goals as goal

pub returns-in_default-clause-none : goal.returns-in_default-clause-none
returns-in_default-clause-none c =
    no_unit (texts c.args.lines.now) c.units.proofs (texts c.units.rest.now) c.units.invariant (none_holds _ _ c.in_ok-unit.ensures.none c.in_default.not-Some)
    (not_all_blank c.units.rest.now c.blank_count.result c.units-test.true (c.blank_count.ensures.next c.units-test.true) c.blank_count.ensures.so_far)

pub returns-in_default-2-clause-none : goal.returns-in_default-2-clause-none
returns-in_default-2-clause-none c =
    let unit = some_holds (λ (s : UnitSpan). IsUnitAt c.units.rest.now s.head s.start s.end) _ c.in-Some.unit c.in_ok-unit.ensures.found c.in-Some.is in
    none_on_lines c.args.lines.now c.units.rest.now c.lines_between-body.result.now c.units.proofs c.in-Some.unit.head c.in-Some.unit.start c.in-Some.unit.end c.units.invariant unit c.lines_between-body.ensures
    (none_holds _ _ c.in_ok-proof.ensures.none c.in_default-2.not-Some)
    (not_all_blank c.units.rest.now c.blank_count.result c.units-test.true (c.blank_count.ensures.next c.units-test.true) c.blank_count.ensures.so_far)

pub units-preserved : goal.units-preserved
units-preserved c =
    let unit = some_holds (λ (s : UnitSpan). IsUnitAt c.units.rest.now s.head s.start s.end) _ c.in-Some.unit c.in_ok-unit.ensures.found c.in-Some.is in
    let proof = some_holds (λ (p : StoredProof). IsProof (record { head = c.in-Some.unit.head; body = texts c.lines_between-body.result.now }) p) _ c.in-Some-2.proof c.in_ok-proof.ensures.found c.in-Some-2.is in
    on_lines c.args.lines.now c.units.rest.now c.lines_behind-rest.result.now c.lines_between-body.result.now c.units.proofs c.push.new.self c.in-Some.unit.head c.in-Some.unit.start c.in-Some.unit.end c.in-Some-2.proof
    c.units.invariant unit c.lines_between-body.ensures c.lines_behind-rest.ensures proof c.in_ok-push.ensures.ok
    (not_all_blank c.units.rest.now c.blank_count.result c.units-test.true (c.blank_count.ensures.next c.units-test.true) c.blank_count.ensures.so_far)

pub returns-clause-found : goal.returns-clause-found
returns-clause-found c =
    proofs_end (texts c.args.lines.now) c.units.proofs (texts c.units.rest.now) c.units.invariant (all_blank c.units.rest.now c.blank_count.result c.units-test.false c.blank_count.ensures.so_far)
