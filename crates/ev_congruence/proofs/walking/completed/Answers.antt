use Rattle.std.proofs.Common.{rules, refl, None, [], get_or, arith}
use Rattle.ev_congruence.proofs.Appending.{extended_derivation, extends_twice, extends_none}
use Rattle.ev_congruence.proofs.Equal.{equated_step, equated_end, settled_at, settled_stays, settled_lengths}
use Rattle.ev_congruence.proofs.Bringing.{read_any, alike_at}
use Rattle.ev_congruence.proofs.Nodes.{typed_lengths, typed_at}
use Rattle.ev_congruence.proofs.Within.{between_same, between_item}
use Rattle.ev_congruence.proofs.walking.completed.Goals as goal

pub loop-i-init : goal.loop-i-init
loop-i-init c = record {
  extends = extends_none c.args.env.now c.args.lines.now c.args.lines.now refl;
  limits = between_same c.args.env.now c.args.lines.now c.args.at.now c.args.lefts.now [];
  numbers = λ rs h. search (rules, c.new-numbers.ensures);
}

pub bounds-types-i : goal.bounds-types-i
bounds-types-i c = omega (arith, typed_lengths c.args.env.now _ c.args.lefts.now c.args.types.now c.requires.typed, c.loop-i-test.true)

pub bounds-found-i : goal.bounds-found-i
bounds-found-i c = omega (arith, (settled_lengths c.args.lines.now c.args.at.now c.args.lefts.now c.requires.given.0 c.args.found.now c.requires.given.1).1, c.loop-i-test.true)

pub loop-i-preserved : goal.loop-i-preserved
loop-i-preserved c = record {
  extends = extends_twice c.args.env.now c.args.lines.now c.loop-i.lines c.line_at.new.lines c.loop-i.invariant.extends c.line_at.ensures.extends;
  limits = between_item c.args.env.now c.args.lines.now c.loop-i.lines c.line_at.new.lines c.args.at.now c.args.lefts.now c.loop-i.i c.index-lefts-i.result c.loop-i.invariant.limits c.line_at.ensures.limits c.index-lefts-i.is
      c.loop-i-test.true;
  numbers = λ rs h.
      let n = settled_lengths c.args.lines.now c.args.at.now c.args.lefts.now rs c.args.found.now h in
      let r = get_or rs c.loop-i.i c.index-lefts-i.result in
      let q = read_any rs c.loop-i.i c.index-lefts-i.result (omega (arith, n.0, c.loop-i-test.true)) in
      equated_step c.args.env.now c.loop-i.lines c.line_at.new.lines c.args.at.now c.args.lefts.now rs c.loop-i.numbers c.push.new.self c.loop-i.i c.index-lefts-i.result r
      c.in_ok-number.number c.line_at.ensures.extends (c.loop-i.invariant.numbers rs h)
      (c.in_ok-number.ensures.line r
      (settled_at c.loop-i.lines c.args.at.now c.args.lefts.now rs c.args.found.now c.loop-i.i c.index-lefts-i.result r (get_or c.args.found.now c.loop-i.i None)
      (settled_stays c.args.env.now c.args.lines.now c.loop-i.lines c.args.at.now c.args.lefts.now rs c.args.found.now c.loop-i.invariant.extends h)
      c.loop-i-test.true c.index-lefts-i.is q (read_any c.args.found.now c.loop-i.i None (omega (arith, n.1, c.loop-i-test.true)))))
      c.index-lefts-i.is q c.loop-i-test.true n.0 c.in_ok-push.ensures.ok;
}

pub line_at-requires : goal.line_at-requires
line_at-requires c =
    let n = settled_lengths c.args.lines.now c.args.at.now c.args.lefts.now c.requires.given.0 c.args.found.now c.requires.given.1 in
    let a = alike_at c.args.env.now _ c.args.lefts.now c.requires.given.0 c.loop-i.i c.index-lefts-i.result (get_or c.requires.given.0 c.loop-i.i c.index-lefts-i.result) c.requires.given.2 c.loop-i-test.true
    c.index-lefts-i.is (read_any c.requires.given.0 c.loop-i.i c.index-lefts-i.result (omega (arith, n.0, c.loop-i-test.true))) in record {
      derivation = extended_derivation c.args.env.now c.args.lines.now c.loop-i.lines c.requires.derivation c.loop-i.invariant.extends;
      base = c.requires.base;
      typed = typed_at c.args.env.now _ c.args.lefts.now c.args.types.now c.loop-i.i c.index-lefts-i.result c.index-types-i.result c.requires.typed c.index-lefts-i.is c.index-types-i.is c.loop-i-test.true;
      plain = a.left_plain;
    }

pub returns-in_err-number-clause-extends : goal.returns-in_err-number-clause-extends
returns-in_err-number-clause-extends c = extends_twice c.args.env.now c.args.lines.now c.loop-i.lines c.line_at.new.lines c.loop-i.invariant.extends c.line_at.ensures.extends

pub returns-in_err-push-clause-extends : goal.returns-in_err-push-clause-extends
returns-in_err-push-clause-extends c = extends_twice c.args.env.now c.args.lines.now c.loop-i.lines c.line_at.new.lines c.loop-i.invariant.extends c.line_at.ensures.extends

pub returns-in_err-number-clause-limits : goal.returns-in_err-number-clause-limits
returns-in_err-number-clause-limits c =
    between_item c.args.env.now c.args.lines.now c.loop-i.lines c.line_at.new.lines c.args.at.now c.args.lefts.now c.loop-i.i c.index-lefts-i.result c.loop-i.invariant.limits c.line_at.ensures.limits c.index-lefts-i.is
    c.loop-i-test.true

pub returns-in_err-push-clause-limits : goal.returns-in_err-push-clause-limits
returns-in_err-push-clause-limits c =
    between_item c.args.env.now c.args.lines.now c.loop-i.lines c.line_at.new.lines c.args.at.now c.args.lefts.now c.loop-i.i c.index-lefts-i.result c.loop-i.invariant.limits c.line_at.ensures.limits c.index-lefts-i.is
    c.loop-i-test.true

pub returns : goal.returns
returns c = record {
  limits = c.loop-i.invariant.limits;
  numbers = λ rs h.
      equated_end c.loop-i.lines c.args.at.now c.args.lefts.now rs c.loop-i.numbers c.loop-i.i (c.loop-i.invariant.numbers rs h) c.loop-i-test.false
      (settled_lengths c.args.lines.now c.args.at.now c.args.lefts.now rs c.args.found.now h).0;
  extends = c.loop-i.invariant.extends;
}
