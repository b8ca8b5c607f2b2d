use Rattle.std.proofs.Common.{rules, ◌+◌, drop, arith}
use Rattle.std.specs.Prelude.{zip}
use Rattle.ev_oblig.specs.Obligations.{case_obligation}
use Rattle.ev_oblig.proofs.Listing.{part_small, pairs_at, no_parts, no_pairs}
use Rattle.ev_oblig.proofs.cases.cases.Goals as goal

pub returns-in_err-add_case-clause-large : goal.returns-in_err-add_case-clause-large
returns-in_err-add_case-clause-large c =
    λ e small.
    c.in_err-add_case.ensures.large (search rules)
    (part_small (case_obligation c.args.env.now c.args.operator.now.signature.now c.args.operator.now.condition.now c.args.operator.now.place c.args.operator.now.types.now)
    (zip (drop c.loop-i.i c.args.cons.now) (drop c.loop-i.i c.args.bodies.now)) (zip (drop (c.loop-i.i + 1) c.args.cons.now) (drop (c.loop-i.i + 1) c.args.bodies.now)) c.loop-i.i
    (c.index-cons-i.result, c.index-bodies-i.result) c.loop-i.all _
    (pairs_at c.args.cons.now c.args.bodies.now c.loop-i.i c.index-cons-i.result c.index-bodies-i.result c.index-cons-i.is (omega (arith, c.loop-i-test.true, c.min-count.ensures)) c.index-bodies-i.is
    (omega (arith, c.loop-i-test.true, c.min-count.ensures))) c.loop-i.invariant small)

pub returns-clause-found : goal.returns-clause-found
returns-clause-found c =
    no_parts (case_obligation c.args.env.now c.args.operator.now.signature.now c.args.operator.now.condition.now c.args.operator.now.place c.args.operator.now.types.now)
    (zip (drop c.loop-i.i c.args.cons.now) (drop c.loop-i.i c.args.bodies.now)) (c.loop-i.i + 1) c.loop-i.all _
    (no_pairs c.args.cons.now c.args.bodies.now c.loop-i.i (omega (arith, c.loop-i-test.false, c.min-count.ensures))) c.loop-i.invariant
