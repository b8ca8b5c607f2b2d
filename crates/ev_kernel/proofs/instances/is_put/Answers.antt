use Rattle.std.proofs.Common.{◌-◌, ap, reverse, length}
use Rattle.ev_terms.specs.Term.{var}
use Rattle.ev_terms.specs.Substitution.{shift, inst, lifts, entry}
use Rattle.ev_kernel.proofs.Comparing.{same_as, put_argument, put_outside}
use Rattle.ev_kernel.proofs.instances.is_put.Goals as goal

pub returns-then-at-arguments : goal.returns-then-at-arguments
returns-then-at-arguments c =
    same_as c.args.tree.now (shift c.index-arguments-arguments.result 0 c.args.depth) (inst (lifts c.args.depth (entry (reverse c.args.arguments.now))) c.args.pattern.now) c.is_shift.result
    (put_argument c.args.pattern.now c.index-arguments-arguments.result c.in-Some.i c.args.depth (c.from.result - c.args.depth) c.args.arguments.now c.in-Some.ensures c.requires.outer
    (ap (λ k. k - c.args.depth) c.from.ensures) c.if-at-arguments.true c.index-arguments-arguments.is)
    c.is_shift.ensures

pub returns-else-at-arguments : goal.returns-else-at-arguments
returns-else-at-arguments c =
    same_as c.args.tree.now (var (c.in-Some.i - length c.args.arguments.now)) (inst (lifts c.args.depth (entry (reverse c.args.arguments.now))) c.args.pattern.now) c.is_variable.result
    (put_outside c.args.pattern.now c.in-Some.i c.args.depth (c.from.result - c.args.depth) c.args.arguments.now c.in-Some.ensures c.requires.outer
    (ap (λ k. k - c.args.depth) c.from.ensures) c.if-at-arguments.false)
    c.is_variable.ensures
