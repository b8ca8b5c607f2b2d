use Rattle.std.proofs.Common.{◌≡◌, ◌-◌, [], arith}
use Rattle.std.specs.Prelude.{Some}
use Rattle.ev_axioms.specs.inner.Building.{built}
use Rattle.ev_axioms.proofs.Undone.{undone_starts, goes_on_undone, stops_undone}
use Rattle.ev_axioms.proofs.undoing.is_built.Goals as goal

pub loop-left-init : goal.loop-left-init
loop-left-init c = record {
  within = omega arith;
  so_far =
      undone_starts c.args.steps.now c.args.tree.now c.in_ok-try_copy.field-0 c.push.new.self.items c.new-stack.result.items c.in_ok-push.ensures.items c.new-stack.ensures.items
      c.in_ok-try_copy.ensures;
}

pub returns-then-not-branch : goal.returns-then-not-branch
returns-then-not-branch c =
    stops_undone c.args.steps.now (c.loop-left.left - 1) c.loop-left.left _ c.in_ok-undo.field-0 c.loop-left.stack.items c.undo.new.stack.items (built c.args.steps.now [] ≡ Some c.args.tree.now)
    (omega (arith, c.loop-left-test.true, c.loop-left.invariant.within)) (omega (arith, c.loop-left-test.true)) c.if-not-branch.true c.in_ok-undo.ensures c.loop-left.invariant.so_far

pub loop-left-preserved : goal.loop-left-preserved
loop-left-preserved c = record {
  within = omega (arith, c.loop-left-test.true, c.loop-left.invariant.within);
  so_far =
      goes_on_undone c.args.steps.now (c.loop-left.left - 1) c.loop-left.left _ c.in_ok-undo.field-0 c.loop-left.stack.items c.undo.new.stack.items (built c.args.steps.now [] ≡ Some c.args.tree.now)
      (omega (arith, c.loop-left-test.true, c.loop-left.invariant.within)) (omega (arith, c.loop-left-test.true)) c.if-not-branch.false c.in_ok-undo.ensures c.loop-left.invariant.so_far;
}
