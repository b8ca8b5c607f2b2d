use Rattle.std.specs.Prelude.{IfSome, IfNone}
use Rattle.std.proofs.Common.{List, ◌∷◌, ◌+◌, ◌≤◌, ◌∙◌, ap, subst, drop, reverse, arith}
use Rattle.ev_terms.specs.Term.{Term}
use Rattle.ev_replay.specs.declared.steps.Outcome.TheVariants.{Broken}
use Rattle.ev_replay.specs.declared.steps.Applied.TheVariants.{Refused}
use Rattle.ev_replay.specs.Steps.{Applies}
use Rattle.ev_replay.specs.inner.Replaying.{Advances}
use Rattle.ev_replay.proofs.ReplayLaws.{begun, ended, counted_on, finished, ends_no_step, ends_no_goal, ends_refused, ends_next, emptied, popped, lines_next}
use Rattle.ev_replay.proofs.replaying.replay_lines.Goals as goal

pub loop-i-init : goal.loop-i-init
loop-i-init g c = record {
  few = omega arith;
  goes_on = begun c.args.scope.now c.args.sequent.now c.in_ok-try_copy.field-0 c.new-stack.result.items c.push.new.self.items c.args.lines.now c.args.steps.now
      c.new-stack.ensures.items c.in_ok-push.ensures.items c.in_ok-try_copy.ensures;
}

pub returns-in_default : goal.returns-in_default
returns-in_default g c =
    let lines = c.args.lines.now in
    let i = c.loop-i.i in
    finished c.args.scope.now c.args.sequent.now lines (Broken (i + 1)) c.args.steps.now c.loop-i.steps c.loop-i.steps 0
    (c.loop-i.invariant.goes_on 0 (Broken (i + 1))
    (ends_no_step c.args.scope.now (i + 1) c.loop-i.left (reverse c.loop-i.stack.items) (drop i lines) (drop (i + 1) lines)
    (lines_next lines i c.index-lines-i.result c.index-lines-i.is c.loop-i-test.true ∙ ap (λ x. x ∷ drop (i + 1) lines) c.in_default.is)))
    (omega arith)

pub returns-in_default-pop : goal.returns-in_default-pop
returns-in_default-pop g c =
    let lines = c.args.lines.now in
    let i = c.loop-i.i in
    let empty = emptied c.loop-i.stack.items c.loop-i.stack.len c.pop.result (omega (arith, c.loop-i.stack.ok)) c.pop.ensures.variant c.in_default-pop.not-Some in
    finished c.args.scope.now c.args.sequent.now lines (Broken (i + 1)) c.args.steps.now c.loop-i.steps c.loop-i.steps 0
    (c.loop-i.invariant.goes_on 0 (Broken (i + 1))
    (ends_no_goal c.args.scope.now (i + 1) c.loop-i.left (reverse c.loop-i.stack.items) (drop i lines) (drop (i + 1) lines) c.in-Some.step (ap reverse empty)
    (lines_next lines i c.index-lines-i.result c.index-lines-i.is c.loop-i-test.true ∙ ap (λ x. x ∷ drop (i + 1) lines) c.in-Some.is)))
    (omega arith)

pub returns-in_default-2 : goal.returns-in_default-2
returns-in_default-2 g c =
    let lines = c.args.lines.now in
    let i = c.loop-i.i in
    let cs = c.args.scope.now in
    let first = c.in-Some-pop.first in
    finished cs c.args.sequent.now lines (Broken (i + 1)) c.args.steps.now c.loop-i.steps c.advance.new.steps 1
    (c.loop-i.invariant.goes_on 1 (Broken (i + 1))
    (ends_refused cs (i + 1) c.loop-i.left first (reverse c.pop.new.self.items) (reverse c.loop-i.stack.items) (drop i lines) (drop (i + 1) lines) c.in-Some.step
    (popped c.loop-i.stack.items c.pop.new.self.items c.pop.result first c.pop.ensures.items c.in-Some-pop.is)
    (lines_next lines i c.index-lines-i.result c.index-lines-i.is c.loop-i-test.true ∙ ap (λ x. x ∷ drop (i + 1) lines) c.in-Some.is)
    (subst (λ o. IfNone o ((used : List Term) × Applies cs first c.in-Some.step Refused used)) c.in_default-2.is c.in_ok-now.ensures.none)))
    c.advance.ensures.counted

pub loop-i-preserved : goal.loop-i-preserved
loop-i-preserved g c =
    let lines = c.args.lines.now in
    let i = c.loop-i.i in
    let cs = c.args.scope.now in
    let first = c.in-Some-pop.first in
    let behind = reverse c.pop.new.self.items in
    let some = subst (λ o. IfSome o (λ now. (now ≤ c.loop-i.left + 1) × Advances cs c.loop-i.left behind first c.in-Some.step now (reverse c.advance.new.stack.items))) c.in-Some-2.is c.in_ok-now.ensures.some in
    record {
      few = omega (arith, some.0, c.loop-i.invariant.few);
      goes_on = λ count o h.
          counted_on c.args.steps.now c.loop-i.steps c.advance.new.steps count cs c.args.sequent.now lines o c.advance.ensures.counted
          (c.loop-i.invariant.goes_on (1 + count) o
          (ends_next cs (i + 1) c.loop-i.left c.in-Some-2.now first behind (reverse c.loop-i.stack.items) (reverse c.advance.new.stack.items) (drop i lines) (drop (i + 1) lines) c.in-Some.step count o
          (popped c.loop-i.stack.items c.pop.new.self.items c.pop.result first c.pop.ensures.items c.in-Some-pop.is)
          (lines_next lines i c.index-lines-i.result c.index-lines-i.is c.loop-i-test.true ∙ ap (λ x. x ∷ drop (i + 1) lines) c.in-Some.is) some.1 h));
    }

pub returns : goal.returns
returns g c =
    finished c.args.scope.now c.args.sequent.now c.args.lines.now c.outcome_with.result c.args.steps.now c.loop-i.steps c.loop-i.steps 0
    (c.loop-i.invariant.goes_on 0 c.outcome_with.result
    (ended c.args.scope.now (c.loop-i.i + 1) c.loop-i.left c.from.result c.len.result c.loop-i.i c.loop-i.stack.items c.args.lines.now c.outcome_with.result c.loop-i-test.false c.outcome_with.ensures
    c.from.ensures (omega (arith, c.len.ensures, c.loop-i.stack.ok))))
    (omega arith)
