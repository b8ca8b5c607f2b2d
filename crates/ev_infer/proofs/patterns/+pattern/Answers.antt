use Rattle.std.specs.Prelude.{◌≡◌}
use Rattle.std.proofs.Common.{arith, ◌∙◌, rules}
use Rattle.ev_terms.specs.declared.types.Tys.{Empty}
use Rattle.ev_typing.proofs.Signatures.{ok_weaker}
use Rattle.ev_unify.specs.Patterns.{pat_list}
use Rattle.ev_infer.specs.Equations.{patterns_of}
use Rattle.ev_infer.specs.inner.Walks.{pats}
use Rattle.ev_infer.proofs.BulkSteps.{right_rank, item_rank, rest_size}
use Rattle.ev_infer.proofs.PatternSteps.{pattern_of-Prod, made_step, made_end}
use Rattle.ev_infer.proofs.patterns.+pattern.Goals as goal

pub pattern_of-returns-in_ok-b-in-Prod : goal.pattern_of-returns-in_ok-b-in-Prod
pattern_of-returns-in_ok-b-in-Prod t c =
    rw (c.in_ok-a-in-Prod.ensures, c.in_ok-b-in-Prod.ensures, c.in_ok-pattern_of-in-Prod.ensures, c.in_ok-pattern_of-in-Prod-2.ensures, c.get-in-Prod.ensures, c.get-in-Prod-2.ensures, c.in-Prod.is, pattern_of-Prod)

pub pattern_of-pattern_of-requires-in-Prod-2 : goal.pattern_of-pattern_of-requires-in-Prod-2
pattern_of-pattern_of-requires-in-Prod-2 t c = (let r = right_rank c.args.ty.now c.in-Prod.a c.in-Prod.b c.get-in-Prod-2.result.now c.in-Prod.is c.get-in-Prod-2.ensures in let d = c.decreases in omega (arith, r, d), tt)

pub patterns_of-pattern_of-requires : goal.patterns_of-pattern_of-requires
patterns_of-pattern_of-requires t c = (let r = item_rank c.args.list.now c.loop-left.left.now c.in-More.rest c.in-More.a c.get.result.now c.in-More.is c.get.ensures c.loop-left.invariant.1 in let d = c.decreases in omega (arith, r, d), tt)

pub patterns_of-loop-left-preserved : goal.patterns_of-loop-left-preserved
patterns_of-loop-left-preserved t c = (
  made_step (pats c.args.types.now) c.loop-left.patterns.items c.push.new.self.items (pat_list (patterns_of (pats c.args.types.now) c.args.list.now)) c.loop-left.left.now c.in-More.rest c.get-left.result.now c.in-More.a c.get.result.now c.in_ok-pattern_of.field-0
      c.in-More.is c.get.ensures c.get-left.ensures c.in_ok-pattern_of.ensures c.in_ok-push.ensures.items c.loop-left.invariant.0,
  rest_size c.args.list.now c.loop-left.left.now c.in-More.rest c.get-left.result.now c.in-More.a c.in-More.is c.get-left.ensures c.loop-left.invariant.1,
)

pub patterns_of-returns : goal.patterns_of-returns
patterns_of-returns t c =
    let z : c.loop-left.left.now ≡ Empty = search rules in
    ok_weaker c.listed.result (λ ps h. h ∙ made_end (pats c.args.types.now) c.loop-left.patterns.items c.loop-left.left.now c.args.list.now z c.loop-left.invariant.0) c.listed.ensures
