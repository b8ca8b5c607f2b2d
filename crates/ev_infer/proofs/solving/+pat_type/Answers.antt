use Rattle.std.specs.Prelude.{◌≡◌}
use Rattle.std.proofs.Common.{arith, ◌∙◌, rules}
use Rattle.ev_terms.specs.Types.{type_list}
use Rattle.ev_unify.specs.declared.patterns.Pats.{Empty}
use Rattle.ev_unify.specs.Patterns.{values}
use Rattle.ev_typing.proofs.Signatures.{ok_weaker}
use Rattle.ev_infer.specs.inner.Bulks.{type_at_unknown}
use Rattle.ev_infer.proofs.SolvingSteps.{value-Prod, second_rank, item_rank, rest_size, made_step, made_end}
use Rattle.ev_infer.proofs.solving.+pat_type.Goals as goal

pub pat_type-returns-in_ok-b-in-Prod : goal.pat_type-returns-in_ok-b-in-Prod
pat_type-returns-in_ok-b-in-Prod t c =
    rw (c.in_ok-a-in-Prod.ensures, c.in_ok-b-in-Prod.ensures, c.in_ok-pat_type-in-Prod.ensures, c.in_ok-pat_type-in-Prod-2.ensures, c.get-in-Prod.ensures, c.get-in-Prod-2.ensures, c.in-Prod.is, value-Prod)

pub pat_type-pat_type-requires-in-Prod-2 : goal.pat_type-pat_type-requires-in-Prod-2
pat_type-pat_type-requires-in-Prod-2 t c = (let r = second_rank c.args.pat.now c.in-Prod.a c.in-Prod.b c.get-in-Prod-2.result.now c.in-Prod.is c.get-in-Prod-2.ensures in let d = c.decreases in omega (arith, r, d), tt)

pub pat_types-pat_type-requires : goal.pat_types-pat_type-requires
pat_types-pat_type-requires t c = (let r = item_rank c.args.list.now c.loop-left.left.now c.in-More.rest c.in-More.a c.get.result.now c.in-More.is c.get.ensures c.loop-left.invariant.1 in let d = c.decreases in omega (arith, r, d), tt)

pub pat_types-loop-left-preserved : goal.pat_types-loop-left-preserved
pat_types-loop-left-preserved t c = (
  made_step (type_at_unknown c.args.types.now) c.loop-left.all.items c.push.new.self.items (type_list (values (type_at_unknown c.args.types.now) c.args.list.now)) c.loop-left.left.now c.in-More.rest c.get-left.result.now c.in-More.a c.get.result.now c.in_ok-pat_type.field-0
      c.in-More.is c.get.ensures c.get-left.ensures c.in_ok-pat_type.ensures c.in_ok-push.ensures.items c.loop-left.invariant.0,
  rest_size c.args.list.now c.loop-left.left.now c.in-More.rest c.get-left.result.now c.in-More.a c.in-More.is c.get-left.ensures c.loop-left.invariant.1,
)

pub pat_types-returns : goal.pat_types-returns
pat_types-returns t c =
    let z : c.loop-left.left.now ≡ Empty = search rules in
    ok_weaker c.listed.result (λ As h. h ∙ made_end (type_at_unknown c.args.types.now) c.loop-left.all.items c.loop-left.left.now c.args.list.now z c.loop-left.invariant.0) c.listed.ensures
