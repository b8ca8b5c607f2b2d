use Rattle.std.proofs.Common.{◌∙◌, refl, arith}
use Rattle.ev_print.proofs.TypeSteps.{size_step}
use Rattle.ev_print.proofs.ParamSteps.{right_rank, item_rank, second_param, rest_param, first_param}
use Rattle.ev_print.proofs.params.+has_param.Goals as goal

pub has_param-has_param-requires-in-Prod-2 : goal.has_param-has_param-requires-in-Prod-2
has_param-has_param-requires-in-Prod-2 t c = (let r = right_rank _ _ _ _ c.in-Prod.is c.get-in-Prod-2.ensures in let d = c.decreases in omega (arith, r, d), tt)

pub has_param-returns-else-has_param : goal.has_param-returns-else-has_param
has_param-returns-else-has_param t c =
    second_param _ _ _ _ _ _ _ _ c.in-Prod.is c.get-in-Prod.ensures c.get-in-Prod-2.ensures c.has_param-in-Prod.ensures c.if-has_param.false c.has_param-in-Prod-2.ensures

pub have_param-has_param-requires : goal.have_param-has_param-requires
have_param-has_param-requires t c = (let r = item_rank c.args.types.now c.loop-left.left.now c.in-More.rest c.in-More.a c.get.result.now c.in-More.is c.get.ensures c.loop-left.invariant.1 in let d = c.decreases in omega (arith, r, d), tt)

pub have_param-loop-left-preserved : goal.have_param-loop-left-preserved
have_param-loop-left-preserved t c = (
  rest_param _ _ _ _ _ _ _ _ c.in-More.is c.get.ensures c.get-left.ensures c.has_param.ensures c.if-has_param.false refl ∙ c.loop-left.invariant.0,
  size_step _ _ _ _ _ c.in-More.is c.get-left.ensures c.loop-left.invariant.1,
)

pub have_param-returns-then-has_param : goal.have_param-returns-then-has_param
have_param-returns-then-has_param t c =
    first_param c.args.i c.args.types.now c.loop-left.left.now c.in-More.rest c.in-More.a c.get.result.now c.has_param.result c.in-More.is c.get.ensures c.has_param.ensures c.if-has_param.true c.loop-left.invariant.0
