use Rattle.std.proofs.Common.{ap, map, drop}
use Rattle.ev_terms.specs.Types.{type_list}
use Rattle.ev_ops.specs.inner.Weights.{weigh_type}
use Rattle.ev_ops.proofs.WeightLaws.{zipped_end, zipped_done, zipped_step, types_by_step}
use Rattle.ev_ops.proofs.weights.Weights.add_types_by.Goals as goal

pub returns-in_default : goal.returns-in_default
returns-in_default c =
    c.loop-weight.invariant c.loop-weight.self (zipped_end c.loop-weight.self c.args.at (drop c.loop-weight.weight-index c.args.weights.now)
    (λ τ ω. map (weigh_type τ) (type_list c.loop-weight.left.now)) (λ τ ω. ap (λ ts. map (weigh_type τ) (type_list ts)) c.in_default.is))

pub returns : goal.returns
returns c =
    c.loop-weight.invariant c.loop-weight.self (zipped_done c.loop-weight.self c.args.at c.args.weights.now c.loop-weight.weight-index
    (λ τ ω. map (weigh_type τ) (type_list c.loop-weight.left.now)) c.loop-weight-test.false)

pub loop-weight-preserved : goal.loop-weight-preserved
loop-weight-preserved c =
    λ new h. c.loop-weight.invariant new
    (zipped_step c.loop-weight.self c.add_type.new.self new c.args.at c.within.result _ c.args.weights.now c.loop-weight.weight-index (λ τ ω. weigh_type τ c.get.result.now)
    (λ τ ω. map (weigh_type τ) (type_list c.get-left.result.now)) (λ τ ω. map (weigh_type τ) (type_list c.loop-weight.left.now)) c.loop-weight-test.true
    (λ τ ω. types_by_step c.loop-weight.left.now c.in-More.rest c.get-left.result.now c.in-More.ty c.get.result.now τ c.in-More.is c.get-left.ensures c.get.ensures) c.within.ensures c.add_type.ensures h)
