use Rattle.std.specs.Prelude.{◌≡◌, ◌+◌, ◌-◌, refl}
use Rattle.std.proofs.Common.{arith}
use Rattle.ev_infer.specs.inner.Bulks.{type_at_unknown}
use Rattle.ev_infer.proofs.FillingSteps.{listed_more}
use Rattle.ev_infer.proofs.filling.build_unknowns.Goals as goal

pub loop-unknown-preserved : goal.loop-unknown-preserved
loop-unknown-preserved c =
    let h : c.loop-unknown.unknown ≡ c.loop-unknown.unknown - 1 + 1 = omega arith in
    (omega arith, omega arith, listed_more (type_at_unknown c.args.types.now) c.loop-unknown.unknown (c.loop-unknown.unknown - 1) c.in-Some.end c.loop-unknown.list _ c.in_ok-rest.rest c.in_ok-unknown_type.field-0 c.in_ok-new.field-0 c.loop-unknown.invariant.1 h c.in_ok-unknown_type.ensures c.in_ok-new.ensures c.in_ok-rest.ensures refl c.loop-unknown.invariant.2)
