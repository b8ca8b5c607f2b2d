use Rattle.std.specs.Prelude.{refl}
use Rattle.std.proofs.Common.{◌∙◌}
use Rattle.ev_infer.specs.inner.Bulks.{type_at_unknown}
use Rattle.ev_infer.proofs.FillingSteps.{written_types}
use Rattle.ev_infer.proofs.filling.build_written.Goals as goal

pub returns : goal.returns
returns c =
    written_types c.args.env.now (type_at_unknown c.args._types.now) c.args.ty.now c.in_ok-first.first c.args.next c.in_ok-rest.rest _ (c.is_proper.ensures.0 c.if-not-is_proper.false) (c.in_ok-first.ensures ∙ c.in_ok-try_copy.ensures) c.in_ok-rest.ensures refl
