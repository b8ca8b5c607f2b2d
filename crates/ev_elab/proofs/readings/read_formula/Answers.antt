use Rattle.std.specs.Prelude.{Err}
use Rattle.std.proofs.Common.{ap, ◌∙◌}
use Rattle.ev_elab.proofs.FormulaAnswers.{not_unknown}
use Rattle.ev_elab.proofs.readings.read_formula.Goals as goal

pub unreachable-requires : goal.unreachable-requires
unreachable-requires c =
    not_unknown c.args.env.now c.args.params.now c.args.vars.now c.args.raw.now c.infer.result c.infer.ensures.unknown
    (c.in-Err-Unknown.is ∙ ap (λ x. Err x) c.in-Err-Unknown.field-0-is) c.requires.in_scope
