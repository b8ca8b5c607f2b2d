use Rattle.std.proofs.Common.{rules, ◌≡◌, ◌==◌, ap, ◌∙◌}
use Rattle.ev_syntax.specs.Raw.{call}
use Rattle.ev_syntax.specs.inner.RawView.{raws}
use Rattle.ev_infer.specs.inner.Variables.{is_name}
use Rattle.ev_infer.proofs.VariableSteps.{named_call}
use Rattle.ev_infer.proofs.alone.+is_name.Goals as goal

pub returns-in-Call : goal.returns-in-Call
returns-in-Call t c =
    let q : call c.in-Call.field-0 (raws c.in-Call.args) ≡ c.args.raw.now = search rules in
    ap (λ k. k == 0) c.len.ensures ∙ named_call c.in-Call.field-0 c.in-Call.args ∙ ap is_name q
