use Rattle.ev_deriv.proofs.FieldSteps.{joined_gives}
use Rattle.std.proofs.Common.{rules, ◌∙◌}
use Rattle.ev_deriv.proofs.fields.joined.Goals as goal

pub returns : goal.returns
returns c =
    c.from_vec.ensures
    ∙ joined_gives c.args.between.now c.in-Some.first.now c.in-Some.rest.now c.args.texts.now c.in_ok-whole.whole.items _ c.in-Some.ensures.cases.0 (search rules) c.in_ok-append_more.ensures
