use Rattle.std.proofs.Common.{◌≡◌, ◌∙◌, ap}
use Rattle.ev_forms.specs.Connectives.{joined}
use Rattle.ev_wd.specs.inner.Sketches.{meaning}
use Rattle.ev_wd.proofs.Drafting.{measured_guarded}
use Rattle.ev_wd.proofs.drafts.Draft.guarded.Goals as goal

pub invariant_of-result : goal.invariant_of-result
invariant_of-result c =
    measured_guarded c.args.connective c.extent.result c.body.inside.extent c.above-extent.result c.body.inside.marks.items c.marked-marks.result.items c.args.guard.now
    (meaning c.body.inside.sketch) (meaning c.in_ok-sketch.sketch) c.extent.ensures c.body.invariant c.above-extent.ensures c.marked-marks.ensures
    (c.in_ok-sketch.ensures ∙ ap (λ P. joined c.args.connective P (meaning c.body.inside.sketch)) c.in_ok-try_copy.ensures)

pub returns : goal.returns
returns c =
    c.in_ok-sketch.ensures ∙ ap (λ P. joined c.args.connective P (meaning c.body.inside.sketch)) c.in_ok-try_copy.ensures
    ∙ ap (joined c.args.connective c.args.guard.now) c.body.view_is
