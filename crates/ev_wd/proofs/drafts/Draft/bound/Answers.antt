use Rattle.std.proofs.Common.{◌≡◌, ◌∙◌, ap}
use Rattle.ev_forms.specs.Forms.{forall}
use Rattle.ev_wd.specs.inner.Sketches.{meaning}
use Rattle.ev_wd.proofs.Drafting.{measured_bound}
use Rattle.ev_wd.proofs.drafts.Draft.bound.Goals as goal

pub invariant_of-result : goal.invariant_of-result
invariant_of-result c =
    measured_bound c.args.ty c.type_extent.result c.body.inside.extent c.above-extent.result c.body.inside.marks.items c.outer_marks-marks.result.items (meaning c.body.inside.sketch)
    (meaning c.in_ok-sketch.sketch) c.type_extent.ensures c.body.invariant c.above-extent.ensures c.outer_marks-marks.ensures c.in_ok-sketch.ensures

pub returns : goal.returns
returns c = c.in_ok-sketch.ensures ∙ ap (forall c.args.ty) c.body.view_is
