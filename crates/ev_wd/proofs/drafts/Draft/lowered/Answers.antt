use Rattle.std.proofs.Common.{◌≡◌, ◌∙◌, ap}
use Rattle.ev_typing.specs.Occurs.{has_var}
use Rattle.ev_wd.specs.Makers.{lowered}
use Rattle.ev_wd.specs.inner.Sketches.{meaning}
use Rattle.ev_wd.proofs.Drafting.{measured_lowered}
use Rattle.ev_wd.proofs.drafts.Draft.lowered.Goals as goal

pub invariant_of-result : goal.invariant_of-result
invariant_of-result c =
    measured_lowered c.body.inside.extent c.body.inside.marks.items c.outer_marks-marks.result.items (meaning c.body.inside.sketch) (meaning c.in_ok-sketch.sketch)
    (ap (has_var 0) c.body.view_is ∙ c.requires) c.body.invariant c.outer_marks-marks.ensures c.in_ok-sketch.ensures

pub returns : goal.returns
returns c = c.in_ok-sketch.ensures ∙ ap lowered c.body.view_is
