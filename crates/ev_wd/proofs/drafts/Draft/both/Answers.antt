use Rattle.std.proofs.Common.{◌≡◌, ◌∙◌, ap}
use Rattle.ev_forms.specs.Forms.{conj}
use Rattle.ev_wd.specs.inner.Marks.{either}
use Rattle.ev_wd.specs.inner.Sketches.{meaning}
use Rattle.ev_wd.proofs.Drafting.{measured_both}
use Rattle.ev_wd.proofs.drafts.Draft.both.Goals as goal

pub invariant_of-result : goal.invariant_of-result
invariant_of-result c =
    measured_both c.left.inside.extent c.right.inside.extent c.above-extent.result c.left.inside.marks.items c.right.inside.marks.items c.in_ok-marks.marks.items
    (meaning c.left.inside.sketch) (meaning c.right.inside.sketch) (meaning c.in_ok-sketch.sketch) c.left.invariant c.right.invariant c.above-extent.ensures
    (c.in_ok-marks.ensures ∙ ap (λ us. either us c.as_slice-2.result.now) c.as_slice.ensures.value ∙ ap (either c.left.inside.marks.items) c.as_slice-2.ensures.value)
    c.in_ok-sketch.ensures

pub returns : goal.returns
returns c = c.in_ok-sketch.ensures ∙ ap (λ P. conj P (meaning c.right.inside.sketch)) c.left.view_is ∙ ap (conj c.args.left) c.right.view_is
