use Rattle.std.specs.Prelude.{[], ◌∷◌, ◌++◌}
use Rattle.std.proofs.Common.{ap, ◌∙◌}
use Rattle.ev_unify.proofs.Parts.{push_more}
use Rattle.ev_unify.proofs.cells.push_all.Goals as goal

pub loop-left-preserved : goal.loop-left-preserved
loop-left-preserved c =
    rw c.get-left.ensures (push_more c.loop-left.pats.items _ _ c.in-More.a c.loop-left.left.now c.in-More.rest c.in-More.is (c.in_ok-append.ensures.ok ∙ ap (λ x. c.loop-left.pats.items ++ x ∷ []) c.in_ok-share.ensures) c.loop-left.invariant)
