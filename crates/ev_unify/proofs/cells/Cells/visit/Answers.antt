use Rattle.std.specs.Prelude.{[], ◌∷◌, ◌++◌, slice_index}
use Rattle.std.proofs.Common.{ap, ◌∙◌}
use Rattle.ev_unify.proofs.Ranking.{tour_start}
use Rattle.ev_unify.proofs.cells.Cells.visit.Goals as goal

pub loop-visit-init : goal.loop-visit-init
loop-visit-init c =
    tour_start c.args.self.now.pats.items c.args.self.now.firsts.items c.args.roots.now c.args.marks.now c.args.start c.enter.new.marks c.enter.new.path.items c.requires.flat c.requires.resting c.requires.inside c.requires.new c.in_ok-enter.ensures.marks
    (c.in_ok-enter.ensures.path ∙ ap (λ vs. vs ++ record { part = c.args.start; next = slice_index c.args.self.now.firsts.items c.args.start } ∷ []) c.requires.empty)
