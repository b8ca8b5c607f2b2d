use Rattle.std.specs.Prelude.{◌≡◌, []}
use Rattle.ev_unify.proofs.Ranking.{AreSettled}
use Rattle.ev_unify.proofs.cells.Cells.check_ranks.Given as goal

abbrev pub invariant-loop-i : goal.invariant-loop-i
invariant-loop-i l = AreSettled l.self.pats.items l.self.firsts.items l.roots l.slots l.i × (l.path.items ≡ [])
