use Rattle.std.proofs.Common.{◌≡◌, ◌++◌, length, map, drop}
use Rattle.ev_data.specs.inner.Tests.{recursive_from}
use Rattle.ev_data.proofs.Inductions.{put}
use Rattle.ev_data.proofs.induction.add_hypotheses.Given as goal

abbrev pub invariant-loop-i : goal.invariant-loop-i
invariant-loop-i l =
    l.hyps ++ map (put l.predicate) (recursive_from l.decl (length l.con.fields) l.i (drop l.i l.con.fields))
    ≡ l.initial.hyps ++ map (put l.predicate) (recursive_from l.decl (length l.con.fields) 0 l.con.fields)
