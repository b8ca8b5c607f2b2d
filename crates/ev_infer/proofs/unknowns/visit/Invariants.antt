use Rattle.std.proofs.Common.{length, set}
use Rattle.ev_infer.specs.declared.solving.Mark.TheVariants.{Open}
use Rattle.ev_infer.specs.inner.Solving.{AreMarks, AreVisits, AreKept, IsWay, labor}
use Rattle.ev_infer.proofs.unknowns.visit.Given as goal

abbrev pub invariant-loop-visit : goal.invariant-loop-visit
invariant-loop-visit l = record {
  known : AreMarks l.binds l.limit (length l.fn.marks) l.marks l.bulks l.types;
  path : AreVisits l.binds (length l.fn.marks) l.start.unknown l.path.items;
  way : IsWay l.binds l.marks l.path.items;
  kept : AreKept (set l.fn.marks l.start.unknown Open) l.marks;
}

abbrev pub decreases-loop-visit : goal.decreases-loop-visit
decreases-loop-visit l = labor l.marks l.path.items
