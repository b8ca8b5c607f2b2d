use Rattle.ev_infer.specs.inner.Solving.{AreMarks, NoneOpen}
use Rattle.ev_infer.proofs.Ways.{AreWalked}
use Rattle.ev_infer.proofs.unknowns.solve_all.Given as goal

abbrev pub invariant-loop-unknown : goal.invariant-loop-unknown
invariant-loop-unknown l = record {
  known : AreMarks l.binds l.limit l.count l.marks l.bulks l.types;
  ended : NoneOpen l.marks;
  walked : AreWalked l.marks l.unknown;
}
