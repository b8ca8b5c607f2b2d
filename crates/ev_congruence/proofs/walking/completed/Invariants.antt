use Rattle.std.proofs.Common.{List, [], take}
use Rattle.ev_terms.specs.Term.{Term}
use Rattle.ev_congruence.specs.Growing.{Extends}
use Rattle.ev_congruence.specs.Limits.{KeepBetween}
use Rattle.ev_congruence.specs.Equating.{AreEquatedBy, AreSettled}
use Rattle.ev_congruence.proofs.walking.completed.Given as goal

abbrev pub invariant-loop-i : goal.invariant-loop-i
invariant-loop-i l = record {
  extends : Extends l.env l.initial.lines l.lines;
  limits : KeepBetween l.env l.initial.lines l.lines l.at l.lefts [];
  numbers : (rs : List Term) → AreSettled l.initial.lines l.at l.lefts rs l.found → AreEquatedBy l.lines l.at (take l.i l.lefts) (take l.i rs) l.numbers;
}
