use Rattle.std.proofs.Common.{◌≡◌, map, take}
use Rattle.ev_data.specs.Induction.{induction_premise}
use Rattle.ev_data.proofs.induction.make_premises.Given as goal

abbrev pub invariant-loop-con : goal.invariant-loop-con
invariant-loop-con l =
    l.all ≡ map (induction_premise l.conclusion l.induction.decl.now l.induction.types.now l.induction.predicate.now) (take l.con-index l.induction.decl.now.cons)
