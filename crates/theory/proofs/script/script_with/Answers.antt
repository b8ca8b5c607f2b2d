use Rattle.theory.proofs.ReadLaws.{none_holds}
use Rattle.theory.proofs.ScriptLaws.{no_theorems, no_proofs}
use Rattle.theory.proofs.script.script_with.Goals as goal

pub returns-in_default-clause-none : goal.returns-in_default-clause-none
returns-in_default-clause-none c =
    no_theorems c.args.lines.now c.args.name c.args.start c.args.end c.lines_between.result.now c.requires c.lines_between.ensures (none_holds _ _ c.in_ok-theorems.ensures.none c.in_default.not-Some)

pub returns-in_default-2-clause-none : goal.returns-in_default-2-clause-none
returns-in_default-2-clause-none c =
    no_proofs c.args.lines.now c.args.name c.args.start c.args.end c.lines_behind.result.now c.requires c.lines_behind.ensures (none_holds _ _ c.in_ok-proofs.ensures.none c.in_default-2.not-Some)
