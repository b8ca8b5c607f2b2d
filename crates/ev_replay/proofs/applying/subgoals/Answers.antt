use Rattle.std.proofs.Common.{subst}
use Rattle.std.specs.Prelude.{IfOk}
use Rattle.std.specs.List.{AllByRecursion}
use Rattle.ev_typing.specs.Typing.{IsSequent}
use Rattle.ev_kernel.specs.Row.{Row}
use Rattle.ev_kernel.specs.declared.rules.BaseRule.TheVariants as rule
use Rattle.ev_proof.specs.declared.steps.Step.TheVariants as step
use Rattle.ev_replay.specs.inner.Finding.{Only, OnlyAmong}
use Rattle.ev_replay.proofs.StepAnswers.{by_step, by_step_among}
use Rattle.ev_replay.proofs.applying.subgoals.Goals as goal

pub returns-in-Hyp : goal.returns-in-Hyp
returns-in-Hyp c =
    by_step c.args.scope.now c.args.goal.now c.args.step.now step.Hyp c.closing.result (λ gs used. (λ x. x, λ x. x)) c.in-Hyp.is c.closing.ensures

pub returns-in-TrueI : goal.returns-in-TrueI
returns-in-TrueI c =
    by_step c.args.scope.now c.args.goal.now c.args.step.now step.TrueI c.closing-in-TrueI.result (λ gs used. (λ x. x, λ x. x)) c.in-TrueI.is c.closing-in-TrueI.ensures

pub returns-in-Em : goal.returns-in-Em
returns-in-Em c =
    by_step c.args.scope.now c.args.goal.now c.args.step.now step.Em c.closing-in-Em.result (λ gs used. (λ x. x, λ x. x)) c.in-Em.is c.closing-in-Em.ensures

pub returns-in-Refl : goal.returns-in-Refl
returns-in-Refl c =
    by_step c.args.scope.now c.args.goal.now c.args.step.now step.Refl c.closing-in-Refl.result (λ gs used. (λ x. x, λ x. x)) c.in-Refl.is c.closing-in-Refl.ensures

pub returns-in-SetMem : goal.returns-in-SetMem
returns-in-SetMem c =
    by_step c.args.scope.now c.args.goal.now c.args.step.now step.SetMem c.closing-in-SetMem.result (λ gs used. (λ x. x, λ x. x)) c.in-SetMem.is c.closing-in-SetMem.ensures

pub returns-in-BoolMem : goal.returns-in-BoolMem
returns-in-BoolMem c =
    by_step c.args.scope.now c.args.goal.now c.args.step.now step.BoolMem c.closing-in-BoolMem.result (λ gs used. (λ x. x, λ x. x)) c.in-BoolMem.is c.closing-in-BoolMem.ensures

pub returns-in-Calc : goal.returns-in-Calc
returns-in-Calc c =
    by_step c.args.scope.now c.args.goal.now c.args.step.now step.Calc c.closing-in-Calc.result (λ gs used. (λ x. x, λ x. x)) c.in-Calc.is c.closing-in-Calc.ensures

pub returns-in-Weak : goal.returns-in-Weak
returns-in-Weak c =
    by_step c.args.scope.now c.args.goal.now c.args.step.now (step.Weak c.in-Weak.numbers) c.weakening.result (λ gs used. (λ x. x, λ x. x)) c.in-Weak.is c.weakening.ensures

pub returns-in-Cut : goal.returns-in-Cut
returns-in-Cut c =
    by_step c.args.scope.now c.args.goal.now c.args.step.now (step.Cut c.in-Cut.raw) c.cut.result (λ gs used. (λ x. x, λ x. x)) c.in-Cut.is c.cut.ensures

pub returns-in-FalseE : goal.returns-in-FalseE
returns-in-FalseE c =
    by_step c.args.scope.now c.args.goal.now c.args.step.now step.FalseE c.falsity_elim.result (λ gs used. (λ x. x, λ x. x)) c.in-FalseE.is c.falsity_elim.ensures

pub returns-in-NotI : goal.returns-in-NotI
returns-in-NotI c =
    by_step c.args.scope.now c.args.goal.now c.args.step.now step.NotI c.not_intro.result (λ gs used. (λ x. x, λ x. x)) c.in-NotI.is c.not_intro.ensures

pub returns-in-AndI : goal.returns-in-AndI
returns-in-AndI c =
    by_step c.args.scope.now c.args.goal.now c.args.step.now step.AndI c.and_intro.result (λ gs used. (λ x. x, λ x. x)) c.in-AndI.is c.and_intro.ensures

pub returns-in-OrI1 : goal.returns-in-OrI1
returns-in-OrI1 c =
    by_step c.args.scope.now c.args.goal.now c.args.step.now step.OrI1 c.or_intro_left.result (λ gs used. (λ x. x, λ x. x)) c.in-OrI1.is c.or_intro_left.ensures

pub returns-in-OrI2 : goal.returns-in-OrI2
returns-in-OrI2 c =
    by_step c.args.scope.now c.args.goal.now c.args.step.now step.OrI2 c.or_intro_right.result (λ gs used. (λ x. x, λ x. x)) c.in-OrI2.is c.or_intro_right.ensures

pub returns-in-ImpI : goal.returns-in-ImpI
returns-in-ImpI c =
    by_step c.args.scope.now c.args.goal.now c.args.step.now step.ImpI c.implies_intro.result (λ gs used. (λ x. x, λ x. x)) c.in-ImpI.is c.implies_intro.ensures

pub returns-in-IffI : goal.returns-in-IffI
returns-in-IffI c =
    by_step c.args.scope.now c.args.goal.now c.args.step.now step.IffI c.iff_intro.result (λ gs used. (λ x. x, λ x. x)) c.in-IffI.is c.iff_intro.ensures

pub returns-in-AllI : goal.returns-in-AllI
returns-in-AllI c =
    by_step c.args.scope.now c.args.goal.now c.args.step.now step.AllI c.forall_intro.result (λ gs used. (λ x. x, λ x. x)) c.in-AllI.is c.forall_intro.ensures

pub returns-in-Sym : goal.returns-in-Sym
returns-in-Sym c =
    by_step c.args.scope.now c.args.goal.now c.args.step.now step.Sym c.symmetry.result (λ gs used. (λ x. x, λ x. x)) c.in-Sym.is c.symmetry.ensures

pub returns-in-Cong : goal.returns-in-Cong
returns-in-Cong c =
    by_step_among c.args.scope.now c.args.goal.now c.args.step.now step.Cong c.congruence.result (λ gs used. (λ x. x, λ x. x)) c.in-Cong.is
    (subst (λ e. IfOk c.congruence.result (OnlyAmong (AllByRecursion (IsSequent e)) (λ gs. Row e gs rule.Cong c.args.goal.now))) c.env-env.ensures.is c.congruence.ensures)

pub returns-in-Note : goal.returns-in-Note
returns-in-Note c =
    by_step c.args.scope.now c.args.goal.now c.args.step.now (step.Note c.in-Note.raw) c.note.result (λ gs used. (λ x. x, λ x. x)) c.in-Note.is c.note.ensures

pub returns-in-AndE1 : goal.returns-in-AndE1
returns-in-AndE1 c =
    by_step c.args.scope.now c.args.goal.now c.args.step.now (step.AndE1 c.in-AndE1.raw) c.and_elim_left.result (λ gs used. (λ x. x, λ x. x)) c.in-AndE1.is c.and_elim_left.ensures

pub returns-in-AndE2 : goal.returns-in-AndE2
returns-in-AndE2 c =
    by_step c.args.scope.now c.args.goal.now c.args.step.now (step.AndE2 c.in-AndE2.raw) c.and_elim_right.result (λ gs used. (λ x. x, λ x. x)) c.in-AndE2.is c.and_elim_right.ensures

pub returns-in-OrE : goal.returns-in-OrE
returns-in-OrE c =
    by_step c.args.scope.now c.args.goal.now c.args.step.now (step.OrE c.in-OrE.raw) c.or_elim.result (λ gs used. (λ x. x, λ x. x)) c.in-OrE.is c.or_elim.ensures

pub returns-in-ImpE : goal.returns-in-ImpE
returns-in-ImpE c =
    by_step c.args.scope.now c.args.goal.now c.args.step.now (step.ImpE c.in-ImpE.raw) c.implies_elim.result (λ gs used. (λ x. x, λ x. x)) c.in-ImpE.is c.implies_elim.ensures

pub returns-in-IffE1 : goal.returns-in-IffE1
returns-in-IffE1 c =
    by_step c.args.scope.now c.args.goal.now c.args.step.now (step.IffE1 c.in-IffE1.raw) c.iff_elim_right.result (λ gs used. (λ x. x, λ x. x)) c.in-IffE1.is c.iff_elim_right.ensures

pub returns-in-IffE2 : goal.returns-in-IffE2
returns-in-IffE2 c =
    by_step c.args.scope.now c.args.goal.now c.args.step.now (step.IffE2 c.in-IffE2.raw) c.iff_elim_left.result (λ gs used. (λ x. x, λ x. x)) c.in-IffE2.is c.iff_elim_left.ensures

pub returns-in-AllE : goal.returns-in-AllE
returns-in-AllE c =
    by_step c.args.scope.now c.args.goal.now c.args.step.now (step.AllE c.in-AllE.raw c.in-AllE.term) c.forall_elim.result (λ gs used. (λ x. x, λ x. x)) c.in-AllE.is c.forall_elim.ensures

pub returns-in-ExI : goal.returns-in-ExI
returns-in-ExI c =
    by_step c.args.scope.now c.args.goal.now c.args.step.now (step.ExI c.in-ExI.raw) c.exists_intro.result (λ gs used. (λ x. x, λ x. x)) c.in-ExI.is c.exists_intro.ensures

pub returns-in-ExE : goal.returns-in-ExE
returns-in-ExE c =
    by_step c.args.scope.now c.args.goal.now c.args.step.now (step.ExE c.in-ExE.raw) c.exists_elim.result (λ gs used. (λ x. x, λ x. x)) c.in-ExE.is c.exists_elim.ensures

pub returns-in-Trans : goal.returns-in-Trans
returns-in-Trans c =
    by_step c.args.scope.now c.args.goal.now c.args.step.now (step.Trans c.in-Trans.raw) c.transitivity.result (λ gs used. (λ x. x, λ x. x)) c.in-Trans.is c.transitivity.ensures

pub returns-in-Induct : goal.returns-in-Induct
returns-in-Induct c =
    by_step c.args.scope.now c.args.goal.now c.args.step.now step.Induct c.induction.result (λ gs used. (λ x. x, λ x. x)) c.in-Induct.is
    (subst (λ e. IfOk c.induction.result (Only (λ gs. Row e gs rule.Ind c.args.goal.now))) c.env-env.ensures.is c.induction.ensures)
