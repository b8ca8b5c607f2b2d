use Rattle.std.proofs.Common.{◌∷◌, [], sym, subst}
use Rattle.std.specs.Prelude.{◌↔◌, IsTrue, IfOk}
use Rattle.ev_kernel.specs.Row.{Row}
use Rattle.ev_kernel.proofs.rules.follows_from_one.Goals as goal

pub returns-in-Inst : goal.returns-in-Inst
returns-in-Inst c =
    subst (λ rule. IfOk c.instantiation.result (λ yes. IsTrue yes ↔ Row c.args.env.now (c.args.premise.now ∷ []) rule c.args.conclusion.now)) (sym c.in-Inst.is) c.instantiation.ensures

pub returns-in-AllE : goal.returns-in-AllE
returns-in-AllE c =
    subst (λ rule. IfOk c.forall_elim.result (λ yes. IsTrue yes ↔ Row c.args.env.now (c.args.premise.now ∷ []) rule c.args.conclusion.now)) (sym c.in-AllE.is) c.forall_elim.ensures

pub returns-in-ExI : goal.returns-in-ExI
returns-in-ExI c =
    subst (λ rule. IfOk c.exists_intro.result (λ yes. IsTrue yes ↔ Row c.args.env.now (c.args.premise.now ∷ []) rule c.args.conclusion.now)) (sym c.in-ExI.is) c.exists_intro.ensures
