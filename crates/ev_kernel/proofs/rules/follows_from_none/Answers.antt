use Rattle.std.proofs.Common.{[], sym, subst}
use Rattle.std.specs.Prelude.{◌↔◌, IsTrue, IfOk}
use Rattle.ev_kernel.specs.Row.{Row}
use Rattle.ev_kernel.proofs.rules.follows_from_none.Goals as goal

pub returns-in-Axiom : goal.returns-in-Axiom
returns-in-Axiom c =
    subst (λ rule. IfOk c.axiom_row.result (λ yes. IsTrue yes ↔ Row c.args.env.now [] rule c.args.conclusion.now)) (sym c.in-Axiom.is) c.axiom_row.ensures

pub returns-in-Des : goal.returns-in-Des
returns-in-Des c =
    subst (λ rule. IfOk c.destructor.result (λ yes. IsTrue yes ↔ Row c.args.env.now [] rule c.args.conclusion.now)) (sym c.in-Des.is) c.destructor.ensures

pub returns-in-Dis : goal.returns-in-Dis
returns-in-Dis c =
    subst (λ rule. IfOk c.distinct_constructors.result (λ yes. IsTrue yes ↔ Row c.args.env.now [] rule c.args.conclusion.now)) (sym c.in-Dis.is)
    c.distinct_constructors.ensures

pub returns-in-Rec : goal.returns-in-Rec
returns-in-Rec c =
    subst (λ rule. IfOk c.recursion.result (λ yes. IsTrue yes ↔ Row c.args.env.now [] rule c.args.conclusion.now)) (sym c.in-Rec.is) c.recursion.ensures
