use Rattle.std.proofs.Common.{◌≡◌, [], refl, inr, subst}
use Rattle.std.specs.Prelude.{◌↔◌, Some, IsTrue, IfOk}
use Rattle.ev_axioms.specs.inner.Building.{built}
use Rattle.ev_axioms.proofs.Built.{outside, no_row, found_row}
use Rattle.ev_axioms.proofs.Undone.{no_axiom}
use Rattle.ev_axioms.proofs.axioms.is_axiom.Goals as goal

pub returns-in-Some : goal.returns-in-Some
returns-in-Some c =
    subst (λ o. IfOk c.is_built.result (λ yes. IsTrue yes ↔ (o ≡ Some c.args.tree.now)))
    (found_row c.args.k c.in-Some.steps.now (built c.in-Some.steps.now []) c.if-k-eq0.false c.in-Some.ensures refl) c.is_built.ensures

pub returns-in-None : goal.returns-in-None
returns-in-None c = no_axiom c.args.k c.args.tree.now (no_row c.args.k (inr (outside c.args.k c.if-k-eq0.false c.in-None.ensures)))
