use Rattle.std.specs.Prelude.{◌≡◌, ◌↔◌, Some, IsTrue}
use Rattle.std.proofs.lemmas.Result.{IfOk-weaker}
use Rattle.ev_axioms.specs.Axioms.{axiom_row}
use Rattle.ev_kernel.proofs.Declared.{IsConcluded, row_concluded}
use Rattle.ev_kernel.proofs.declarations.axiom_row.Goals as goal

pub returns : goal.returns
returns c =
    IfOk-weaker c.is_axiom.result (λ yes. IsTrue yes ↔ (axiom_row c.args.k ≡ Some c.args.sequent.now.goal)) (λ yes. IsTrue yes ↔ IsConcluded (axiom_row c.args.k) c.args.sequent.now.goal)
    (λ yes d. row_concluded (axiom_row c.args.k) c.args.sequent.now.goal yes d) c.is_axiom.ensures
