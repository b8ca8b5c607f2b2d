use Rattle.std.proofs.Common.{◌∙◌, ap, Some}
use Rattle.std.proofs.lemmas.Result.{IfOk-weaker}
use Rattle.ev_terms.specs.declared.types.Ty.{Param}
use Rattle.ev_forms.specs.Forms.{exists}
use Rattle.ev_congruence.proofs.Idle.{axiom_sequent, axiom_base, axiom_follows}
use Rattle.ev_kernel.specs.declared.rules.BaseRule.TheVariants.{Axiom}
use Rattle.ev_congruence.proofs.Within.{keep_simple}
use Rattle.ev_congruence.proofs.witnesses.witness_axiom.Goals as goal

pub from_none-requires : goal.from_none-requires
from_none-requires c =
    let e = axiom_sequent c.new.result c.in_ok-goal.goal c.new.ensures (c.in_ok-goal.ensures ∙ ap (exists (Param 0)) c.in_ok-truth.ensures) in record {
      derivation = c.requires.derivation;
      base = axiom_base c.args.env.now _ e;
      row = axiom_follows c.args.env.now _ e;
    }

pub returns-clause-concludes : goal.returns-clause-concludes
returns-clause-concludes c =
    IfOk-weaker c.from_none.result _ _ (λ n h. h ∙ ap Some (axiom_sequent c.new.result c.in_ok-goal.goal c.new.ensures (c.in_ok-goal.ensures ∙ ap (exists (Param 0)) c.in_ok-truth.ensures))) c.from_none.ensures.concludes

pub returns-clause-limits : goal.returns-clause-limits
returns-clause-limits c =
    keep_simple _ _ _ _ (Axiom 1) (axiom_sequent c.new.result c.in_ok-goal.goal c.new.ensures (c.in_ok-goal.ensures ∙ ap (exists (Param 0)) c.in_ok-truth.ensures)) (λ m d. tt) c.from_none.ensures.limits
