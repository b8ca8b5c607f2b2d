use Rattle.std.proofs.Common.{◌∙◌, ap}
use Rattle.ev_typing.specs.Sequents.{◌⊢◌}
use Rattle.ev_congruence.proofs.Derived.{imp_base, imp_row}
use Rattle.ev_kernel.specs.declared.rules.BaseRule.TheVariants.{ImpE}
use Rattle.ev_congruence.proofs.Within.{keep_simple}
use Rattle.ev_congruence.proofs.moves.modus_ponens.Goals as goal

pub from_two-requires : goal.from_two-requires
from_two-requires c =
    let e = c.in_ok-sequent.ensures ∙ ap (λ G. c.args.at.now ⊢ G) c.in_ok-try_copy.ensures in record {
      derivation = c.requires.derivation;
      base = imp_base c.args.env.now c.args.lines.now c.args.implication c.in_ok-sequent.sequent c.args.at.now c.requires.premises.0 c.args.goal.now c.requires.derivation e c.requires.premises.1;
      row = imp_row c.args.env.now c.args.lines.now c.args.implication c.args.premise c.in_ok-sequent.sequent c.args.at.now c.requires.premises.0 c.args.goal.now e c.requires.premises.1 c.requires.premises.2;
    }

pub returns-clause-limits : goal.returns-clause-limits
returns-clause-limits c =
    keep_simple _ _ _ c.in_ok-sequent.sequent ImpE (c.in_ok-sequent.ensures ∙ ap (λ G. c.args.at.now ⊢ G) c.in_ok-try_copy.ensures) (λ m d. tt) c.from_two.ensures.limits
