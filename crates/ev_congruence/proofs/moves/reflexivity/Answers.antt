use Rattle.ev_congruence.proofs.Derived.{refl_base, refl_row}
use Rattle.ev_kernel.specs.declared.rules.BaseRule.TheVariants.{Refl}
use Rattle.ev_congruence.proofs.Within.{keep_simple}
use Rattle.ev_congruence.proofs.moves.reflexivity.Goals as goal

pub from_none-requires : goal.from_none-requires
from_none-requires c = record {
  derivation = c.requires.derivation;
  base = refl_base c.args.env.now c.count-opened.ensures.well_formed c.in_ok-sequent.sequent c.args.at.now c.args.ty.now c.args.term.now c.in_ok-sequent.ensures c.requires.base c.requires.typed c.requires.plain;
  row = refl_row c.args.env.now c.in_ok-sequent.sequent c.args.at.now c.args.ty.now c.args.term.now c.in_ok-sequent.ensures;
}

pub returns-clause-limits : goal.returns-clause-limits
returns-clause-limits c = keep_simple _ _ _ c.in_ok-sequent.sequent Refl c.in_ok-sequent.ensures (λ m d. tt) c.from_none.ensures.limits
