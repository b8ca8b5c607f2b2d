use Rattle.ev_congruence.proofs.Derived.{trans_base, trans_row}
use Rattle.ev_kernel.specs.declared.rules.BaseRule.TheVariants.{Trans}
use Rattle.ev_congruence.proofs.Within.{keep_simple}
use Rattle.ev_congruence.proofs.moves.transitivity.Goals as goal

pub from_two-requires : goal.from_two-requires
from_two-requires c = record {
  derivation = c.requires.derivation;
  base = trans_base c.args.env.now c.args.lines.now c.args.first c.args.second c.in_ok-sequent.sequent c.args.at.now c.args.sides.now.ty c.args.sides.now.left c.requires.premises.0 c.args.sides.now.right c.requires.derivation
      c.in_ok-sequent.ensures c.requires.premises.1 c.requires.premises.2;
  row = trans_row c.args.env.now c.args.lines.now c.args.first c.args.second c.in_ok-sequent.sequent c.args.at.now c.args.sides.now.ty c.args.sides.now.left c.requires.premises.0 c.args.sides.now.right
      c.in_ok-sequent.ensures c.requires.premises.1 c.requires.premises.2;
}

pub returns-clause-limits : goal.returns-clause-limits
returns-clause-limits c = keep_simple _ _ _ c.in_ok-sequent.sequent Trans c.in_ok-sequent.ensures (λ m d. tt) c.from_two.ensures.limits
