use Rattle.ev_congruence.proofs.Derived.{sym_base, sym_row}
use Rattle.ev_kernel.specs.declared.rules.BaseRule.TheVariants.{Sym as Symmetry}
use Rattle.ev_congruence.proofs.Within.{keep_simple}
use Rattle.ev_congruence.proofs.moves.symmetry.Goals as goal

pub from_one-requires : goal.from_one-requires
from_one-requires c = record {
  derivation = c.requires.derivation;
  base = sym_base c.args.env.now c.args.lines.now c.args.premise c.in_ok-sequent.sequent c.args.at.now c.args.sides.now.ty c.args.sides.now.left c.args.sides.now.right c.requires.derivation c.in_ok-sequent.ensures c.requires.premise;
  row = sym_row c.args.env.now c.args.lines.now c.args.premise c.in_ok-sequent.sequent c.args.at.now c.args.sides.now.ty c.args.sides.now.left c.args.sides.now.right c.in_ok-sequent.ensures c.requires.premise;
}

pub returns-clause-limits : goal.returns-clause-limits
returns-clause-limits c = keep_simple _ _ _ c.in_ok-sequent.sequent Symmetry c.in_ok-sequent.ensures (λ m d. tt) c.from_one.ensures.limits
