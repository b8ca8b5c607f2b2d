use Rattle.ev_congruence.proofs.Equal.{congruence_row, alike_base}
use Rattle.ev_kernel.specs.declared.rules.BaseRule.TheVariants.{Cong}
use Rattle.ev_congruence.proofs.Within.{between_sides}
use Rattle.ev_congruence.proofs.walking.congruent.Goals as goal

pub from_lines-requires : goal.from_lines-requires
from_lines-requires c = record {
  derivation = c.requires.derivation;
  base = alike_base c.args.env.now c.count-opened.ensures.well_formed c.in_ok-sequent.sequent c.args.at.now c.args.ty.now c.args.sides.now.left c.args.sides.now.right c.in_ok-sequent.ensures c.requires.base c.requires.alike c.requires.typed;
  row = congruence_row c.args.env.now c.args.lines.now c.in_ok-sequent.sequent c.args.at.now c.args.ty.now c.args.sides.now.left c.args.sides.now.right c.args.numbers c.in_ok-sequent.ensures c.requires.premises;
}

pub returns-clause-limits : goal.returns-clause-limits
returns-clause-limits c =
    between_sides c.args.env.now c.args.lines.now c.from_lines.new.lines c.args.at.now c.in_ok-sequent.sequent c.args.ty.now c.args.sides.now.left c.args.sides.now.right Cong c.requires.typed c.in_ok-sequent.ensures
    (λ m d. tt) c.from_lines.ensures.limits
