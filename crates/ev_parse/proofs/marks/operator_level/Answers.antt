use Rattle.std.proofs.Common.{◌≤◌, subst, sym}
use Rattle.ev_parse.proofs.Operators.{in_table, few_levels}
use Rattle.ev_parse.proofs.marks.operator_level.Goals as goal

pub returns-then-mark-lt103-clause-few : goal.returns-then-mark-lt103-clause-few
returns-then-mark-lt103-clause-few c = subst (λ x. x ≤ 8) (sym (in_table c.args.mark c.if-mark-lt103.true)) (few_levels c.args.mark)
