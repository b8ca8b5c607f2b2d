use Rattle.std.proofs.Common.{ap, ◌∙◌}
use Rattle.ev_terms.specs.Substitution.{shift}
use Rattle.ev_rewrite.proofs.LoweredSteps.{lowered_zero}
use Rattle.ev_rewrite.proofs.lowering.lower.Goals as goal

pub returns-then-by-eq0 : goal.returns-then-by-eq0
returns-then-by-eq0 c = ap (shift c.in_ok-try_copy.field-0 0) c.if-by-eq0.true ∙ lowered_zero c.args.tree.now c.in_ok-try_copy.field-0 c.in_ok-try_copy.ensures
