use Rattle.std.proofs.Common.{arith}
use Rattle.ev_script.proofs.WordLaws.{other_parts}
use Rattle.ev_script.proofs.sequent_names.sequent_of_parts.Goals as goal

pub returns-in-len1 : goal.returns-in-len1
returns-in-len1 c = other_parts c.args.parts.now (λ e. omega arith)

pub returns-in-len2 : goal.returns-in-len2
returns-in-len2 c = other_parts c.args.parts.now (λ e. omega arith)

pub returns-in-len4-up : goal.returns-in-len4-up
returns-in-len4-up c = other_parts c.args.parts.now (λ e. omega arith)
