use Rattle.std.proofs.Common.{arith}
use Rattle.theory.proofs.ScriptLaws.{short_head}
use Rattle.theory.proofs.script.proof_head.Goals as goal

pub returns-in-len1 : goal.returns-in-len1
returns-in-len1 c = short_head c.args.parts.now (λ e. omega arith)

pub returns-in-len2 : goal.returns-in-len2
returns-in-len2 c = short_head c.args.parts.now (λ e. omega arith)

pub returns-in-len4-up : goal.returns-in-len4-up
returns-in-len4-up c = short_head c.args.parts.now (λ e. omega arith)
