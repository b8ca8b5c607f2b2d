use Rattle.std.proofs.Common.{sym, subst}
use Rattle.std.specs.Prelude.{◌↔◌, IsTrue, IfOk}
use Rattle.ev_kernel.specs.Row.{Row}
use Rattle.ev_kernel.proofs.Equations.{refused}
use Rattle.ev_kernel.proofs.Rows.{no_four, named_none, named_one}
use Rattle.ev_kernel.proofs.rules.follows_from.Goals as goal

pub returns-in-empty : goal.returns-in-empty
returns-in-empty c =
    subst (λ ps. IfOk c.follows_from_none.result (λ yes. IsTrue yes ↔ Row c.args.env.now ps c.args.rule.now c.args.conclusion.now))
    (sym (named_none c.args.earlier.now c.args.premises.now c.in-empty.len_below)) c.follows_from_none.ensures

pub returns-in-len1 : goal.returns-in-len1
returns-in-len1 c =
    subst (λ ps. IfOk c.follows_from_one.result (λ yes. IsTrue yes ↔ Row c.args.env.now ps c.args.rule.now c.args.conclusion.now))
    (sym (named_one c.args.earlier.now c.args.premises.now c.premise_of-premise.result.now c.in-len1.len_at_least c.in-len1.len_below c.premise_of-premise.ensures))
    c.follows_from_one.ensures

pub returns-in-len4-up : goal.returns-in-len4-up
returns-in-len4-up c =
    refused (no_four c.args.env.now c.args.earlier.now c.args.premises.now c.args.rule.now c.args.conclusion.now c.requires.numbers c.in-len4-up.len_at_least c.requires.congruence c.requires.induction)
