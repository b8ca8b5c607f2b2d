use Rattle.std.proofs.Common.{◌+◌, drop, subst}
use Rattle.std.specs.Prelude.{Some}
use Rattle.ev_syntax.specs.inner.TokenAt.{IsTokenAt}
use Rattle.ev_parse.specs.inner.Frames.{stage_tail}
use Rattle.ev_parse.proofs.RelationMoves as moves
use Rattle.ev_parse.proofs.literal_steps.after_expression.Goals as goal

pub returns-in-Some-Name-clause-holds : goal.returns-in-Some-Name-clause-holds
returns-in-Some-Name-clause-holds c = λ whole bs r p h le. let t = c.args.source.now.reader.now in let at = c.args.at in
    let s = subst (λ x. IsTokenAt (Some x) t at) c.in-Some-Name.field-0-is c.in-Some-Name.ensures.token in
    c.named.ensures.holds whole bs r p (moves.at_name whole bs (stage_tail c.args.stage) r s.0 (drop at t) (drop (at + 1) t) s.1 h) le

pub returns-in-Some-Number-clause-holds : goal.returns-in-Some-Number-clause-holds
returns-in-Some-Number-clause-holds c = λ whole bs r p h le. let t = c.args.source.now.reader.now in let at = c.args.at in
    let s = subst (λ x. IsTokenAt (Some x) t at) c.in-Some-Number.field-0-is c.in-Some-Number.ensures.token in
    c.named-in-Some-Number.ensures.holds whole bs r p (moves.at_number whole bs (stage_tail c.args.stage) r _ (drop at t) (drop (at + 1) t) s h) le

pub returns-in-None-clause-holds : goal.returns-in-None-clause-holds
returns-in-None-clause-holds c = λ whole bs r p h le. let t = c.args.source.now.reader.now in let at = c.args.at in
    c.named-in-None.ensures.holds whole bs r p (moves.at_end whole bs (stage_tail c.args.stage) r (drop at t) c.in-None.ensures.token h) le
