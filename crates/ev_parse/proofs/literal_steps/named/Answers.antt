use Rattle.std.proofs.Common.{◌++◌, drop, subst, sym, ◌∙◌}
use Rattle.ev_syntax.specs.inner.Resuming.{Reach}
use Rattle.ev_syntax.proofs.Resumes.{nothing_inside}
use Rattle.ev_parse.specs.inner.Frames.{stage_tail}
use Rattle.ev_parse.proofs.RelationMoves.{named_alone, not_named}
use Rattle.ev_parse.proofs.literal_steps.named.Goals as goal

pub returns-then-is_name-clause-holds : goal.returns-then-is_name-clause-holds
returns-then-is_name-clause-holds c = λ whole bs r p h le.
    (r, p, subst (Reach whole (bs ++ stage_tail c.args.stage)) (named_alone r (drop c.args.at c.args.source.now.reader.now) (sym (c.is_name.ensures c.args.source.now.limit r p) ∙ c.if-is_name.true)) h, le)

pub returns-else-is_name-clause-holds : goal.returns-else-is_name-clause-holds
returns-else-is_name-clause-holds c = λ whole bs r p h le.
    nothing_inside whole bs (stage_tail c.args.stage) (subst (Reach whole (bs ++ stage_tail c.args.stage)) (not_named r (drop c.args.at c.args.source.now.reader.now) (sym (c.is_name.ensures c.args.source.now.limit r p) ∙ c.if-is_name.false)) h)
