use Rattle.std.proofs.Common.{drop, subst}
use Rattle.ev_parse.specs.inner.Frames.{stage_tail}
use Rattle.ev_parse.proofs.PredicateMoves as moves
use Rattle.ev_parse.proofs.predicate_reader.literal.Goals as goal

pub returns-in-Lit-clause-holds : goal.returns-in-Lit-clause-holds
returns-in-Lit-clause-holds c = λ whole bs r p h le. let t = c.args.reader.now in let at = c.args.at in
    (r, p, moves.only_literal whole bs r (drop at t) (subst (λ s. moves.FoundBy whole bs (stage_tail s) r (drop at t)) c.in-Lit.is h), le)
