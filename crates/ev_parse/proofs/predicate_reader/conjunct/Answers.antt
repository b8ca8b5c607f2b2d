use Rattle.std.proofs.Common.{drop, subst}
use Rattle.ev_parse.specs.inner.Frames.{stage_rest}
use Rattle.ev_parse.proofs.PredicateMoves as moves
use Rattle.ev_parse.proofs.predicate_reader.conjunct.Goals as goal

pub returns-in-Lit-clause-holds : goal.returns-in-Lit-clause-holds
returns-in-Lit-clause-holds c = λ whole bs r p h le. let t = c.args.reader.now in let at = c.args.at in
    (r, p, moves.bare_found whole bs r (drop at t) (subst (λ s. moves.FoundBy whole bs (stage_rest s) r (drop at t)) c.in-Lit.is h), le)

pub returns-in-Conj-clause-holds : goal.returns-in-Conj-clause-holds
returns-in-Conj-clause-holds c = λ whole bs r p h le. let t = c.args.reader.now in let at = c.args.at in
    (r, p, moves.bare_found whole bs r (drop at t) (subst (λ s. moves.FoundBy whole bs (stage_rest s) r (drop at t)) c.in-Conj.is h), le)

pub returns-in-Pred-clause-holds : goal.returns-in-Pred-clause-holds
returns-in-Pred-clause-holds c = λ whole bs r p h le. let t = c.args.reader.now in let at = c.args.at in
    c.behind_conjunct.ensures.holds whole bs r p (subst (λ s. moves.FoundBy whole bs (stage_rest s) r (drop at t)) c.in-Pred.is h) le
