use Rattle.std.proofs.Common.{[], ◌∷◌, ◌++◌, ◌+◌, drop, refl, subst, sym, ◌∙◌, arith}
use Rattle.ev_syntax.specs.Marks.{open_paren}
use Rattle.ev_syntax.specs.Tokens.{mark}
use Rattle.ev_parse.specs.inner.Closings.{Closes}
use Rattle.ev_parse.specs.inner.Frames.{stage_tail, related_behind, paren_behind, level_at, stage_at}
use Rattle.ev_parse.specs.declared.states.Stage.TheVariants.{Pred}
use Rattle.ev_parse.proofs.PredicateMoves.{open_none, open_expression, open_predicate}
use Rattle.ev_parse.proofs.PredicateMoves as moves
use Rattle.ev_parse.proofs.predicate_reader.open_paren.Goals as goal

pub returns-in-None-clause-holds : goal.returns-in-None-clause-holds
returns-in-None-clause-holds c = λ whole bs h. let t = c.args.reader.now in let at = c.args.at in
    moves.part_none whole bs c.args.stage (drop at t) (mark open_paren ∷ drop (at + 1) t) c.requires.token h
    (λ g. open_none (drop (at + 1) t) g (subst (Closes t (at + 1)) c.in-None.is c.entry.ensures))

pub returns-then-goes_on-clause-holds : goal.returns-then-goes_on-clause-holds
returns-then-goes_on-clause-holds c = λ whole bs h. let t = c.args.reader.now in let at = c.args.at in
    let e = subst (Closes t (at + 1)) c.in-Some.is c.entry.ensures in (
      stage_tail c.args.stage ++ related_behind ∷ [],
      refl,
      (
        subst (λ us. moves.Called whole bs (stage_tail c.args.stage ++ related_behind ∷ []) us) (sym c.requires.token)
            (moves.part_inner whole bs c.args.stage related_behind (level_at 0 (mark open_paren ∷ drop (at + 1) t)) (drop at t) (mark open_paren ∷ drop (at + 1) t) c.requires.token h
            (λ g. open_expression (drop (at + 1) t) (drop c.in-Some.to t) g e.0 (sym c.goes_on.ensures ∙ c.if-goes_on.true))),
        (let w = c.requires.inside.0 in omega arith),
        omega arith,
      ),
    )

pub returns-else-goes_on-clause-holds : goal.returns-else-goes_on-clause-holds
returns-else-goes_on-clause-holds c = λ whole bs h. let t = c.args.reader.now in let at = c.args.at in
    let e = subst (Closes t (at + 1)) c.in-Some.is c.entry.ensures in (
      stage_tail c.args.stage ++ paren_behind ∷ [],
      refl,
      (
        moves.part_inner whole bs c.args.stage paren_behind (stage_at Pred (drop (at + 1) t)) (drop at t) (mark open_paren ∷ drop (at + 1) t) c.requires.token h
            (λ g. open_predicate (drop (at + 1) t) (drop c.in-Some.to t) g e.0 (sym c.goes_on.ensures ∙ c.if-goes_on.false)),
        let w = c.requires.inside.0 in omega arith,
      ),
    )
