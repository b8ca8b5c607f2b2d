use Rattle.std.proofs.Common.{[], ◌∷◌, ◌++◌, ◌+◌, drop, refl, subst, sym, ◌∙◌, arith}
use Rattle.std.specs.Prelude.{Some}
use Rattle.ev_syntax.specs.Marks.{comma, close_brace}
use Rattle.ev_syntax.specs.Raw.{members}
use Rattle.ev_syntax.specs.inner.RawView.{raws}
use Rattle.ev_syntax.specs.inner.TypeParser.{expect}
use Rattle.ev_syntax.specs.inner.Resuming.{Reach}
use Rattle.ev_parse.specs.inner.Frames.{tail, members_behind}
use Rattle.ev_syntax.proofs.TypeMoves.{begins_at}
use Rattle.ev_parse.proofs.ListMoves.{End}
use Rattle.ev_parse.proofs.ListMoves as moves
use Rattle.ev_parse.proofs.list_steps.after_members.Goals as goal

pub returns-then-is_mark-clause-holds : goal.returns-then-is_mark-clause-holds
returns-then-is_mark-clause-holds c = λ whole bs cs r f p h le. let t = c.args.source.now.reader.now in let at = c.args.at in
    let end : End = λ es us. expect close_brace us (λ rest. Some (members es, rest)) in (
      tail c.args.k ++ members_behind (f.0 ++ r ∷ []) ∷ [],
      (f.0 ++ r ∷ [], c.in_ok-members.ensures f.0 r f.1 p, refl),
      (
        moves.further end whole bs (tail c.args.k) f.0 r (drop at t) (drop (at + 1) t) (begins_at comma t at (sym c.is_mark.ensures.is ∙ c.if-is_mark.true)) (subst (λ xs. Reach whole (bs ++ xs) (Some (r, drop at t))) f.2 h),
        (let w = (c.is_mark.ensures.inside c.if-is_mark.true).0 in omega arith),
        omega arith,
      ),
    )

pub returns-clause-holds : goal.returns-clause-holds
returns-clause-holds c = λ whole bs cs r f p h le. let t = c.args.source.now.reader.now in let at = c.args.at in
    let end : End = λ es us. expect close_brace us (λ rest. Some (members es, rest)) in
    c.close.ensures.holds whole bs (members (raws (f.0 ++ r ∷ []))) (c.in_ok-piece.ensures (f.0 ++ r ∷ []) (c.in_ok-members.ensures f.0 r f.1 p))
    (moves.last end whole bs (tail c.args.k) f.0 r (drop at t) (sym c.is_mark.ensures.is ∙ c.if-is_mark.false) (subst (λ xs. Reach whole (bs ++ xs) (Some (r, drop at t))) f.2 h))
