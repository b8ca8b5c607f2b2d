use Rattle.std.proofs.Common.{◌++◌, drop, subst}
use Rattle.std.specs.Prelude.{Some}
use Rattle.ev_syntax.specs.Raw.{collected}
use Rattle.ev_syntax.specs.inner.Resuming.{Reach}
use Rattle.ev_syntax.proofs.TypeMoves.{not_eq}
use Rattle.ev_parse.proofs.OperandMoves.{bare_found}
use Rattle.ev_parse.proofs.ListMoves as moves
use Rattle.ev_parse.proofs.list_steps.after_collected.Goals as goal

pub returns-then-mark-eq-OPEN_BRACE-clause-holds : goal.returns-then-mark-eq-OPEN_BRACE-clause-holds
returns-then-mark-eq-OPEN_BRACE-clause-holds c = λ whole bs cs r f p h le. let t = c.args.source.now.reader.now in let at = c.args.at in
    c.close.ensures.holds whole bs (collected c.args.mark f.0 f.1 r) (c.in_ok-piece.ensures f.0 f.1 r f.2 f.3 p)
    (moves.in_brace whole bs c.args.mark c.args.k f.0 f.1 r (drop at t) c.if-mark-eq-OPEN_BRACE.true (subst (λ xs. Reach whole (bs ++ xs) (Some (r, drop at t))) f.4 h))

pub returns-clause-holds : goal.returns-clause-holds
returns-clause-holds c = λ whole bs cs r f p h le. let t = c.args.source.now.reader.now in let at = c.args.at in (
  collected c.args.mark f.0 f.1 r,
  c.in_ok-piece.ensures f.0 f.1 r f.2 f.3 p,
  bare_found whole bs (collected c.args.mark f.0 f.1 r) (drop at t)
      (moves.not_in_brace whole bs c.args.mark c.args.k f.0 f.1 r (drop at t) (not_eq _ _ c.if-mark-eq-OPEN_BRACE.false) (subst (λ xs. Reach whole (bs ++ xs) (Some (r, drop at t))) f.4 h)),
  le,
)
