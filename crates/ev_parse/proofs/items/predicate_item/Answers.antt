use Rattle.std.proofs.Common.{subst, sym, ◌∙◌}
use Rattle.ev_parse.specs.inner.FormulaAnswers.{PredicateAnswer}
use Rattle.ev_parse.proofs.ItemMoves.{no_pred, open_pred, pred_item}
use Rattle.ev_parse.proofs.items.predicate_item.Goals as goal

pub returns-in_default : goal.returns-in_default
returns-in_default c =
    no_pred c.args.reader.now c.args.from (subst (PredicateAnswer c.args.limit c.args.reader.now c.args.from) c.in_default.is c.in_ok-piece.ensures)

pub returns-then-not-ends_at : goal.returns-then-not-ends_at
returns-then-not-ends_at c = let x = subst (PredicateAnswer c.args.limit c.args.reader.now c.args.from) c.in-Some.is c.in_ok-piece.ensures in
    open_pred c.args.reader.now c.args.from c.in-Some.to x.0 x.2 (sym c.ends_at.ensures ∙ c.if-not-ends_at.true)

pub returns : goal.returns
returns c = let x = subst (PredicateAnswer c.args.limit c.args.reader.now c.args.from) c.in-Some.is c.in_ok-piece.ensures in
    pred_item c.args.reader.now c.args.from c.in-Some.to c.args.limit c.plain.result x.0 x.2 (c.plain.ensures c.args.limit x.0 x.1) x.4 x.3 (sym c.ends_at.ensures ∙ c.if-not-ends_at.false)
