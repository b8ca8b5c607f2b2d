use Rattle.std.proofs.Common.{subst, sym, ◌∙◌}
use Rattle.ev_parse.specs.inner.FormulaAnswers.{ExpressionAnswer}
use Rattle.ev_parse.proofs.ItemMoves.{no_expr, open_expr, expr_item}
use Rattle.ev_parse.proofs.items.expression_item.Goals as goal

pub returns-in_default : goal.returns-in_default
returns-in_default c =
    no_expr c.args.reader.now c.args.from (subst (ExpressionAnswer c.args.limit c.args.reader.now c.args.from) c.in_default.is c.in_ok-piece.ensures)

pub returns-then-not-ends_at : goal.returns-then-not-ends_at
returns-then-not-ends_at c = let x = subst (ExpressionAnswer c.args.limit c.args.reader.now c.args.from) c.in-Some.is c.in_ok-piece.ensures in
    open_expr c.args.reader.now c.args.from c.in-Some.to x.0 x.2 (sym c.ends_at.ensures ∙ c.if-not-ends_at.true)

pub returns : goal.returns
returns c = let x = subst (ExpressionAnswer c.args.limit c.args.reader.now c.args.from) c.in-Some.is c.in_ok-piece.ensures in
    expr_item c.args.reader.now c.args.from c.in-Some.to c.args.limit c.plain.result x.0 x.2 (c.plain.ensures c.args.limit x.0 x.1) x.4 x.3 (sym c.ends_at.ensures ∙ c.if-not-ends_at.false)
