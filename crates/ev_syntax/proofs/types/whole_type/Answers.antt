use Rattle.std.proofs.Common.{subst, arith}
use Rattle.ev_syntax.specs.Raw.{type_nesting}
use Rattle.ev_syntax.specs.inner.Pieces.{IsPiece}
use Rattle.ev_syntax.proofs.TypeAnswers.{type_whole, type_left, piece_whole}
use Rattle.ev_syntax.proofs.types.whole_type.Goals as goal

pub returns-then-at-len : goal.returns-then-at-len
returns-then-at-len c = let q = c.requires in type_left c.args.reader.now c.args.at q.0 q.2 (let l = c.len.ensures in let t = c.if-at-len.true in omega arith)

pub returns-in-Whole : goal.returns-in-Whole
returns-in-Whole c = let q = c.requires in let p = subst (λ x. IsPiece type_nesting c.args.limit x q.0) c.in-Whole.is q.1 in
    piece_whole c.args.reader.now c.args.limit q.0 c.in-Whole.a c.in-Whole.field-1 p (type_whole c.args.reader.now c.args.at q.0 q.2 (let l = c.len.ensures in let t = c.if-at-len.false in omega arith))

pub returns-in-Deep : goal.returns-in-Deep
returns-in-Deep c = let q = c.requires in
    (q.0, type_whole c.args.reader.now c.args.at q.0 q.2 (let l = c.len.ensures in let t = c.if-at-len.false in omega arith), subst (λ x. IsPiece type_nesting c.args.limit x q.0) c.in-Deep.is q.1)
