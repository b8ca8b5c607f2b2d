use Rattle.std.proofs.Common.{◌≡◌, ◌+◌, ◌-◌, ◌∷◌, [], ap, subst, sym, ◌∙◌, length, length-append, arith}
use Rattle.ev_parse.specs.inner.Closings.{IsTable}
use Rattle.ev_parse.proofs.ClosingMoves.{table_snoc}
use Rattle.ev_parse.proofs.closings.closings_of.Goals as goal

pub loop-at-preserved : goal.loop-at-preserved
loop-at-preserved c = let v = c.loop-at.invariant in let t = c.loop-at-test.true in let ts = c.args.reader.now in
    let e = c.in_ok-push-2.ensures.ok in
    let l : length c.push-in-loop-at.new.items.items ≡ length c.loop-at.table.items + 1 = ap length e ∙ length-append c.loop-at.table.items (c.closing-place.result ∷ []) in
    let n = v.1 in let w = v.2 in
    (subst (IsTable ts) (sym e) (table_snoc ts c.loop-at.table.items (c.loop-at.at - 1) c.closing-place.result v.0 (omega arith) c.closing-place.ensures), omega arith, omega arith)
