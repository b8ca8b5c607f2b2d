use Rattle.std.specs.Prelude.{◌≡◌, ◌+◌, [], ◌∷◌, ◌++◌, length}
use Rattle.std.proofs.Common.{ap, sym, ◌∙◌, rules, take}
use Rattle.std.proofs.lemmas.List.{take_more}
use Rattle.ev_unify.proofs.Siding.{sides_more}
use Rattle.ev_unify.proofs.cells.sides.Goals as goal

pub loop-pair-preserved : goal.loop-pair-preserved
loop-pair-preserved c =
    let xs = c.as_slice-pair-items.result.now in
    let i = c.loop-pair.pair-index in
    let p = c.pair-item.result in
    let P = c.loop-pair.pats.items in
    let P' = c.append.new.items.items in
    let e : take (i + 1) xs ≡ take i xs ++ p ∷ [] = take_more xs i p c.loop-pair-test.true ∙ ap (λ q. take i xs ++ q ∷ []) (sym c.pair-item.is) in
    let l : c.len-left.result ≡ length P = search rules in
    let r : c.len-right.result ≡ length P' = search rules in
    rw e (sides_more (take i xs) p P P' c.append-in-loop-pair.new.items.items c.loop-pair.couples.items c.append-in-loop-pair-2.new.items.items c.len-left.result c.len-right.result c.in_ok-new.field-0 c.in_ok-new-2.field-0 c.loop-pair.invariant
    (c.in_ok-new.ensures ∙ c.in_ok-try_copy.ensures) (c.in_ok-new-2.ensures ∙ c.in_ok-try_copy-2.ensures)
    l c.in_ok-append.ensures.ok r c.in_ok-append-2.ensures.ok c.in_ok-append-3.ensures.ok)
