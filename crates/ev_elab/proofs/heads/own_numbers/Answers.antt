use Rattle.std.specs.Prelude.{◌==◌}
use Rattle.std.specs.List.{position_from}
use Rattle.std.proofs.Common.{◌≡◌, ◌∙◌, ap, sym, arith, drop}
use Rattle.std.proofs.lemmas.Iterator.Adapters.{position_from-zero}
use Rattle.ev_elab.proofs.heads.own_numbers.Goals as goal

pub returns : goal.returns
returns c = λ i.
    let zero : c.ids.left ≡ 0 = omega (arith, c.ids-test.false) in
    c.ids.invariant.found i ∙ ap (λ k. position_from (λ j. j == i) k (drop k c.args.ids.now)) zero ∙ sym (position_from-zero (λ j. j == i) c.args.ids.now)
