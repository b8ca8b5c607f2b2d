use Rattle.std.specs.Prelude.{bytes_eq}
use Rattle.std.specs.List.{position_from}
use Rattle.std.proofs.Common.{◌≡◌, ◌∙◌, ◌-◌, ap, sym, arith, get_or, drop}
use Rattle.std.proofs.lemmas.Iterator.Adapters.{position_from-zero}
use Rattle.ev_resolve.proofs.Numbering.{numbered}
use Rattle.ev_resolve.proofs.formula_names.numbers_of.Goals as goal

pub names-preserved : goal.names-preserved
names-preserved c = record {
  within = omega (arith, c.names.invariant.within);
  found = λ n.
      numbered n c.in_ok-try_copy.field-0 c.args.params.now c.names.left _ _ (omega (arith, c.names-test.true)) c.names.invariant.within
      (c.in_ok-try_copy.ensures ∙ c.index-params-left.is ∙ ap (get_or c.args.params.now (c.names.left - 1)) (sym c.in_ok-try_copy.ensures))
      (c.names.invariant.found n) (c.in_ok-insert.ensures.updates.0 n);
}

pub returns : goal.returns
returns c = λ n.
    let zero : c.names.left ≡ 0 = omega (arith, c.names-test.false) in
    c.names.invariant.found n ∙ ap (λ k. position_from (bytes_eq n) k (drop k c.args.params.now)) zero ∙ sym (position_from-zero (bytes_eq n) c.args.params.now)
