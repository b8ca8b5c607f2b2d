use Rattle.std.proofs.Common.{◌∙◌, ◌-◌, ap, sym, arith, get_or}
use Rattle.ev_elab.proofs.Tabling.{one_more, apart_more, found_again}
use Rattle.ev_elab.proofs.tables.repeats.Goals as goal

pub returns-then-not-added : goal.returns-then-not-added
returns-then-not-added c =
    found_again c.in_ok-try_copy.field-0 c.args.names.now c.names.left _ _ (omega (arith, c.names-test.true)) c.names.invariant.within
    (c.in_ok-try_copy.ensures ∙ c.index-names-left.is ∙ ap (get_or c.args.names.now (c.names.left - 1)) (sym c.in_ok-try_copy.ensures))
    (c.names.invariant.found c.in_ok-try_copy.field-0) c.in_ok-added.ensures.added c.if-not-added.true

pub names-preserved : goal.names-preserved
names-preserved c = record {
  within = omega (arith, c.names.invariant.within);
  found = λ n.
      one_more n c.in_ok-try_copy.field-0 c.args.names.now c.names.left _ _ (omega (arith, c.names-test.true)) c.names.invariant.within
      (c.in_ok-try_copy.ensures ∙ c.index-names-left.is ∙ ap (get_or c.args.names.now (c.names.left - 1)) (sym c.in_ok-try_copy.ensures))
      (c.names.invariant.found n) (c.in_ok-added.ensures.updates.0 n);
  apart =
      apart_more c.in_ok-try_copy.field-0 c.args.names.now c.names.left _ _ (omega (arith, c.names-test.true)) c.names.invariant.within
      (c.in_ok-try_copy.ensures ∙ c.index-names-left.is ∙ ap (get_or c.args.names.now (c.names.left - 1)) (sym c.in_ok-try_copy.ensures))
      (c.names.invariant.found c.in_ok-try_copy.field-0) c.in_ok-added.ensures.added c.if-not-added.false c.names.invariant.apart;
}
