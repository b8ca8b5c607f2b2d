use Rattle.std.proofs.Common.{◌∙◌, ◌-◌, ap, sym, arith, get_or}
use Rattle.ev_elab.proofs.Tabling.{one_more}
use Rattle.ev_elab.proofs.tables.table_of.Goals as goal

pub names-preserved : goal.names-preserved
names-preserved c = record {
  within = omega (arith, c.names.invariant.within);
  found = λ n.
      one_more n c.in_ok-try_copy.field-0 c.args.names.now c.names.left _ _ (omega (arith, c.names-test.true)) c.names.invariant.within
      (c.in_ok-try_copy.ensures ∙ c.index-names-left.is ∙ ap (get_or c.args.names.now (c.names.left - 1)) (sym c.in_ok-try_copy.ensures))
      (c.names.invariant.found n) (c.in_ok-insert_full.ensures.updates.0 n);
}
