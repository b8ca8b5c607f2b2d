use Rattle.std.specs.List.{list_any}
use Rattle.std.proofs.Common.{◌≡◌, drop}
use Rattle.ev_resolve.specs.UsedNames.{binders_params}
use Rattle.ev_elab.specs.Unknown.{is_no_number}
use Rattle.ev_elab.proofs.numbers.binders_pass.Given as goal

abbrev pub invariant-loop-binder : goal.invariant-loop-binder
invariant-loop-binder l = list_any (is_no_number l.count) (binders_params (drop l.binder-index l.binders)) ≡ list_any (is_no_number l.count) (binders_params l.binders)
