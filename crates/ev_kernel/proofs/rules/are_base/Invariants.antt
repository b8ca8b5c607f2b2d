use Rattle.std.proofs.Common.{drop}
use Rattle.std.specs.Prelude.{◌↔◌}
use Rattle.std.specs.List.{AllByRecursion}
use Rattle.ev_typing.specs.BaseSequents.{IsBaseSequent}
use Rattle.ev_kernel.specs.Derivable.{named}
use Rattle.ev_kernel.proofs.rules.are_base.Given as goal

abbrev pub invariant-loop-number : goal.invariant-loop-number
invariant-loop-number l =
    AllByRecursion (IsBaseSequent l.env) (named l.earlier (drop l.number-index l.premises)) ↔ AllByRecursion (IsBaseSequent l.env) (named l.earlier l.premises)
