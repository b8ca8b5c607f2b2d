use Rattle.std.proofs.Common.{drop}
use Rattle.std.specs.Prelude.{◌↔◌}
use Rattle.std.specs.Option.{option_copied}
use Rattle.ev_typing.specs.BaseSequents.{widened}
use Rattle.ev_kernel.specs.inner.Contexts.{optional}
use Rattle.ev_kernel.specs.Row.{AreEquated}
use Rattle.ev_kernel.specs.Derivable.{named}
use Rattle.ev_kernel.proofs.equality.are_equated.Given as goal

abbrev pub invariant-loop-i : goal.invariant-loop-i
invariant-loop-i l =
    AreEquated (widened l.sequent (optional (option_copied l.bound))) (drop l.i l.lefts) (drop l.i l.rights) (named l.earlier (drop l.i l.premises))
    ↔ AreEquated (widened l.sequent (optional (option_copied l.bound))) l.lefts l.rights (named l.earlier l.premises)
