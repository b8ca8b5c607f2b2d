use Rattle.std.proofs.Common.{◌≡◌, drop}
use Rattle.std.specs.Prelude.{◌↔◌}
use Rattle.ev_kernel.specs.Derivable.{named}
use Rattle.ev_kernel.proofs.declarations.are_named.Given as goal

abbrev pub invariant-loop-i : goal.invariant-loop-i
invariant-loop-i l = (named l.earlier (drop l.i l.premises) ≡ drop l.i l.expected) ↔ (named l.earlier l.premises ≡ l.expected)
