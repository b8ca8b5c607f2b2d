use Rattle.std.proofs.Common.{◌≡◌, drop}
use Rattle.ev_wd.specs.Limits.{IsSmall}
use Rattle.ev_wd.specs.Makers.{joined_after}
use Rattle.ev_wd.proofs.makers.and_parts.Given as goal

abbrev pub invariant-loop-part : goal.invariant-loop-part
invariant-loop-part l = record {
  so_far : joined_after l.all (drop l.part-index l.parts) ≡ joined_after l.fn.so_far l.parts;
  small : IsSmall l.all;
}
