use Rattle.std.proofs.Common.{◌≡◌, [], take}
use Rattle.ev_ops.specs.Unfold.{bodies_after}
use Rattle.ev_ops.specs.Entries.{env_of}
use Rattle.ev_ops.proofs.entries.env_of.Given as goal

abbrev pub invariant-loop-element : goal.invariant-loop-element
invariant-loop-element l = record {
  env : l.env ≡ env_of (take l.element-index l.elements);
  bodies : l.bodies ≡ bodies_after [] l.env;
}
