use Rattle.std.proofs.Common.{◌≡◌, ◌≤◌, length, take}
use Rattle.ev_forms.specs.Forms.{forall_all}
use Rattle.ev_data.proofs.parts.make_for_all.Given as goal

abbrev pub invariant-loop-left : goal.invariant-loop-left
invariant-loop-left l = record {
  within : l.left ≤ length l.types;
  so_far : forall_all (take l.left l.types) l.tree ≡ forall_all l.types l.fn.body;
}

abbrev pub decreases-loop-left : goal.decreases-loop-left
decreases-loop-left l = l.left
