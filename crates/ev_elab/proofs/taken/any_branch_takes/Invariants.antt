use Rattle.std.specs.List.{list_any}
use Rattle.std.proofs.Common.{◌≡◌, drop}
use Rattle.ev_elab.specs.inner.Takes.{branch_takes}
use Rattle.ev_elab.proofs.taken.any_branch_takes.Given as goal

abbrev pub invariant-loop-branch : goal.invariant-loop-branch
invariant-loop-branch l = list_any (branch_takes l.names.1 l.names.0) (drop l.branch-index l.branches) ≡ list_any (branch_takes l.names.1 l.names.0) l.branches
