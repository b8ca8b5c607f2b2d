use Rattle.std.specs.List.{list_any}
use Rattle.std.proofs.Common.{◌≡◌, drop, reverse}
use Rattle.ev_elab.specs.inner.Tests.{branch_fails}
use Rattle.ev_elab.proofs.unknown.any_branch_fails.Given as goal

abbrev pub invariant-loop-branch : goal.invariant-loop-branch
invariant-loop-branch l =
    list_any (branch_fails l.names.1 l.names.0 l.count (reverse l.bound)) (drop l.branch-index l.branches) ≡ list_any (branch_fails l.names.1 l.names.0 l.count (reverse l.bound)) l.branches
