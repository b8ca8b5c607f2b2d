use Rattle.std.proofs.Common.{◌≡◌, drop}
use Rattle.std.specs.Prelude.{◌↔◌}
use Rattle.std.specs.List.{AllByRecursion}
use Rattle.ev_typing.specs.Typing.{IsPredicate}
use Rattle.ev_typing.proofs.base_sequents.are_predicates.Given as goal

abbrev pub invariant-loop-tree : goal.invariant-loop-tree
invariant-loop-tree l = record {
  kept : l.context.items ≡ l.initial.context.items;
  rest : AllByRecursion (IsPredicate l.env l.initial.context.items) (drop l.tree-index l.trees) ↔ AllByRecursion (IsPredicate l.env l.initial.context.items) l.trees;
}
