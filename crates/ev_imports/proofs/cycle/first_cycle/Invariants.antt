use Rattle.std.proofs.Common.{◌+◌, ◌-◌, length, set, not}
use Rattle.std.specs.List.{count_by}
use Rattle.ev_imports.proofs.Search.{Searched}
use Rattle.ev_imports.proofs.Rows.{RowSearched}
use Rattle.ev_imports.proofs.cycle.first_cycle.Given as goal

abbrev pub invariant-loop-next : goal.invariant-loop-next
invariant-loop-next l = RowSearched (set l.lists l.name l.imports) l.name l.marks.items l.found.items l.head l.next-index l.row

abbrev pub invariant-loop-head : goal.invariant-loop-head
invariant-loop-head l = Searched (set l.lists l.name l.imports) l.name l.marks.items l.found.items l.head 0

abbrev pub decreases-loop-head : goal.decreases-loop-head
decreases-loop-head l = length l.found.items + count_by not l.marks.items - l.head
