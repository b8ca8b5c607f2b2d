use Rattle.std.proofs.Common.{◌≤◌, ◌-◌, List, length, drop}
use Rattle.std.specs.Prelude.{Option}
use Rattle.ev_syntax.specs.Raw.{Binder}
use Rattle.ev_syntax.specs.inner.Finding.{Found}
use Rattle.ev_syntax.specs.inner.Resuming.{Settles}
use Rattle.ev_syntax.specs.inner.Pieces.{IsPiece}
use Rattle.ev_syntax.specs.inner.BinderAnswers.{own_nesting, further}
use Rattle.ev_syntax.proofs.binder_reader.further_binders.Given as goal

abbrev pub invariant-loop-alloc : goal.invariant-loop-alloc
invariant-loop-alloc l =
    ((bs : List Binder) → IsPiece own_nesting l.limit l.fn.first bs → (all : List Binder) × IsPiece own_nesting l.limit l.binders all
    × ((o : Option (Found (List Binder))) → Settles (further all (drop l.at l.reader)) o → Settles (further bs (drop l.fn.from l.reader)) o))
    × (l.at ≤ length l.reader) × (l.fn.from ≤ l.at)

abbrev pub decreases-loop-alloc : goal.decreases-loop-alloc
decreases-loop-alloc l = length l.reader - l.at
