use Rattle.std.proofs.Common.{◌≡◌, ◌+◌, ◌-◌, ◌<◌, ◌≤◌, ℕ, ◌∷◌, drop, length}
use Rattle.theory.specs.declared.marks.Mark.TheVariants.{Open}
use Rattle.theory.proofs.formulas.count_opens.Given as goal

abbrev pub invariant-loop-opens : goal.invariant-loop-opens
invariant-loop-opens l = record {
  within : l.from + l.opens ≤ length l.marks;
  so_far : (k : ℕ) → k < l.opens → drop (l.from + k) l.marks ≡ Open ∷ drop (l.from + k + 1) l.marks;
}

abbrev pub decreases-loop-opens : goal.decreases-loop-opens
decreases-loop-opens l = length l.marks - (l.from + l.opens)
