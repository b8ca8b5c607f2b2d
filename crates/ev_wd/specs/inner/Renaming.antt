-- Variables under binders of which some are dropped.
use Rattle.std.specs.Prelude.{ℕ, zero, suc, pred, Bool, true, false, List, [], ◌∷◌}
use Rattle.ev_terms.specs.Term.{Term, var}

-- the number of a variable under binders, the innermost first, of which those that are not kept are dropped
abbrev pub new_number : List Bool → ℕ → ℕ
new_number [] i = i
new_number (true ∷ kept) zero = 0
new_number (true ∷ kept) (suc i) = suc (new_number kept i)
new_number (false ∷ kept) i = new_number kept (pred i)

abbrev pub renaming : List Bool → ℕ → Term
renaming kept i = var (new_number kept i)
