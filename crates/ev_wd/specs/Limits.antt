-- The limits of formulas, which a well-definedness condition keeps too.
use Rattle.std.specs.Prelude.{ℕ, ◌≤◌}
use Rattle.ev_terms.specs.Term.{Term}
use Rattle.ev_terms.specs.Measures.{size, depth}

-- how many nodes a formula may have, with those of its type arguments
abbrev pub greatest_size : ℕ
greatest_size = 65536

-- and how many of them above one another
abbrev pub greatest_depth : ℕ
greatest_depth = 512

-- the term is within the limits
pub record IsSmall (t : Term) : Type 0 where
  pub size_fits : size t ≤ greatest_size
  pub depth_fits : depth t ≤ greatest_depth
