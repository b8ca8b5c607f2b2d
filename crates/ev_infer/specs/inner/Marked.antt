-- Which variables a bare term uses.
use Rattle.std.specs.Prelude.{ℕ, zero, suc, Bool as Boolean, false, ◌||◌, List, [], ◌∷◌, ◌++◌, slice_get, unwrap_or}
use Rattle.ev_terms.specs.Symbols.{binds}
use Rattle.ev_resolve.specs.Bare.{Bare, Bares, bare_var, bare_lit, bare_node, bare_of, bare_none, bare_more}

-- of marks, the innermost variable's first: whether the variable has one
abbrev pub is_marked : List Boolean → ℕ → Boolean
is_marked marks i = unwrap_or (slice_get marks i) false

-- so many without a mark
abbrev pub unmarked : ℕ → List Boolean
unmarked zero = []
unmarked (suc n) = false ∷ unmarked n

-- a marked variable occurs
abbrev mutual
  pub uses_marked : Bare → List Boolean → Boolean
  uses_marked (bare_var i) marks = is_marked marks i
  uses_marked (bare_lit n) marks = false
  uses_marked (bare_node s w bs) marks = use_marked bs (unmarked (binds s) ++ marks)
  uses_marked (bare_of b A) marks = uses_marked b marks

  pub use_marked : Bares → List Boolean → Boolean
  use_marked bare_none marks = false
  use_marked (bare_more b bs) marks = uses_marked b marks || use_marked bs marks
