-- Which variables occur in a term, each marked.
use Rattle.std.specs.Prelude.{◌≡◌, ℕ, zero, suc, Bool, ◌||◌, List, [], ◌∷◌, length}
use Rattle.ev_terms.specs.Term.{Term, Terms}
use Rattle.ev_terms.specs.Measures.{size, depth, capped}
use Rattle.ev_terms.specs.declared.extents.Extent.{Extent}
use Rattle.ev_typing.specs.Occurs.{has_var, have_var}

-- marks for the variables from j on, with those of the term
abbrev pub marked : ℕ → List Bool → Term → List Bool
marked j [] t = []
marked j (b ∷ bs) t = (b || has_var j t) ∷ marked (suc j) bs t

abbrev pub all_marked : ℕ → List Bool → Terms → List Bool
all_marked j [] ts = []
all_marked j (b ∷ bs) ts = (b || have_var j ts) ∷ all_marked (suc j) bs ts

-- whether each of n variables from j on occurs
abbrev pub occurring : ℕ → ℕ → Term → List Bool
occurring j zero t = []
occurring j (suc n) t = has_var j t ∷ occurring (suc j) n t

-- what is kept of a condition: its size and depth, and whether each of its first variables occurs
pub record IsMeasured (e : Extent) (bs : List Bool) (t : Term) : Type 0 where
  pub extent_is : e ≡ record { size = capped (size t); depth = capped (depth t) }
  pub marks_are : bs ≡ occurring 0 (length bs) t

-- what occurs in one of two terms, for the variables of which both have a mark
abbrev pub either : List Bool → List Bool → List Bool
either [] ds = []
either (b ∷ bs) [] = []
either (b ∷ bs) (d ∷ ds) = (b || d) ∷ either bs ds
