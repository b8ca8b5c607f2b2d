-- How large a type or a term is, counted so far that no number that fits 64 bits is mistaken.
use Rattle.std.specs.Prelude.{ℕ, ◌+◌, ◌≤◌, max, min, List, slice_index_or}
use Rattle.ev_terms.specs.declared.extents.Extent.{Extent}
use Rattle.ev_terms.specs.declared.types.Ty.{Ty, Int as IntType}
use Rattle.ev_terms.specs.declared.types.Tys.{Tys}
use Rattle.ev_terms.specs.Term.{Term, Terms}
use Rattle.ev_terms.specs.Measures.{type_size, types_size, type_depth, types_depth, size, sizes, depth, depths}
use Rattle.ev_unify.specs.declared.patterns.Pat.{Pat, Int, Bool, Param, Data, Unknown}
use Rattle.ev_unify.specs.declared.patterns.Pats.{Pats, Empty}
use Rattle.ev_unify.specs.Patterns.{pow_pat, prod_pat, more_pats}
use Rattle.ev_infer.specs.declared.bulks.Bulk.{Bulk}
use Rattle.ev_infer.specs.Equations.{PatTerm, PatTerms, pat_var, pat_lit, pat_node, pat_nil, pat_cons}

abbrev pub cap : ℕ → ℕ
cap n = min n 340282366920938463463374607431768211455

abbrev pub bulk : ℕ → ℕ → Bulk
bulk s d = record { size = cap s; depth = cap d }

abbrev pub above : Bulk → Bulk
above b = bulk (1 + b.size) (1 + b.depth)

abbrev pub beside : Bulk → Bulk → Bulk
beside a b = record { size = cap (a.size + b.size); depth = max a.depth b.depth }

abbrev pub type_bulk : Ty → Bulk
type_bulk A = bulk (type_size A) (type_depth A)

abbrev pub types_bulk : Tys → Bulk
types_bulk As = bulk (types_size As) (types_depth As)

abbrev pub tree_bulk : Term → Bulk
tree_bulk t = bulk (size t) (depth t)

abbrev pub trees_bulk : Terms → Bulk
trees_bulk ts = bulk (sizes ts) (depths ts)

-- of a pattern whose unknowns are so large
abbrev mutual
  pub pat_bulk : (ℕ → Bulk) → Pat → Bulk
  pat_bulk e Int = bulk 1 1
  pat_bulk e Bool = bulk 1 1
  pat_bulk e (Param i) = bulk 1 1
  pat_bulk e (pow_pat p) = above (pat_bulk e p)
  pat_bulk e (prod_pat p q) = above (beside (pat_bulk e p) (pat_bulk e q))
  pat_bulk e (Data n ps) = above (pats_bulk e ps)
  pat_bulk e (Unknown u) = e u

  pub pats_bulk : (ℕ → Bulk) → Pats → Bulk
  pats_bulk e Empty = bulk 0 0
  pats_bulk e (more_pats p ps) = beside (pat_bulk e p) (pats_bulk e ps)

abbrev mutual
  pub term_bulk : (ℕ → Bulk) → PatTerm → Bulk
  term_bulk e (pat_var i) = bulk 1 1
  term_bulk e (pat_lit n) = bulk 1 1
  term_bulk e (pat_node s ps ts) = above (beside (pats_bulk e ps) (terms_bulk e ts))

  pub terms_bulk : (ℕ → Bulk) → PatTerms → Bulk
  terms_bulk e pat_nil = bulk 0 0
  terms_bulk e (pat_cons t ts) = beside (term_bulk e t) (terms_bulk e ts)

-- the entry of an unknown in a table; past the table nothing is claimed
abbrev pub bulk_at : List Bulk → ℕ → Bulk
bulk_at bulks u = slice_index_or bulks u (bulk 0 0)

abbrev pub type_at_unknown : List Ty → ℕ → Ty
type_at_unknown types u = slice_index_or types u IntType

-- not above the limit
pub record IsWithin (b : Bulk) (limit : Extent) : Type 0 where
  pub size : b.size ≤ limit.size
  pub depth : b.depth ≤ limit.depth
