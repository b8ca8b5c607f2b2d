-- The answers of inference over the equations of a bare term.
use Rattle.std.specs.Prelude.{◌≡◌, ℕ, ◌<◌, ◌^◌, ⊤, true, false, List, ◌++◌, Option, Some, None, option_map, if◌then◌else◌}
use Rattle.ev_terms.specs.declared.extents.Extent.{Extent}
use Rattle.ev_terms.specs.declared.types.Ty.{Ty}
use Rattle.ev_terms.specs.Term.{Term}
use Rattle.ev_typing.specs.Env.{Env}
use Rattle.ev_typing.specs.Proper.{is_result}
use Rattle.ev_unify.specs.declared.patterns.Pats.{Empty}
use Rattle.ev_unify.specs.declared.patterns.Pat.{Pat}
use Rattle.ev_unify.specs.declared.patterns.Bind.{Bind}
use Rattle.ev_unify.specs.declared.patterns.PatPair.{PatPair}
use Rattle.ev_unify.specs.Solutions.{HasSolution, IsMostGeneral, IsUnifier}
use Rattle.ev_infer.specs.declared.faults.InferFault.{InferFault}
use Rattle.ev_infer.specs.declared.faults.InferFault.TheVariants.{Unknown, Taken, IllTyped, Ambiguous, TooLarge, NoMemory}
use Rattle.ev_infer.specs.declared.annotation.Equations.{Equations}
use Rattle.ev_infer.specs.declared.solving.Table.{Table}
use Rattle.ev_infer.specs.Annotates.{IsPast}
use Rattle.ev_resolve.specs.Bare.{Bare}
use Rattle.ev_infer.specs.Equations.{Emitted, filled, meet, sort_of}
use Rattle.ev_infer.specs.inner.Numbers.{numbered}
use Rattle.ev_infer.specs.Inference.{leaves_free}
use Rattle.ev_infer.specs.inner.Bulks.{term_bulk, bulk_at, type_at_unknown, IsWithin}
use Rattle.ev_infer.specs.inner.Solving.{ended_type, AreSolved, LeavesFree}
use Rattle.ev_infer.specs.declared.sorts.Walked.{Walked}
use Rattle.ev_infer.specs.inner.Walks.{AllWalk, all_walk_told}

-- the pairs of a term, and the first unknown that it does not use
abbrev pub pairs_of : Emitted → AllWalk
pairs_of e = record { pairs = e.pairs; next = e.next }

abbrev pub equations_told : Equations → AllWalk
equations_told q = record { pairs = q.pairs; next = q.next }

-- with the pair for a type that is asked, where it is a type of the environment and no predicate meets an expression
abbrev pub asked_walk : Env → Ty → List PatPair → Walked → Option AllWalk
asked_walk env A pairs w =
    if is_result env A then option_map (λ qs. all_walk_told (pairs ++ qs) w.next) (meet w.sort (sort_of Empty A)) else None

-- a most general solution of a term's equations
pub record IsSettled (equations : Option Emitted) (e : Emitted) (μ : ℕ → Pat) : Type 0 where
  pub emitted : equations ≡ Some e
  pub general : IsMostGeneral μ e.pairs

-- What is answered by the equations of a term: it has no solution; a most general one leaves an unknown free in the term, or gives a
-- term that is past the limit, or one that is not.
abbrev pub OnFault : Option Emitted → Extent → InferFault → Type 0
OnFault equations limit Unknown = ⊥
OnFault equations limit Taken = ⊥
OnFault equations limit IllTyped = (e : Emitted) → equations ≡ Some e → ¬ HasSolution e.pairs
OnFault equations limit Ambiguous = (e : Emitted) × (μ : ℕ → Pat) × IsSettled equations e μ × (leaves_free μ e.term ≡ true)
OnFault equations limit TooLarge =
    (e : Emitted) × (μ : ℕ → Pat) × IsSettled equations e μ × (leaves_free μ e.term ≡ false) × IsPast limit.size limit.depth (filled (ended_type μ) e.term)
OnFault equations limit NoMemory = ⊤

abbrev pub IsGiven : Option Emitted → Extent → Term → Type 0
IsGiven equations limit t =
    (e : Emitted) × (μ : ℕ → Pat) × IsSettled equations e μ × (leaves_free μ e.term ≡ false) × (t ≡ filled (ended_type μ) e.term) × ¬ IsPast limit.size limit.depth t

-- the unknowns of pairs by a solution
abbrev pub IsSolvedTable : List PatPair → Extent → ℕ → Table → Type 0
IsSolvedTable pairs limit next t = (S : List Bind) × IsUnifier S pairs × AreSolved S limit next t.bulks.items t.types.items

abbrev pub OnSolveFault : List PatPair → ℕ → InferFault → Type 0
OnSolveFault pairs next Unknown = ⊥
OnSolveFault pairs next Taken = ⊥
OnSolveFault pairs next IllTyped = ¬ HasSolution pairs
OnSolveFault pairs next Ambiguous = (S : List Bind) × IsUnifier S pairs × LeavesFree S next
OnSolveFault pairs next TooLarge = ⊥
OnSolveFault pairs next NoMemory = ⊤

-- a term by a table
pub record IsFilled (env : Env) (b : Bare) (table : Table) (limit : Extent) (t : Term) : Type 0 where
  pub is : t ≡ filled (type_at_unknown table.types.items) (numbered env b 0).term
  pub within : IsWithin (term_bulk (bulk_at table.bulks.items) (numbered env b 0).term) limit
  pub small_size : limit.size < 2 ^ 64
  pub small_depth : limit.depth < 2 ^ 64

abbrev pub OnFillFault : Env → Bare → Table → Extent → InferFault → Type 0
OnFillFault env b table limit Unknown = ⊥
OnFillFault env b table limit Taken = ⊥
OnFillFault env b table limit IllTyped = ⊥
OnFillFault env b table limit Ambiguous = ⊥
OnFillFault env b table limit TooLarge = ¬ IsWithin (term_bulk (bulk_at table.bulks.items) (numbered env b 0).term) limit
OnFillFault env b table limit NoMemory = ⊤
