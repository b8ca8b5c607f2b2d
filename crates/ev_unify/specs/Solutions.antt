-- Pairs of patterns, and what solves them. An assignment gives each unknown a type.
use Rattle.std.specs.Prelude.{◌≡◌, ℕ, zero, suc, ◌<◌, ◌≤◌, ◌==◌, true, List, [], ◌∷◌, ⊤, Option, Some, None, if◌then◌else◌}
use Rattle.ev_terms.specs.declared.types.Ty.{Ty}
use Rattle.ev_unify.specs.declared.patterns.Pat.{Pat, Unknown}
use Rattle.ev_unify.specs.declared.patterns.Bind.{Bind}
use Rattle.ev_unify.specs.declared.patterns.PatPair.{PatPair}
use Rattle.ev_unify.specs.Patterns.{value, followed, has_unknown}

-- the assignment makes the two of each pair one type
abbrev pub Solves : (ℕ → Ty) → List PatPair → Type 0
Solves σ [] = ⊤
Solves σ (p ∷ ps) = (value σ p.left ≡ value σ p.right) × Solves σ ps

abbrev pub HasSolution : List PatPair → Type 0
HasSolution pairs = (σ : ℕ → Ty) × Solves σ pairs

-- μ gives each unknown a pattern; those of its patterns' unknowns that it leaves are free.
-- It is a most general solution: whatever types the free unknowns are given, the pairs are solved, and each solution comes about so.
pub record IsMostGeneral (μ : ℕ → Pat) (pairs : List PatPair) : Type 0 where
  pub solves : (θ : ℕ → Ty) → Solves (λ u. value θ (μ u)) pairs
  pub general : (σ : ℕ → Ty) → Solves σ pairs → (u : ℕ) → σ u ≡ value σ (μ u)

-- the pattern that an unknown is bound to, in which bound unknowns may stand
abbrev pub bound_to : List Bind → ℕ → Option Pat
bound_to [] u = None
bound_to (b ∷ bs) u = if b.unknown == u then Some b.value else bound_to bs u

-- no unknown is bound twice
abbrev pub BindsOnce : List Bind → Type 0
BindsOnce [] = ⊤
BindsOnce (b ∷ bs) = (bound_to bs b.unknown ≡ None) × BindsOnce bs

-- the assignment makes each bound unknown what its pattern is
abbrev pub Meets : (ℕ → Ty) → List Bind → Type 0
Meets σ S = (u : ℕ) (p : Pat) → bound_to S u ≡ Some p → σ u ≡ value σ p

-- No unknown is followed back to itself: there are ranks, with a bound, that fall from a bound unknown to those in its pattern.
pub record IsTriangular (S : List Bind) : Type 0 where
  pub rank : ℕ → ℕ
  pub most : ℕ
  pub falls : (u w : ℕ) (p : Pat) → bound_to S u ≡ Some p → has_unknown w p ≡ true → rank w < rank u
  pub bounded : (u : ℕ) → rank u ≤ most

-- the binds are triangular, and an assignment meets them just where it solves the pairs
pub record IsUnifier (S : List Bind) (pairs : List PatPair) : Type 0 where
  pub triangular : IsTriangular S
  pub meets : (σ : ℕ → Ty) → Solves σ pairs → Meets σ S
  pub solves : (σ : ℕ → Ty) → Meets σ S → Solves σ pairs

-- an unknown followed n steps deep
abbrev pub of_bound : (ℕ → Pat) → ℕ → Option Pat → Pat
of_bound f u None = Unknown u
of_bound f u (Some p) = followed f p

abbrev pub follow : List Bind → ℕ → ℕ → Pat
follow S zero u = Unknown u
follow S (suc n) u = of_bound (follow S n) u (bound_to S u)

-- followed so deep that a further step changes nothing, the binds are a most general solution
pub record FollowsToGeneral (S : List Bind) (pairs : List PatPair) : Type 0 where
  pub depth : ℕ
  pub ended : (u : ℕ) → follow S depth u ≡ of_bound (follow S depth) u (bound_to S u)
  pub general : IsMostGeneral (follow S depth) pairs
