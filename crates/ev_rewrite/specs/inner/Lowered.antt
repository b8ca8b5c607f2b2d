-- What a term comes from by a shift.
use Rattle.std.specs.Prelude.{◌≡◌, ℕ, List, Option, MatchOption}
use Rattle.ev_terms.specs.Term.{Term, terms}
use Rattle.ev_terms.specs.Substitution.{shift, shifts}

-- the term that is shifted, or that none is
abbrev pub IsLowered : ℕ → ℕ → Term → Option Term → Type 0
IsLowered from by t o = MatchOption o ((u : Term) → ¬ (shift u from by ≡ t)) (λ u. shift u from by ≡ t)

-- the same of each of the terms
abbrev pub AreLowered : ℕ → ℕ → List Term → Option (List Term) → Type 0
AreLowered from by ts o = MatchOption o ((us : List Term) → ¬ (shifts (terms us) from by ≡ terms ts)) (λ us. shifts (terms us) from by ≡ terms ts)
