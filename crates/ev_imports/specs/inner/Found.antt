-- What a search found, in order: each number by way of the one at an earlier place.
use Rattle.std.specs.Prelude.{◌≡◌, ◌<◌, ℕ, zero, suc, List, [], ◌∷◌, length, get_or}
use Rattle.ev_imports.specs.declared.cycle.Found.{Found}

abbrev pub no_found : Found
no_found = record { number = 0; parent = 0 }

-- the number that was found at this place
abbrev pub number_at : List Found → ℕ → ℕ
number_at found place = (get_or found place no_found).number

-- the place of the number that imports it
abbrev pub parent_at : List Found → ℕ → ℕ
parent_at found place = (get_or found place no_found).parent

-- all but the first were found by way of an earlier one
abbrev pub ParentsFall : List Found → Type 0
ParentsFall found = (place : ℕ) → 0 < place → place < length found → parent_at found place < place

-- the numbers from this place back to the first place, each found by way of the next
abbrev pub IsTrail : List Found → ℕ → List ℕ → Type 0
IsTrail found place [] = ⊥
IsTrail found zero (v ∷ vs) = (number_at found 0 ≡ v) × (vs ≡ [])
IsTrail found (suc p) (v ∷ vs) = (number_at found (suc p) ≡ v) × IsTrail found (parent_at found (suc p)) vs
