-- Slots for values, each of them empty at first.
use Rattle.std.specs.Prelude.{◌≡◌, ℕ, Bool, true, false, List, Option, Some, None, ⊤, slice_get, slice_set}

-- a slot of the list that is empty or has the value
abbrev pub IsOpenTo : {X : Type 0} → Option (Option X) → X → Type 0
IsOpenTo None x = ⊥
IsOpenTo (Some None) x = ⊤
IsOpenTo (Some (Some y)) x = y ≡ x

-- the value is put into the slot, or the slot has another one
abbrev pub IsPut : {X : Type 0} → List (Option X) → ℕ → X → List (Option X) → Bool → Type 0
IsPut old at x new true = IsOpenTo (slice_get old at) x × (new ≡ slice_set old at (Some x))
IsPut old at x new false = ¬ IsOpenTo (slice_get old at) x

-- the slot has a value
abbrev pub has_value : {X : Type 0} → Option (Option X) → Bool
has_value None = false
has_value (Some None) = false
has_value (Some (Some x)) = true

abbrev pub is_given : {X : Type 0} → List (Option X) → ℕ → Bool
is_given slots i = has_value (slice_get slots i)
