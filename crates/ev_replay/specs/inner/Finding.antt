-- What a search answers: the only value with a property, or that there is none.
use Rattle.std.specs.Prelude.{◌≡◌, Option, Some, None}

abbrev pub Only : {X : Type 0} → (X → Type 0) → Option X → Type 0
Only {X} P None = (x : X) → ¬ P x
Only {X} P (Some x) = P x × ((y : X) → P y → y ≡ x)

-- the same among the values that are of a kind: there may be others with the property
abbrev pub OnlyAmong : {X : Type 0} → (X → Type 0) → (X → Type 0) → Option X → Type 0
OnlyAmong {X} Kind P None = (x : X) → P x → ¬ Kind x
OnlyAmong {X} Kind P (Some x) = P x × ((y : X) → P y → Kind y → y ≡ x)
