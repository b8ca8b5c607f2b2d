-- What parsers by fuel answer, and what they answer from some fuel on.
use Rattle.std.specs.Prelude.{◌≡◌, ℕ, ◌≤◌, List, Option, Some, None}
use Rattle.ev_syntax.specs.Tokens.{Token}

abbrev pub Found : Type 0 → Type 0
Found A = A × List Token

abbrev pub on_found : {A B : Type 0} → Option (Found A) → (A → List Token → Option B) → Option B
on_found None go = None
on_found (Some x) go = go x.0 x.1

-- from some fuel on the answer is x
abbrev pub Eventually : {A : Type 0} → (ℕ → Option A) → A → Type 0
Eventually p x = (f : ℕ) × ((g : ℕ) → f ≤ g → p g ≡ Some x)

-- from some fuel on the answer is o
abbrev pub Comes : {A : Type 0} → (ℕ → Option A) → Option A → Type 0
Comes p o = (f : ℕ) × ((g : ℕ) → f ≤ g → p g ≡ o)
