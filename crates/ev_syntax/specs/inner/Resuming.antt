-- What is left to do with a piece that was found, and a stack of such work: the last of a list is done first.
use Rattle.std.specs.Prelude.{◌≡◌, ℕ, ◌≤◌, List, [], ◌∷◌, Option}
use Rattle.ev_syntax.specs.Tokens.{Token}
use Rattle.ev_syntax.specs.inner.Finding.{Found, on_found, Comes}

-- from some fuel of loops and of calls on the answer is o
abbrev pub Settles : {A : Type 0} → (ℕ → ℕ → Option A) → Option A → Type 0
Settles p o = (f : ℕ) × ((n g : ℕ) → f ≤ n → f ≤ g → p n g ≡ o)

-- what is made of a piece and the tokens behind it
abbrev pub Behind : Type 0 → Type 0
Behind A = ℕ → ℕ → A → List Token → Option (Found A)

-- an answer leads, through the work of the list, to an answer of the goal
abbrev pub Into : {A : Type 0} → List (Behind A) → (Option (Found A) → Type 0) → Option (Found A) → Type 0
Into [] goal x = goal x
Into (b ∷ bs) goal x = Into bs (λ y. (z : _) → Settles (λ n g. on_found y (b n g)) z → goal z) x

-- to what the whole comes to
abbrev pub Reach : {A : Type 0} → (ℕ → Option (Found A)) → List (Behind A) → Option (Found A) → Type 0
Reach whole bs x = Into bs (Comes whole) x

-- whatever the reader of a part comes to
abbrev pub FromCall : {A : Type 0} → (ℕ → Option (Found A)) → List (Behind A) → (ℕ → Option (Found A)) → Type 0
FromCall whole bs part = (x : _) → Comes part x → Reach whole bs x
