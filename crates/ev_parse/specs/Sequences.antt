-- Names, numbers, lists and optional parts at the front of tokens.
use Rattle.std.specs.Prelude.{◌≡◌, ℕ, Bool, true, false, List, [], ◌∷◌, Option, Some, None}
use Rattle.ev_syntax.specs.Tokens.{name, number, mark}
use Rattle.ev_syntax.specs.Grammar.{Front, Is, ◌then◌}

abbrev pub Word : List ℕ → Front
Word n = Is (name n)

abbrev pub Number : ℕ → Front
Number n = Is (number n)

-- no token
abbrev pub Nothing : Front
Nothing ts rest = ts ≡ rest

-- `[part]`
abbrev pub Maybe : {A : Type 0} → (A → Front) → Option A → Front
Maybe reads None = Nothing
Maybe reads (Some a) = reads a

-- `{part}`
abbrev pub Repeated : {A : Type 0} → (A → Front) → List A → Front
Repeated reads [] = Nothing
Repeated reads (a ∷ items) = reads a then Repeated reads items

-- `part {part}`
abbrev pub AtLeastOne : {A : Type 0} → (A → Front) → List A → Front
AtLeastOne reads [] = λ ts rest. ⊥
AtLeastOne reads (a ∷ items) = reads a then Repeated reads items

-- `{mark part}`
abbrev pub Further : {A : Type 0} → ℕ → (A → Front) → List A → Front
Further m reads items = Repeated (λ b. Is (mark m) then reads b) items

-- `part {mark part}`
abbrev pub Separated : {A : Type 0} → ℕ → (A → Front) → List A → Front
Separated m reads [] = λ ts rest. ⊥
Separated m reads (a ∷ items) = reads a then Further m reads items

-- `[opening part {mark part} closing]`, the closing mark if there is one
abbrev pub MaybeBegun : {A : Type 0} → ℕ → Front → ℕ → (A → Front) → List A → Front
MaybeBegun opening closing m reads [] = Nothing
MaybeBegun opening closing m reads (a ∷ items) = Is (mark opening) then Separated m reads (a ∷ items) then closing

-- `[mark]`
abbrev pub MaybeMark : ℕ → Bool → Front
MaybeMark m false = Nothing
MaybeMark m true = Is (mark m)
