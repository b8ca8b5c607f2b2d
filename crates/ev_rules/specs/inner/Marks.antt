-- Numbers that are marked.
use Rattle.std.specs.Prelude.{ℕ, suc, Bool as Boolean, ◌||◌, List, [], ◌∷◌, cond}

-- marks for the numbers from j on, with those of which the test holds
abbrev pub marked : ℕ → (ℕ → Boolean) → List Boolean → List Boolean
marked j test [] = []
marked j test (b ∷ bs) = (b || test j) ∷ marked (suc j) test bs

-- the numbers from j on that are marked
abbrev pub numbers : ℕ → List Boolean → List ℕ
numbers j [] = []
numbers j (b ∷ bs) = cond b (j ∷ numbers (suc j) bs) (numbers (suc j) bs)
