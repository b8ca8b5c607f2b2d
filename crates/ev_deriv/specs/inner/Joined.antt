-- Texts behind others.
use Rattle.std.specs.Prelude.{ℕ, List, [], ◌∷◌, ◌++◌}

-- texts, each after another
abbrev pub after : List ℕ → List (List ℕ) → List ℕ
after between [] = []
after between (text ∷ texts) = between ++ (text ++ after between texts)
