-- Parts of a text that lie in memory.
use Rattle.std.specs.Prelude.{ℕ, List, map}
use denote.Ref.{Bor}

-- what they say
abbrev pub texts : List (Bor (List ℕ)) → List (List ℕ)
texts pieces = map (λ piece. piece.now) pieces
