-- Labels by pairs of names.
use Rattle.std.specs.Prelude.{ℕ, List, map}
use Rattle.ev_proof.specs.declared.steps.Ref.{Ref}

-- the label of a theory's name and its own
abbrev pub ref_of : List ℕ × List ℕ → Ref
ref_of key = record { theory = key.0; label = key.1 }

abbrev pub refs_of : List (List ℕ × List ℕ) → List Ref
refs_of keys = map ref_of keys
