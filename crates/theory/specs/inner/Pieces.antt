-- Texts that lie in memory, and what they say.
use Rattle.std.specs.Prelude.{ℕ, List, [], map}
use denote.Ref.{Bor}
use Rattle.std.proofs.Common.{get_or}
use Rattle.theory.specs.declared.marks.Mark.{Mark}
use Rattle.theory.specs.Formulas.{Front}
use Rattle.theory.specs.Theorems.{Labelled}

-- what pieces of text say
abbrev pub texts : List (Bor (List ℕ)) → List (List ℕ)
texts pieces = map (λ piece. piece.now) pieces

-- a text that lies in memory, by its place
abbrev pub nowhere : Bor (List ℕ)
nowhere = record { ref_ptr = (0, 0); now = [] }

abbrev pub piece : List (Bor (List ℕ)) → ℕ → List ℕ
piece pieces i = (get_or pieces i nowhere).now

-- a mark, and the text behind it
abbrev pub front_of : Mark × Bor (List ℕ) → Front
front_of p = (p.0, p.1.now)

-- a label, and the text behind the colon
abbrev pub labelled_text : Bor (List ℕ) × Bor (List ℕ) → Labelled
labelled_text p = (p.0.now, p.1.now)
