-- Pieces that were read: a tree that nests deeper than the limit is not built.
use Rattle.std.specs.Prelude.{◌≡◌, ℕ, ◌≤◌, ◌<◌}
use Rattle.ev_syntax.specs.declared.read_pieces.Piece.{Piece}
use Rattle.ev_syntax.specs.declared.read_pieces.Piece.TheVariants.{Whole, Deep}

-- the piece stands for the tree
abbrev pub IsPiece : {A : Type 0} → (A → ℕ) → ℕ → Piece A → A → Type 0
IsPiece depth limit (Whole t n) a = (t ≡ a) × (n ≡ depth a) × (n ≤ limit)
IsPiece depth limit Deep a = limit < depth a
