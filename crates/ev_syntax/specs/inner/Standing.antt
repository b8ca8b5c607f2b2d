-- What may stand at a place of a text.
use Rattle.std.specs.Prelude.{ℕ, ◌^◌, ◌≤◌, List, drop}
use Rattle.std.specs.Str.{chars}
use Rattle.ev_syntax.specs.declared.pieces.Piece.{Piece}
use Rattle.ev_syntax.specs.declared.pieces.Piece.TheVariants.{Found, TooLarge, Bad}
use Rattle.ev_syntax.specs.Tokens.{number, Spanned, BeginsWith}
use Rattle.ev_syntax.specs.inner.Places.{BeginsNone, IsPlace}
use Rattle.ev_syntax.specs.Views.{seen_in, IsSmall}

-- the token at the front of the characters that begin at the place
abbrev pub BeginsAt : List ℕ → ℕ → Spanned → Type 0
BeginsAt text at t = BeginsWith at (chars (drop at text)) t (chars (drop t.end text))

-- what stands at the place
abbrev pub StandsAt : List ℕ → ℕ → Piece → Type 0
StandsAt text at (Found t) = BeginsAt text at (seen_in text t) × IsSmall t.kind × IsPlace text t.end
StandsAt text at (TooLarge end) =
    (n : ℕ) × (2 ^ 127 ≤ n) × BeginsAt text at (record { token = number n; start = at; end = end }) × IsPlace text end
StandsAt text at Bad = BeginsNone (chars (drop at text))
