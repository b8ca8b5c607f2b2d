-- Tokens as the code keeps them, as tokens of the text that they stand in.
use Rattle.std.specs.Prelude.{ℕ, ◌^◌, ◌<◌, ◌≤◌, List, map, length, slice_range}
use Rattle.ev_syntax.specs.declared.kinds.TokenKind.{TokenKind}
use Rattle.ev_syntax.specs.declared.kinds.TokenKind.TheVariants.{Name, Number, Mark}
use Rattle.ev_syntax.specs.declared.kinds as kinds
use Rattle.ev_syntax.specs.Tokens.{Token, name, number, mark, Spanned}

-- the token of a kind that takes these bytes
abbrev pub token_with : TokenKind → List ℕ → Token
token_with Name bytes = name bytes
token_with (Number n) bytes = number n
token_with (Mark row) bytes = mark row

-- what a token says of the text
abbrev pub seen_in : List ℕ → kinds.Token.Token → Spanned
seen_in text t = record { token = token_with t.kind (slice_range text t.start t.end); start = t.start; end = t.end }

-- the tokens of a text
abbrev pub all_seen_in : List ℕ → List kinds.Token.Token → List Spanned
all_seen_in text ts = map (seen_in text) ts

-- a literal that is not too large
abbrev pub IsSmall : TokenKind → Type 0
IsSmall Name = Unit {0}
IsSmall (Number n) = n < 2 ^ 127
IsSmall (Mark row) = Unit {0}

-- a token takes bytes of the text
pub record LiesIn (text : List ℕ) (t : kinds.Token.Token) : Type 0 where
  pub forward : t.start < t.end
  pub within : t.end ≤ length text
