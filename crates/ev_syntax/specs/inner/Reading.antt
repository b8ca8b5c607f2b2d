-- Texts that are read up to a place.
use Rattle.std.specs.Prelude.{◌≡◌, ℕ, ◌++◌, List, drop, Result, Ok, Err}
use Rattle.std.specs.Str.{chars}
use Rattle.std.specs.List.{All}
use Rattle.ev_syntax.specs.declared.kinds as kinds
use Rattle.ev_syntax.specs.declared.faults.LexFault.{LexFault}
use Rattle.ev_syntax.specs.declared.faults.LexFault.TheVariants.{BadText, NumberTooLarge, NoMemory}
use Rattle.ev_syntax.specs.Tokens.{Spanned, AreTokens, HasTokens, IsBadText, HasTooLarge}
use Rattle.ev_syntax.specs.inner.Places.{IsPlace, Stops}
use Rattle.ev_syntax.specs.Chars.{is_blank}
use Rattle.ev_syntax.specs.Views.{all_seen_in, IsSmall}

-- the text from one place on has tokens: those given, and then the tokens from the other place on
pub record ReadsTo (text : List ℕ) (from : ℕ) (done : List Spanned) (at : ℕ) : Type 0 where
  pub place : IsPlace text at
  pub stops : Stops is_blank (chars (drop at text))
  pub goes_on : (us : List Spanned) → AreTokens at (chars (drop at text)) us → AreTokens from (chars (drop from text)) (done ++ us)
  pub only : (ts : List Spanned) → AreTokens from (chars (drop from text)) ts → (us : List Spanned) × AreTokens at (chars (drop at text)) us × (ts ≡ done ++ us)

-- the text from the place on has tokens
abbrev pub HasTokensFrom : List ℕ → ℕ → Type 0
HasTokensFrom text at = (ts : List Spanned) × AreTokens at (chars (drop at text)) ts

-- no literal is too large
abbrev pub AreSmall : List kinds.Token.Token → Type 0
AreSmall tokens = All (λ t. IsSmall t.kind) tokens

-- what the answer says of the text
abbrev pub IsAnswer : List ℕ → Result (List kinds.Token.Token) LexFault → Type 0
IsAnswer text (Ok tokens) = HasTokens text (all_seen_in text tokens) × AreSmall tokens
IsAnswer text (Err BadText) = IsBadText text
IsAnswer text (Err NumberTooLarge) = HasTooLarge text
IsAnswer text (Err NoMemory) = Unit {0}
