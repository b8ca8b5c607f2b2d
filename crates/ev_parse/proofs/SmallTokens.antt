-- Tokens without literals that are too large.
use Rattle.std.proofs.Common.{◌≡◌, ℕ, ◌<◌, ◌^◌, false, List, [], ◌∷◌, refl, ap, ◌∙◌, arith}
use Rattle.std.specs.Prelude.{nat_le, ◌||◌, slice_range}
use Rattle.std.specs.List.{list_any}
use Rattle.std.proofs.lemmas.Bool.Decides.{nat_tests}
use Rattle.std.proofs.lemmas.List.Elements.{All-tail}
use Rattle.ev_syntax.specs.Tokens.{tokens_of, is_too_large}
use Rattle.ev_syntax.specs.Views.{all_seen_in, token_with, IsSmall}
use Rattle.ev_syntax.specs.inner.Reading.{AreSmall}
use Rattle.ev_syntax.specs.declared.kinds as kinds
use Rattle.ev_syntax.specs.declared.kinds.TokenKind.{TokenKind}
use Rattle.ev_syntax.specs.declared.kinds.TokenKind.TheVariants.{Name, Number, Mark}

-- no literal is too large
below : (n : ℕ) → n < 2 ^ 127 → nat_le (2 ^ 127) n ≡ false
below n h = grind (arith, nat_tests)

small_kind : (k : TokenKind) (bytes : List ℕ) → IsSmall k → is_too_large (token_with k bytes) ≡ false
small_kind Name bytes h = refl
small_kind (Number n) bytes h = below n h
small_kind (Mark m) bytes h = refl

pub small_tokens : (text : List ℕ) (ts : List kinds.Token.Token) → AreSmall ts → list_any is_too_large (tokens_of (all_seen_in text ts)) ≡ false
small_tokens text [] h = refl
small_tokens text (t ∷ ts) h =
    ap (λ b. b || list_any is_too_large (tokens_of (all_seen_in text ts))) (small_kind t.kind (slice_range text t.start t.end) (h 0 t (omega arith)))
    ∙ small_tokens text ts (All-tail (λ t. IsSmall t.kind) t ts h)
