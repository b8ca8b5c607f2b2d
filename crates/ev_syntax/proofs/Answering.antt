-- What the answers of the lexer say.
use Rattle.std.proofs.Common.{◌≡◌, ℕ, suc, ◌^◌, ◌≤◌, Bool, true, false, ◌||◌, List, [], ◌∷◌, ◌++◌, drop, refl, ap, sym, ◌∙◌, subst, arith, ◌⊎◌, inl, inr}
use Rattle.std.specs.Prelude.{IsOkUnless, Result, Ok, Err, nat_le, ◌≢◌, ◌↔◌}
use Rattle.std.specs.Str.{chars, IsUtf8}
use Rattle.std.specs.List.{list_any}
use Rattle.std.proofs.lemmas.Bool.{leb-true}
use Rattle.std.proofs.lemmas.List.{map-append}
use Rattle.std.proofs.lemmas.List.Elements.{All-push}
use Rattle.ev_syntax.specs.declared.kinds as kinds
use Rattle.ev_syntax.specs.declared.kinds.TokenKind.{TokenKind}
use Rattle.ev_syntax.specs.declared.kinds.TokenKind.TheVariants.{Name, Number, Mark}
use Rattle.ev_syntax.specs.declared.pieces.Piece.TheVariants.{Found, TooLarge}
use Rattle.ev_syntax.specs.declared.faults.LexFault.{LexFault}
use Rattle.ev_syntax.specs.declared.faults.LexFault.TheVariants.{BadText, NumberTooLarge, NoMemory}
use Rattle.ev_syntax.specs.Tokens.{Spanned, number, HasTokens, IsBadText, HasTooLarge, tokens_of, is_too_large}
use Rattle.ev_syntax.specs.inner.Places.{PassesAll, Stops}
use Rattle.ev_syntax.specs.Chars.{is_blank}
use Rattle.ev_syntax.specs.Views.{seen_in, all_seen_in, IsSmall, token_with}
use Rattle.ev_syntax.specs.inner.Standing.{StandsAt}
use Rattle.ev_syntax.specs.inner.Reading.{ReadsTo, HasTokensFrom, AreSmall, IsAnswer}
use Rattle.ev_syntax.proofs.Continuing.{reads_more, large_text, bad_behind, text_tokens_same}

-- one token more
pub token_pushed : (text : List ℕ) (tokens more : List kinds.Token.Token) (t : kinds.Token.Token) (at next : ℕ) → ReadsTo text 0 (all_seen_in text tokens) at
    → AreSmall tokens → StandsAt text at (Found t) → PassesAll is_blank text t.end next → Stops is_blank (chars (drop next text)) → more ≡ tokens ++ t ∷ []
    → ReadsTo text 0 (all_seen_in text more) next × AreSmall more
token_pushed text tokens more t at next r small stands p s e = (
  subst (λ ts. ReadsTo text 0 ts next) (sym (ap (all_seen_in text) e ∙ map-append (seen_in text) tokens (t ∷ [])))
      (reads_more text 0 (all_seen_in text tokens) at next (seen_in text t) r stands.0 p s),
  subst AreSmall (sym e) (All-push (λ (x : kinds.Token.Token). IsSmall x.kind) tokens t small stands.1),
)

pub none_small : AreSmall []
none_small k d h = absurd (omega arith)

pub large_answer : (text : List ℕ) (done : List Spanned) (at end : ℕ) (fault : LexFault) → IsUtf8 text → ReadsTo text 0 done at → StandsAt text at (TooLarge end)
    → ((fault ≡ NumberTooLarge) × HasTokensFrom text end) ⊎ ((fault ≡ BadText) × (HasTokensFrom text end → ⊥)) → IsAnswer text (Err fault)
large_answer text done at end fault u r stands (inl (same, has)) =
    subst (λ f. IsAnswer text (Err f)) (sym same) (large_text text done at stands.0 end u r stands.1 stands.2 has)
large_answer text done at end fault u r stands (inr (same, none)) =
    subst (λ f. IsAnswer text (Err f)) (sym same) (bad_behind text done at (record { token = number stands.0; start = at; end = end }) r stands.2 none)

-- small literals are not too large
small_kind : (kind : TokenKind) (bytes : List ℕ) → IsSmall kind → is_too_large (token_with kind bytes) ≡ false
small_kind Name bytes s = refl
small_kind (Number n) bytes s = by (nat_le (2 ^ 127) n) refl
  where
    by : (b : Bool) → nat_le (2 ^ 127) n ≡ b → nat_le (2 ^ 127) n ≡ false
    by false e = e
    by true e = let h : 2 ^ 127 ≤ n = leb-true (2 ^ 127) n e in absurd (omega arith)
small_kind (Mark row) bytes s = refl

small_tokens : (text : List ℕ) (tokens : List kinds.Token.Token) → AreSmall tokens → list_any is_too_large (tokens_of (all_seen_in text tokens)) ≡ false
small_tokens text [] s = refl
small_tokens text (t ∷ tokens) s =
    by (is_too_large (seen_in text t).token) (small_kind t.kind _ (s 0 t (omega arith))) (small_tokens text tokens (λ k d h. s (suc k) d (omega arith)))
  where
    by : (b : Bool) → b ≡ false → list_any is_too_large (tokens_of (all_seen_in text tokens)) ≡ false
        → (b || list_any is_too_large (tokens_of (all_seen_in text tokens))) ≡ false
    by false e h = h
    by true e h = absurd (cc)

not_large : (text : List ℕ) (tokens : List kinds.Token.Token) → HasTokens text (all_seen_in text tokens) → AreSmall tokens → HasTooLarge text → ⊥
not_large text tokens has small (ks, (ts, h, same), large) =
    let one : ts ≡ all_seen_in text tokens = text_tokens_same text ts (all_seen_in text tokens) h has in
    let any : list_any is_too_large (tokens_of (all_seen_in text tokens)) ≡ true = sym (ap (list_any is_too_large) (same ∙ ap tokens_of one)) ∙ large in
    let none : list_any is_too_large (tokens_of (all_seen_in text tokens)) ≡ false = small_tokens text tokens small in
    cc

pub exactly_bad : (text : List ℕ) (r : Result (List kinds.Token.Token) LexFault) → IsAnswer text r → r ≢ Err NoMemory → (r ≡ Err BadText) ↔ IsBadText text
exactly_bad text (Ok tokens) a n = ((λ e. absurd (cc)), (λ bad. absurd (bad (all_seen_in text tokens) a.0)))
exactly_bad text (Err BadText) a n = ((λ e. a), (λ bad. refl))
exactly_bad text (Err NumberTooLarge) a n = ((λ e. absurd (cc)), (λ bad. absurd (bad a.1.0 a.1.1)))
exactly_bad text (Err NoMemory) a n = absurd (n refl)

pub exactly_large : (text : List ℕ) (r : Result (List kinds.Token.Token) LexFault) → IsAnswer text r → r ≢ Err NoMemory
    → (r ≡ Err NumberTooLarge) ↔ HasTooLarge text
exactly_large text (Ok tokens) a n = ((λ e. absurd (cc)), (λ large. absurd (not_large text tokens a.0 a.1 large)))
exactly_large text (Err BadText) a n = ((λ e. absurd (cc)), (λ large. absurd (a large.1.0 large.1.1)))
exactly_large text (Err NumberTooLarge) a n = ((λ e. a), (λ large. refl))
exactly_large text (Err NoMemory) a n = absurd (n refl)

pub answer_succeeds : (text : List ℕ) (r : Result (List kinds.Token.Token) LexFault) → IsAnswer text r → (ts : List Spanned) → HasTokens text ts
    → (HasTooLarge text → ⊥) → IsOkUnless r NoMemory
answer_succeeds text (Ok tokens) a ts h n = tt
answer_succeeds text (Err BadText) a ts h n = absurd (a ts h)
answer_succeeds text (Err NumberTooLarge) a ts h n = absurd (n a)
answer_succeeds text (Err NoMemory) a ts h n = refl
