-- What stands at a place of the tokens of a text.
use Rattle.std.proofs.Common.{◌≡◌, ℕ, zero, suc, ◌+◌, ◌<◌, false, List, [], ◌∷◌, drop, length, refl, ap, sym, ◌∙◌, arith}
use Rattle.std.specs.Prelude.{Some, None, Result, Ok, Err, IfOk, slice_get, slice_range, ◌==◌}
use Rattle.ev_terms.specs.declared.values.NoMemory.{NoMemory}
use Rattle.ev_syntax.specs.declared.kinds.TokenKind.{TokenKind}
use Rattle.ev_syntax.specs.declared.kinds.TokenKind.TheVariants.{Name, Number, Mark}
use Rattle.ev_syntax.specs.declared.kinds as kinds
use Rattle.ev_syntax.specs.Views.{token_with, all_seen_in}
use Rattle.ev_syntax.specs.Tokens.{Token, name, tokens_of}
use Rattle.ev_syntax.specs.inner.TypeParser.{begins}
use Rattle.ev_syntax.specs.inner.TokenAt.{IsTokenAt}

abbrev pub token_in : List ℕ → kinds.Token.Token → Token
token_in text t = token_with t.kind (slice_range text t.start t.end)

pub tokens_at : (text : List ℕ) (ts : List kinds.Token.Token) (i : ℕ) (t : kinds.Token.Token) → slice_get ts i ≡ Some t
    → drop i (tokens_of (all_seen_in text ts)) ≡ token_in text t ∷ drop (i + 1) (tokens_of (all_seen_in text ts))
tokens_at text [] zero t e = cc
tokens_at text [] (suc i) t e = cc
tokens_at text (x ∷ ts) zero t e = let same : x ≡ t = cc in ap (λ y. token_in text y ∷ tokens_of (all_seen_in text ts)) same
tokens_at text (x ∷ ts) (suc i) t e = let n : suc i + 1 ≡ suc (i + 1) = omega arith in
    tokens_at text ts i t e ∙ ap (λ k. token_in text t ∷ drop k (tokens_of (all_seen_in text (x ∷ ts)))) (sym n)

pub tokens_end : (text : List ℕ) (ts : List kinds.Token.Token) (i : ℕ) → slice_get ts i ≡ None → drop i (tokens_of (all_seen_in text ts)) ≡ []
tokens_end text [] zero e = refl
tokens_end text [] (suc i) e = refl
tokens_end text (x ∷ ts) zero e = cc
tokens_end text (x ∷ ts) (suc i) e = tokens_end text ts i e

pub some_within : (text : List ℕ) (ts : List kinds.Token.Token) (i : ℕ) (t : kinds.Token.Token) → slice_get ts i ≡ Some t → i < length (tokens_of (all_seen_in text ts))
some_within text [] zero t e = cc
some_within text [] (suc i) t e = cc
some_within text (x ∷ ts) zero t e = omega arith
some_within text (x ∷ ts) (suc i) t e = omega (arith, some_within text ts i t e)

pub length-tokens : (text : List ℕ) (ts : List kinds.Token.Token) → length (tokens_of (all_seen_in text ts)) ≡ length ts
length-tokens text [] = refl
length-tokens text (x ∷ ts) = ap suc (length-tokens text ts)

pub token_at_some : (text : List ℕ) (ts : List kinds.Token.Token) (i : ℕ) (t : kinds.Token.Token) → slice_get ts i ≡ Some t → IsTokenAt (Some t.kind) (tokens_of (all_seen_in text ts)) i
token_at_some text ts i t e = go t.kind refl
  where
    us : List Token
    us = tokens_of (all_seen_in text ts)

    go : (k : TokenKind) → t.kind ≡ k → IsTokenAt (Some k) us i
    go Name d = (slice_range text t.start t.end, tokens_at text ts i t e ∙ ap (λ k. token_with k (slice_range text t.start t.end) ∷ drop (i + 1) us) d)
    go (Number n) d = tokens_at text ts i t e ∙ ap (λ k. token_with k (slice_range text t.start t.end) ∷ drop (i + 1) us) d
    go (Mark m) d = tokens_at text ts i t e ∙ ap (λ k. token_with k (slice_range text t.start t.end) ∷ drop (i + 1) us) d

pub token_at_none : (text : List ℕ) (ts : List kinds.Token.Token) (i : ℕ) → slice_get ts i ≡ None → IsTokenAt None (tokens_of (all_seen_in text ts)) i
token_at_none text ts i e = tokens_end text ts i e

-- whether a mark is the one that stands there
pub begins_mark : (us : List Token) (i m k : ℕ) → IsTokenAt (Some (Mark k)) us i → begins m (drop i us) ≡ (k == m)
begins_mark us i m k s = ap (begins m) s

pub begins_none : (us : List Token) (i m : ℕ) → IsTokenAt None us i → begins m (drop i us) ≡ false
begins_none us i m s = ap (begins m) s

pub begins_name : (us : List Token) (i m : ℕ) → IsTokenAt (Some Name) us i → begins m (drop i us) ≡ false
begins_name us i m s = ap (begins m) s.1

pub begins_number : (us : List Token) (i m n : ℕ) → IsTokenAt (Some (Number n)) us i → begins m (drop i us) ≡ false
begins_number us i m n s = ap (begins m) s

pub ruleset reading = (length-tokens, token_at_some, token_at_none, begins_mark, begins_none, begins_name, begins_number)

of_name : (k : TokenKind) (b n : List ℕ) (us rest : List Token) → token_with k b ∷ us ≡ name n ∷ rest → b ≡ n
of_name Name b n us rest e = cc
of_name (Number m) b n us rest e = cc
of_name (Mark m) b n us rest e = cc

-- the name of a token is that of its bytes
pub name_there : (text : List ℕ) (ts : List kinds.Token.Token) (us : List Token) (i : ℕ) (t : kinds.Token.Token) (r : Result (List ℕ) NoMemory) → slice_get ts i ≡ Some t
    → tokens_of (all_seen_in text ts) ≡ us → IfOk r (λ x. x ≡ slice_range text t.start t.end)
    → IfOk r (λ x. (n : List ℕ) → (rest : List Token) → drop i us ≡ name n ∷ rest → x ≡ n)
name_there text ts us i t (Ok x) e v h = λ n rest d. h ∙ of_name t.kind (slice_range text t.start t.end) n _ rest (sym (tokens_at text ts i t e) ∙ ap (drop i) v ∙ d)
name_there text ts us i t (Err z) e v h = tt
