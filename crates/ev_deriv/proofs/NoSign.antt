-- Bytes that no text with tokens has.
use Rattle.std.proofs.Common.{◌≡◌, ℕ, suc, ◌<◌, Bool, true, false, ◌&&◌, ◌||◌, List, [], ◌∷◌, ◌++◌, length, get_or, refl, ap, sym, ◌∙◌, arith}
use Rattle.std.specs.Prelude.{◌==◌, not, bytes_eq, encode_utf8, encode_utf8_all}
use Rattle.std.specs.List.{list_any, list_all}
use Rattle.std.specs.Char.{is_ascii_digit}
use Rattle.std.proofs.lemmas.Bool.{eqb-true, eq-eqb}
use Rattle.std.proofs.lemmas.List.Folds.{list_any-append}
use Rattle.std.proofs.lemmas.List.{append-nil}
use Rattle.std.proofs.lemmas.Str.{inside_one}
use Rattle.unicode_ident.specs.Ident.{is_xid_continue}
use Rattle.unicode_ident.proofs.Computing.{unicode_ident}
use Rattle.ev_syntax.specs.Chars.{is_blank}
use Rattle.ev_syntax.specs.Marks.{signs, at_sign}
use Rattle.ev_syntax.specs.Tokens.{Token, name, number, mark, is_token, token_of, Spanned, AreTokens, tokens_of, Tokens}
use Rattle.ev_syntax.proofs.RowLemmas.{equal_bytes, row_passes, row_of-at}
use Rattle.ev_syntax.proofs.TokenKinds.{IsKind, word, digits, sign, kind_of_token}

-- whether a number stands among some
abbrev pub has : ℕ → List ℕ → Bool
has b xs = list_any (λ x. x == b) xs

either_false : (p q : Bool) → p ≡ false → q ≡ false → (p || q) ≡ false
either_false p q h k = ap (λ x. x || q) h ∙ k

-- what passes a test that b does not pass is without b
pub passing_without : (b : ℕ) (test : ℕ → Bool) → test b ≡ false → (xs : List ℕ) → list_all test xs ≡ true → has b xs ≡ false
passing_without b test fails [] h = refl
passing_without b test fails (x ∷ xs) h = by (test x) refl h (passing_without b test fails xs)
  where
    by : (p : Bool) → test x ≡ p → (p && list_all test xs) ≡ true → (list_all test xs ≡ true → has b xs ≡ false) → has b (x ∷ xs) ≡ false
    by true e k again = either_false (x == b) (has b xs) (other (x == b) refl) (again k)
      where
        other : (q : Bool) → (x == b) ≡ q → q ≡ false
        other true f = let same : x ≡ b = eqb-true x b f in absurd (let clash : true ≡ false = sym e ∙ ap test same ∙ fails in cc)
        other false f = refl
    by false e k again = cc

-- a byte below 128 in the bytes of characters is one of the characters
found : (b : ℕ) (xs : List ℕ) → has b xs ≡ true → (k : ℕ) × (k < length xs) × (get_or xs k 0 ≡ b)
found b [] h = cc
found b (x ∷ xs) h = by (x == b) refl h (found b xs)
  where
    by : (q : Bool) → (x == b) ≡ q → (q || has b xs) ≡ true → (has b xs ≡ true → (k : ℕ) × (k < length xs) × (get_or xs k 0 ≡ b)) → (k : ℕ) × (k < length (x ∷ xs)) × (get_or (x ∷ xs) k 0 ≡ b)
    by true f g again = (0, omega arith, eqb-true x b f)
    by false f g again = let r = again g in (suc r.0, omega (arith, r.1), r.2)

encoded_without : (b c : ℕ) → b < 128 → (c == b) ≡ false → has b (encode_utf8 c) ≡ false
encoded_without b c small other = by (has b (encode_utf8 c)) refl
  where
    by : (q : Bool) → has b (encode_utf8 c) ≡ q → q ≡ false
    by false e = refl
    by true e =
        let r = found b (encode_utf8 c) e in
        let low : get_or (encode_utf8 c) r.0 0 < 128 = let n = r.2 in omega (arith, small) in
        let same : c ≡ b = inside_one c [] (encode_utf8 c) r.0 (sym (append-nil (encode_utf8 c))) r.1 low ∙ r.2 in
        absurd (let clash : true ≡ false = sym (eq-eqb c b same) ∙ other in cc)

pub bytes_without : (b : ℕ) → b < 128 → (cs : List ℕ) → has b cs ≡ false → has b (encode_utf8_all cs) ≡ false
bytes_without b small [] h = refl
bytes_without b small (c ∷ cs) h = by (c == b) refl h (bytes_without b small cs)
  where
    by : (q : Bool) → (c == b) ≡ q → (q || has b cs) ≡ false → (has b cs ≡ false → has b (encode_utf8_all cs) ≡ false) → has b (encode_utf8_all (c ∷ cs)) ≡ false
    by true e k again = cc
    by false e k again = list_any-append (λ x. x == b) (encode_utf8 c) (encode_utf8_all cs)
        ∙ either_false (has b (encode_utf8 c)) (has b (encode_utf8_all cs)) (encoded_without b c small e) (again k)

-- a sign that is alone: no other token has its character
pub record IsLone (b : ℕ) : Type 0 where
  pub continues : is_xid_continue b ≡ false
  pub digit : is_ascii_digit b ≡ false
  pub rows : list_all (λ r. not (has b r) || bytes_eq r (b ∷ [])) signs ≡ true

pub at_lone : IsLone 64
unfolding unicode_ident
at_lone = record { continues = refl; digit = refl; rows = refl }

pub comma_lone : IsLone 44
unfolding unicode_ident
comma_lone = record { continues = refl; digit = refl; rows = refl }

alone : (p q : Bool) → (not p || q) ≡ true → p ≡ true → q ≡ true
alone true q h e = h
alone false q h e = cc

differ : (p : Bool) → p ≡ true → p ≡ false → ⊥
differ p h k = absurd (let clash : true ≡ false = sym h ∙ k in cc)

pub lone_token : (b : ℕ) → IsLone b → (cs : List ℕ) → is_token cs ≡ true → has b cs ≡ true → cs ≡ b ∷ []
lone_token b l [] h e = cc
lone_token b l (c ∷ cs) h e = by (kind_of_token c cs h)
  where
    by : IsKind c cs → c ∷ cs ≡ b ∷ []
    by (word s a) = absurd (differ (has b (c ∷ cs)) e (passing_without b is_xid_continue l.continues (c ∷ cs) a))
    by (digits d a) = absurd (differ (has b (c ∷ cs)) e (passing_without b is_ascii_digit l.digit (c ∷ cs) a))
    by (sign k f) =
        equal_bytes (c ∷ cs) (b ∷ [])
        (alone (has b (c ∷ cs)) (bytes_eq (c ∷ cs) (b ∷ [])) (row_passes (λ r. not (has b r) || bytes_eq r (b ∷ [])) signs (c ∷ cs) k l.rows (row_of-at signs (c ∷ cs) k f)) e)

-- whether `@` stands among tokens
abbrev pub is_at : Token → Bool
is_at (name n) = false
is_at (number n) = false
is_at (mark k) = k == at_sign

abbrev pub has_at : List Token → Bool
has_at ks = list_any is_at ks

at_token : (cs : List ℕ) → is_token cs ≡ true → is_at (token_of cs) ≡ false → has 64 cs ≡ false
at_token cs h other = by (has 64 cs) refl
  where
    by : (p : Bool) → has 64 cs ≡ p → p ≡ false
    by false e = refl
    by true e = absurd (differ (is_at (token_of cs)) (ap (λ xs. is_at (token_of xs)) (lone_token 64 at_lone cs h e)) other)

pub joined_without : (b : ℕ) (xs ys : List ℕ) → has b xs ≡ false → has b ys ≡ false → has b (xs ++ ys) ≡ false
joined_without b xs ys h k = list_any-append (λ x. x == b) xs ys ∙ either_false (has b xs) (has b ys) h k

pub neither : (p q : Bool) → (p || q) ≡ false → (p ≡ false) × (q ≡ false)
neither true q h = cc
neither false q h = (refl, h)

chars_without : (from : ℕ) (cs : List ℕ) (us : List Spanned) → AreTokens from cs us → has_at (tokens_of us) ≡ false → has 64 cs ≡ false
chars_without from cs [] h n = passing_without 64 is_blank refl cs h
chars_without from cs (t ∷ ts) (rest, b, more) n =
    let both = neither (is_at t.token) (has_at (tokens_of ts)) n in
    ap (has 64) b.splits
    ∙ joined_without 64 b.gap (b.text ++ rest) (passing_without 64 is_blank refl b.gap b.blank)
    (joined_without 64 b.text rest (at_token b.text b.is_one (ap is_at (sym b.token) ∙ both.0)) (chars_without t.end rest ts more both.1))

-- a text whose tokens have no `@` has none
pub text_without : (text : List ℕ) (ks : List Token) → Tokens text ks → has_at ks ≡ false → has 64 text ≡ false
text_without text ks (us, (cs, (s, e), h), i) n = ap (has 64) (sym e) ∙ bytes_without 64 (omega arith) cs (chars_without 0 cs us h (ap has_at (sym i) ∙ n))
