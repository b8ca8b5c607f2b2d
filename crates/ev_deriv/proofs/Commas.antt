-- Tokens before a comma and behind it.
use Rattle.std.proofs.Common.{◌≡◌, ℕ, ◌+◌, ◌≤◌, Bool, true, false, ◌&&◌, ◌||◌, List, [], ◌∷◌, ◌++◌, length, refl, ap, sym, ◌∙◌, arith}
use Rattle.std.specs.Prelude.{◌==◌, codes, encode_utf8, encode_utf8_all}
use Rattle.std.specs.Str.{all_scalars}
use Rattle.std.proofs.lemmas.Bool.{eq-eqb}
use Rattle.std.proofs.lemmas.List.{append_assoc}
use Rattle.std.proofs.lemmas.Str.{encodes-append}
use Rattle.unicode_ident.proofs.Computing.{unicode_ident}
use Rattle.ev_syntax.specs.Chars.{SpellChars, is_blank, are_blanks}
use Rattle.ev_syntax.specs.Marks.{comma}
use Rattle.ev_syntax.specs.Tokens.{Token, mark, is_token, Spanned, AreTokens, tokens_of, Tokens}
use Rattle.ev_syntax.proofs.TokenKinds.{empty_token}
use Rattle.ev_deriv.proofs.NoSign.{has, comma_lone, lone_token}

-- what has no b and stands in front of b with what is behind it stands before that b
before_lone : (b : ℕ) (longer after front back : List ℕ) → has b longer ≡ false → front ++ b ∷ back ≡ longer ++ after → (mid : List ℕ) × (front ≡ longer ++ mid)
before_lone b [] after front back h e = (front, refl)
before_lone b (x ∷ xs) after [] back h e = absurd (let same : x ≡ b = cc in let is : (x == b) ≡ true = eq-eqb x b same in let clash : true ≡ false = sym (ap (λ p. p || has b xs) is) ∙ h in cc)
before_lone b (x ∷ xs) after (f ∷ fs) back h e =
    let heads : f ≡ x = cc in
    let tails : fs ++ b ∷ back ≡ xs ++ after = cc in
    let r = before_lone b xs after fs back (last (x == b) h) tails in (r.0, ap (λ y. y ∷ fs) heads ∙ ap (λ ys. x ∷ ys) r.1)
  where
    last : (p : Bool) → (p || has b xs) ≡ false → has b xs ≡ false
    last true h = cc
    last false h = h

some_length : (cs : List ℕ) → is_token cs ≡ true → 1 ≤ length cs
some_length [] h = absurd (empty_token h)
some_length (c ∷ cs) h = omega arith

-- the longest token before a comma stays the longest
still_longest : (text rest back : List ℕ) → is_token text ≡ true → ((longer after : List ℕ) → text ++ rest ≡ longer ++ after → is_token longer ≡ true → length longer ≤ length text)
    → (longer after : List ℕ) → text ++ (rest ++ 44 ∷ back) ≡ longer ++ after → is_token longer ≡ true → length longer ≤ length text
still_longest text rest back is longest longer after e t = by (has 44 longer) refl
  where
    by : (p : Bool) → has 44 longer ≡ p → length longer ≤ length text
    by true f =
        let one : length longer ≡ 1 = ap length (lone_token 44 comma_lone longer t f) in
        let some = some_length text is in omega (arith, one, some)
    by false f = let r = before_lone 44 longer after (text ++ rest) back f (append_assoc text rest (44 ∷ back) ∙ e) in longest longer r.0 r.1 t

-- characters that are these tokens, wherever they stand
abbrev pub Anywhere : List ℕ → List Token → Type 0
Anywhere cs ks = (from : ℕ) → (us : List Spanned) × AreTokens from cs us × (tokens_of us ≡ ks)

blanks : (xs ys : List ℕ) → are_blanks xs ≡ true → are_blanks ys ≡ true → are_blanks (xs ++ ys) ≡ true
blanks [] ys h k = k
blanks (x ∷ xs) ys h k = by (is_blank x) h (blanks xs ys)
  where
    by : (p : Bool) → (p && are_blanks xs) ≡ true → (are_blanks xs ≡ true → are_blanks ys ≡ true → are_blanks (xs ++ ys) ≡ true) → (p && are_blanks (xs ++ ys)) ≡ true
    by true g again = again g k
    by false g again = g

-- blanks before tokens
moved : (gap : List ℕ) → are_blanks gap ≡ true → (from to : ℕ) (cs : List ℕ) (us : List Spanned) → AreTokens from cs us → (vs : List Spanned) × AreTokens to (gap ++ cs) vs × (tokens_of vs ≡ tokens_of us)
moved gap blank from to cs [] h = ([], blanks gap cs blank h, refl)
moved gap blank from to cs (t ∷ ts) (rest, b, more) = go (moved [] refl t.end (to + length (encode_utf8_all (gap ++ b.gap)) + length (encode_utf8_all b.text)) rest ts more)
  where
    go : (vs : List Spanned) × AreTokens (to + length (encode_utf8_all (gap ++ b.gap)) + length (encode_utf8_all b.text)) rest vs × (tokens_of vs ≡ tokens_of ts) → (vs : List Spanned) × AreTokens to (gap ++ cs) vs × (tokens_of vs ≡ tokens_of (t ∷ ts))
    go (vs, h, e) = (
      record { token = t.token; start = to + length (encode_utf8_all (gap ++ b.gap)); end = to + length (encode_utf8_all (gap ++ b.gap)) + length (encode_utf8_all b.text) } ∷ vs,
      (
        rest,
        record {
          gap = gap ++ b.gap;
          text = b.text;
          splits = ap (λ xs. gap ++ xs) b.splits ∙ sym (append_assoc gap b.gap (b.text ++ rest));
          blank = blanks gap b.gap blank b.blank;
          is_one = b.is_one;
          longest = b.longest;
          token = b.token;
          start = refl;
          end = refl;
        },
        h,
      ),
      ap (λ ks. t.token ∷ ks) e,
    )

pub anywhere : (from : ℕ) (cs : List ℕ) (us : List Spanned) → AreTokens from cs us → Anywhere cs (tokens_of us)
anywhere from cs us h = λ to. moved [] refl from to cs us h

behind_blank : (cs : List ℕ) (ks : List Token) → Anywhere cs ks → Anywhere (32 ∷ cs) ks
behind_blank cs ks h = λ from. let r = h from in let m = moved (32 ∷ []) refl from from cs r.0 r.1 in (m.0, m.1, m.2 ∙ r.2)

comma_one : is_token (44 ∷ []) ≡ true
unfolding unicode_ident
comma_one = refl

-- tokens, a comma and further tokens
with_comma : (from : ℕ) (cs back : List ℕ) (us : List Spanned) (ks : List Token) → AreTokens from cs us → Anywhere back ks
    → (vs : List Spanned) × AreTokens from (cs ++ 44 ∷ back) vs × (tokens_of vs ≡ tokens_of us ++ mark comma ∷ ks)
with_comma from cs back [] ks h after = go (after (from + length (encode_utf8_all cs) + length (encode_utf8_all (44 ∷ []))))
  where
    longest : (longer behind : List ℕ) → (44 ∷ []) ++ back ≡ longer ++ behind → is_token longer ≡ true → length longer ≤ 1
    longest [] behind e t = omega arith
    longest (x ∷ xs) behind e t =
        let same : x ≡ 44 = cc in
        let has_one : has 44 (x ∷ xs) ≡ true = ap (λ p. p || has 44 xs) (eq-eqb x 44 same) in
        let one : length (x ∷ xs) ≡ 1 = ap length (lone_token 44 comma_lone (x ∷ xs) t has_one) in omega (arith, one)

    go : (us : List Spanned) × AreTokens (from + length (encode_utf8_all cs) + length (encode_utf8_all (44 ∷ []))) back us × (tokens_of us ≡ ks)
        → (vs : List Spanned) × AreTokens from (cs ++ 44 ∷ back) vs × (tokens_of vs ≡ mark comma ∷ ks)
    go (us, t, e) = (
      record { token = mark comma; start = from + length (encode_utf8_all cs); end = from + length (encode_utf8_all cs) + length (encode_utf8_all (44 ∷ [])) } ∷ us,
      (
        back,
        record { gap = cs; text = 44 ∷ []; splits = refl; blank = h; is_one = comma_one; longest = longest; token = refl; start = refl; end = refl },
        t,
      ),
      ap (λ xs. mark comma ∷ xs) e,
    )
with_comma from cs back (t ∷ ts) ks (rest, b, more) after = go (with_comma t.end rest back ts ks more after)
  where
    go : (vs : List Spanned) × AreTokens t.end (rest ++ 44 ∷ back) vs × (tokens_of vs ≡ tokens_of ts ++ mark comma ∷ ks)
        → (vs : List Spanned) × AreTokens from (cs ++ 44 ∷ back) vs × (tokens_of vs ≡ t.token ∷ (tokens_of ts ++ mark comma ∷ ks))
    go (vs, h, e) = (
      t ∷ vs,
      (
        rest ++ 44 ∷ back,
        record {
          gap = b.gap;
          text = b.text;
          splits = ap (λ xs. xs ++ 44 ∷ back) b.splits ∙ append_assoc b.gap (b.text ++ rest) (44 ∷ back) ∙ ap (λ xs. b.gap ++ xs) (append_assoc b.text rest (44 ∷ back));
          blank = b.blank;
          is_one = b.is_one;
          longest = still_longest b.text rest back b.is_one b.longest;
          token = b.token;
          start = b.start;
          end = b.end;
        },
        h,
      ),
      ap (λ xs. t.token ∷ xs) e,
    )

scalars_append : (xs ys : List ℕ) → all_scalars xs ≡ true → all_scalars ys ≡ true → all_scalars (xs ++ ys) ≡ true
scalars_append [] ys h g = g
scalars_append (x ∷ xs) ys h g = by _ h (λ r. scalars_append xs ys r g)
  where
    by : (b : Bool) → (b && all_scalars xs) ≡ true → (all_scalars xs ≡ true → all_scalars (xs ++ ys) ≡ true) → (b && all_scalars (xs ++ ys)) ≡ true
    by true e again = again e
    by false e again = e

spells_append : (a b xs ys : List ℕ) → SpellChars a xs → SpellChars b ys → SpellChars (a ++ b) (xs ++ ys)
spells_append a b xs ys (s, e) (t, f) = (scalars_append xs ys s t, encodes-append xs ys ∙ ap (λ zs. zs ++ encode_utf8_all ys) e ∙ ap (λ zs. a ++ zs) f)

comma_spells : SpellChars (codes ", ") (44 ∷ 32 ∷ [])
unfolding lib.Utf8.encode
comma_spells = (refl, refl)

-- the tokens of two texts with `, ` between them
pub tokens_with_comma : (a b : List ℕ) (js ks : List Token) → Tokens a js → Tokens b ks → Tokens (a ++ (codes ", " ++ b)) (js ++ mark comma ∷ ks)
tokens_with_comma a b js ks (us, (cs, s, h), e) (vs, (ds, t, i), f) =
    let behind : Anywhere (32 ∷ ds) ks = behind_blank ds ks (λ to. let m = anywhere 0 ds vs i to in (m.0, m.1, m.2 ∙ sym f)) in
    let r = with_comma 0 cs (32 ∷ ds) us ks h behind in (
      r.0,
      (cs ++ 44 ∷ 32 ∷ ds, spells_append a (codes ", " ++ b) cs (44 ∷ 32 ∷ ds) s (spells_append (codes ", ") b (44 ∷ 32 ∷ []) ds comma_spells t), r.1),
      ap (λ xs. xs ++ mark comma ∷ ks) e ∙ sym r.2,
    )
