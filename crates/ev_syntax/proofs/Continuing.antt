-- The tokens of characters are found one after another.
use Rattle.std.proofs.Common.{◌≡◌, ℕ, ◌+◌, ◌-◌, ◌^◌, ◌<◌, ◌≤◌, Bool, true, false, ◌&&◌, ◌||◌, List, [], ◌∷◌, ◌++◌, length, drop, refl, ap, sym, ◌∙◌, subst, arith}
use Rattle.std.specs.Prelude.{encode_utf8_all}
use Rattle.std.specs.Str.{chars, IsUtf8}
use Rattle.std.specs.List.{list_any}
use Rattle.std.proofs.lemmas.List.{append_assoc, append-nil, length-append, length-drop, drop_all}
use Rattle.std.proofs.lemmas.Str.{encodes-append, chars_from_encodes, chars-nil, encodes-chars, scalars-chars, IsUtf8-drop}
use Rattle.ev_syntax.specs.Chars.{is_blank, are_blanks}
use Rattle.ev_syntax.specs.Tokens.{Spanned, BeginsWith, AreTokens, HasTokens, IsBadText, HasTooLarge, tokens_of, is_too_large, is_token, token_of, number}
use Rattle.ev_syntax.specs.inner.Places.{PassesAll, Stops, BeginsNone}
use Rattle.ev_syntax.specs.inner.Standing.{BeginsAt}
use Rattle.ev_syntax.specs.inner.Reading.{ReadsTo, HasTokensFrom}
use Rattle.std.proofs.lemmas.Bool.{le-leb}
use Rattle.ev_syntax.proofs.TokenKinds.{token_blank, empty_token}
use Rattle.ev_syntax.proofs.Fronts.{begins_after}

-- a token stops blanks
token_stops : (text rest : List ℕ) → is_token text ≡ true → Stops is_blank (text ++ rest)
token_stops [] rest one = absurd (empty_token one)
token_stops (c ∷ text) rest one = by (is_blank c) refl
  where
    by : (b : Bool) → is_blank c ≡ b → is_blank c ≡ false
    by false e = e
    by true e = absurd (token_blank c text one e)

both : (a b : Bool) → (a && b) ≡ true → (a ≡ true) × (b ≡ true)
both true b e = (refl, e)
both false b e = cc

-- blanks before what is no blank are the same blanks
gap_splits : (gap cs g x : List ℕ) → gap ++ cs ≡ g ++ x → are_blanks gap ≡ true → Stops is_blank x → (more : List ℕ) × (g ≡ gap ++ more) × (cs ≡ more ++ x)
gap_splits [] cs g x e a s = (g, refl, e)
gap_splits (c ∷ gap) cs [] [] e a s = absurd (cc)
gap_splits (c ∷ gap) cs [] (y ∷ x) e a s =
    let same : c ≡ y = cc in
    let first : is_blank c ≡ true = (both (is_blank c) (are_blanks gap) a).0 in
    let other : is_blank c ≡ false = ap is_blank same ∙ s in
    absurd (cc)
gap_splits (c ∷ gap) cs (d ∷ g) x e a s =
    let same : c ≡ d = cc in
    let tails : gap ++ cs ≡ g ++ x = cc in
    let m : (more : List ℕ) × (g ≡ gap ++ more) × (cs ≡ more ++ x) = gap_splits gap cs g x tails (both (is_blank c) (are_blanks gap) a).1 s in
    (m.0, ap (λ y. y ∷ g) (sym same) ∙ ap (λ ys. c ∷ ys) m.1, m.2)

blanks-append : (gap more : List ℕ) → are_blanks (gap ++ more) ≡ true → are_blanks more ≡ true
blanks-append [] more a = a
blanks-append (c ∷ gap) more a = blanks-append gap more (both (is_blank c) (are_blanks (gap ++ more)) a).1

append-blanks : (gap more : List ℕ) → are_blanks gap ≡ true → are_blanks more ≡ true → are_blanks (gap ++ more) ≡ true
append-blanks [] more a b = b
append-blanks (c ∷ gap) more a b = by (is_blank c) (both (is_blank c) (are_blanks gap) a).0 (append-blanks gap more (both (is_blank c) (are_blanks gap) a).1 b)
  where
    by : (p : Bool) → p ≡ true → are_blanks (gap ++ more) ≡ true → (p && are_blanks (gap ++ more)) ≡ true
    by true e r = r
    by false e r = absurd (cc)

encodes-length : (gap more : List ℕ) → length (encode_utf8_all (gap ++ more)) ≡ length (encode_utf8_all gap) + length (encode_utf8_all more)
encodes-length gap more = ap length (encodes-append gap more) ∙ length-append (encode_utf8_all gap) (encode_utf8_all more)

-- blanks at the front change nothing
past_blanks : (gap cs : List ℕ) (from to : ℕ) (ts : List Spanned) → are_blanks gap ≡ true → to ≡ from + length (encode_utf8_all gap)
    → AreTokens from (gap ++ cs) ts → AreTokens to cs ts
past_blanks gap cs from to [] a n h = blanks-append gap cs h
past_blanks gap cs from to (t ∷ ts) a n (rest, b, more) = (rest, by (gap_splits gap cs b.gap (b.text ++ rest) b.splits a (token_stops b.text rest b.is_one)), more)
  where
    by : (m : List ℕ) × (b.gap ≡ gap ++ m) × (cs ≡ m ++ (b.text ++ rest)) → BeginsWith to cs t rest
    by (m, g, e) = record {
      gap = m;
      text = b.text;
      splits = e;
      blank = blanks-append gap m (ap are_blanks (sym g) ∙ b.blank);
      is_one = b.is_one;
      longest = b.longest;
      token = b.token;
      start = let s = b.start in let l = ap (λ x. length (encode_utf8_all x)) g ∙ encodes-length gap m in omega (arith, s, l, n);
      end = b.end;
    }

before_blanks : (gap cs : List ℕ) (from to : ℕ) (ts : List Spanned) → are_blanks gap ≡ true → to ≡ from + length (encode_utf8_all gap)
    → AreTokens to cs ts → AreTokens from (gap ++ cs) ts
before_blanks gap cs from to [] a n h = append-blanks gap cs a h
before_blanks gap cs from to (t ∷ ts) a n (rest, b, more) = (rest, begins, more)
  where
    begins : BeginsWith from (gap ++ cs) t rest
    begins = record {
      gap = gap ++ b.gap;
      text = b.text;
      splits = ap (λ xs. gap ++ xs) b.splits ∙ sym (append_assoc gap b.gap (b.text ++ rest));
      blank = append-blanks gap b.gap a b.blank;
      is_one = b.is_one;
      longest = b.longest;
      token = b.token;
      start = let s = b.start in let l = encodes-length gap b.gap in omega (arith, s, l, n);
      end = b.end;
    }

fronts_same : (x y r s : List ℕ) → x ++ r ≡ y ++ s → length x ≡ length y → (x ≡ y) × (r ≡ s)
fronts_same [] [] r s e l = (refl, e)
fronts_same [] (b ∷ y) r s e l = absurd (omega arith)
fronts_same (a ∷ x) [] r s e l = absurd (omega arith)
fronts_same (a ∷ x) (b ∷ y) r s e l =
    let same : a ≡ b = cc in
    let tails : x ++ r ≡ y ++ s = cc in
    let m : (x ≡ y) × (r ≡ s) = fronts_same x y r s tails (omega arith) in
    let k : x ≡ y = m.0 in
    ((cc), m.1)

spanned_by : (t u : Spanned) → t.token ≡ u.token → t.start ≡ u.start → t.end ≡ u.end → t ≡ u
spanned_by t u a b c =
    ap (λ x. let r : Spanned = record { token = x; start = t.start; end = t.end } in r) a
    ∙ ap (λ x. let r : Spanned = record { token = u.token; start = x; end = t.end } in r) b
    ∙ ap (λ x. let r : Spanned = record { token = u.token; start = u.start; end = x } in r) c

-- only one token stands at the front
pub begins_same : (from : ℕ) (cs : List ℕ) (t u : Spanned) (rest after : List ℕ) → BeginsWith from cs t rest → BeginsWith from cs u after
    → (t ≡ u) × (rest ≡ after)
begins_same from cs t u rest after b d =
    by (gap_splits b.gap (b.text ++ rest) d.gap (d.text ++ after) (sym b.splits ∙ d.splits) b.blank (token_stops d.text after d.is_one))
  where
    nothing : (m : List ℕ) → are_blanks m ≡ true → b.text ++ rest ≡ m ++ (d.text ++ after) → m ≡ []
    nothing [] a e = refl
    nothing (x ∷ m) a e =
        let s : is_blank x ≡ false = subst (Stops is_blank) e (token_stops b.text rest b.is_one) in
        let r : is_blank x ≡ true = (both (is_blank x) (are_blanks m) a).0 in
        absurd (cc)

    by : (m : List ℕ) × (d.gap ≡ b.gap ++ m) × (b.text ++ rest ≡ m ++ (d.text ++ after)) → (t ≡ u) × (rest ≡ after)
    by (m, g, e) =
        let none : m ≡ [] = nothing m (blanks-append b.gap m (ap are_blanks (sym g) ∙ d.blank)) e in
        let gaps : d.gap ≡ b.gap = g ∙ ap (λ xs. b.gap ++ xs) none ∙ append-nil b.gap in
        let fronts : b.text ++ rest ≡ d.text ++ after = e ∙ ap (λ xs. xs ++ (d.text ++ after)) none in
        let le : length d.text ≤ length b.text = b.longest d.text after fronts d.is_one in
        let ge : length b.text ≤ length d.text = d.longest b.text rest (sym fronts) b.is_one in
        let same : (b.text ≡ d.text) × (rest ≡ after) = fronts_same b.text d.text rest after fronts (omega arith) in
        let starts : t.start ≡ u.start =
        let p = b.start in let q = d.start in let n = ap (λ xs. length (encode_utf8_all xs)) gaps in omega (arith, p, q, n)
        in
        let ends : t.end ≡ u.end =
        let p = b.end in let q = d.end in let n = ap (λ xs. length (encode_utf8_all xs)) same.0 in omega (arith, p, q, n, starts)
        in
        (spanned_by t u (b.token ∙ ap token_of same.0 ∙ sym d.token) starts ends, same.1)

-- what is blank has no token
no_token : (from : ℕ) (cs : List ℕ) (u : Spanned) (rest : List ℕ) → are_blanks cs ≡ true → BeginsWith from cs u rest → ⊥
no_token from cs u rest a d = blank_text d.text d.is_one (blanks-append d.gap (d.text ++ rest) (ap are_blanks (sym d.splits) ∙ a))
  where
    blank_text : (text : List ℕ) → is_token text ≡ true → are_blanks (text ++ rest) ≡ true → ⊥
    blank_text [] one a = empty_token one
    blank_text (c ∷ text) one a = token_blank c text one (both (is_blank c) (are_blanks (text ++ rest)) a).0

-- what comes after the only token at the front
after_token : (from : ℕ) (cs : List ℕ) (t : Spanned) (rest : List ℕ) (ts : List Spanned) → BeginsWith from cs t rest → AreTokens from cs ts
    → (us : List Spanned) × AreTokens t.end rest us × (ts ≡ t ∷ us)
after_token from cs t rest [] b h = absurd (no_token from cs t rest h b)
after_token from cs t rest (u ∷ us) b (after, d, more) =
    let same : (u ≡ t) × (after ≡ rest) = begins_same from cs u t after rest d b in
    let moved : AreTokens t.end rest us =
    subst (λ xs. AreTokens t.end xs us) same.1 (subst (λ (x : Spanned). AreTokens x.end after us) same.0 more)
    in
    (us, moved, ap (λ x. x ∷ us) same.0)

-- at most one list of tokens
pub tokens_same : (from : ℕ) (cs : List ℕ) (ts us : List Spanned) → AreTokens from cs ts → AreTokens from cs us → ts ≡ us
tokens_same from cs [] [] a b = refl
tokens_same from cs [] (u ∷ us) a (rest, d, more) = absurd (no_token from cs u rest a d)
tokens_same from cs (t ∷ ts) us (rest, b, more) h =
    let m : (vs : List Spanned) × AreTokens t.end rest vs × (us ≡ t ∷ vs) = after_token from cs t rest us b h in
    ap (λ xs. t ∷ xs) (tokens_same t.end rest ts m.0 more m.1) ∙ sym m.2

pub reads_start : (text : List ℕ) (from at : ℕ) → PassesAll is_blank text from at → Stops is_blank (chars (drop at text)) → ReadsTo text from [] at
reads_start text from at p s = record {
  place = p.place;
  stops = s;
  goes_on = λ us h. subst (λ cs. AreTokens from cs us) (sym p.splits) (before_blanks p.run (chars (drop at text)) from at us p.passes p.ends h);
  only = λ ts h. (ts, past_blanks p.run (chars (drop at text)) from at ts p.passes p.ends (subst (λ cs. AreTokens from cs ts) p.splits h), refl);
}

pub reads_more : (text : List ℕ) (from : ℕ) (done : List Spanned) (at next : ℕ) (t : Spanned) → ReadsTo text from done at → BeginsAt text at t
    → PassesAll is_blank text t.end next → Stops is_blank (chars (drop next text)) → ReadsTo text from (done ++ t ∷ []) next
reads_more text from done at next t r b p s = record { place = p.place; stops = s; goes_on = goes; only = onlys }
  where
    goes : (us : List Spanned) → AreTokens next (chars (drop next text)) us → AreTokens from (chars (drop from text)) ((done ++ t ∷ []) ++ us)
    goes us h =
        let here : AreTokens t.end (chars (drop t.end text)) us =
        subst (λ cs. AreTokens t.end cs us) (sym p.splits) (before_blanks p.run (chars (drop next text)) t.end next us p.passes p.ends h)
        in
        subst (λ ts. AreTokens from (chars (drop from text)) ts) (sym (append_assoc done (t ∷ []) us)) (r.goes_on (t ∷ us) (chars (drop t.end text), b, here))

    onlys : (ts : List Spanned) → AreTokens from (chars (drop from text)) ts
        → (us : List Spanned) × AreTokens next (chars (drop next text)) us × (ts ≡ (done ++ t ∷ []) ++ us)
    onlys ts h =
        let m = r.only ts h in
        let k = after_token at (chars (drop at text)) t (chars (drop t.end text)) m.0 b m.1 in (
          k.0,
          past_blanks p.run (chars (drop next text)) t.end next k.0 p.passes p.ends (subst (λ cs. AreTokens t.end cs k.0) p.splits k.1),
          m.2 ∙ ap (λ xs. done ++ xs) k.2 ∙ sym (append_assoc done (t ∷ []) k.0),
        )

pub reads_end : (text : List ℕ) (from : ℕ) (done : List Spanned) (at : ℕ) → ReadsTo text from done at → length text ≤ at
    → AreTokens from (chars (drop from text)) done
reads_end text from done at r h =
    let none : chars (drop at text) ≡ [] = ap chars (drop_all at text h) ∙ chars-nil in
    subst (λ ts. AreTokens from (chars (drop from text)) ts) (append-nil done) (r.goes_on [] (ap are_blanks none))

pub reads_bad : (text : List ℕ) (from : ℕ) (done : List Spanned) (at : ℕ) → IsUtf8 text → ReadsTo text from done at → at < length text
    → BeginsNone (chars (drop at text)) → (ts : List Spanned) → AreTokens from (chars (drop from text)) ts → ⊥
reads_bad text from done at u r within none ts h = by (r.only ts h)
  where
    blank_only : (cs : List ℕ) → encode_utf8_all cs ≡ drop at text → are_blanks cs ≡ true → Stops is_blank cs → ⊥
    blank_only [] e a s =
        let l : 0 ≡ length (drop at text) = ap length e in
        let d = length-drop at text in
        omega (arith, l, d)
    blank_only (c ∷ cs) e a s = let t : is_blank c ≡ true = (both (is_blank c) (are_blanks cs) a).0 in cc

    front : (cs gap body rest : List ℕ) → cs ≡ gap ++ (body ++ rest) → are_blanks gap ≡ true → is_token body ≡ true → Stops is_blank cs → BeginsNone cs → ⊥
    front cs [] body rest e a one s n = n body rest e one
    front cs (x ∷ gap) body rest e a one s n =
        let f : is_blank x ≡ false = subst (Stops is_blank) e s in
        let t : is_blank x ≡ true = (both (is_blank x) (are_blanks gap) a).0 in
        cc

    by : (us : List Spanned) × AreTokens at (chars (drop at text)) us × (ts ≡ done ++ us) → ⊥
    by ([], a, e) = blank_only (chars (drop at text)) (encodes-chars (drop at text) (IsUtf8-drop text at u r.place.boundary)) a r.stops
    by (t ∷ us, (rest, b, more), e) = front (chars (drop at text)) b.gap b.text rest b.splits b.blank b.is_one r.stops none

-- the tokens of a text are those of its characters
pub text_has : (text : List ℕ) (ts : List Spanned) → IsUtf8 text → AreTokens 0 (chars text) ts → HasTokens text ts
text_has text ts u h = (chars text, (scalars-chars text u, encodes-chars text u), h)

pub has_text : (text : List ℕ) (ts : List Spanned) → HasTokens text ts → AreTokens 0 (chars text) ts
has_text text ts (cs, spelled, h) =
    subst (λ xs. AreTokens 0 xs ts) (chars_from_encodes cs text (cs, spelled) spelled.1) h

pub text_tokens_same : (text : List ℕ) (ts us : List Spanned) → HasTokens text ts → HasTokens text us → ts ≡ us
text_tokens_same text ts us a b = tokens_same 0 (chars text) ts us (has_text text ts a) (has_text text us b)

pub bad_text : (text : List ℕ) (done : List Spanned) (at : ℕ) → IsUtf8 text → ReadsTo text 0 done at → at < length text
    → BeginsNone (chars (drop at text)) → IsBadText text
bad_text text done at u r within none = λ ts h. reads_bad text 0 done at u r within none ts (has_text text ts h)

-- a number that is too large, and tokens behind it
pub large_text : (text : List ℕ) (done : List Spanned) (at n end : ℕ) → IsUtf8 text → ReadsTo text 0 done at → 2 ^ 127 ≤ n
    → BeginsAt text at (record { token = number n; start = at; end = end }) → HasTokensFrom text end → HasTooLarge text
large_text text done at n end u r large b rest =
    let t : Spanned = record { token = number n; start = at; end = end } in
    let all : List Spanned = done ++ t ∷ rest.0 in
    let has : HasTokens text (done ++ t ∷ rest.0) = text_has text (done ++ t ∷ rest.0) u (r.goes_on (t ∷ rest.0) (chars (drop end text), b, rest.1)) in
    (tokens_of (done ++ t ∷ rest.0), (done ++ t ∷ rest.0, has, refl), any done t rest.0 (le-leb (2 ^ 127) n large))
  where
    any : (done : List Spanned) (t : Spanned) (us : List Spanned) → is_too_large t.token ≡ true → list_any is_too_large (tokens_of (done ++ t ∷ us)) ≡ true
    any [] t us e = by (is_too_large t.token) e
      where
        by : (b : Bool) → b ≡ true → (b || list_any is_too_large (tokens_of us)) ≡ true
        by true e = refl
        by false e = absurd (cc)
    any (x ∷ done) t us e = by (is_too_large x.token) (any done t us e)
      where
        by : (b : Bool) → list_any is_too_large (tokens_of (done ++ t ∷ us)) ≡ true → (b || list_any is_too_large (tokens_of (done ++ t ∷ us))) ≡ true
        by true h = refl
        by false h = h

pub bad_behind : (text : List ℕ) (done : List Spanned) (at : ℕ) (t : Spanned) → ReadsTo text 0 done at → BeginsAt text at t
    → (HasTokensFrom text t.end → ⊥) → IsBadText text
bad_behind text done at t r b none = λ ts h.
    let m = r.only ts (has_text text ts h) in
    let k = after_token at (chars (drop at text)) t (chars (drop t.end text)) m.0 b m.1 in
    none (k.0, k.1)

-- each step leaves less of the text
pub closer : (text : List ℕ) (at next : ℕ) (t : Spanned) → BeginsAt text at t → PassesAll is_blank text t.end next → at < length text
    → length text - next < length text - at
closer text at next t b p within =
    let a = begins_after text at t b in
    let e = p.ends in
    let l = p.place.boundary.0 in
    omega (arith, a, e, l)
