-- Tokens of texts that are put together from parts.
use Rattle.std.proofs.Common.{◌≡◌, ℕ, zero, suc, ◌+◌, ◌*◌, ◌-◌, ◌^◌, ◌<◌, ◌≤◌, Bool, true, false, ◌&&◌, ◌||◌, not, List, [], ◌∷◌, ◌++◌, length, get_or, refl, ap, sym, ◌∙◌, subst, arith, ◌⊎◌, inl, inr}
use Rattle.std.specs.Prelude.{Option, Some, None, is_some, nat_le, ◌==◌, encode_utf8, encode_utf8_all, decimal, fold, codes, if◌then◌else◌}
use Rattle.std.specs.Str.{chars, all_scalars, is_utf8, IsUtf8, IsAscii}
use Rattle.std.specs.Str.Parse.{AllDigits, digits_value, digits_value_after}
use Rattle.std.specs.Char.{is_ascii_digit, is_ascii_alphanumeric, digit_value}
use Rattle.std.specs.List.{list_all, list_any}
use Rattle.std.proofs.lemmas.Bool.Decides.{nat_tests}
use Rattle.std.proofs.lemmas.Bool.{leb-true}
use Rattle.std.proofs.lemmas.List.{append_assoc}
use Rattle.std.proofs.lemmas.Fmt.{decimal_is_IsNumeral_wide, IsAscii-decimal_wide}
use Rattle.std.proofs.lemmas.Str.Parse.{digit_from_value}
use Rattle.std.proofs.lemmas.Str.{encode_ascii, encodes-append, encodes-IsAscii, encodes-chars, scalars-chars, chars-IsAscii, IsUtf8-from_ascii, IsUtf8-from_is_utf8, is_utf8-from_IsUtf8, cons_from_encodes, digit_value_digit}
use Rattle.unicode_ident.specs.Ident.{is_xid_continue}
use Rattle.unicode_ident.proofs.IdentLemmas.{is_xid_continue-ascii}
use Rattle.unicode_ident.proofs.Computing.{unicode_ident}
use Rattle.ev_syntax.specs.Chars.{SpellChars, is_blank, starts_name, is_word, is_digits}
use Rattle.ev_syntax.specs.Marks.{signs, spellings, reserved_words, minus_sign}
use Rattle.ev_syntax.specs.Tokens.{Token, name, number, mark, row_of, is_token, token_of, mark_or, decimal_value, Spanned, AreTokens, tokens_of, is_too_large}
use Rattle.ev_syntax.specs.Names.{is_name}
use Rattle.ev_syntax.specs.inner.Places.{Stops}
use Rattle.ev_syntax.proofs.RowLemmas.{row_passes, row_of-at, none_by}
use Rattle.ev_syntax.proofs.Fronts.{within_run, row_ascii, row_of-encodes, spelled_token}
use Rattle.ev_syntax.proofs.NameLemmas.{word_reserved}
use Rattle.ev_syntax.proofs.TokenKinds.{IsKind, word, digits, sign, kind_of_token, digit_starts, sign_begins, BeginsSign}

-- characters that are these tokens, none of them a number that is too large
pub record Toks (cs : List ℕ) (ks : List Token) : Type 0 where
  pub at : (from : ℕ) → (us : List Spanned) × AreTokens from cs us × (tokens_of us ≡ ks)
  pub small : list_any is_too_large ks ≡ false

pub no_tokens : Toks [] []
no_tokens = record { at = λ from. ([], refl, refl); small = refl }

blank_bytes : (gap : List ℕ) → length (encode_utf8_all (32 ∷ gap)) ≡ 1 + length (encode_utf8_all gap)
blank_bytes gap =
    ap (λ xs. length (xs ++ encode_utf8_all gap)) (encode_ascii 32 (omega arith))
    ∙ (let n : length (32 ∷ encode_utf8_all gap) ≡ 1 + length (encode_utf8_all gap) = omega arith in n)

blank_before : (from : ℕ) (cs : List ℕ) (us : List Spanned) → AreTokens (from + 1) cs us → AreTokens from (32 ∷ cs) us
blank_before from cs [] h = h
blank_before from cs (t ∷ ts) (rest, b, more) = (
  rest,
  record {
    gap = 32 ∷ b.gap;
    text = b.text;
    splits = ap (λ xs. 32 ∷ xs) b.splits;
    blank = b.blank;
    is_one = b.is_one;
    longest = b.longest;
    token = b.token;
    start = (let s : t.start ≡ (from + 1) + length (encode_utf8_all b.gap) = b.start in let n = blank_bytes b.gap in omega (arith, s, n));
    end = b.end;
  },
  more,
)

pub blank_toks : (cs : List ℕ) (ks : List Token) → Toks cs ks → Toks (32 ∷ cs) ks
blank_toks cs ks t = record { at = λ from. let r = t.at (from + 1) in (r.0, blank_before from cs r.0 r.1, r.2); small = t.small }

-- no longer token than w stands before the rest
abbrev pub IsLongestAt : List ℕ → List ℕ → Type 0
IsLongestAt w rest = (longer after : List ℕ) → w ++ rest ≡ longer ++ after → is_token longer ≡ true → length longer ≤ length w

pub token_toks : (w rest : List ℕ) (k : Token) (ks : List Token) → is_token w ≡ true → IsLongestAt w rest → token_of w ≡ k → is_too_large k ≡ false → Toks rest ks
    → Toks (w ++ rest) (k ∷ ks)
token_toks w rest k ks single longest is small t = record { at = at; small = ap (λ b. b || list_any is_too_large ks) small ∙ t.small }
  where
    at : (from : ℕ) → (us : List Spanned) × AreTokens from (w ++ rest) us × (tokens_of us ≡ k ∷ ks)
    at from =
        let end : ℕ = from + length (encode_utf8_all w) in
        let r = t.at (from + length (encode_utf8_all w)) in (
          record { token = token_of w; start = from; end = from + length (encode_utf8_all w) } ∷ r.0,
          (
            rest,
            record {
              gap = [];
              text = w;
              splits = refl;
              blank = refl;
              is_one = single;
              longest = longest;
              token = refl;
              start = (let n : from ≡ from + 0 = omega arith in n);
              end = refl;
            },
            r.1,
          ),
          ap (λ x. x ∷ tokens_of r.0) is ∙ ap (λ xs. k ∷ xs) r.2,
        )

-- A text that is tokens before any rest of which P holds: f puts them before the tokens of the rest.
pub record Lex (P : List ℕ → Type 0) (text : List ℕ) (f : List Token → List Token) : Type 0 where
  pub chars : List ℕ
  pub spells : SpellChars text chars
  pub lexes : (rest : List ℕ) (ks : List Token) → P rest → Toks rest ks → Toks (chars ++ rest) (f ks)

-- any rest; one that no word goes on with; one that does not begin with `-`
abbrev pub Anything : List ℕ → Type 0
Anything rest = Unit {0}

abbrev pub Breaks : List ℕ → Type 0
Breaks rest = Stops is_xid_continue rest

abbrev pub NoMinus : List ℕ → Type 0
NoMinus rest = Stops (λ c. c == 45) rest

scalars_append : (xs ys : List ℕ) → all_scalars xs ≡ true → all_scalars ys ≡ true → all_scalars (xs ++ ys) ≡ true
scalars_append [] ys h g = g
scalars_append (x ∷ xs) ys h g = by _ h (λ r. scalars_append xs ys r g)
  where
    by : (b : Bool) → (b && all_scalars xs) ≡ true → (all_scalars xs ≡ true → all_scalars (xs ++ ys) ≡ true) → (b && all_scalars (xs ++ ys)) ≡ true
    by true e again = again e
    by false e again = e

spells_append : (a b xs ys : List ℕ) → SpellChars a xs → SpellChars b ys → SpellChars (a ++ b) (xs ++ ys)
spells_append a b xs ys (s, e) (t, f) = (scalars_append xs ys s t, encodes-append xs ys ∙ ap (λ zs. zs ++ encode_utf8_all ys) e ∙ ap (λ zs. a ++ zs) f)

pub join : (P Q : List ℕ → Type 0) (a b : List ℕ) (f g : List Token → List Token) → Lex P a f → (y : Lex Q b g) → ((rest : List ℕ) → Q rest → P (y.chars ++ rest))
    → Lex Q (a ++ b) (λ ks. f (g ks))
join P Q a b f g x y h = record {
  chars = x.chars ++ y.chars;
  spells = spells_append a b x.chars y.chars x.spells y.spells;
  lexes = λ rest ks p t. subst (λ cs. Toks cs (f (g ks))) (sym (append_assoc x.chars y.chars rest)) (x.lexes (y.chars ++ rest) (g ks) (h rest p) (y.lexes rest ks p t));
}

pub after_any : (Q : List ℕ → Type 0) (a b : List ℕ) (f g : List Token → List Token) → Lex Anything a f → Lex Q b g → Lex Q (a ++ b) (λ ks. f (g ks))
after_any Q a b f g x y = join Anything Q a b f g x y (λ rest p. tt)

pub any_breaks : (a : List ℕ) (f : List Token → List Token) → Lex Anything a f → Lex Breaks a f
any_breaks a f x = record { chars = x.chars; spells = x.spells; lexes = λ rest ks p t. x.lexes rest ks tt t }

-- the first character of a text that begins with an ASCII byte
first_char : (c : ℕ) (more cs : List ℕ) → c < 128 → SpellChars (c ∷ more) cs → (ds : List ℕ) × (cs ≡ c ∷ ds)
first_char c more cs small s =
    let e : encode_utf8_all cs ≡ encode_utf8 c ++ more = s.1 ∙ ap (λ xs. xs ++ more) (sym (encode_ascii c small)) in
    let r = cons_from_encodes cs more c e in
    (r.0, r.1)

-- a byte at which words stop
pub record IsBreak (c : ℕ) : Type 0 where
  pub small : c < 128
  pub breaks : is_xid_continue c ≡ false

pub after_word : (Q : List ℕ → Type 0) (a : List ℕ) (c : ℕ) (more : List ℕ) (f g : List Token → List Token) → IsBreak c → Lex Breaks a f → Lex Q (c ∷ more) g
    → Lex Q (a ++ c ∷ more) (λ ks. f (g ks))
after_word Q a c more f g k x y = join Breaks Q a (c ∷ more) f g x y (λ rest p. stops rest (first_char c more y.chars k.small y.spells))
  where
    stops : (rest : List ℕ) → (ds : List ℕ) × (y.chars ≡ c ∷ ds) → Breaks (y.chars ++ rest)
    stops rest (ds, e) = subst (λ xs. Breaks (xs ++ rest)) (sym e) k.breaks

-- the text begins with a byte that is no `-`
abbrev pub StartsOther : List ℕ → Type 0
StartsOther [] = ⊥
StartsOther (c ∷ cs) = (c == 45) ≡ false

pub after_minus : (Q : List ℕ → Type 0) (a b : List ℕ) (f g : List Token → List Token) → StartsOther b → Lex NoMinus a f → Lex Q b g → Lex Q (a ++ b) (λ ks. f (g ks))
after_minus Q a b f g other x y = join NoMinus Q a b f g x y (λ rest p. stops rest b y.chars other y.spells.1)
  where
    stops : (rest b cs : List ℕ) → StartsOther b → encode_utf8_all cs ≡ b → NoMinus (cs ++ rest)
    stops rest [] cs o e = absurd o
    stops rest (c ∷ b) [] o e = cc
    stops rest (c ∷ b) (d ∷ cs) o e = by (d == 45) refl
      where
        by : (k : Bool) → (d == 45) ≡ k → k ≡ false
        by false g = refl
        by true g =
            let m : d ≡ 45 = grind (arith, nat_tests, g) in
            let small : d < 128 = omega arith in
            let front : d ∷ encode_utf8_all cs ≡ c ∷ b = ap (λ xs. xs ++ encode_utf8_all cs) (sym (encode_ascii d small)) ∙ e in
            let same : d ≡ c = cc in
            absurd (let t : (c == 45) ≡ true = rw (← same) g in cc)

-- a longer token that begins with the character is a run of p
run_longest : (p : ℕ → Bool) (c : ℕ) (run rest longer after : List ℕ) → ((xs : List ℕ) → is_token (c ∷ xs) ≡ true → list_all p (c ∷ xs) ≡ true)
    → Stops p rest → (c ∷ run) ++ rest ≡ longer ++ after → is_token longer ≡ true → length longer ≤ length (c ∷ run)
run_longest p c run rest [] after kind stops e t = omega arith
run_longest p c run rest (x ∷ longer) after kind stops e t =
    let same : c ≡ x = cc in
    let single : is_token (c ∷ longer) ≡ true = rw same t in
    let all : list_all p (x ∷ longer) ≡ true = rw (← same) (kind longer single) in
    within_run p (c ∷ run) rest (x ∷ longer) after e all stops

pub all_implies : (p q : ℕ → Bool) → ((c : ℕ) → p c ≡ true → q c ≡ true) → (xs : List ℕ) → list_all p xs ≡ true → list_all q xs ≡ true
all_implies p q h [] a = refl
all_implies p q h (x ∷ xs) a = by (p x) refl a (λ r. all_implies p q h xs r)
  where
    by : (b : Bool) → p x ≡ b → (b && list_all p xs) ≡ true → (list_all p xs ≡ true → list_all q xs ≡ true) → (q x && list_all q xs) ≡ true
    by true e a again = ap (λ b. b && list_all q xs) (h x e) ∙ again a
    by false e a again = cc

pub digit_continues : (c : ℕ) → is_ascii_digit c ≡ true → is_xid_continue c ≡ true
digit_continues c d =
    let small : c < 58 = grind (arith, nat_tests, d) in
    let k : is_xid_continue c ≡ (is_ascii_alphanumeric c || c == 95) = is_xid_continue-ascii c (omega arith) in
    let a : is_ascii_alphanumeric c ≡ true = grind (arith, nat_tests, d) in
    k ∙ ap (λ b. b || c == 95) a

blank_continues : (c : ℕ) → is_blank c ≡ true → is_xid_continue c ≡ false
blank_continues c b =
    let small : c < 33 = grind (arith, nat_tests, b) in
    let k : is_xid_continue c ≡ (is_ascii_alphanumeric c || c == 95) = is_xid_continue-ascii c (omega arith) in
    let a : is_ascii_alphanumeric c ≡ false = grind (arith, nat_tests) in
    let l : (c == 95) ≡ false = grind (arith, nat_tests) in
    k ∙ ap (λ x. x || c == 95) a ∙ l

continue_no_blank : (c : ℕ) → is_xid_continue c ≡ true → not (is_blank c) ≡ true
continue_no_blank c e = by (is_blank c) refl
  where
    by : (b : Bool) → is_blank c ≡ b → not b ≡ true
    by false f = refl
    by true f = let n = blank_continues c f in cc

-- no token has a blank in it
signs_no_blank : list_all (λ r. list_all (λ c. not (is_blank c)) r) signs ≡ true
signs_no_blank = refl

no_blank : (longer : List ℕ) → is_token longer ≡ true → list_all (λ c. not (is_blank c)) longer ≡ true
no_blank [] t = refl
no_blank (c ∷ cs) t = by (kind_of_token c cs t)
  where
    by : IsKind c cs → list_all (λ x. not (is_blank x)) (c ∷ cs) ≡ true
    by (word s a) = all_implies is_xid_continue (λ x. not (is_blank x)) continue_no_blank (c ∷ cs) a
    by (digits d a) = all_implies is_ascii_digit (λ x. not (is_blank x)) (λ x e. continue_no_blank x (digit_continues x e)) (c ∷ cs) a
    by (sign k e) = row_passes (λ r. list_all (λ x. not (is_blank x)) r) signs (c ∷ cs) k signs_no_blank (row_of-at signs (c ∷ cs) k e)

blank_longest : (w rest : List ℕ) → IsLongestAt w (32 ∷ rest)
blank_longest w rest longer after e t = within_run (λ c. not (is_blank c)) w (32 ∷ rest) longer after e (no_blank longer t) refl

longer_word : (c : ℕ) (longer : List ℕ) → starts_name c ≡ true → is_token (c ∷ longer) ≡ true → list_all is_xid_continue (c ∷ longer) ≡ true
longer_word c longer s t = by (kind_of_token c longer t)
  where
    by : IsKind c longer → list_all is_xid_continue (c ∷ longer) ≡ true
    by (word s' a) = a
    by (digits d a) = let n = digit_starts c d in absurd (cc)
    by (sign k e) = let n = (sign_begins (c ∷ longer) k e).name in absurd (cc)

longer_digits : (c : ℕ) (longer : List ℕ) → is_ascii_digit c ≡ true → is_token (c ∷ longer) ≡ true → list_all is_ascii_digit (c ∷ longer) ≡ true
longer_digits c longer d t = by (kind_of_token c longer t)
  where
    by : IsKind c longer → list_all is_ascii_digit (c ∷ longer) ≡ true
    by (word s a) = let n = digit_starts c d in absurd (cc)
    by (digits d' a) = a
    by (sign k e) = let n = (sign_begins (c ∷ longer) k e).digit in absurd (cc)

-- ASCII texts are their own characters
ascii_spells : (w : List ℕ) → IsAscii w → SpellChars w w
ascii_spells w h = (ap all_scalars (sym (chars-IsAscii w h)) ∙ scalars-chars w (IsUtf8-from_ascii w h), encodes-IsAscii w h)

row_token : (w : List ℕ) (k : ℕ) → row_of spellings w ≡ Some k → token_of w ≡ mark k
row_token w k e = ap (mark_or _) e

blank_ascii : IsAscii (32 ∷ [])
blank_ascii zero = omega arith
blank_ascii (suc i) = omega arith

pub blank_lex : Lex Anything (codes " ") (λ ks. ks)
blank_lex = record {
  chars = 32 ∷ [];
  spells = ascii_spells (32 ∷ []) blank_ascii;
  lexes = λ rest ks p t. blank_toks rest ks t;
}

-- a mark before a blank
pub mark_blank : (w : List ℕ) (k : ℕ) → row_of spellings w ≡ Some k → Lex Anything (w ++ codes " ") (λ ks. mark k ∷ ks)
mark_blank w k e = record {
  chars = w ++ codes " ";
  spells = spells_append w (codes " ") w (codes " ") (ascii_spells w (row_ascii w k e)) (ascii_spells (codes " ") blank_ascii);
  lexes = λ rest ks p t.
      subst (λ cs. Toks cs (mark k ∷ ks)) (sym (append_assoc w (codes " ") rest))
      (token_toks w (32 ∷ rest) (mark k) ks (spelled_token w k e) (blank_longest w rest) (row_token w k e) refl (blank_toks rest ks t));
}

-- a sign of one character with which no longer sign begins
abbrev pub begins_none : ℕ → List (List ℕ) → Bool
begins_none c rows = list_all (λ r. not (get_or r 0 0 == c) || nat_le (length r) 1) rows

pub sign_lex : (c j k : ℕ) → row_of signs (c ∷ []) ≡ Some j → row_of spellings (c ∷ []) ≡ Some k → begins_none c signs ≡ true → Lex Anything (c ∷ []) (λ ks. mark k ∷ ks)
sign_lex c j k s e test = record {
  chars = c ∷ [];
  spells = ascii_spells (c ∷ []) (row_ascii (c ∷ []) k e);
  lexes = λ rest ks p t. token_toks (c ∷ []) rest (mark k) ks (spelled_token (c ∷ []) k e) (longest rest) (row_token (c ∷ []) k e) refl t;
}
  where
    begins : BeginsSign c
    begins = sign_begins (c ∷ []) j s

    short : (xs : List ℕ) → is_token (c ∷ xs) ≡ true → length (c ∷ xs) ≤ 1
    short xs t = by (kind_of_token c xs t)
      where
        same : (c == c) ≡ true
        same = grind (arith, nat_tests)

        by : IsKind c xs → length (c ∷ xs) ≤ 1
        by (word s' a) = let n = begins.name in absurd (cc)
        by (digits d a) = let n = begins.digit in absurd (cc)
        by (sign i g) =
            let h : (not (c == c) || nat_le (length (c ∷ xs)) 1) ≡ true =
            row_passes (λ r. not (get_or r 0 0 == c) || nat_le (length r) 1) signs (c ∷ xs) i test (row_of-at signs (c ∷ xs) i g) in
            leb-true _ _ (ap (λ b. not b || nat_le (length (c ∷ xs)) 1) (sym same) ∙ h)

    longest : (rest : List ℕ) → IsLongestAt (c ∷ []) rest
    longest rest [] after e' t = omega arith
    longest rest (x ∷ longer) after e' t =
        let m : c ≡ x = cc in
        let single : is_token (c ∷ longer) ≡ true = rw m t in
        let l = short longer single in
        omega arith

-- unary `-`
minus_rows : list_all (λ r. (not (get_or r 0 0 == 45) || nat_le (length r) 1) || (get_or r 1 0 == 45)) signs ≡ true
minus_rows = refl

pub minus_lex : Lex NoMinus (codes "-") (λ ks. mark minus_sign ∷ ks)
minus_lex = record {
  chars = 45 ∷ [];
  spells = ascii_spells (45 ∷ []) (row_ascii (45 ∷ []) minus_sign refl);
  lexes = λ rest ks p t. token_toks (45 ∷ []) rest (mark minus_sign) ks (spelled_token (45 ∷ []) minus_sign refl) (longest rest p) refl refl t;
}
  where
    begins : BeginsSign 45
    begins = sign_begins (45 ∷ []) 36 refl

    short : (xs : List ℕ) → is_token (45 ∷ xs) ≡ true → (length (45 ∷ xs) ≤ 1) ⊎ ((get_or xs 0 0 == 45) ≡ true)
    short xs t = by (kind_of_token 45 xs t)
      where
        choose : (a b : Bool) → (a || b) ≡ true → (a ≡ true) ⊎ (b ≡ true)
        choose true b e = inl refl
        choose false b e = inr e

        turned : (a b : Bool) → (a ≡ true) ⊎ (b ≡ true) → a ≡ nat_le (length (45 ∷ xs)) 1 → b ≡ (get_or xs 0 0 == 45) → (length (45 ∷ xs) ≤ 1) ⊎ ((get_or xs 0 0 == 45) ≡ true)
        turned a b (inl h) e f = inl (leb-true _ _ (sym e ∙ h))
        turned a b (inr h) e f = inr (sym f ∙ h)

        by : IsKind 45 xs → (length (45 ∷ xs) ≤ 1) ⊎ ((get_or xs 0 0 == 45) ≡ true)
        by (word s' a) = let n = begins.name in absurd (cc)
        by (digits d a) = let n = begins.digit in absurd (cc)
        by (sign i g) =
            turned _ _ (choose _ _ (row_passes (λ r. (not (get_or r 0 0 == 45) || nat_le (length r) 1) || (get_or r 1 0 == 45)) signs (45 ∷ xs) i minus_rows (row_of-at signs (45 ∷ xs) i g))) refl refl

    longest : (rest : List ℕ) → NoMinus rest → IsLongestAt (45 ∷ []) rest
    longest rest p [] after e' t = omega arith
    longest rest p (x ∷ longer) after e' t =
        let m : 45 ≡ x = cc in
        let single : is_token (45 ∷ longer) ≡ true = subst (λ (y : ℕ). is_token (y ∷ longer) ≡ true) (sym m) t in
        let tails : rest ≡ longer ++ after = cc in
        by rest longer (short longer single) tails p
      where
        by : (rest longer : List ℕ) → (length (45 ∷ longer) ≤ 1) ⊎ ((get_or longer 0 0 == 45) ≡ true) → rest ≡ longer ++ after → NoMinus rest → length (x ∷ longer) ≤ 1
        by rest longer (inl l) e p = omega arith
        by rest [] (inr s) e p = cc
        by [] (y ∷ ys) (inr s) e p = cc
        by (r ∷ rs) (y ∷ ys) (inr s) e p = let m : r ≡ y = cc in absurd (let f : (y == 45) ≡ false = rw (← m) p in cc)

-- a reserved word
pub word_lex : (c : ℕ) (w : List ℕ) (k : ℕ) → row_of spellings (c ∷ w) ≡ Some k → starts_name c ≡ true → Lex Breaks (c ∷ w) (λ ks. mark k ∷ ks)
word_lex c w k e s = record {
  chars = c ∷ w;
  spells = ascii_spells (c ∷ w) (row_ascii (c ∷ w) k e);
  lexes = λ rest ks p t.
      token_toks (c ∷ w) rest (mark k) ks (spelled_token (c ∷ w) k e)
      (λ longer after g u. run_longest is_xid_continue c w rest longer after (λ xs v. longer_word c xs s v) p g u) (row_token (c ∷ w) k e) refl t;
}

-- a name
name_token : (n : List ℕ) → is_utf8 n ≡ true → is_word (chars n) ≡ true → is_some (row_of reserved_words n) ≡ false → token_of (chars n) ≡ name n
name_token n u w r =
    by (row_of spellings (chars n)) refl
  where
    text : IsUtf8 n
    text = IsUtf8-from_is_utf8 n u

    no_digits : (cs : List ℕ) → is_word cs ≡ true → is_digits cs ≡ false
    no_digits [] e = refl
    no_digits (c ∷ cs) e = go (starts_name c) refl e
      where
        go : (b : Bool) → starts_name c ≡ b → (b && list_all is_xid_continue cs) ≡ true → (is_ascii_digit c && list_all is_ascii_digit cs) ≡ false
        go false f e = cc
        go true f e = digit (is_ascii_digit c) refl
          where
            digit : (b : Bool) → is_ascii_digit c ≡ b → (b && list_all is_ascii_digit cs) ≡ false
            digit false g = refl
            digit true g = let m = digit_starts c g in absurd (cc)

    first : (cs : List ℕ) → is_word cs ≡ true → starts_name (get_or cs 0 0) ≡ true
    first [] e = cc
    first (c ∷ cs) e = go (starts_name c) e
      where
        go : (b : Bool) → (b && list_all is_xid_continue cs) ≡ true → b ≡ true
        go true e = refl
        go false e = cc

    by : (o : Option ℕ) → row_of spellings (chars n) ≡ o → token_of (chars n) ≡ name n
    by None e =
        ap (mark_or _) e
        ∙ ap (λ b. if b then number (decimal_value (chars n)) else name (encode_utf8_all (chars n))) (no_digits (chars n) w)
        ∙ ap name (encodes-chars n text)
    by (Some k) e =
        let f : row_of spellings n ≡ Some k = ap (row_of spellings) (sym (encodes-chars n text)) ∙ row_of-encodes (chars n) ∙ e in
        let same : chars n ≡ n = chars-IsAscii n (row_ascii n k f) in
        let s : starts_name (get_or n 0 0) ≡ true = ap (λ xs. starts_name (get_or xs 0 0)) (sym same) ∙ first (chars n) w in
        let t = word_reserved n k s f in
        absurd (cc)

both : (a b : Bool) → (a && b) ≡ true → (a ≡ true) × (b ≡ true)
both true b e = (refl, e)
both false b e = cc

not_true : (b : Bool) → not b ≡ true → b ≡ false
not_true false e = refl
not_true true e = cc

pub name_lex : (n : List ℕ) → is_name n ≡ true → Lex Breaks n (λ ks. name n ∷ ks)
name_lex n e = record {
  chars = chars n;
  spells = (scalars-chars n text, encodes-chars n text);
  lexes = λ rest ks p t. lexes (chars n) word refl rest ks p t;
}
  where
    parts : (is_utf8 n ≡ true) × ((is_word (chars n) && not (is_some (row_of reserved_words n))) ≡ true)
    parts = both (is_utf8 n) _ e

    text : IsUtf8 n
    text = IsUtf8-from_is_utf8 n parts.0

    word : is_word (chars n) ≡ true
    word = (both (is_word (chars n)) _ parts.1).0

    free : is_some (row_of reserved_words n) ≡ false
    free = not_true _ (both (is_word (chars n)) _ parts.1).1

    lexes : (cs : List ℕ) → is_word cs ≡ true → cs ≡ chars n → (rest : List ℕ) (ks : List Token) → Breaks rest → Toks rest ks → Toks (cs ++ rest) (name n ∷ ks)
    lexes [] w same rest ks p t = cc
    lexes (c ∷ cs) w same rest ks p t =
        let s : starts_name c ≡ true = (both (starts_name c) _ w).0 in
        token_toks (c ∷ cs) rest (name n) ks (ap (λ b. (b || is_digits (c ∷ cs)) || is_some (row_of signs (c ∷ cs))) w)
        (λ longer after g u. run_longest is_xid_continue c cs rest longer after (λ xs v. longer_word c xs s v) p g u)
        (ap token_of same ∙ name_token n parts.0 word free) refl t

-- a number
no_row : (p : ℕ → Bool) → list_all (λ r. not (p (get_or r 0 0))) spellings ≡ true → (w : List ℕ) → p (get_or w 0 0) ≡ true → row_of spellings w ≡ None
no_row p test w h = none_by (row_of spellings w) (λ k e.
    let n = row_passes (λ r. not (p (get_or r 0 0))) spellings w k test (row_of-at spellings w k e) in
    let f = not_true _ n in cc)

digit_rows : list_all (λ r. not (is_ascii_digit (get_or r 0 0))) spellings ≡ true
digit_rows = refl

all_digits : (ds : List ℕ) → AllDigits 10 ds → list_all is_ascii_digit ds ≡ true
all_digits [] h = refl
all_digits (c ∷ cs) h =
    let r = digit_from_value c h.0 in
    let d : is_ascii_digit c ≡ true = grind (arith, nat_tests, r) in
    ap (λ b. b && list_all is_ascii_digit cs) d ∙ all_digits cs h.1

value_after : (n : ℕ) (ds : List ℕ) → AllDigits 10 ds → fold (λ value c. value * 10 + (c - 48)) n ds ≡ digits_value_after 10 n ds
value_after n [] h = refl
value_after n (c ∷ cs) h =
    let r = digit_value_digit c (digit_from_value c h.0) in
    let same : c - 48 ≡ digit_value c = omega arith in
    ap (λ d. fold (λ value c. value * 10 + (c - 48)) (n * 10 + d) cs) same ∙ value_after (n * 10 + digit_value c) cs h.1

digits_longest : (w rest : List ℕ) → list_all is_ascii_digit w ≡ true → 0 < length w → Breaks rest → IsLongestAt w rest
digits_longest [] rest a some p longer after e t = absurd (omega arith)
digits_longest (c ∷ cs) rest a some p longer after e t =
    run_longest is_ascii_digit c cs rest longer after (λ xs v. longer_digits c xs (both (is_ascii_digit c) _ a).0 v) (stops rest p) e t
  where
    stops : (rest : List ℕ) → Breaks rest → Stops is_ascii_digit rest
    stops [] p = tt
    stops (r ∷ rest) p = go (is_ascii_digit r) refl
      where
        go : (b : Bool) → is_ascii_digit r ≡ b → b ≡ false
        go false e = refl
        go true e = let n = digit_continues r e in absurd (cc)

digits_token : (w : List ℕ) → list_all is_ascii_digit w ≡ true → 0 < length w → token_of w ≡ number (decimal_value w)
digits_token [] a some = absurd (omega arith)
digits_token (c ∷ cs) a some =
    ap (mark_or _) (no_row is_ascii_digit digit_rows (c ∷ cs) (both (is_ascii_digit c) _ a).0)
    ∙ ap (λ b. if b then number (decimal_value (c ∷ cs)) else name (encode_utf8_all (c ∷ cs))) a

digits_one : (w : List ℕ) → list_all is_ascii_digit w ≡ true → 0 < length w → is_token w ≡ true
digits_one [] a some = absurd (omega arith)
digits_one (c ∷ cs) a some = ap (λ b. (is_word (c ∷ cs) || b) || is_some (row_of signs (c ∷ cs))) a ∙ last (is_word (c ∷ cs))
  where
    last : (b : Bool) → ((b || true) || is_some (row_of signs (c ∷ cs))) ≡ true
    last true = refl
    last false = refl

pub number_lex : (n : ℕ) → n < 2 ^ 127 → Lex Breaks (decimal n) (λ ks. number n ∷ ks)
number_lex n h = record {
  chars = decimal n;
  spells = ascii_spells (decimal n) (IsAscii-decimal_wide n (omega arith));
  lexes = λ rest ks p t.
      token_toks (decimal n) rest (number n) ks (digits_one (decimal n) run some) (digits_longest (decimal n) rest run some p)
      (digits_token (decimal n) run some ∙ ap number (value_after 0 (decimal n) all ∙ value)) small t;
}
  where
    wide : n < 10 ^ 64
    wide = omega arith

    all : AllDigits 10 (decimal n)
    all = (decimal_is_IsNumeral_wide n wide).0.1

    some : 0 < length (decimal n)
    some = (decimal_is_IsNumeral_wide n wide).0.0

    value : digits_value 10 (decimal n) ≡ n
    value = (decimal_is_IsNumeral_wide n wide).1

    run : list_all is_ascii_digit (decimal n) ≡ true
    run = all_digits (decimal n) all

    small : is_too_large (number n) ≡ false
    small = grind (arith, nat_tests, h)

-- `v` and a number is a name
v_rows : list_all (λ r. not (get_or r 0 0 == 118)) reserved_words ≡ true
v_rows = refl

pub variable_name : (n : ℕ) → n < 2 ^ 64 → is_name (codes "v" ++ decimal n) ≡ true
unfolding unicode_ident
variable_name n h =
    ap (λ b. b && (is_word (chars (118 ∷ decimal n)) && not (is_some (row_of reserved_words (118 ∷ decimal n))))) (is_utf8-from_IsUtf8 (118 ∷ decimal n) (IsUtf8-from_ascii (118 ∷ decimal n) ascii))
    ∙ ap (λ cs. is_word cs && not (is_some (row_of reserved_words (118 ∷ decimal n)))) (chars-IsAscii (118 ∷ decimal n) ascii)
    ∙ ap (λ b. b && not (is_some (row_of reserved_words (118 ∷ decimal n)))) (all_implies is_ascii_digit is_xid_continue digit_continues (decimal n) (all_digits (decimal n) (decimal_is_IsNumeral_wide n (omega arith)).0.1))
    ∙ ap (λ o. not (is_some o)) none
  where
    ascii : IsAscii (118 ∷ decimal n)
    ascii zero = omega arith
    ascii (suc i) = IsAscii-decimal_wide n (omega arith) i

    none : row_of reserved_words (118 ∷ decimal n) ≡ None
    none = none_by _ (λ k e.
        let t = row_passes (λ r. not (get_or r 0 0 == 118)) reserved_words (118 ∷ decimal n) k v_rows (row_of-at reserved_words (118 ∷ decimal n) k e) in
        let f : not (118 == 118) ≡ true = t in cc)
