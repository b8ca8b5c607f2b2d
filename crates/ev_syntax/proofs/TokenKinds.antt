-- The three kinds of tokens by their first character.
use Rattle.std.proofs.Common.{◌≡◌, ℕ, ◌<◌, ◌≤◌, Bool, true, false, ◌&&◌, ◌||◌, not, List, [], ◌∷◌, get_or, refl, ◌∙◌, arith}
use Rattle.std.specs.Prelude.{Option, Some, None, is_some, ◌==◌, nat_lt}
use Rattle.std.specs.List.{list_all}
use Rattle.std.specs.Char.{is_ascii_digit, is_ascii_alphabetic, is_ascii_alphanumeric}
use Rattle.std.proofs.lemmas.Bool.{leb-true}
use Rattle.std.proofs.lemmas.Bool.Decides.{nat_tests}
use Rattle.unicode_ident.specs.Ident.{is_xid_start, is_xid_continue}
use Rattle.unicode_ident.proofs.IdentLemmas.{is_xid_start-ascii, is_xid_continue-ascii, is_xid_start-is_xid_continue}
use Rattle.ev_syntax.specs.Chars.{is_blank, starts_name, is_word, is_digits}
use Rattle.ev_syntax.specs.Marks.{signs}
use Rattle.ev_syntax.specs.Tokens.{row_of, is_token}
use Rattle.ev_syntax.proofs.RowLemmas.{row_passes, row_of-at}

-- a character that begins a name may stand in one
pub start_continues : (c : ℕ) → starts_name c ≡ true → is_xid_continue c ≡ true
start_continues c s = by (is_xid_start c) refl (c == 95) refl s
  where
    by : (a : Bool) → is_xid_start c ≡ a → (b : Bool) → (c == 95) ≡ b → (a || b) ≡ true → is_xid_continue c ≡ true
    by true e b f s = is_xid_start-is_xid_continue c e
    by false e true f s =
        let small : c < 128 = grind (arith, nat_tests, f) in
        is_xid_continue-ascii c small ∙ (rw f (last (is_ascii_alphanumeric c)))
      where
        last : (a : Bool) → (a || true) ≡ true
        last true = refl
        last false = refl
    by false e false f s = absurd (cc)

-- a digit begins no name
pub digit_starts : (c : ℕ) → is_ascii_digit c ≡ true → starts_name c ≡ false
digit_starts c d =
    let small : c < 58 = grind (arith, nat_tests, d) in
    let large : 48 ≤ c = grind (arith, nat_tests, d) in
    let start : is_xid_start c ≡ is_ascii_alphabetic c = is_xid_start-ascii c (omega arith) in
    let letter : is_ascii_alphabetic c ≡ false = grind (arith, nat_tests) in
    let line : (c == 95) ≡ false = grind (arith, nat_tests) in
    rw (start, letter, line) refl

-- a blank begins no token
pub blank_starts : (c : ℕ) → is_blank c ≡ true → starts_name c ≡ false
blank_starts c b =
    let small : c < 33 = grind (arith, nat_tests, b) in
    let start : is_xid_start c ≡ is_ascii_alphabetic c = is_xid_start-ascii c (omega arith) in
    let letter : is_ascii_alphabetic c ≡ false = grind (arith, nat_tests) in
    let line : (c == 95) ≡ false = grind (arith, nat_tests) in
    rw (start, letter, line) refl

pub blank_digit : (c : ℕ) → is_blank c ≡ true → is_ascii_digit c ≡ false
blank_digit c b =
    let small : c < 33 = grind (arith, nat_tests, b) in
    grind (arith, nat_tests)

-- whether a byte may begin a sign
abbrev may_begin : ℕ → Bool
may_begin b = nat_lt b 128 && (not (is_ascii_alphabetic b || b == 95) && (not (is_ascii_digit b) && not (is_blank b)))

begin_signs : list_all (λ r. may_begin (get_or r 0 0)) signs ≡ true
begin_signs = refl

pub record BeginsSign (b : ℕ) : Type 0 where
  pub name : starts_name b ≡ false
  pub digit : is_ascii_digit b ≡ false
  pub blank : is_blank b ≡ false

pub sign_begins : (w : List ℕ) (k : ℕ) → row_of signs w ≡ Some k → BeginsSign (get_or w 0 0)
sign_begins w k e = by (nat_lt b 128) refl (is_ascii_alphabetic b) refl (b == 95) refl (is_ascii_digit b) refl (is_blank b) refl passes
  where
    b : ℕ
    b = get_or w 0 0

    passes : may_begin (get_or w 0 0) ≡ true
    passes = row_passes (λ r. may_begin (get_or r 0 0)) signs w k begin_signs (row_of-at signs w k e)

    by : (p : Bool) → nat_lt (get_or w 0 0) 128 ≡ p → (q : Bool) → is_ascii_alphabetic (get_or w 0 0) ≡ q → (r : Bool) → (get_or w 0 0 == 95) ≡ r
        → (s : Bool) → is_ascii_digit (get_or w 0 0) ≡ s → (t : Bool) → is_blank (get_or w 0 0) ≡ t
        → (p && (not (q || r) && (not s && not t))) ≡ true → BeginsSign (get_or w 0 0)
    by true e false f false g false h false i t =
        record {
          name = let start : is_xid_start (get_or w 0 0) ≡ is_ascii_alphabetic (get_or w 0 0) = is_xid_start-ascii (get_or w 0 0) (leb-true _ _ e) in rw (start, f, g) refl;
          digit = h;
          blank = i;
        }
    by true e false f false g false h true i t = absurd (cc)
    by true e false f false g true h r i t = absurd (cc)
    by true e false f true g q h r i t = absurd (cc)
    by true e true f p g q h r i t = absurd (cc)
    by false e s f p g q h r i t = absurd (cc)

-- a token is a word, a run of digits or a sign
pub data IsKind (c : ℕ) (cs : List ℕ) : Type 0 where
  word : starts_name c ≡ true → list_all is_xid_continue (c ∷ cs) ≡ true → IsKind c cs
  digits : is_ascii_digit c ≡ true → list_all is_ascii_digit (c ∷ cs) ≡ true → IsKind c cs
  sign : (k : ℕ) → row_of signs (c ∷ cs) ≡ Some k → IsKind c cs

both : (a b : Bool) → (a && b) ≡ true → (a ≡ true) × (b ≡ true)
both true b e = (refl, e)
both false b e = cc

pub kind_of_token : (c : ℕ) (cs : List ℕ) → is_token (c ∷ cs) ≡ true → IsKind c cs
kind_of_token c cs t = by (is_word (c ∷ cs)) refl (is_digits (c ∷ cs)) refl (row_of signs (c ∷ cs)) refl t
  where
    by : (a : Bool) → is_word (c ∷ cs) ≡ a → (b : Bool) → is_digits (c ∷ cs) ≡ b → (o : Option ℕ) → row_of signs (c ∷ cs) ≡ o
        → ((a || b) || is_some o) ≡ true → IsKind c cs
    by true e b f o g t =
        let w = both (starts_name c) (list_all is_xid_continue cs) e in
        word w.0 (rw (start_continues c w.0) w.1)
    by false e true f o g t = digits (both (is_ascii_digit c) (list_all is_ascii_digit cs) f).0 f
    by false e false f (Some k) g t = sign k g
    by false e false f None g t = absurd (cc)

-- no token is empty
pub empty_token : is_token [] ≡ true → ⊥
empty_token t = cc

-- no token begins with a blank
pub token_blank : (c : ℕ) (cs : List ℕ) → is_token (c ∷ cs) ≡ true → is_blank c ≡ true → ⊥
token_blank c cs t b = by (kind_of_token c cs t)
  where
    by : IsKind c cs → ⊥
    by (word s a) = let n = blank_starts c b in cc
    by (digits d a) = let n = blank_digit c b in cc
    by (sign k e) = let s = (sign_begins (c ∷ cs) k e).blank in cc
