-- The token at the front of characters: a word, a number, a sign, or none.
use Rattle.std.proofs.Common.{◌≡◌, ℕ, zero, suc, ◌+◌, ◌-◌, ◌^◌, ◌<◌, ◌≤◌, Bool, true, false, ◌&&◌, ◌||◌, not, List, [], ◌∷◌, ◌++◌, length, take, drop, get_or, refl, ap, sym, ◌∙◌, subst, arith}
use Rattle.std.specs.Prelude.{Option, Some, None, is_some, nat_lt, slice_range, encode_utf8_all, if◌then◌else◌, min}
use Rattle.std.specs.Str.{chars, IsUtf8, IsAscii, IsCharBoundary}
use Rattle.std.specs.List.{list_all}
use Rattle.std.specs.Char.{is_ascii_digit}
use Rattle.std.proofs.lemmas.Bool.{leb-true}
use Rattle.std.proofs.lemmas.List.{length-append, take-append-drop, take_at, length-take-le, length-drop, drop-drop, get_or-take, get_or-drop}
use Rattle.std.proofs.lemmas.Str.{encodes-IsAscii, chars-append, chars-IsAscii, IsUtf8-from_ascii, IsUtf8-drop, encodes-chars, encodes-append, encodes_same, IsCharBoundary-after_ascii, length-le-encodes}
use Rattle.unicode_ident.specs.Ident.{is_xid_continue}
use Rattle.unicode_ident.proofs.Computing.{unicode_ident}
use Rattle.ev_syntax.specs.Chars.{starts_name, is_word, is_digits}
use Rattle.ev_syntax.specs.Marks.{signs, spellings}
use Rattle.ev_syntax.specs.Tokens.{row_of, is_token, token_of, mark_or, Token, name, number, mark, Spanned, BeginsWith, decimal_value}
use Rattle.ev_syntax.specs.inner.Places.{IsPlace, PassesAll, Stops, Starts, CountsTo, IsLongest, SpellsMark, BeginsNone}
use Rattle.ev_syntax.specs.inner.Standing.{BeginsAt}
use Rattle.ev_syntax.proofs.RowLemmas.{row_passes, row_of-at, row_length, none_by}
use Rattle.ev_syntax.proofs.Signs.{sign_row}
use Rattle.ev_syntax.proofs.TokenKinds.{start_continues, digit_starts, sign_begins, IsKind, word, digits, sign, kind_of_token, empty_token}

-- what passes is no longer than the run, where the run stops
pub within_run : (p : ℕ → Bool) (run rest longer after : List ℕ) → run ++ rest ≡ longer ++ after → list_all p longer ≡ true → Stops p rest
    → length longer ≤ length run
within_run p run rest [] after e a s = omega arith
within_run p [] [] (x ∷ longer) after e a s = absurd (cc)
within_run p [] (r ∷ rest) (x ∷ longer) after e a s =
    let same : r ≡ x = cc in
    let fails : p x ≡ false = rw (← same) s in
    absurd (clash (p x) fails a)
  where
    clash : (b : Bool) → b ≡ false → (b && list_all p longer) ≡ true → ⊥
    clash true f a = cc
    clash false f a = cc
within_run p (c ∷ run) rest (x ∷ longer) after e a s =
    let tails : run ++ rest ≡ longer ++ after = cc in
    let h = within_run p run rest longer after tails (last (p x) a) s in
    omega arith
  where
    last : (b : Bool) → (b && list_all p longer) ≡ true → list_all p longer ≡ true
    last true a = a
    last false a = cc

-- the bytes of a run
pub bytes_between : (bs : List ℕ) (from to : ℕ) (run : List ℕ) → IsUtf8 bs → IsPlace bs from → IsPlace bs to → chars (drop from bs) ≡ run ++ chars (drop to bs)
    → to ≡ from + length (encode_utf8_all run) → slice_range bs from to ≡ encode_utf8_all run
bytes_between bs from to run u b d splits ends =
    let whole : drop from bs ≡ encode_utf8_all run ++ encode_utf8_all (chars (drop to bs)) =
    sym (encodes-chars (drop from bs) (IsUtf8-drop bs from u b.boundary)) ∙ ap encode_utf8_all splits ∙ encodes-append run (chars (drop to bs)) in
    let size : length (encode_utf8_all run) ≡ to - from = omega arith in
    ap (λ xs. take (to - from) xs) whole ∙ take_at (encode_utf8_all run) (encode_utf8_all (chars (drop to bs))) (to - from) size

-- ASCII rows
ascii_rows : list_all (λ r. list_all (λ b. nat_lt b 128) r) spellings ≡ true
ascii_rows = refl

pub row_ascii : (w : List ℕ) (k : ℕ) → row_of spellings w ≡ Some k → IsAscii w
row_ascii w k e = small w (row_passes (λ r. list_all (λ b. nat_lt b 128) r) spellings w k ascii_rows (row_of-at spellings w k e))
  where
    small : (w : List ℕ) → list_all (λ b. nat_lt b 128) w ≡ true → (i : ℕ) → get_or w i 0 < 128
    small [] a i = omega arith
    small (x ∷ w) a zero = leb-true _ _ (first (nat_lt x 128) a)
      where
        first : (b : Bool) → (b && list_all (λ b. nat_lt b 128) w) ≡ true → b ≡ true
        first true a = refl
        first false a = cc
    small (x ∷ w) a (suc i) = small w (last (nat_lt x 128) a) i
      where
        last : (b : Bool) → (b && list_all (λ b. nat_lt b 128) w) ≡ true → list_all (λ b. nat_lt b 128) w ≡ true
        last true a = a
        last false a = cc

-- characters and their bytes spell the same row
pub row_of-encodes : (cs : List ℕ) → row_of spellings (encode_utf8_all cs) ≡ row_of spellings cs
row_of-encodes cs = by (row_of spellings cs) refl
  where
    bytes_row : (k : ℕ) → row_of spellings (encode_utf8_all cs) ≡ Some k → row_of spellings cs ≡ Some k
    bytes_row k e =
        let ascii : IsAscii (encode_utf8_all cs) = row_ascii (encode_utf8_all cs) k e in
        let same : encode_utf8_all cs ≡ cs = encodes_same (encode_utf8_all cs) cs (encodes-IsAscii (encode_utf8_all cs) ascii) in
        rw (← same) e

    by : (o : Option ℕ) → row_of spellings cs ≡ o → row_of spellings (encode_utf8_all cs) ≡ row_of spellings cs
    by (Some k) e = ap (row_of spellings) (encodes-IsAscii cs (row_ascii cs k e))
    by None e = none_by (row_of spellings (encode_utf8_all cs)) (λ k f. let g = bytes_row k f in cc) ∙ sym e

-- a token at the front, with no gap before it
pub front_begins : (bs : List ℕ) (at end : ℕ) (run : List ℕ) (t : Spanned) → chars (drop at bs) ≡ run ++ chars (drop end bs)
    → end ≡ at + length (encode_utf8_all run) → is_token run ≡ true
    → ((longer after : List ℕ) → run ++ chars (drop end bs) ≡ longer ++ after → is_token longer ≡ true → length longer ≤ length run)
    → t.token ≡ token_of run → t.start ≡ at → t.end ≡ end → BeginsAt bs at t
front_begins bs at end run t splits ends one longest token start stop =
    subst (λ (e : ℕ). BeginsWith at (chars (drop at bs)) t (chars (drop e bs))) (sym stop)
    (record {
      gap = [];
      text = run;
      splits = splits;
      blank = refl;
      is_one = one;
      longest = longest;
      token = token;
      start = (let n : t.start ≡ at + 0 = omega (arith, start) in n);
      end = (let n : t.end ≡ t.start + length (encode_utf8_all run) = omega (arith, start, stop, ends) in n);
    })

-- the kind of a longer token is that of its first character
longer_word : (c : ℕ) (longer : List ℕ) → starts_name c ≡ true → is_token (c ∷ longer) ≡ true → list_all is_xid_continue (c ∷ longer) ≡ true
longer_word c longer s t = by (kind_of_token c longer t)
  where
    by : IsKind c longer → list_all is_xid_continue (c ∷ longer) ≡ true
    by (word s' a) = a
    by (digits d a) = let n = digit_starts c d in absurd (cc)
    by (sign k e) = let n = (sign_begins (c ∷ longer) k e).name in absurd (cc)

longer_digits : (c : ℕ) (longer : List ℕ) → is_ascii_digit c ≡ true → is_token (c ∷ longer) ≡ true → list_all is_ascii_digit (c ∷ longer) ≡ true
longer_digits c longer d t = by (kind_of_token c longer t)
  where
    by : IsKind c longer → list_all is_ascii_digit (c ∷ longer) ≡ true
    by (word s a) = let n = digit_starts c d in absurd (cc)
    by (digits d' a) = a
    by (sign k e) = let n = (sign_begins (c ∷ longer) k e).digit in absurd (cc)

longer_sign : (c : ℕ) (longer : List ℕ) → starts_name c ≡ false → is_ascii_digit c ≡ false → is_token (c ∷ longer) ≡ true
    → (k : ℕ) × (row_of signs (c ∷ longer) ≡ Some k)
longer_sign c longer s d t = by (kind_of_token c longer t)
  where
    by : IsKind c longer → (k : ℕ) × (row_of signs (c ∷ longer) ≡ Some k)
    by (word s' a) = absurd (cc)
    by (digits d' a) = absurd (cc)
    by (sign k e) = (k, e)

-- the longest run that stands at the front is the longest token there
run_longest : (p : ℕ → Bool) (c : ℕ) (run rest longer after : List ℕ) → ((xs : List ℕ) → is_token (c ∷ xs) ≡ true → list_all p (c ∷ xs) ≡ true)
    → Stops p rest → (c ∷ run) ++ rest ≡ longer ++ after → is_token longer ≡ true → length longer ≤ length (c ∷ run)
run_longest p c run rest [] after kind stops e t = omega arith
run_longest p c run rest (x ∷ longer) after kind stops e t =
    let same : c ≡ x = cc in
    let one : is_token (c ∷ longer) ≡ true = rw same t in
    let all : list_all p (x ∷ longer) ≡ true = rw (← same) (kind longer one) in
    within_run p (c ∷ run) rest (x ∷ longer) after e all stops

-- the run begins with the first character
starts_run : (p q : ℕ → Bool) (run rest : List ℕ) → ((c : ℕ) → p c ≡ true → q c ≡ true) → Starts p (run ++ rest) → Stops q rest
    → (c : ℕ) × (more : List ℕ) × (run ≡ c ∷ more) × (p c ≡ true)
starts_run p q [] [] implies starts stops = absurd starts
starts_run p q [] (r ∷ rest) implies starts stops = let t = implies r starts in absurd (cc)
starts_run p q (c ∷ run) rest implies starts stops = (c, run, refl, starts)

word_token : (c : ℕ) (more : List ℕ) → starts_name c ≡ true → list_all is_xid_continue (c ∷ more) ≡ true → is_token (c ∷ more) ≡ true
word_token c more s a = by (starts_name c) s (is_xid_continue c) (list_all is_xid_continue more) a
  where
    by : (b : Bool) → b ≡ true → (d m : Bool) → (d && m) ≡ true → ((b && m) || is_digits (c ∷ more)) || is_some (row_of signs (c ∷ more)) ≡ true
    by true e true true f = refl
    by true e true false f = absurd (cc)
    by true e false m f = absurd (cc)
    by false e d m f = absurd (cc)

not_digits : (c : ℕ) (more : List ℕ) → starts_name c ≡ true → is_digits (c ∷ more) ≡ false
not_digits c more s = by (is_ascii_digit c) refl
  where
    by : (b : Bool) → is_ascii_digit c ≡ b → (b && list_all is_ascii_digit more) ≡ false
    by false e = refl
    by true e = let n = digit_starts c e in absurd (cc)

-- a word at the front
pub word_begins : (bs : List ℕ) (at end : ℕ) (o : Option ℕ) (t : Spanned) → IsUtf8 bs → IsPlace bs at → Starts starts_name (chars (drop at bs))
    → PassesAll is_xid_continue bs at end → Stops is_xid_continue (chars (drop end bs)) → o ≡ row_of spellings (slice_range bs at end)
    → t.token ≡ mark_or (name (slice_range bs at end)) o → t.start ≡ at → t.end ≡ end → BeginsAt bs at t
word_begins bs at end o t u b starts all stops row token start stop =
    by (starts_run starts_name is_xid_continue all.run (chars (drop end bs)) start_continues (subst (Starts starts_name) all.splits starts) stops)
  where
    slice : slice_range bs at end ≡ encode_utf8_all all.run
    slice = bytes_between bs at end all.run u b all.place all.splits all.ends

    by : (c : ℕ) × (more : List ℕ) × (all.run ≡ c ∷ more) × (starts_name c ≡ true) → BeginsAt bs at t
    by (c, more, same, first) =
        let passes : list_all is_xid_continue (c ∷ more) ≡ true = ap (list_all is_xid_continue) (sym same) ∙ all.passes in
        let mine : o ≡ row_of spellings (c ∷ more) = row ∙ ap (row_of spellings) (slice ∙ ap encode_utf8_all same) ∙ row_of-encodes (c ∷ more) in
        let bytes : slice_range bs at end ≡ encode_utf8_all (c ∷ more) = slice ∙ ap encode_utf8_all same in
        front_begins bs at end (c ∷ more) t (all.splits ∙ ap (λ r. r ++ chars (drop end bs)) same) (all.ends ∙ ap (λ r. at + length (encode_utf8_all r)) same)
        (word_token c more first passes)
        (λ longer after e one. run_longest is_xid_continue c more (chars (drop end bs)) longer after (λ xs n. longer_word c xs first n) stops e one)
        (token ∙ ap (λ x. mark_or (name x) o) bytes ∙ ap (mark_or (name (encode_utf8_all (c ∷ more)))) mine
        ∙ ap (λ (b : Bool). mark_or (if b then number (decimal_value (c ∷ more)) else name (encode_utf8_all (c ∷ more))) (row_of spellings (c ∷ more))) (sym (not_digits c more first)))
        start stop

-- no spelling begins with a digit
digit_rows : list_all (λ r. not (is_ascii_digit (get_or r 0 0))) spellings ≡ true
digit_rows = refl

digit_row : (c : ℕ) (more : List ℕ) → is_ascii_digit c ≡ true → row_of spellings (c ∷ more) ≡ None
digit_row c more d =
    none_by (row_of spellings (c ∷ more)) (λ k e.
    clash (is_ascii_digit c) d (row_passes (λ r. not (is_ascii_digit (get_or r 0 0))) spellings (c ∷ more) k digit_rows (row_of-at spellings (c ∷ more) k e)))
  where
    clash : (b : Bool) → b ≡ true → not b ≡ true → ⊥
    clash true e f = cc
    clash false e f = cc

digits_token : (run : List ℕ) → is_digits run ≡ true → is_token run ≡ true
digits_token run d = by (is_word run) (is_digits run) (is_some (row_of signs run)) d
  where
    by : (a b e : Bool) → b ≡ true → ((a || b) || e) ≡ true
    by true b e d = refl
    by false true e d = refl
    by false false e d = absurd (cc)

-- a number at the front, of any size
number_begins : (bs : List ℕ) (at end value : ℕ) (t : Spanned) → Starts is_ascii_digit (chars (drop at bs)) → (all : CountsTo bs at end value)
    → Stops is_ascii_digit (chars (drop end bs)) → t.token ≡ number (decimal_value all.run) → t.start ≡ at → t.end ≡ end → BeginsAt bs at t
number_begins bs at end value t starts all stops token start stop =
    by (starts_run is_ascii_digit is_ascii_digit all.run (chars (drop end bs)) (λ c d. d) (subst (Starts is_ascii_digit) all.splits starts) stops)
  where
    by : (c : ℕ) × (more : List ℕ) × (all.run ≡ c ∷ more) × (is_ascii_digit c ≡ true) → BeginsAt bs at t
    by (c, more, same, first) =
        let passes : is_digits (c ∷ more) ≡ true = ap (list_all is_ascii_digit) (sym same) ∙ all.passes in
        let none : row_of spellings (c ∷ more) ≡ None = digit_row c more first in
        front_begins bs at end (c ∷ more) t (all.splits ∙ ap (λ r. r ++ chars (drop end bs)) same) (all.ends ∙ ap (λ r. at + length (encode_utf8_all r)) same)
        (digits_token (c ∷ more) passes)
        (λ longer after e one. run_longest is_ascii_digit c more (chars (drop end bs)) longer after (λ xs n. longer_digits c xs first n) stops e one)
        (token ∙ ap (λ r. number (decimal_value r)) same
        ∙ ap (λ (b : Bool). if b then number (decimal_value (c ∷ more)) else name (encode_utf8_all (c ∷ more))) (sym passes)
        ∙ ap (mark_or (if is_digits (c ∷ more) then number (decimal_value (c ∷ more)) else name (encode_utf8_all (c ∷ more)))) (sym none))
        start stop

pub number_small : (bs : List ℕ) (at end value : ℕ) (t : Spanned) → Starts is_ascii_digit (chars (drop at bs)) → CountsTo bs at end value
    → Stops is_ascii_digit (chars (drop end bs)) → value < 2 ^ 127 → t.token ≡ number value → t.start ≡ at → t.end ≡ end → BeginsAt bs at t
number_small bs at end value t starts all stops small token start stop =
    let n : value ≡ min (decimal_value all.run) (2 ^ 127) = all.counts in
    let same : value ≡ decimal_value all.run = omega arith in
    number_begins bs at end value t starts all stops (token ∙ ap number same) start stop

pub number_large : (bs : List ℕ) (at end value : ℕ) → Starts is_ascii_digit (chars (drop at bs)) → CountsTo bs at end value
    → Stops is_ascii_digit (chars (drop end bs)) → 2 ^ 127 ≤ value
    → (n : ℕ) × (2 ^ 127 ≤ n) × BeginsAt bs at (record { token = number n; start = at; end = end })
number_large bs at end value starts all stops large =
    let n : value ≡ min (decimal_value all.run) (2 ^ 127) = all.counts in
    (decimal_value all.run, omega arith, number_begins bs at end value (record { token = number (decimal_value all.run); start = at; end = end }) starts all stops refl refl refl)

-- each spelling is a token
spelled_tokens : list_all is_token spellings ≡ true
unfolding unicode_ident
spelled_tokens = refl

pub spelled_token : (w : List ℕ) (k : ℕ) → row_of spellings w ≡ Some k → is_token w ≡ true
spelled_token w k e = row_passes is_token spellings w k spelled_tokens (row_of-at spellings w k e)

-- the bytes of a sign at the front
sign_bytes : (bytes longer after : List ℕ) (k : ℕ) → IsUtf8 bytes → chars bytes ≡ longer ++ after → row_of signs longer ≡ Some k
    → (length longer ≤ length bytes) × (take (length longer) bytes ≡ longer)
sign_bytes bytes longer after k u e s =
    let ascii : encode_utf8_all longer ≡ longer = encodes-IsAscii longer (row_ascii longer k (sign_row longer k s)) in
    let whole : bytes ≡ longer ++ encode_utf8_all after =
    sym (encodes-chars bytes u) ∙ ap encode_utf8_all e ∙ encodes-append longer after ∙ ap (λ xs. xs ++ encode_utf8_all after) ascii in
    let size : length bytes ≡ length longer + length (encode_utf8_all after) = ap length whole ∙ length-append longer (encode_utf8_all after) in
    (omega arith, ap (take (length longer)) whole ∙ take_at longer (encode_utf8_all after) (length longer) refl)

-- a token at the front that is no word and no number is at most as long as the longest sign
sign_longest : (bytes : List ℕ) (size : ℕ) → IsUtf8 bytes → Stops starts_name (chars bytes) → Stops is_ascii_digit (chars bytes) → IsLongest bytes size
    → (longer after : List ℕ) → chars bytes ≡ longer ++ after → is_token longer ≡ true → length longer ≤ size
sign_longest bytes size u s d l [] after e t = omega arith
sign_longest bytes size u s d l (x ∷ longer) after e t =
    let no_name : starts_name x ≡ false = subst (Stops starts_name) e s in
    let no_digit : is_ascii_digit x ≡ false = subst (Stops is_ascii_digit) e d in
    let found : (k : ℕ) × (row_of signs (x ∷ longer) ≡ Some k) = longer_sign x longer no_name no_digit t in
    let bytes_of = sign_bytes bytes (x ∷ longer) after found.0 u e found.1 in
    l.longest (length (x ∷ longer)) found.0 bytes_of.0 (ap (row_of signs) bytes_of.1 ∙ found.1)

-- no sign, no word and no number
pub none_begins : (bs : List ℕ) (at : ℕ) → IsUtf8 bs → IsPlace bs at → Stops starts_name (chars (drop at bs)) → Stops is_ascii_digit (chars (drop at bs))
    → IsLongest (drop at bs) 0 → BeginsNone (chars (drop at bs))
none_begins bs at u b s d l [] after e t = empty_token t
none_begins bs at u b s d l (x ∷ text) after e t =
    let m : length (x ∷ text) ≤ 0 = sign_longest (drop at bs) 0 (IsUtf8-drop bs at u b.boundary) s d l (x ∷ text) after e t in
    omega arith

-- a sign at the front
pub sign_front : (bs : List ℕ) (at row size : ℕ) (t : Spanned) → IsUtf8 bs → IsPlace bs at → Stops starts_name (chars (drop at bs))
    → Stops is_ascii_digit (chars (drop at bs)) → SpellsMark (drop at bs) row size → t.token ≡ mark row → t.start ≡ at → t.end ≡ at + size → BeginsAt bs at t
sign_front bs at row size t u b s d m token start stop =
    front_begins bs at (at + size) w t splits ends (spelled_token w row m.spells) longest (token ∙ ap (mark_or other) (sym m.spells)) start stop
  where
    w : List ℕ
    w = take size (drop at bs)

    other : Token
    other = if is_digits (take size (drop at bs)) then number (decimal_value (take size (drop at bs))) else name (encode_utf8_all (take size (drop at bs)))

    ascii : IsAscii (take size (drop at bs))
    ascii = row_ascii (take size (drop at bs)) row m.spells

    size_is : length (take size (drop at bs)) ≡ size
    size_is = length-take-le size (drop at bs) m.longest.within

    splits : chars (drop at bs) ≡ take size (drop at bs) ++ chars (drop (at + size) bs)
    splits =
        ap chars (sym (take-append-drop size (drop at bs)))
        ∙ chars-append (take size (drop at bs)) (drop size (drop at bs)) (IsUtf8-from_ascii (take size (drop at bs)) ascii)
        ∙ ap (λ xs. xs ++ chars (drop size (drop at bs))) (chars-IsAscii (take size (drop at bs)) ascii)
        ∙ ap (λ xs. take size (drop at bs) ++ chars xs) (drop-drop size at bs)

    ends : at + size ≡ at + length (encode_utf8_all (take size (drop at bs)))
    ends = let e = ap length (encodes-IsAscii (take size (drop at bs)) ascii) in omega (arith, e, size_is)

    longest : (longer after : List ℕ) → take size (drop at bs) ++ chars (drop (at + size) bs) ≡ longer ++ after → is_token longer ≡ true
        → length longer ≤ length (take size (drop at bs))
    longest longer after e t =
        let n = sign_longest (drop at bs) size (IsUtf8-drop bs at u b.boundary) s d m.longest longer after (splits ∙ e) t in
        omega (arith, n, size_is)

sign_size_is : (bs : List ℕ) (row size : ℕ) → SpellsMark bs row size → 1 ≤ size
sign_size_is bs row size m =
    let n = row_length (take size bs) row m.spells in
    let l = length-take-le size bs m.longest.within in
    omega (arith, n.0, l)

-- the place behind a sign
pub sign_place : (bs : List ℕ) (at row size : ℕ) → IsUtf8 bs → SpellsMark (drop at bs) row size → IsPlace bs (at + size)
sign_place bs at row size u m = record { boundary = subst (IsCharBoundary bs) next (IsCharBoundary-after_ascii bs (at + (size - 1)) u within small) }
  where
    one : 1 ≤ size
    one = sign_size_is (drop at bs) row size m

    next : at + (size - 1) + 1 ≡ at + size
    next = omega (arith, one)

    within : at + (size - 1) < length bs
    within = let l = m.longest.within in let d = length-drop at bs in omega (arith, one, l, d)

    small : get_or bs (at + (size - 1)) 0 < 128
    small =
        let last : get_or (take size (drop at bs)) (size - 1) 0 ≡ get_or (drop at bs) (size - 1) 0 = get_or-take size (drop at bs) (size - 1) 0 (omega (arith, one)) in
        let byte : get_or (drop at bs) (size - 1) 0 ≡ get_or bs (at + (size - 1)) 0 = get_or-drop at bs (size - 1) 0 in
        let ascii : get_or (take size (drop at bs)) (size - 1) 0 < 128 = row_ascii (take size (drop at bs)) row m.spells (size - 1) in
        omega arith

-- a token takes at least one byte
pub begins_after : (bs : List ℕ) (at : ℕ) (t : Spanned) → BeginsAt bs at t → at < t.end
begins_after bs at t b = by b.text b.is_one b.end
  where
    by : (text : List ℕ) → is_token text ≡ true → t.end ≡ t.start + length (encode_utf8_all text) → at < t.end
    by [] one e = absurd (empty_token one)
    by (c ∷ text) one e =
        let l : length (c ∷ text) ≤ length (encode_utf8_all (c ∷ text)) = length-le-encodes (c ∷ text) in
        let s = b.start in
        omega (arith, l, e, s)
