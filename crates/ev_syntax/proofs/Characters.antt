-- A step over one character of a text.
use Rattle.std.proofs.Common.{◌≡◌, ℕ, ◌+◌, ◌<◌, ◌≤◌, Bool, true, false, ◌&&◌, List, [], ◌∷◌, ◌++◌, length, drop, get_or, refl, ap, sym, ◌∙◌, subst, arith, ◌⊎◌, inl, inr, ◌-◌}
use Rattle.std.specs.Prelude.{encode_utf8, encode_utf8_all}
use Rattle.std.specs.Str.{chars, IsUtf8}
use Rattle.std.specs.Char.{len_utf8}
use Rattle.std.specs.List.{list_all}
use Rattle.std.proofs.lemmas.Str.{IsUtf8-drop, drop_past_char, chars_past_char, IsCharBoundary-past_char, encode_ascii, IsCharBoundary-after_ascii, length-encode, chars-nil, IsCharBoundary-start, byte_from_char, chars_from_encodes}
use Rattle.std.proofs.lemmas.List.{drop_more, drop_all, length-append, length-drop, get_or-drop, append_assoc}
use Rattle.ev_syntax.specs.inner.Places.{IsPlace, PassesOne, PassesAll, Stops}

pub char_here : (bs rest : List ℕ) (at c : ℕ) → IsUtf8 bs → IsPlace bs at → drop at bs ≡ encode_utf8 c ++ rest
    → chars (drop at bs) ≡ c ∷ chars (drop (at + len_utf8 c) bs)
char_here bs rest at c u b e =
    chars_past_char (drop at bs) rest c (IsUtf8-drop bs at u b.boundary) e ∙ ap (λ xs. c ∷ chars xs) (sym (drop_past_char bs rest at c e))

pub char_next : (bs rest : List ℕ) (at c : ℕ) → IsUtf8 bs → IsPlace bs at → drop at bs ≡ encode_utf8 c ++ rest → IsPlace bs (at + len_utf8 c)
char_next bs rest at c u b e = record { boundary = IsCharBoundary-past_char bs rest at c b.boundary.0 (IsUtf8-drop bs at u b.boundary) e }

pub first_place : (bs : List ℕ) → IsUtf8 bs → IsPlace bs 0
first_place bs u = record { boundary = IsCharBoundary-start bs u }

-- an ASCII byte is a character
pub ascii_here : (bs : List ℕ) (at : ℕ) → IsUtf8 bs → IsPlace bs at → at < length bs → get_or bs at 0 < 128
    → chars (drop at bs) ≡ get_or bs at 0 ∷ chars (drop (at + 1) bs)
ascii_here bs at u b within small =
    let split : drop at bs ≡ encode_utf8 (get_or bs at 0) ++ drop (at + 1) bs =
    drop_more bs at 0 within ∙ ap (λ xs. xs ++ drop (at + 1) bs) (sym (encode_ascii (get_or bs at 0) small)) in
    chars_past_char (drop at bs) (drop (at + 1) bs) (get_or bs at 0) (IsUtf8-drop bs at u b.boundary) split

pub ascii_next : (bs : List ℕ) (at : ℕ) → IsUtf8 bs → at < length bs → get_or bs at 0 < 128 → IsPlace bs (at + 1)
ascii_next bs at u within small = record { boundary = IsCharBoundary-after_ascii bs at u within small }

pub ascii_passes : (p : ℕ → Bool) (bs : List ℕ) (at : ℕ) → IsUtf8 bs → IsPlace bs at → at < length bs → get_or bs at 0 < 128
    → p (get_or bs at 0) ≡ true → PassesOne p bs at (at + 1)
ascii_passes p bs at u b within small t = record {
  char = get_or bs at 0;
  passes = t;
  splits = ascii_here bs at u b within small;
  ends = ap (λ xs. at + length xs) (sym (encode_ascii (get_or bs at 0) small));
  place = ascii_next bs at u within small;
}

pub ascii_stops : (p : ℕ → Bool) (bs : List ℕ) (at : ℕ) → IsUtf8 bs → IsPlace bs at → at < length bs → get_or bs at 0 < 128
    → p (get_or bs at 0) ≡ false → Stops p (chars (drop at bs))
ascii_stops p bs at u b within small f = subst (Stops p) (sym (ascii_here bs at u b within small)) f

pub end_stops : (p : ℕ → Bool) (bs : List ℕ) (at : ℕ) → length bs ≤ at → Stops p (chars (drop at bs))
end_stops p bs at h = subst (Stops p) (sym (ap chars (drop_all at bs h) ∙ chars-nil)) tt

pub char_passes : (p : ℕ → Bool) (bs : List ℕ) (at c : ℕ) → chars (drop at bs) ≡ c ∷ chars (drop (at + len_utf8 c) bs)
    → IsPlace bs (at + len_utf8 c) → p c ≡ true → PassesOne p bs at (at + len_utf8 c)
char_passes p bs at c here next t = record {
  char = c;
  passes = t;
  splits = here;
  ends = ap (λ n. at + n) (sym (length-encode c));
  place = next;
}

pub char_stops : (p : ℕ → Bool) (bs : List ℕ) (at c : ℕ) → chars (drop at bs) ≡ c ∷ chars (drop (at + len_utf8 c) bs) → p c ≡ false
    → Stops p (chars (drop at bs))
char_stops p bs at c here f = subst (Stops p) (sym here) f

-- a byte that fails a test that no character outside ASCII passes
pub byte_stops : (p : ℕ → Bool) (bs : List ℕ) (at : ℕ) → ((c : ℕ) → 128 ≤ c → p c ≡ false) → IsUtf8 bs → IsPlace bs at → at < length bs
    → p (get_or bs at 0) ≡ false → Stops p (chars (drop at bs))
byte_stops p bs at outside u b within f = by (IsUtf8-drop bs at u b.boundary)
  where
    small_or_not : (c : ℕ) → (c < 128) ⊎ (128 ≤ c)
    small_or_not c = grind arith

    first : get_or (drop at bs) 0 0 ≡ get_or bs at 0
    first = get_or-drop at bs 0 0 ∙ (let n : at + 0 ≡ at = omega arith in ap (λ (i : ℕ). get_or bs i 0) n)

    fails : (c : ℕ) (rest : List ℕ) → drop at bs ≡ encode_utf8 c ++ rest → (c < 128) ⊎ (128 ≤ c) → p c ≡ false
    fails c rest e (inl small) =
        let same : get_or bs at 0 ≡ c = sym first ∙ byte_from_char (drop at bs) rest c e small in
        rw (← same) f
    fails c rest e (inr large) = outside c large

    empty : drop at bs ≡ [] → ⊥
    empty e =
        let l : length (drop at bs) ≡ 0 = ap length e in
        let d : length (drop at bs) ≡ length bs - at = length-drop at bs in
        omega arith

    at_chars : (cs : List ℕ) → encode_utf8_all cs ≡ drop at bs → Stops p cs
    at_chars [] e = tt
    at_chars (c ∷ cs) e = fails c (encode_utf8_all cs) (sym e) (small_or_not c)

    by : IsUtf8 (drop at bs) → Stops p (chars (drop at bs))
    by text = subst (Stops p) (chars_from_encodes text.0 (drop at bs) text text.1.1) (at_chars text.0 text.1.1)

-- the bytes of characters with one more
pub encodes-push : (run : List ℕ) (c : ℕ) → length (encode_utf8_all (run ++ c ∷ [])) ≡ length (encode_utf8_all run) + length (encode_utf8 c)
encodes-push [] c = length-append (encode_utf8 c) [] ∙ (let n : length (encode_utf8 c) + 0 ≡ 0 + length (encode_utf8 c) = omega arith in n)
encodes-push (x ∷ run) c =
    let a = length-append (encode_utf8 x) (encode_utf8_all (run ++ c ∷ [])) in
    let b = length-append (encode_utf8 x) (encode_utf8_all run) in
    let d = encodes-push run c in
    omega (arith, a, b, d)

pub all-push : (p : ℕ → Bool) (run : List ℕ) (c : ℕ) → list_all p run ≡ true → p c ≡ true → list_all p (run ++ c ∷ []) ≡ true
all-push p [] c a t = rw t refl
all-push p (x ∷ run) c a t = by (p x) a (λ r. all-push p run c r t)
  where
    by : (b : Bool) → (b && list_all p run) ≡ true → (list_all p run ≡ true → list_all p (run ++ c ∷ []) ≡ true) → (b && list_all p (run ++ c ∷ [])) ≡ true
    by true a again = again a
    by false a again = a

pub none_passed : (p : ℕ → Bool) (bs : List ℕ) (at : ℕ) → IsPlace bs at → PassesAll p bs at at
none_passed p bs at b = record { run = []; passes = refl; splits = refl; ends = omega arith; place = b }

pub one_passed : (p : ℕ → Bool) (bs : List ℕ) (from at to : ℕ) → PassesAll p bs from at → PassesOne p bs at to → PassesAll p bs from to
one_passed p bs from at to all one = record {
  run = all.run ++ one.char ∷ [];
  passes = all-push p all.run one.char all.passes one.passes;
  splits = all.splits ∙ ap (λ xs. all.run ++ xs) one.splits ∙ sym (append_assoc all.run (one.char ∷ []) (chars (drop to bs)));
  ends = let a = all.ends in let b = one.ends in let d = encodes-push all.run one.char in omega (arith, a, b, d);
  place = one.place;
}

pub ruleset steps = (ascii_passes, ascii_stops, end_stops, char_passes, char_stops)

pub ruleset passing = (none_passed, one_passed)
