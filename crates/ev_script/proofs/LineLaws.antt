-- Lines, and the blanks before and after them.
use Rattle.std.proofs.Common.{◌≡◌, ◌+◌, ◌-◌, ◌<◌, ◌≤◌, ℕ, zero, suc, Bool, true, false, List, [], ◌∷◌, ◌++◌, length, take, drop, get_or, slice_index, Some, None, refl, sym, ap, ◌∙◌, arith}
use Rattle.std.specs.Prelude.{if◌then◌else◌, ◌&&◌}
use Rattle.std.specs.List.{concat}
use Rattle.std.proofs.Math.Seq.{take-length, take-suc}
use Rattle.std.proofs.lemmas.Bool.{eq-eqb, eqb-true}
use Rattle.std.proofs.lemmas.List.{at_drop_more, drop_all, length-drop, take_all, take-append-drop}
use Rattle.memchr.specs.Find.{is_byte, IsFirstByte}
use Rattle.bstr.specs.Text.{line_len, lines_of}
use Rattle.bstr.proofs.lemmas.LineLemmas.{line_len-bounds, line_len-at, line_len-none, lines-step, lines-nil}
use Rattle.ev_syntax.specs.Chars.{is_blank, are_blanks}
use Rattle.ev_script.specs.Scripts.{drop_last_blanks, skip_blanks}

-- blanks at the front
pub skips_blank : (bs : List ℕ) (at : ℕ) → at < length bs → is_blank (get_or bs at 0) ≡ true → skip_blanks (drop at bs) ≡ skip_blanks (drop (at + 1) bs)
skips_blank bs at lt b = at_drop_more skip_blanks bs at 0 lt ∙ rw b refl

pub stops_at : (bs : List ℕ) (at : ℕ) → at < length bs → is_blank (get_or bs at 0) ≡ false → skip_blanks (drop at bs) ≡ drop at bs
stops_at bs at lt b =
    at_drop_more skip_blanks bs at 0 lt ∙ (let e : skip_blanks (get_or bs at 0 ∷ drop (at + 1) bs) ≡ get_or bs at 0 ∷ drop (at + 1) bs = rw b refl in e)
    ∙ sym (at_drop_more (λ xs. xs) bs at 0 lt)

pub stops_at_end : (bs : List ℕ) (at : ℕ) → length bs ≤ at → skip_blanks (drop at bs) ≡ drop at bs
stops_at_end bs at le = ap skip_blanks (drop_all at bs le) ∙ sym (drop_all at bs le)

-- blanks at the end
are_blanks-last : (xs : List ℕ) (c : ℕ) → is_blank c ≡ true → are_blanks (xs ++ c ∷ []) ≡ are_blanks xs
are_blanks-last [] c h = rw h refl
are_blanks-last (x ∷ xs) c h = ap (λ b. is_blank x && b) (are_blanks-last xs c h)

are_blanks-not : (xs : List ℕ) (c : ℕ) → is_blank c ≡ false → are_blanks (xs ++ c ∷ []) ≡ false
are_blanks-not [] c h = rw h refl
are_blanks-not (x ∷ xs) c h = rw (are_blanks-not xs c h) (both (is_blank x))
  where
    both : (b : Bool) → (b && false) ≡ false
    both true = refl
    both false = refl

drop_last_blanks-blank : (xs : List ℕ) (c : ℕ) → is_blank c ≡ true → drop_last_blanks (xs ++ c ∷ []) ≡ drop_last_blanks xs
drop_last_blanks-blank [] c h = rw h refl
drop_last_blanks-blank (x ∷ xs) c h = rw (are_blanks-last xs c h, drop_last_blanks-blank xs c h) refl

drop_last_blanks-full : (xs : List ℕ) (c : ℕ) → is_blank c ≡ false → drop_last_blanks (xs ++ c ∷ []) ≡ xs ++ c ∷ []
drop_last_blanks-full [] c h = rw h refl
drop_last_blanks-full (x ∷ xs) c h = rw (are_blanks-not xs c h, drop_last_blanks-full xs c h) (otherwise (is_blank x) (x ∷ (xs ++ c ∷ [])))
  where
    otherwise : (b : Bool) (ys : List ℕ) → (if b && false then [] else ys) ≡ ys
    otherwise true ys = refl
    otherwise false ys = refl

last_split : (xs : List ℕ) → 1 ≤ length xs → xs ≡ take (length xs - 1) xs ++ get_or xs (length xs - 1) 0 ∷ []
last_split xs h =
    let lt : length xs - 1 < length xs = omega arith in
    let e : suc (length xs - 1) ≡ length xs = omega arith in
    sym (take-length xs) ∙ ap (λ n. take n xs) (sym e) ∙ take-suc xs (length xs - 1) 0 lt

pub blank_end : (xs : List ℕ) → 1 ≤ length xs → is_blank (get_or xs (length xs - 1) 0) ≡ true → drop_last_blanks (take (length xs - 1) xs) ≡ drop_last_blanks xs
blank_end xs h b =
    sym (drop_last_blanks-blank (take (length xs - 1) xs) (get_or xs (length xs - 1) 0) b) ∙ ap drop_last_blanks (sym (last_split xs h))

pub full_end : (xs : List ℕ) → 1 ≤ length xs → is_blank (get_or xs (length xs - 1) 0) ≡ false → drop_last_blanks xs ≡ xs
full_end xs h b =
    ap drop_last_blanks (last_split xs h) ∙ drop_last_blanks-full (take (length xs - 1) xs) (get_or xs (length xs - 1) 0) b ∙ sym (last_split xs h)

pub ruleset last_blanks = (blank_end, full_end)

-- how long the first line is
pub line_within : (bs : List ℕ) → line_len bs ≤ length bs
unfolding line_len
line_within [] = omega arith
line_within (b ∷ bs) = (line_len-bounds (b ∷ bs) (omega arith)).1

pub line_some : (bs : List ℕ) → 0 < length bs → 0 < line_len bs
line_some bs lt = (line_len-bounds bs lt).0

-- it ends with the first LF, or takes all
pub line_found : (bs : List ℕ) (k : ℕ) → IsFirstByte (is_byte 10) bs (Some k) → line_len bs ≡ k + 1
line_found bs k (first, here) =
    line_len-at bs k first.high (eqb-true (slice_index bs k) 10 here) (λ j lt is. first.before j (omega arith) lt (eq-eqb (slice_index bs j) 10 is))

pub line_missing : (bs : List ℕ) → IsFirstByte (is_byte 10) bs None → line_len bs ≡ length bs
line_missing bs nowhere = line_len-none bs (λ j lt is. nowhere j (omega arith) lt (eq-eqb (slice_index bs j) 10 is))

-- the rest of a text from a place on, as a slice of it
pub rest_of : (text : List ℕ) (at : ℕ) → take (length text - at) (drop at text) ≡ drop at text
rest_of text at = take_all (length text - at) (drop at text) (omega (arith, length-drop at text))

-- the lines of a text are the text
joined_by : (fuel : ℕ) (bs : List ℕ) → length bs ≤ fuel → concat (lines_of bs) ≡ bs
joined_by fuel [] le = ap concat lines-nil
joined_by zero (b ∷ bs) le = absurd (omega (arith, le))
joined_by (suc fuel) (b ∷ bs) le =
    let n = line_len (b ∷ bs) in
    let some = line_some (b ∷ bs) (omega arith) in
    let shorter : length (drop n (b ∷ bs)) ≤ fuel = omega (arith, le, some, length-drop n (b ∷ bs)) in
    ap concat (lines-step (b ∷ bs) (omega arith)) ∙ ap (λ t. take n (b ∷ bs) ++ t) (joined_by fuel (drop n (b ∷ bs)) shorter)
    ∙ take-append-drop n (b ∷ bs)

pub joined : (bs : List ℕ) → concat (lines_of bs) ≡ bs
joined bs = joined_by (length bs) bs (omega arith)
