-- How the parts of a theory text are found line by line.
use Rattle.std.proofs.Common.{◌≡◌, ℕ, zero, suc, ◌+◌, ◌-◌, ◌≤◌, ◌<◌, Bool, true, false, List, [], ◌∷◌, ◌++◌, length, take, drop, slice_index, Some, None, refl, sym, ap, subst, ◌∙◌, arith}
use Rattle.std.proofs.lemmas.Bool.{eq-eqb, eqb-true}
use Rattle.std.proofs.lemmas.List.{append_assoc, append-nil, map-append, length-append, length-drop, length-take-le, drop-drop, take_all, drop_all}
use Rattle.std.specs.List.{All}
use Rattle.std.proofs.lemmas.List.{length-take}
use Rattle.std.proofs.lemmas.List.Elements.{All-nil, All-cons, All-append}
use Rattle.std.proofs.Math.Seq.{take-add}
use denote.Ref.{Bor}
use Rattle.memchr.specs.Find.{is_byte, IsFirstByte}
use Rattle.bstr.specs.Text.{line_len}
use Rattle.bstr.proofs.lemmas.LineLemmas.{line_len-bounds, line_len-at, line_len-none, lines-step, lines-nil}
use Rattle.ev_theory_text.specs.Cut.{with_line, cut_lines, cut, begins_element, texts}

pub line_within : (bs : List ℕ) → line_len bs ≤ length bs
unfolding line_len
line_within [] = omega arith
line_within (b ∷ bs) = (line_len-bounds (b ∷ bs) (omega arith)).1

-- a line takes at least a byte
pub line_some : (bs : List ℕ) → 0 < length bs → 0 < line_len bs
line_some bs lt = (line_len-bounds bs lt).0

-- the first line ends with the first LF
pub line_found : (bs : List ℕ) (k : ℕ) → IsFirstByte (is_byte 10) bs (Some k) → line_len bs ≡ k + 1
line_found bs k (first, here) =
    line_len-at bs k first.high (eqb-true (slice_index bs k) 10 here) (λ j lt is. first.before j (omega arith) lt (eq-eqb (slice_index bs j) 10 is))

-- or takes all
pub line_missing : (bs : List ℕ) → IsFirstByte (is_byte 10) bs None → line_len bs ≡ length bs
line_missing bs nowhere = line_len-none bs (λ j lt is. nowhere j (omega arith) lt (eq-eqb (slice_index bs j) 10 is))

pub cut_empty : cut [] ≡ record { front = []; parts = [] }
cut_empty = ap cut_lines lines-nil

-- a cut text by its first line
cut_step : (bs : List ℕ) → 0 < length bs
    → cut bs ≡ with_line (begins_element (take (line_len bs) bs)) (take (line_len bs) bs) (cut (drop (line_len bs) bs))
cut_step bs lt = ap cut_lines (lines-step bs lt)

pub front_begins : (bs : List ℕ) → 0 < length bs → begins_element (take (line_len bs) bs) ≡ true → length (cut bs).front ≡ 0
front_begins bs lt e =
    ap (λ c. length c.front) (cut_step bs lt ∙ ap (λ b. with_line b (take (line_len bs) bs) (cut (drop (line_len bs) bs))) e)

pub front_goes_on : (bs : List ℕ) → 0 < length bs → begins_element (take (line_len bs) bs) ≡ false
    → length (cut bs).front ≡ line_len bs + length (cut (drop (line_len bs) bs)).front
front_goes_on bs lt e =
    let n = line_len bs in
    let step = ap (λ c. length c.front) (cut_step bs lt ∙ ap (λ b. with_line b (take n bs) (cut (drop n bs))) e) in
    let joined = length-append (take n bs) (cut (drop n bs)).front in
    let first = length-take-le n bs (line_within bs) in
    omega (arith, step, joined, first)

-- the text is its front and what is cut into parts
pub record Splits (bs : List ℕ) (k : ℕ) : Type 0 where
  pub front : (cut bs).front ≡ take k bs
  pub rest : (cut (drop k bs)).front ≡ []
  pub parts : (cut (drop k bs)).parts ≡ (cut bs).parts
  pub within : k ≤ length bs

splits_by : (bs : List ℕ) → 0 < length bs → (b : Bool) → begins_element (take (line_len bs) bs) ≡ b
    → Splits (drop (line_len bs) bs) (length (cut (drop (line_len bs) bs)).front)
    → Splits bs (length (cut bs).front)
splits_by bs lt true e later =
    let n = line_len bs in
    let is = cut_step bs lt ∙ ap (λ b. with_line b (take n bs) (cut (drop n bs))) e in
    let none = ap (λ c. c.front) is in
    subst (Splits bs) (sym (front_begins bs lt e)) (record { front = none; rest = none; parts = refl; within = omega arith })
splits_by bs lt false e later =
    let n = line_len bs in
    let k = length (cut (drop n bs)).front in
    let is = cut_step bs lt ∙ ap (λ b. with_line b (take n bs) (cut (drop n bs))) e in
    let dropped = drop-drop k n bs in
    subst (Splits bs) (sym (front_goes_on bs lt e)) (record {
      front = ap (λ c. c.front) is ∙ ap (λ t. take n bs ++ t) later.front ∙ sym (take-add n k bs);
      rest = ap (λ t. (cut t).front) (sym dropped) ∙ later.rest;
      parts = ap (λ t. (cut t).parts) (sym dropped) ∙ later.parts ∙ sym (ap (λ c. c.parts) is);
      within = omega (arith, later.within, length-drop n bs, line_within bs);
    })

splits_from : (fuel : ℕ) (bs : List ℕ) → length bs ≤ fuel → Splits bs (length (cut bs).front)
splits_from fuel [] le =
    let empty = ap (λ c. c.front) cut_empty in
    subst (Splits []) (sym (ap length empty)) (record { front = empty; rest = empty; parts = refl; within = omega arith })
splits_from zero (b ∷ bs) le = absurd (omega (arith, le))
splits_from (suc fuel) (b ∷ bs) le =
    let n = line_len (b ∷ bs) in
    let some = line_some (b ∷ bs) (omega arith) in
    let shorter : length (drop n (b ∷ bs)) ≤ fuel = omega (arith, le, some, length-drop n (b ∷ bs)) in
    splits_by (b ∷ bs) (omega arith) (begins_element (take n (b ∷ bs))) refl (splits_from fuel (drop n (b ∷ bs)) shorter)

pub splits : (bs : List ℕ) → Splits bs (length (cut bs).front)
splits bs = splits_from (length bs) bs (omega arith)

-- where a text begins with an element, its first part and the others
pub record FirstPart (bs : List ℕ) (n k : ℕ) : Type 0 where
  pub parts : (cut bs).parts ≡ take (n + k) bs ∷ (cut (drop (n + k) bs)).parts
  pub rest : (cut (drop (n + k) bs)).front ≡ []
  pub within : n + k ≤ length bs

first_by : (bs : List ℕ) → 0 < length bs → (cut bs).front ≡ [] → (b : Bool) → begins_element (take (line_len bs) bs) ≡ b
    → Splits (drop (line_len bs) bs) (length (cut (drop (line_len bs) bs)).front)
    → FirstPart bs (line_len bs) (length (cut (drop (line_len bs) bs)).front)
first_by bs lt none false e later =
    let empty = ap length none in
    absurd (omega (arith, empty, front_goes_on bs lt e, line_some bs lt))
first_by bs lt none true e later =
    let n = line_len bs in
    let k = length (cut (drop n bs)).front in
    let is = cut_step bs lt ∙ ap (λ b. with_line b (take n bs) (cut (drop n bs))) e in
    let dropped = drop-drop k n bs in
    record {
      parts = ap (λ c. c.parts) is
          ∙ ap (λ t. (take n bs ++ t) ∷ (cut (drop n bs)).parts) later.front
          ∙ ap (λ t. t ∷ (cut (drop n bs)).parts) (sym (take-add n k bs))
          ∙ ap (λ ps. take (n + k) bs ∷ ps) (sym later.parts ∙ ap (λ t. (cut t).parts) dropped);
      rest = ap (λ t. (cut t).front) (sym dropped) ∙ later.rest;
      within = omega (arith, later.within, length-drop n bs, line_within bs);
    }

pub first_part : (bs : List ℕ) → 0 < length bs → (cut bs).front ≡ []
    → FirstPart bs (line_len bs) (length (cut (drop (line_len bs) bs)).front)
first_part bs lt none = first_by bs lt none (begins_element (take (line_len bs) bs)) refl (splits (drop (line_len bs) bs))

-- the rest of a text from a place on, as a slice of it
pub rest_of : (text : List ℕ) (at : ℕ) → take (length text - at) (drop at text) ≡ drop at text
rest_of text at = take_all (length text - at) (drop at text) (omega (arith, length-drop at text))

-- how the search for the end of the front goes on, and how it ends
module _ (text : List ℕ) (at n : ℕ) (rest : List ℕ) (is : rest ≡ drop at text) (within : at < length text) (line : n ≡ line_len rest) where
  rest_some : 0 < length rest
  rest_some = omega (arith, ap length is, length-drop at text, within)

  pub shorter : (length text - (at + n) < length text - at) × (at + n ≤ length text)
  shorter = (
    omega (arith, line, line_some rest rest_some, within),
    omega (arith, line, line_within rest, ap length is, length-drop at text, within),
  )

  pub goes_on : begins_element (take n rest) ≡ false → length (cut text).front ≡ at + length (cut (drop at text)).front
      → length (cut text).front ≡ at + n + length (cut (drop (at + n) text)).front
  goes_on e before =
      let test = ap (λ k. begins_element (take k rest)) (sym line) ∙ e in
      let step = front_goes_on rest rest_some test in
      let here = ap (λ t. length (cut t).front) is in
      let next = ap (λ t. length (cut t).front) (ap (λ k. drop k rest) (sym line) ∙ ap (drop n) is ∙ drop-drop n at text) in
      omega (arith, before, step, here, next, line)

  pub stops : begins_element (take n rest) ≡ true → length (cut text).front ≡ at + length (cut (drop at text)).front → at ≡ length (cut text).front
  stops e before =
      let test = ap (λ k. begins_element (take k rest)) (sym line) ∙ e in
      omega (arith, before, front_begins rest rest_some test, ap (λ t. length (cut t).front) is)

pub ends : (text : List ℕ) (at : ℕ) → length text ≤ at → length (cut text).front ≡ at + length (cut (drop at text)).front → at ≡ length (cut text).front
ends text at le before =
    omega (arith, before, ap (λ t. length (cut t).front) (drop_all at text le), ap (λ c. length c.front) cut_empty)

pub front_within : (text : List ℕ) → length (cut text).front ≤ length text
front_within text = (splits text).within

-- how the parts are found one after another
module _ (text : List ℕ) (at n k : ℕ) (rest : List ℕ) (is : rest ≡ drop at text) (within : at < length text) (line : n ≡ line_len rest)
    (after : k ≡ length (cut (take (length rest - n) (drop n rest))).front) (none : (cut (drop at text)).front ≡ []) where
  part_here : FirstPart rest n k
  part_here =
      let some : 0 < length rest = omega (arith, ap length is, length-drop at text, within) in
      let first = first_part rest some (ap (λ t. (cut t).front) is ∙ none) in
      let lined = subst (λ m. FirstPart rest m (length (cut (drop m rest)).front)) (sym line) first in
      subst (FirstPart rest n) (sym (after ∙ ap (λ t. length (cut t).front) (rest_of rest n))) lined

  behind : drop (n + k) rest ≡ drop (at + (n + k)) text
  behind = ap (drop (n + k)) is ∙ drop-drop (n + k) at text

  pub part_smaller : length text - (at + (n + k)) < length text - at
  part_smaller =
      let some = line_some rest (omega (arith, ap length is, length-drop at text, within)) in
      omega (arith, some, line, within)

  pub part_within : at + (n + k) ≤ length text
  part_within = omega (arith, part_here.within, ap length is, length-drop at text, within)

  pub part_ends : (cut (drop (at + (n + k)) text)).front ≡ []
  part_ends = ap (λ t. (cut t).front) (sym behind) ∙ part_here.rest

  pub part_found : (found more : List (Bor (List ℕ))) (p : Bor (List ℕ)) → more ≡ found ++ p ∷ [] → p.now ≡ take (n + k) rest
      → texts found ++ (cut (drop at text)).parts ≡ (cut text).parts
      → texts more ++ (cut (drop (at + (n + k)) text)).parts ≡ (cut text).parts
  part_found found more p pushed is_part before =
      let later = (cut (drop (at + (n + k)) text)).parts in
      let mapped : texts more ≡ texts found ++ p.now ∷ [] = ap texts pushed ∙ map-append (λ (q : Bor (List ℕ)). q.now) found (p ∷ []) in
      let here : (cut (drop at text)).parts ≡ p.now ∷ later =
      ap (λ t. (cut t).parts) (sym is) ∙ part_here.parts ∙ ap (λ t. t ∷ (cut (drop (n + k) rest)).parts) (sym is_part)
      ∙ ap (λ t. p.now ∷ (cut t).parts) behind in
      ap (λ ts. ts ++ later) mapped ∙ append_assoc (texts found) (p.now ∷ []) later ∙ ap (λ ts. texts found ++ ts) (sym here) ∙ before

pub all_found : (text : List ℕ) (at : ℕ) (found : List (Bor (List ℕ))) → length text ≤ at
    → texts found ++ (cut (drop at text)).parts ≡ (cut text).parts → texts found ≡ (cut text).parts
all_found text at found le before =
    let empty : (cut (drop at text)).parts ≡ [] = ap (λ t. (cut t).parts) (drop_all at text le) ∙ ap (λ c. c.parts) cut_empty in
    sym (append-nil (texts found)) ∙ ap (λ ts. texts found ++ ts) (sym empty) ∙ before

-- what stands before the first element, by its length
module _ (text : List ℕ) (k : ℕ) (length_is : k ≡ length (cut text).front) where
  pub front_taken : take k text ≡ (cut text).front
  front_taken = ap (λ n. take n text) length_is ∙ sym (splits text).front

  pub behind_front : (cut (drop k text)).front ≡ []
  behind_front = ap (λ n. (cut (drop n text)).front) length_is ∙ (splits text).rest

  pub parts_behind : (cut (drop k text)).parts ≡ (cut text).parts
  parts_behind = ap (λ n. (cut (drop n text)).parts) length_is ∙ (splits text).parts

-- no part is longer than the text
abbrev pub AreWithin : ℕ → List (Bor (List ℕ)) → Type 0
AreWithin n parts = All (λ (p : Bor (List ℕ)). length p.now ≤ n) parts

pub none_within : (n : ℕ) (parts : List (Bor (List ℕ))) → parts ≡ [] → AreWithin n parts
none_within n parts e = subst (AreWithin n) (sym e) (All-nil (λ (p : Bor (List ℕ)). length p.now ≤ n))

pub more_within : (text : List ℕ) (at k : ℕ) (rest : List ℕ) → rest ≡ drop at text → (found more : List (Bor (List ℕ))) (p : Bor (List ℕ)) → more ≡ found ++ p ∷ [] → p.now ≡ take k rest
    → AreWithin (length text) found → AreWithin (length text) more
more_within text at k rest is found more p pushed is_part h =
    subst (AreWithin (length text)) (sym pushed)
    (All-append (λ (q : Bor (List ℕ)). length q.now ≤ length text) found (p ∷ []) h
    (All-cons (λ (q : Bor (List ℕ)). length q.now ≤ length text) p []
    (omega (arith, ap length is_part, length-take k rest, ap length is, length-drop at text)) (All-nil (λ (q : Bor (List ℕ)). length q.now ≤ length text))))
