-- Blanks at the end of a text.
use Rattle.std.proofs.Common.{◌≡◌, ◌<◌, ◌≤◌, ◌-◌, ℕ, suc, length, take, get_or, arith, Bool, true, false, List, [], ◌∷◌, ◌++◌, refl, ap, sym, ◌∙◌}
use Rattle.std.specs.Prelude.{if◌then◌else◌, ◌&&◌}
use Rattle.std.proofs.Math.Seq.{take-length, take-suc}
use Rattle.theory.specs.Words.{is_blank, are_blanks, drop_last_blanks}

are_blanks-last : (xs : List ℕ) (c : ℕ) → is_blank c ≡ true → are_blanks (xs ++ c ∷ []) ≡ are_blanks xs
are_blanks-last [] c h = rw h refl
are_blanks-last (x ∷ xs) c h = ap (λ b. is_blank x && b) (are_blanks-last xs c h)

are_blanks-not : (xs : List ℕ) (c : ℕ) → is_blank c ≡ false → are_blanks (xs ++ c ∷ []) ≡ false
are_blanks-not [] c h = rw h refl
are_blanks-not (x ∷ xs) c h = rw (are_blanks-not xs c h) (both (is_blank x))
  where
    both : (b : Bool) → (b && false) ≡ false
    both true = refl
    both false = refl

pub drop_last_blanks-blank : (xs : List ℕ) (c : ℕ) → is_blank c ≡ true → drop_last_blanks (xs ++ c ∷ []) ≡ drop_last_blanks xs
drop_last_blanks-blank [] c h = rw h refl
drop_last_blanks-blank (x ∷ xs) c h = rw (are_blanks-last xs c h, drop_last_blanks-blank xs c h) refl

pub drop_last_blanks-full : (xs : List ℕ) (c : ℕ) → is_blank c ≡ false → drop_last_blanks (xs ++ c ∷ []) ≡ xs ++ c ∷ []
drop_last_blanks-full [] c h = rw h refl
drop_last_blanks-full (x ∷ xs) c h = rw (are_blanks-not xs c h, drop_last_blanks-full xs c h) (otherwise (is_blank x) (x ∷ (xs ++ c ∷ [])))
  where
    otherwise : (b : Bool) (ys : List ℕ) → (if b && false then [] else ys) ≡ ys
    otherwise true ys = refl
    otherwise false ys = refl

last_split : (xs : List ℕ) → 1 ≤ length xs → xs ≡ take (length xs - 1) xs ++ get_or xs (length xs - 1) 0 ∷ []
last_split xs h =
    let lt : length xs - 1 < length xs = omega arith in
    let e : suc (length xs - 1) ≡ length xs = omega arith in
    sym (take-length xs) ∙ ap (λ n. take n xs) (sym e) ∙ take-suc xs (length xs - 1) 0 lt

pub blank_end : (xs : List ℕ) → 1 ≤ length xs → is_blank (get_or xs (length xs - 1) 0) ≡ true → drop_last_blanks (take (length xs - 1) xs) ≡ drop_last_blanks xs
blank_end xs h b =
    sym (drop_last_blanks-blank (take (length xs - 1) xs) (get_or xs (length xs - 1) 0) b) ∙ ap drop_last_blanks (sym (last_split xs h))

pub full_end : (xs : List ℕ) → 1 ≤ length xs → is_blank (get_or xs (length xs - 1) 0) ≡ false → drop_last_blanks xs ≡ xs
full_end xs h b =
    ap drop_last_blanks (last_split xs h) ∙ drop_last_blanks-full (take (length xs - 1) xs) (get_or xs (length xs - 1) 0) b ∙ sym (last_split xs h)

pub ruleset last_blanks = (blank_end, full_end)
