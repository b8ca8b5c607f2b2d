-- When bytes are a name.
use Rattle.std.proofs.Common.{◌≡◌, ℕ, zero, suc, ◌+◌, ◌-◌, ◌<◌, ◌≤◌, Bool, true, false, ◌&&◌, not, List, [], ◌∷◌, ◌++◌, length, take, drop, get_or, refl, ap, sym, ◌∙◌, subst, arith, ◌⊎◌, inl, inr}
use Rattle.std.specs.Prelude.{Option, Some, None, is_some, encode_utf8_all, slice_get, ◌==◌}
use Rattle.std.specs.Str.{chars, IsUtf8, is_utf8}
use Rattle.std.specs.List.{list_all}
use Rattle.std.specs.Char.{is_ascii_digit}
use Rattle.std.proofs.lemmas.List.{drop_all, append-nil, length-drop, take_rest}
use Rattle.std.proofs.lemmas.List.Folds.{list_all-append}
use Rattle.std.proofs.lemmas.Bool.Decides.{nat_tests}
use Rattle.std.proofs.lemmas.Str.{is_utf8-from_IsUtf8, IsUtf8-from_is_utf8, encodes-chars, chars-nil, IsUtf8-drop, chars-IsAscii}
use Rattle.unicode_ident.specs.Ident.{is_xid_continue}
use Rattle.ev_syntax.specs.Chars.{starts_name, is_word, is_digits}
use Rattle.ev_syntax.specs.Marks.{signs, reserved_words, spellings}
use Rattle.ev_syntax.specs.Tokens.{row_of}
use Rattle.ev_syntax.specs.Names.{is_name, is_variable_name}
use Rattle.ev_syntax.specs.inner.Places.{PassesAll, Starts, Stops}
use Rattle.ev_syntax.proofs.RowLemmas.{row_of-at, row_of-is}
use Rattle.ev_syntax.proofs.TokenKinds.{sign_begins, start_continues}
use Rattle.ev_syntax.proofs.Fronts.{row_ascii}

no_utf8 : (bs : List ℕ) → (IsUtf8 bs → ⊥) → is_utf8 bs ≡ false
no_utf8 bs n = by (is_utf8 bs) refl
  where
    by : (b : Bool) → is_utf8 bs ≡ b → is_utf8 bs ≡ false
    by false e = e
    by true e = absurd (n (IsUtf8-from_is_utf8 bs e))

pub bytes_no_name : (bs : List ℕ) → (IsUtf8 bs → ⊥) → false ≡ is_name bs
bytes_no_name bs n = ap (λ b. b && (is_word (chars bs) && not (is_some (row_of reserved_words bs)))) (sym (no_utf8 bs n))

no_word : (bs : List ℕ) → is_word (chars bs) ≡ false → false ≡ is_name bs
no_word bs w = by (is_utf8 bs) ∙ ap (λ b. is_utf8 bs && (b && not (is_some (row_of reserved_words bs)))) (sym w)
  where
    by : (b : Bool) → false ≡ (b && (false && not (is_some (row_of reserved_words bs))))
    by true = refl
    by false = refl

pub empty_no_name : (bs : List ℕ) → length bs ≡ 0 → false ≡ is_name bs
empty_no_name bs h = no_word bs (ap (λ xs. is_word (chars xs)) (nil bs h) ∙ ap is_word chars-nil)
  where
    nil : (bs : List ℕ) → length bs ≡ 0 → bs ≡ []
    nil [] h = refl
    nil (b ∷ bs) h = absurd (omega arith)

pub start_no_name : (bs : List ℕ) → Stops starts_name (chars bs) → false ≡ is_name bs
start_no_name bs s = no_word bs (by (chars bs) s)
  where
    by : (cs : List ℕ) → Stops starts_name cs → is_word cs ≡ false
    by [] s = refl
    by (c ∷ cs) s = ap (λ b. b && list_all is_xid_continue cs) s

-- a word that goes on only up to a place inside is no word
pub rest_no_name : (bs : List ℕ) (end : ℕ) → IsUtf8 bs → PassesAll is_xid_continue bs 0 end → Stops is_xid_continue (chars (drop end bs)) → end < length bs
    → false ≡ is_name bs
rest_no_name bs end u p s within =
    no_word bs (whole (chars bs) (ap (list_all is_xid_continue) p.splits ∙ list_all-append is_xid_continue p.run (chars (drop end bs))
    ∙ ap (λ b. list_all is_xid_continue p.run && b) (fails (chars (drop end bs)) s (encodes-chars (drop end bs) (IsUtf8-drop bs end u p.place.boundary)))
    ∙ last (list_all is_xid_continue p.run)))
  where
    last : (b : Bool) → (b && false) ≡ false
    last true = refl
    last false = refl

    fails : (cs : List ℕ) → Stops is_xid_continue cs → encode_utf8_all cs ≡ drop end bs → list_all is_xid_continue cs ≡ false
    fails [] s e = let l : 0 ≡ length (drop end bs) = ap length e in let d = length-drop end bs in absurd (omega (arith, l, d))
    fails (c ∷ cs) s e = ap (λ b. b && list_all is_xid_continue cs) s

    whole : (cs : List ℕ) → list_all is_xid_continue cs ≡ false → is_word cs ≡ false
    whole [] e = refl
    whole (c ∷ cs) e = by (starts_name c) refl
      where
        by : (b : Bool) → starts_name c ≡ b → (b && list_all is_xid_continue cs) ≡ false
        by false f = refl
        by true f = later (is_xid_continue c) (start_continues c f) e
          where
            later : (d : Bool) → d ≡ true → (d && list_all is_xid_continue cs) ≡ false → list_all is_xid_continue cs ≡ false
            later true g e = e
            later false g e = absurd (cc)

either_row : (xs ys : List (List ℕ)) (w : List ℕ) (k : ℕ) → slice_get (xs ++ ys) k ≡ Some w → (slice_get xs k ≡ Some w) ⊎ ((j : ℕ) × (slice_get ys j ≡ Some w))
either_row [] ys w k e = inr (k, e)
either_row (x ∷ xs) ys w zero e = inl e
either_row (x ∷ xs) ys w (suc k) e = either_row xs ys w k e

later_row : (xs ys : List (List ℕ)) (w : List ℕ) (k : ℕ) → slice_get ys k ≡ Some w → slice_get (xs ++ ys) (length xs + k) ≡ Some w
later_row [] ys w k e = let n : 0 + k ≡ k = omega arith in ap (slice_get ys) n ∙ e
later_row (x ∷ xs) ys w k e = let n : suc (length xs) + k ≡ suc (length xs + k) = omega arith in ap (slice_get (x ∷ (xs ++ ys))) n ∙ later_row xs ys w k e

-- a word that is a spelling is reserved
pub word_reserved : (w : List ℕ) (k : ℕ) → starts_name (get_or w 0 0) ≡ true → row_of spellings w ≡ Some k → is_some (row_of reserved_words w) ≡ true
word_reserved w k s e = by (either_row signs reserved_words w k (row_of-at spellings w k e))
  where
    by : (slice_get signs k ≡ Some w) ⊎ ((j : ℕ) × (slice_get reserved_words j ≡ Some w)) → is_some (row_of reserved_words w) ≡ true
    by (inl g) = let n : starts_name (get_or w 0 0) ≡ false = (sign_begins w k (row_of-is signs w k refl g)).name in absurd (cc)
    by (inr (j, g)) = ap is_some (row_of-is reserved_words w j refl g)

pub not_reserved : (w : List ℕ) → row_of spellings w ≡ None → is_some (row_of reserved_words w) ≡ false
not_reserved w e = by (row_of reserved_words w) refl
  where
    by : (o : Option ℕ) → row_of reserved_words w ≡ o → is_some (row_of reserved_words w) ≡ false
    by None f = ap is_some f
    by (Some k) f =
        let g : row_of spellings w ≡ Some (length signs + k) =
        row_of-is spellings w (length signs + k) refl (later_row signs reserved_words w k (row_of-at reserved_words w k f))
        in
        absurd (cc)

whole_word : (bs : List ℕ) (end : ℕ) → Starts starts_name (chars bs) → PassesAll is_xid_continue bs 0 end → length bs ≤ end → is_word (chars bs) ≡ true
whole_word bs end s p h = by (chars bs) s (ap (list_all is_xid_continue) run ∙ p.passes)
  where
    run : chars bs ≡ p.run
    run = p.splits ∙ ap (λ xs. p.run ++ chars xs) (drop_all end bs h) ∙ ap (λ xs. p.run ++ xs) chars-nil ∙ append-nil p.run

    by : (cs : List ℕ) → Starts starts_name cs → list_all is_xid_continue cs ≡ true → is_word cs ≡ true
    by [] s a = absurd s
    by (c ∷ cs) s a = ap (λ b. b && list_all is_xid_continue cs) s ∙ last (is_xid_continue c) a
      where
        last : (b : Bool) → (b && list_all is_xid_continue cs) ≡ true → list_all is_xid_continue cs ≡ true
        last true a = a
        last false a = absurd (cc)

name_is : (bs : List ℕ) → IsUtf8 bs → is_word (chars bs) ≡ true → is_name bs ≡ not (is_some (row_of reserved_words bs))
name_is bs u w =
    ap (λ b. b && (is_word (chars bs) && not (is_some (row_of reserved_words bs)))) (is_utf8-from_IsUtf8 bs u)
    ∙ ap (λ b. b && not (is_some (row_of reserved_words bs))) w

pub reserved_no_name : (bs bytes : List ℕ) (end k : ℕ) → IsUtf8 bs → Starts starts_name (chars bs) → PassesAll is_xid_continue bs 0 end → length bs ≤ end
    → bytes ≡ bs → Some k ≡ row_of spellings bytes → false ≡ is_name bs
reserved_no_name bs bytes end k u s p h same e =
    let row : row_of spellings bs ≡ Some k = sym (e ∙ ap (row_of spellings) same) in
    let ascii : chars bs ≡ bs = chars-IsAscii bs (row_ascii bs k row) in
    let first : starts_name (get_or bs 0 0) ≡ true = head bs (subst (Starts starts_name) ascii s) in
    sym (name_is bs u (whole_word bs end s p h) ∙ ap not (word_reserved bs k first row))
  where
    head : (xs : List ℕ) → Starts starts_name xs → starts_name (get_or xs 0 0) ≡ true
    head [] s = absurd s
    head (x ∷ xs) s = s

pub word_name : (bs bytes : List ℕ) (end : ℕ) → IsUtf8 bs → Starts starts_name (chars bs) → PassesAll is_xid_continue bs 0 end → length bs ≤ end
    → bytes ≡ bs → None ≡ row_of spellings bytes → true ≡ is_name bs
word_name bs bytes end u s p h same e =
    let row : row_of spellings bs ≡ None = sym (e ∙ ap (row_of spellings) same) in
    sym (name_is bs u (whole_word bs end s p h) ∙ ap not (not_reserved bs row))

pub variable_name : (bs : List ℕ) (r : Bool) → 2 ≤ length bs → get_or bs 0 0 ≡ 118 → r ≡ list_all is_ascii_digit (take (length bs - 1) (drop 1 bs))
    → r ≡ is_variable_name bs
variable_name [] r h v e = absurd (omega arith)
variable_name (c ∷ []) r h v e = absurd (omega arith)
variable_name (c ∷ d ∷ bs) r h v e =
    let f : (c == 118) ≡ true = grind (arith, nat_tests, v) in
    e ∙ ap (list_all is_ascii_digit) (take_rest (c ∷ d ∷ bs) 1) ∙ ap (λ b. b && is_digits (d ∷ bs)) (sym f)
