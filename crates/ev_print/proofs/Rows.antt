-- What the rows of the base symbols have in common, tested on the tables of styles and of signatures.
use Rattle.std.proofs.Common.{◌≡◌, ℕ, zero, suc, ◌≤◌, Bool as Boolean, true, false, ◌&&◌, ◌||◌, not, List, [], ◌∷◌, refl, ap, subst, arith}
use Rattle.std.specs.Prelude.{Option, Some, None, slice_get, slice_index_or, ◌==◌, if◌then◌else◌}
use Rattle.std.specs.Char.{is_ascii_alphabetic}
use Rattle.std.proofs.lemmas.Bool.{leb-true, le-leb}
use Rattle.std.proofs.lemmas.Bool.Decides.{nat_tests}
use Rattle.ev_terms.specs.declared.types.Ty.{Ty, Prop}
use Rattle.ev_typing.specs.Profiles.{Profile, base_profiles, base_profile}
use Rattle.ev_syntax.specs.Marks.{spellings, for_all_sign, for_some_sign, true_word, false_word, true_value_word, false_value_word, int_word, bool_set_word, nat_word, nat1_word, id_word, prj1_word, prj2_word, finite_word, bool_word, pow_word, union_word, inter_word, dom_word, ran_word, card_word, min_word, max_word}
use Rattle.ev_syntax.specs.Tokens.{row_of}
use Rattle.ev_syntax.specs.Parts.{Part, pred, conj, conj_or_tail, ands, ors, lit, lit_or_quant, expr, expr_level, post_level, function_level, Operands, operands, is_predicate, may_have_level, is_expression, is_among, inside}
use Rattle.ev_print.specs.declared.styles.Style.{Style}
use Rattle.ev_print.specs.declared.styles.Style.TheVariants.{Word, Braces, Infix, Not, Minus, Inverse, Around, Quantifier, SetFormer, Whole, Image, Application}
use Rattle.ev_print.specs.Styles.{base_styles, base_style, spelled, is_closed, shows_type}
use Rattle.ev_print.specs.Canon.{leaves_open}

abbrev pub is_prop : Ty → Boolean
is_prop Prop = true
is_prop _ = false

-- the part of the grammar at which a predicate or an expression stands whole, and those at which an operand of that sort may stand
abbrev pub whole_part : Boolean → Part
whole_part true = pred
whole_part false = expr expr_level

abbrev pub fits : Boolean → Part → Boolean
fits true q = is_predicate q
fits false q = may_have_level post_level q

pub inside_whole : (b : Boolean) (q : Part) → fits b q ≡ true → inside q ≡ whole_part b
inside_whole true pred h = refl
inside_whole true conj h = refl
inside_whole true conj_or_tail h = refl
inside_whole true ands h = refl
inside_whole true ors h = refl
inside_whole true lit h = refl
inside_whole true lit_or_quant h = refl
inside_whole true (expr k) h = cc
inside_whole false (expr k) h = refl
inside_whole false pred h = cc
inside_whole false conj h = cc
inside_whole false conj_or_tail h = cc
inside_whole false ands h = cc
inside_whole false ors h = cc
inside_whole false lit h = cc
inside_whole false lit_or_quant h = cc

pub fits_expression : (q : Part) → fits false q ≡ true → is_expression q ≡ true
fits_expression (expr k) h =
    let l : k ≤ post_level = leb-true _ _ h in
    le-leb k function_level (omega arith)
fits_expression pred h = cc
fits_expression conj h = cc
fits_expression conj_or_tail h = cc
fits_expression ands h = cc
fits_expression ors h = cc
fits_expression lit h = cc
fits_expression lit_or_quant h = cc

-- the mark is a row of the table of spellings; and it is a word
abbrev pub has_row : ℕ → Option ℕ → Boolean
has_row m None = false
has_row m (Some k) = k == m

abbrev pub is_spelled : ℕ → Boolean
is_spelled m = has_row m (row_of spellings (spelled m))

abbrev pub begins_word : List ℕ → Boolean
begins_word [] = false
begins_word (c ∷ cs) = is_ascii_alphabetic c

abbrev pub is_word_mark : ℕ → Boolean
is_word_mark m = is_spelled m && begins_word (spelled m)

abbrev pub truths : List ℕ
truths = true_word ∷ false_word ∷ []

abbrev pub values : List ℕ
values = true_value_word ∷ false_value_word ∷ int_word ∷ bool_set_word ∷ nat_word ∷ nat1_word ∷ id_word ∷ prj1_word ∷ prj2_word ∷ []

abbrev pub calls : List ℕ
calls = pow_word ∷ union_word ∷ inter_word ∷ dom_word ∷ ran_word ∷ card_word ∷ min_word ∷ max_word ∷ []

-- the operands are of these sorts
abbrev pub operands_fit : Option Operands → Boolean → Boolean → Boolean
operands_fit None a b = false
operands_fit (Some o) a b = fits a o.left && fits b o.right

abbrev pub around_fits : ℕ → Boolean → Boolean → Boolean
around_fits m a true = (m == finite_word) && not a
around_fits m true false = (m == bool_word) && not (m == finite_word)
around_fits m false false = is_among calls m && not ((m == bool_word) || (m == finite_word))

-- the style fits children of these sorts and the sort of the whole
abbrev pub style_fits : Style → List Ty → Boolean → Boolean
style_fits (Word m) [] r = is_word_mark m && (if r then is_among truths m else is_among values m)
style_fits Braces [] r = not r
style_fits (Infix m) (a ∷ b ∷ []) r = is_spelled m && operands_fit (operands m (whole_part r)) (is_prop a) (is_prop b)
style_fits Not (a ∷ []) r = is_prop a && r
style_fits Minus (a ∷ []) r = not (is_prop a) && not r
style_fits Inverse (a ∷ []) r = not (is_prop a) && not r
style_fits (Around m) (a ∷ []) r = is_word_mark m && around_fits m (is_prop a) r
style_fits (Quantifier m) (a ∷ []) r = is_among (for_all_sign ∷ for_some_sign ∷ []) m && (is_prop a && r)
style_fits SetFormer (a ∷ []) r = is_prop a && not r
style_fits Whole [] r = not r
style_fits Image (a ∷ b ∷ []) r = not (is_prop a) && (not (is_prop b) && not r)
style_fits Application (a ∷ b ∷ []) r = not (is_prop a) && (not (is_prop b) && not r)
style_fits _ args r = false

-- what is annotated is closed, and an expression
abbrev pub annotation_fits : Style → Profile → Boolean
annotation_fits s h = not (not (shows_type s) && leaves_open h) || (is_closed s && not (is_prop h.result))

abbrev pub row_fits : Style → Profile → Boolean
row_fits s h = style_fits s h.args (is_prop h.result) && annotation_fits s h

abbrev pub rows_fit : List Style → List Profile → Boolean
rows_fit styles [] = true
rows_fit [] (h ∷ hs) = false
rows_fit (s ∷ styles) (h ∷ hs) = row_fits s h && rows_fit styles hs

pub both : (a b : Boolean) → (a && b) ≡ true → (a ≡ true) × (b ≡ true)
both true b e = (refl, e)
both false b e = cc

pub all_rows : rows_fit base_styles base_profiles ≡ true
all_rows = refl

row_at : (styles : List Style) (hs : List Profile) (k : ℕ) (h : Profile) → rows_fit styles hs ≡ true → slice_get hs k ≡ Some h
    → row_fits (slice_index_or styles k Application) h ≡ true
row_at styles [] k h e g = cc
row_at [] (x ∷ hs) k h e g = cc
row_at (s ∷ styles) (x ∷ hs) zero h e g =
    let same : x ≡ h = cc in
    subst (λ y. row_fits s y ≡ true) same (both _ _ e).0
row_at (s ∷ styles) (x ∷ hs) (suc k) h e g = row_at styles hs k h (both _ _ e).1 g

pub base_row : (k : ℕ) (h : Profile) → base_profile k ≡ Some h → row_fits (base_style k) h ≡ true
base_row k h e = row_at base_styles base_profiles k h all_rows e

pub spelled_row : (m : ℕ) → is_spelled m ≡ true → row_of spellings (spelled m) ≡ Some m
spelled_row m e = by (row_of spellings (spelled m)) e
  where
    by : (o : Option ℕ) → has_row m o ≡ true → o ≡ Some m
    by None e = cc
    by (Some k) e = let same : k ≡ m = grind (arith, nat_tests, e) in ap Some same
