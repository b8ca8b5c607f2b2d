-- The text of a symbol over its children reads back, where those of the children do.
use Rattle.std.proofs.Common.{◌≡◌, ℕ, ◌+◌, ◌-◌, ◌<◌, ◌≤◌, ◌^◌, Bool as Boolean, true, false, ◌&&◌, ◌||◌, not, List, [], ◌∷◌, ◌++◌, refl, sym, ap, ◌∙◌, subst, arith, inl}
use Rattle.std.specs.Prelude.{Option, Some, None, codes, map, ◌==◌, if◌then◌else◌}
use Rattle.std.proofs.lemmas.Bool.Decides.{nat_tests}
use Rattle.unicode_ident.proofs.Computing.{unicode_ident}
use Rattle.ev_terms.specs.declared.types.Ty.{Ty, Int, Bool, Prop, Param, Data}
use Rattle.ev_terms.specs.Types.{pow, prod}
use Rattle.ev_terms.specs.Measures.{type_params}
use Rattle.ev_terms.specs.Term.{Term, Terms, var, lit, node, nil, cons}
use Rattle.ev_typing.specs.Env.{Env}
use Rattle.ev_syntax.specs.Marks.{not_word, minus_sign, inverse_sign, open_paren, close_paren, open_bracket, close_bracket, open_brace, close_brace, comma, dot, bar, oftype_word, int_word, bool_set_word, param_sign, type_word, for_all_sign, for_some_sign, finite_word, bool_word}
use Rattle.ev_syntax.specs.Tokens.{Token, name, number, mark, row_of}
use Rattle.ev_syntax.specs.Marks.{spellings}
use Rattle.ev_syntax.specs.Names.{is_name}
use Rattle.ev_syntax.specs.Raw.{Raw, word, param, type_set, call, around, unary, binary, inverse, apply, image, quantified, set_of, members, none, one}
use Rattle.ev_syntax.specs.Parts.{Part, pred, conj, conj_or_tail, ands, ors, expr, expr_level, post_level, function_level, power_level, Operands, operands, operand, around_operand, is_predicate, is_expression, is_among, may_be_word, may_be_name}
use Rattle.ev_syntax.specs.Parts as parts
use Rattle.ev_syntax.specs.Grammar.{Is, ◌then◌, Reads, ReadsMore, ReadsBinder}
use Rattle.ev_syntax.proofs.Wrapping.{with_one, with_two}
use Rattle.ev_print.specs.declared.styles.Style.{Style}
use Rattle.ev_print.specs.declared.styles.Style.TheVariants.{Word, Braces, Infix, Not, Minus, Inverse, Around, Quantifier, SetFormer, Whole, Image, Application}
use Rattle.ev_print.specs.Styles.{spelled, is_closed}
use Rattle.ev_print.specs.Canon.{Piece, in_parens, with_commas, called_text, param_text, variable_text, first_type, bound_text, whole_text, type_text, written, texts, piece, pieces}
use Rattle.ev_print.specs.Texts.{raw_type, raw_binder, raw_whole, raw_written, first_variable, raw_term, raw_terms}
use Rattle.ev_print.proofs.Lexing.{Lex, Anything, Breaks, StartsOther, after_any, after_word, after_minus, any_breaks, mark_blank, word_lex, name_lex, minus_lex, variable_name}
use Rattle.ev_print.proofs.Signs.{open_bracket_lex, close_bracket_lex, open_brace_lex, close_brace_lex, inverse_lex, for_all_lex, for_some_lex, comma_lex, dot_lex, bar_lex, oftype_lex, spaced_lex, blank_break, comma_break, dot_break, open_bracket_break, close_bracket_break, close_brace_break, inverse_break, call_lex}
use Rattle.ev_print.proofs.TypesBack.{TypeReading, int_lex, bool_lex, param_text_lex}
use Rattle.ev_print.proofs.Rows.{is_prop, whole_part, fits, fits_expression, is_spelled, begins_word, is_word_mark, truths, values, calls, operands_fit, around_fits, style_fits, both, spelled_row}
use Rattle.ev_print.proofs.Pieces.{Reading, OperandReading, operand_reading, FunctionReading, function_reading, starts_append, alphabetic_starts, alphabetic_name, name_starts}

abbrev pub is_variable : Term → Boolean
is_variable (var i) = true
is_variable (lit k) = false
is_variable (node s As ts) = false

-- the children read back; the flags tell the predicates among them
abbrev pub AllReadings : Env → ℕ → Terms → List Boolean → Type 0
AllReadings env n nil [] = Unit {0}
AllReadings env n nil (b ∷ bs) = ⊥
AllReadings env n (cons t ts) [] = ⊥
AllReadings env n (cons t ts) (b ∷ bs) = Reading (is_variable t) b (piece env n t) (raw_term env n t) × AllReadings env n ts bs

-- marks that are words
pub word_mark_lex : (m : ℕ) → is_word_mark m ≡ true → Lex Breaks (spelled m) (λ ks. mark m ∷ ks)
word_mark_lex m e = by (spelled m) (spelled_row m (both (is_spelled m) _ e).0) (both (is_spelled m) _ e).1
  where
    by : (w : List ℕ) → row_of spellings w ≡ Some m → begins_word w ≡ true → Lex Breaks w (λ ks. mark m ∷ ks)
    by [] row a = cc
    by (c ∷ w) row a = word_lex c w m row (alphabetic_name c a)

pub word_mark_starts : (m : ℕ) → is_word_mark m ≡ true → StartsOther (spelled m)
word_mark_starts m e = by (spelled m) (both (is_spelled m) _ e).1
  where
    by : (w : List ℕ) → begins_word w ≡ true → StartsOther w
    by [] a = cc
    by (c ∷ w) a = alphabetic_starts c a

or_right : (a b : Boolean) → b ≡ true → (a || b) ≡ true
or_right true b e = refl
or_right false b e = e

-- a closed text that no application takes as its function
closed_reading : (b : Boolean) (text : List ℕ) (raw : Raw) (tokens : List Token → List Token) → Lex Breaks text tokens → fits b (whole_part b) ≡ true
    → ((q : Part) → fits b q ≡ true → (rest : List Token) → Reads raw q (tokens rest) rest) → StartsOther text
    → Reading false b (record { text = text; closed = true; function = false }) raw
closed_reading b text raw tokens lex w reads starts = record {
  tokens = tokens;
  lex = lex;
  whole = reads (whole_part b) w;
  operand = λ e. reads;
  function = λ e f. absurd (cc);
  operand_starts = λ e. starts;
  function_starts = λ f. absurd (cc);
}

-- a text that stands in parentheses as an operand
open_reading : (b : Boolean) (text : List ℕ) (raw : Raw) (tokens : List Token → List Token) → Lex Breaks text tokens
    → ((rest : List Token) → Reads raw (whole_part b) (tokens rest) rest) → Reading false b (record { text = text; closed = false; function = false }) raw
open_reading b text raw tokens lex reads = record {
  tokens = tokens;
  lex = lex;
  whole = reads;
  operand = λ e. absurd (cc);
  function = λ e f. absurd (cc);
  operand_starts = λ e. absurd (cc);
  function_starts = λ f. absurd (cc);
}

fits_whole : (b : Boolean) → fits b (whole_part b) ≡ true
fits_whole true = refl
fits_whole false = refl

-- a word alone
word_reading : (m : ℕ) (r : Boolean) → (is_word_mark m && (if r then is_among truths m else is_among values m)) ≡ true
    → Reading false r (record { text = spelled m; closed = true; function = false }) (word m)
word_reading m r e =
    closed_reading r (spelled m) (word m) (λ ks. mark m ∷ ks) (word_mark_lex m k.0) (fits_whole r) (λ q h rest. inl (stands r k.1 q h, refl)) (word_mark_starts m k.0)
  where
    k : (is_word_mark m ≡ true) × ((if r then is_among truths m else is_among values m) ≡ true)
    k = both (is_word_mark m) _ e

    stands : (r : Boolean) → (if r then is_among truths m else is_among values m) ≡ true → (q : Part) → fits r q ≡ true → may_be_word m q ≡ true
    stands true a q h = ap (λ b. (b && is_predicate q) || (is_among values m && is_expression q)) a ∙ ap (λ b. b || (is_among values m && is_expression q)) h
    stands false a q h =
        or_right (is_among truths m && is_predicate q) _ (ap (λ b. b && is_expression q) a ∙ fits_expression q h)

-- `TYPE` of a type
type_word_lex : Lex Breaks (codes "TYPE") (λ ks. mark type_word ∷ ks)
unfolding unicode_ident
type_word_lex = word_lex 84 (codes "YPE") type_word refl refl

type_set_reading : (A : Ty) → TypeReading A → Reading false false (record { text = codes "TYPE" ++ in_parens (type_text A); closed = true; function = false }) (type_set (raw_type A))
type_set_reading A a =
    closed_reading false (codes "TYPE" ++ in_parens (type_text A)) (type_set (raw_type A)) (λ ks. mark type_word ∷ mark open_paren ∷ a.tokens (mark close_paren ∷ ks))
    (any_breaks _ _ (call_lex (codes "TYPE") (type_text A) _ a.tokens type_word_lex a.lex)) refl
    (λ q h rest. inl (fits_expression q h, (mark open_paren ∷ a.tokens (mark close_paren ∷ rest), refl, (a.tokens (mark close_paren ∷ rest), refl, (mark close_paren ∷ rest, a.whole (mark close_paren ∷ rest), refl))))) refl

whole_reading : (A : Ty) → TypeReading A → type_params A ≤ 2 ^ 32 → Reading false false (record { text = whole_text A; closed = true; function = false }) (raw_whole A)
whole_reading Int a s =
    closed_reading false (codes "INT") (word int_word) (λ ks. mark int_word ∷ ks) int_lex refl (λ q h rest. inl (fits_expression q h, refl)) refl
whole_reading Bool a s =
    closed_reading false (codes "BOOL") (word bool_set_word) (λ ks. mark bool_set_word ∷ ks) bool_lex refl (λ q h rest. inl (fits_expression q h, refl)) refl
whole_reading (Param i) a s =
    let small : i < 2 ^ 32 = omega arith in
    closed_reading false (param_text i) (param i) (λ ks. mark param_sign ∷ number i ∷ ks) (param_text_lex i small) refl
    (λ q h rest. inl (small, (fits_expression q h, (number i ∷ rest, refl, refl)))) refl
whole_reading Prop a s = type_set_reading Prop a
whole_reading (pow A) a s = type_set_reading (pow A) a
whole_reading (prod A B) a s = type_set_reading (prod A B) a
whole_reading (Data n types) a s = type_set_reading (Data n types) a

-- a sign between two operands
infix_reading : (m : ℕ) (r a b : Boolean) (tx ty : List ℕ) (ex ey : Raw) → is_spelled m ≡ true → operands_fit (operands m (whole_part r)) a b ≡ true
    → OperandReading a tx ex → OperandReading b ty ey
    → Reading false r (record { text = tx ++ (codes " " ++ (spelled m ++ (codes " " ++ ty))); closed = false; function = false }) (binary m ex ey)
infix_reading m r a b tx ty ex ey s f x y =
    open_reading r (tx ++ (codes " " ++ (spelled m ++ (codes " " ++ ty)))) (binary m ex ey) (λ ks. x.tokens (mark m ∷ y.tokens ks))
    (after_word Breaks tx 32 (spelled m ++ (codes " " ++ ty)) x.tokens _ blank_break x.lex (spaced_lex Breaks (spelled m) m ty y.tokens (spelled_row m s) y.lex))
    (λ rest. reads rest (operands m (whole_part r)) refl f)
  where
    reads : (rest : List Token) (o : Option Operands) → operands m (whole_part r) ≡ o → operands_fit o a b ≡ true
        → Reads (binary m ex ey) (whole_part r) (x.tokens (mark m ∷ y.tokens rest)) rest
    reads rest None e h = absurd (cc)
    reads rest (Some o) e h =
        let k = both (fits a o.left) (fits b o.right) h in
        inl (with_two (operands m (whole_part r)) o (λ l q. Reads ex l then Is (mark m) then Reads ey q) (x.tokens (mark m ∷ y.tokens rest)) rest e
        (mark m ∷ y.tokens rest, x.reads o.left k.0 (mark m ∷ y.tokens rest), (y.tokens rest, refl, y.reads o.right k.1 rest)))

not_reading : (tx : List ℕ) (ex : Raw) → OperandReading true tx ex → Reading false true (record { text = codes "not " ++ tx; closed = false; function = false }) (unary not_word ex)
not_reading tx ex x =
    open_reading true (codes "not " ++ tx) (unary not_word ex) (λ ks. mark not_word ∷ x.tokens ks)
    (after_any Breaks (codes "not ") tx _ x.tokens (mark_blank (codes "not") not_word refl) x.lex)
    (λ rest. inl (x.tokens rest, refl, x.reads parts.lit_or_quant refl rest))

minus_reading : (tx : List ℕ) (ex : Raw) → OperandReading false tx ex → Reading false false (record { text = codes "-" ++ tx; closed = false; function = false }) (unary minus_sign ex)
minus_reading tx ex x =
    open_reading false (codes "-" ++ tx) (unary minus_sign ex) (λ ks. mark minus_sign ∷ x.tokens ks)
    (after_minus Breaks (codes "-") tx _ x.tokens x.starts minus_lex x.lex)
    (λ rest. inl (x.tokens rest, refl, x.reads (expr power_level) refl rest))

inverse_reading : (tx : List ℕ) (ex : Raw) → OperandReading false tx ex → Reading false false (record { text = tx ++ codes "~"; closed = false; function = false }) (inverse ex)
inverse_reading tx ex x =
    open_reading false (tx ++ codes "~") (inverse ex) (λ ks. x.tokens (mark inverse_sign ∷ ks))
    (after_word Breaks tx 126 [] x.tokens _ inverse_break x.lex (any_breaks _ _ inverse_lex))
    (λ rest. inl (refl, (mark inverse_sign ∷ rest, x.reads (expr post_level) refl (mark inverse_sign ∷ rest), refl)))

-- a word before a child in parentheses
first_choice : {X : Type 0} (f p : Boolean) (x y : X) → f ≡ true → p ≡ true → (if f && p then x else y) ≡ x
first_choice true true x y e h = refl
first_choice true false x y e h = cc
first_choice false p x y e h = cc

other_choice : {X : Type 0} (f p : Boolean) (x y : X) → f ≡ false → (if f && p then x else y) ≡ y
other_choice false p x y e = refl
other_choice true p x y e = cc

around_part : (m : ℕ) (a r : Boolean) (q : Part) → around_fits m a r ≡ true → fits r q ≡ true → around_operand m q ≡ Some (whole_part a)
around_part m true true q e h = absurd (let k = both (m == finite_word) false e in cc)
around_part m false true q e h = first_choice (m == finite_word) (is_predicate q) _ _ (both (m == finite_word) true e).0 h
around_part m true false q e h =
    let k = both (m == bool_word) (not (m == finite_word)) e in
    other_choice (m == finite_word) (is_predicate q) _ _ (negated (m == finite_word) k.1)
    ∙ first_choice (m == bool_word) (is_expression q) _ _ k.0 (fits_expression q h)
  where
    negated : (b : Boolean) → not b ≡ true → b ≡ false
    negated false e = refl
    negated true e = cc
around_part m false false q e h =
    let k = both (is_among calls m) (not ((m == bool_word) || (m == finite_word))) e in
    let n = neither (m == bool_word) (m == finite_word) k.1 in
    other_choice (m == finite_word) (is_predicate q) _ _ n.1
    ∙ other_choice (m == bool_word) (is_expression q) _ _ n.0
    ∙ first_choice (is_among calls m) (is_expression q) _ _ k.0 (fits_expression q h)
  where
    neither : (b c : Boolean) → not (b || c) ≡ true → (b ≡ false) × (c ≡ false)
    neither false false e = (refl, refl)
    neither false true e = cc
    neither true c e = cc

around_reading : (m : ℕ) (v a r : Boolean) (x : Piece) (ex : Raw) → (is_word_mark m && around_fits m a r) ≡ true → Reading v a x ex
    → Reading false r (record { text = spelled m ++ in_parens x.text; closed = true; function = false }) (around m ex)
around_reading m v a r x ex e h =
    closed_reading r (spelled m ++ in_parens x.text) (around m ex) (λ ks. mark m ∷ mark open_paren ∷ h.tokens (mark close_paren ∷ ks))
    (any_breaks _ _ (call_lex (spelled m) x.text _ h.tokens (word_mark_lex m k.0) h.lex)) (fits_whole r)
    (λ q g rest.
    inl (with_one (around_operand m q) (whole_part a) (λ p. Is (mark m) then Is (mark open_paren) then Reads ex p then Is (mark close_paren)) (tokens rest) rest (around_part m a r q k.1 g)
    (mark open_paren ∷ h.tokens (mark close_paren ∷ rest), refl, (h.tokens (mark close_paren ∷ rest), refl, (mark close_paren ∷ rest, h.whole (mark close_paren ∷ rest), refl)))))
    (starts_append (spelled m) (in_parens x.text) (word_mark_starts m k.0))
  where
    tokens : List Token → List Token
    tokens ks = mark m ∷ mark open_paren ∷ h.tokens (mark close_paren ∷ ks)

    k : (is_word_mark m ≡ true) × (around_fits m a r ≡ true)
    k = both (is_word_mark m) _ e

-- a bound variable with its type
bound_lex : (n : ℕ) (A : Ty) → n < 2 ^ 64 → (a : TypeReading A) → Lex Breaks (bound_text n A) (λ ks. name (variable_text n) ∷ mark oftype_word ∷ a.tokens ks)
bound_lex n A h a =
    after_word Breaks (variable_text n) 32 (codes "oftype " ++ type_text A) _ _ blank_break (name_lex (variable_text n) (variable_name n h))
    (after_any Breaks (codes " oftype ") (type_text A) _ a.tokens oftype_lex a.lex)

bound_reads : (n : ℕ) (A : Ty) (a : TypeReading A) (rest : List Token) → ReadsBinder (raw_binder n A) (name (variable_text n) ∷ mark oftype_word ∷ a.tokens rest) rest
bound_reads n A a rest = (mark oftype_word ∷ a.tokens rest, refl, (a.tokens rest, refl, a.whole rest))

quantifier_lex : (m : ℕ) → is_among (for_all_sign ∷ for_some_sign ∷ []) m ≡ true → Lex Anything (spelled m) (λ ks. mark m ∷ ks)
quantifier_lex m e = by (for_all_sign == m) refl (for_some_sign == m) refl e
  where
    by : (a : Boolean) → (for_all_sign == m) ≡ a → (b : Boolean) → (for_some_sign == m) ≡ b → (a || (b || false)) ≡ true → Lex Anything (spelled m) (λ ks. mark m ∷ ks)
    by true f b g e = let same : for_all_sign ≡ m = grind (arith, nat_tests, f) in subst (λ k. Lex Anything (spelled k) (λ ks. mark k ∷ ks)) same for_all_lex
    by false f true g e = let same : for_some_sign ≡ m = grind (arith, nat_tests, g) in subst (λ k. Lex Anything (spelled k) (λ ks. mark k ∷ ks)) same for_some_lex
    by false f false g e = absurd (cc)

quantifier_reading : (m n : ℕ) (A : Ty) (v : Boolean) (x : Piece) (ex : Raw) → is_among (for_all_sign ∷ for_some_sign ∷ []) m ≡ true → n < 2 ^ 64 → TypeReading A → Reading v true x ex
    → Reading false true (record { text = spelled m ++ (bound_text n A ++ (codes ". " ++ x.text)); closed = false; function = false }) (quantified m (raw_binder n A ∷ []) ex)
quantifier_reading m n A v x ex e h a r =
    open_reading true (spelled m ++ (bound_text n A ++ (codes ". " ++ x.text))) (quantified m (raw_binder n A ∷ []) ex)
    (λ ks. mark m ∷ name (variable_text n) ∷ mark oftype_word ∷ a.tokens (mark dot ∷ r.tokens ks))
    (after_any Breaks (spelled m) (bound_text n A ++ (codes ". " ++ x.text)) _ _ (quantifier_lex m e)
    (after_word Breaks (bound_text n A) 46 (codes " " ++ x.text) _ _ dot_break (bound_lex n A h a) (after_any Breaks (codes ". ") x.text _ r.tokens dot_lex r.lex)))
    (λ rest. inl (
      e,
      (
        name (variable_text n) ∷ mark oftype_word ∷ a.tokens (mark dot ∷ r.tokens rest),
        refl,
        (mark dot ∷ r.tokens rest, (mark dot ∷ r.tokens rest, bound_reads n A a (mark dot ∷ r.tokens rest), refl), (r.tokens rest, refl, r.whole rest)),
      ),
    ))

set_reading : (n : ℕ) (A : Ty) (v : Boolean) (x : Piece) (ex : Raw) → n < 2 ^ 64 → TypeReading A → Reading v true x ex
    → Reading false false (record { text = codes "{" ++ (bound_text n A ++ (codes " | " ++ (x.text ++ codes "}"))); closed = true; function = false }) (set_of (raw_binder n A) ex)
set_reading n A v x ex h a r =
    closed_reading false (codes "{" ++ (bound_text n A ++ (codes " | " ++ (x.text ++ codes "}")))) (set_of (raw_binder n A) ex)
    (λ ks. mark open_brace ∷ name (variable_text n) ∷ mark oftype_word ∷ a.tokens (mark bar ∷ r.tokens (mark close_brace ∷ ks)))
    (after_any Breaks (codes "{") (bound_text n A ++ (codes " | " ++ (x.text ++ codes "}"))) _ _ open_brace_lex
    (after_word Breaks (bound_text n A) 32 (codes "| " ++ (x.text ++ codes "}")) _ _ blank_break (bound_lex n A h a)
    (after_any Breaks (codes " | ") (x.text ++ codes "}") _ _ bar_lex (after_word Breaks x.text 125 [] r.tokens _ close_brace_break r.lex (any_breaks _ _ close_brace_lex)))))
    refl
    (λ q g rest. inl (
      fits_expression q g,
      (
        name (variable_text n) ∷ mark oftype_word ∷ a.tokens (mark bar ∷ r.tokens (mark close_brace ∷ rest)),
        refl,
        (
          mark bar ∷ r.tokens (mark close_brace ∷ rest),
          bound_reads n A a (mark bar ∷ r.tokens (mark close_brace ∷ rest)),
          (r.tokens (mark close_brace ∷ rest), refl, (mark close_brace ∷ rest, r.whole (mark close_brace ∷ rest), refl)),
        ),
      ),
    ))
    refl

image_reading : (v : Boolean) (tx : List ℕ) (y : Piece) (ex ey : Raw) → OperandReading false tx ex → Reading v false y ey
    → Reading false false (record { text = tx ++ (codes "[" ++ (y.text ++ codes "]")); closed = true; function = false }) (image ex ey)
image_reading v tx y ex ey x r =
    closed_reading false (tx ++ (codes "[" ++ (y.text ++ codes "]"))) (image ex ey) (λ ks. x.tokens (mark open_bracket ∷ r.tokens (mark close_bracket ∷ ks)))
    (after_word Breaks tx 91 (y.text ++ codes "]") x.tokens _ open_bracket_break x.lex
    (after_any Breaks (codes "[") (y.text ++ codes "]") _ _ open_bracket_lex (after_word Breaks y.text 93 [] r.tokens _ close_bracket_break r.lex (any_breaks _ _ close_bracket_lex))))
    refl
    (λ q g rest. inl (
      fits_expression q g,
      (
        mark open_bracket ∷ r.tokens (mark close_bracket ∷ rest),
        x.reads (expr post_level) refl (mark open_bracket ∷ r.tokens (mark close_bracket ∷ rest)),
        (r.tokens (mark close_bracket ∷ rest), refl, (mark close_bracket ∷ rest, r.whole (mark close_bracket ∷ rest), refl)),
      ),
    ))
    (starts_append tx _ x.starts)

application_reading : (v : Boolean) (tx : List ℕ) (y : Piece) (ex ey : Raw) → FunctionReading tx ex → Reading v false y ey
    → Reading false false (record { text = tx ++ in_parens y.text; closed = true; function = false }) (apply ex ey)
application_reading v tx y ex ey x r =
    closed_reading false (tx ++ in_parens y.text) (apply ex ey) (λ ks. x.tokens (mark open_paren ∷ r.tokens (mark close_paren ∷ ks)))
    (any_breaks _ _ (call_lex tx y.text x.tokens r.tokens x.lex r.lex)) refl
    (λ q g rest. inl (
      fits_expression q g,
      (
        mark open_paren ∷ r.tokens (mark close_paren ∷ rest),
        x.reads (mark open_paren ∷ r.tokens (mark close_paren ∷ rest)),
        (r.tokens (mark close_paren ∷ rest), refl, (mark close_paren ∷ rest, r.whole (mark close_paren ∷ rest), refl)),
      ),
    ))
    (starts_append tx _ x.starts)

-- an application of a variable
variable_application : (v : Boolean) (k : ℕ) (y : Piece) (ey : Raw) → k < 2 ^ 64 → Reading v false y ey
    → Reading false false (record { text = variable_text k ++ in_parens y.text; closed = true; function = false }) (call (variable_text k) (one ey none))
variable_application v k y ey h r =
    closed_reading false (variable_text k ++ in_parens y.text) (call (variable_text k) (one ey none)) (λ ks. name (variable_text k) ∷ mark open_paren ∷ r.tokens (mark close_paren ∷ ks))
    (any_breaks _ _ (call_lex (variable_text k) y.text _ r.tokens (name_lex (variable_text k) (variable_name k h)) r.lex)) refl
    (λ q g rest. inl (
      or_right (is_predicate q) _ (fits_expression q g),
      (
        mark open_paren ∷ r.tokens (mark close_paren ∷ rest),
        refl,
        (r.tokens (mark close_paren ∷ rest), refl, (mark close_paren ∷ rest, r.whole (mark close_paren ∷ rest), (mark close_paren ∷ rest, refl, refl))),
      ),
    ))
    refl

-- the arguments of a call, at least one
record ArgsReading (env : Env) (n : ℕ) (t : Term) (ts : Terms) : Type 0 where
  tokens : List Token → List Token
  lex : Lex Breaks (with_commas ((piece env n t).text ∷ texts (pieces env n ts))) tokens
  reads : (rest : List Token) → (Reads (raw_term env n t) (expr expr_level) then ReadsMore (raw_terms env n ts)) (tokens rest) rest

abbrev pub AreExpressions : List Boolean → Type 0
AreExpressions [] = Unit {0}
AreExpressions (b ∷ bs) = (b ≡ false) × AreExpressions bs

args_reading : (env : Env) (n : ℕ) (v : Boolean) (t : Term) (ts : Terms) (bs : List Boolean) → AreExpressions bs → Reading v false (piece env n t) (raw_term env n t) → AllReadings env n ts bs
    → ArgsReading env n t ts
args_reading env n v t nil [] a r h = record { tokens = r.tokens; lex = r.lex; reads = λ rest. (rest, r.whole rest, refl) }
args_reading env n v t nil (b ∷ bs) a r h = absurd h
args_reading env n v t (cons u us) [] a r h = absurd h
args_reading env n v t (cons u us) (b ∷ bs) a r h =
    let more = args_reading env n (is_variable u) u us bs a.1 (subst (λ c. Reading (is_variable u) c (piece env n u) (raw_term env n u)) a.0 h.0) h.1 in
    let later : List ℕ = with_commas ((piece env n u).text ∷ texts (pieces env n us)) in
    record {
      tokens = λ ks. r.tokens (mark comma ∷ more.tokens ks);
      lex = after_word Breaks (piece env n t).text 44 (codes " " ++ with_commas ((piece env n u).text ∷ texts (pieces env n us))) r.tokens _ comma_break r.lex
          (after_any Breaks (codes ", ") (with_commas ((piece env n u).text ∷ texts (pieces env n us))) _ more.tokens comma_lex more.lex);
      reads = λ rest. (mark comma ∷ more.tokens rest, r.whole (mark comma ∷ more.tokens rest), (more.tokens rest, refl, more.reads rest));
    }

pub call_reading : (env : Env) (w : List ℕ) (n : ℕ) (ts : Terms) (bs : List Boolean) (r : Boolean) → is_name w ≡ true → AreExpressions bs → AllReadings env n ts bs
    → Reading false r (record { text = called_text w (texts (pieces env n ts)); closed = true; function = false }) (call w (raw_terms env n ts))
call_reading env w n nil bs r e a h =
    closed_reading r w (call w none) (λ ks. name w ∷ ks) (name_lex w e) (fits_whole r) (λ q g rest. inl (stands r q g, refl)) (name_starts w e)
  where
    stands : (r : Boolean) (q : Part) → fits r q ≡ true → may_be_name q ≡ true
    stands true q g = ap (λ b. b || fits false q) g
    stands false q g = or_right (is_predicate q) _ g
call_reading env w n (cons t ts) [] r e a h = absurd h
call_reading env w n (cons t ts) (b ∷ bs) r e a h =
    let x = args_reading env n (is_variable t) t ts bs a.1 (subst (λ c. Reading (is_variable t) c (piece env n t) (raw_term env n t)) a.0 h.0) h.1 in
    closed_reading r (w ++ in_parens (with_commas ((piece env n t).text ∷ texts (pieces env n ts)))) (call w (one (raw_term env n t) (raw_terms env n ts)))
    (λ ks. name w ∷ mark open_paren ∷ x.tokens (mark close_paren ∷ ks))
    (any_breaks _ _ (call_lex w (with_commas ((piece env n t).text ∷ texts (pieces env n ts))) _ x.tokens (name_lex w e) x.lex)) (fits_whole r)
    (λ q g rest. inl (stands r q g, reads x rest)) (starts_append w _ (name_starts w e))
  where
    stands : (r : Boolean) (q : Part) → fits r q ≡ true → (is_predicate q || is_expression q) ≡ true
    stands true q g = ap (λ b. b || is_expression q) g
    stands false q g = or_right (is_predicate q) _ (fits_expression q g)

    reads : (x : ArgsReading env n t ts) (rest : List Token)
        → (Is (name w) then Is (mark open_paren) then Reads (raw_term env n t) (expr expr_level) then ReadsMore (raw_terms env n ts) then Is (mark close_paren))
        (name w ∷ mark open_paren ∷ x.tokens (mark close_paren ∷ rest)) rest
    reads x rest =
        let (after, first, later) = x.reads (mark close_paren ∷ rest) in
        (mark open_paren ∷ x.tokens (mark close_paren ∷ rest), refl, (x.tokens (mark close_paren ∷ rest), refl, (after, first, (mark close_paren ∷ rest, later, refl))))

-- a base symbol over its children
module _ (env : Env) (n k : ℕ) (small : n < 2 ^ 64) (bound : k < 2 ^ 64) (types : List Ty) (a : TypeReading (first_type types)) (params : type_params (first_type types) ≤ 2 ^ 32) where
  abbrev Goal : Style → Boolean → Terms → Type 0
  Goal s r ts =
      Reading false r (record { text = written s n types (pieces env k ts); closed = is_closed s; function = false })
      (raw_written s n types (first_variable k ts) (raw_terms env k ts))

  -- what holds over no child, one or two
  with_none : (P : Terms → Type 0) (ts : Terms) → AllReadings env k ts [] → P nil → P ts
  with_none P nil h p = p
  with_none P (cons t ts) h p = absurd h

  with_child : (P : Terms → Type 0) (ts : Terms) (b : Boolean) → AllReadings env k ts (b ∷ []) → ((t : Term) → Reading (is_variable t) b (piece env k t) (raw_term env k t) → P (cons t nil)) → P ts
  with_child P nil b h p = absurd h
  with_child P (cons t nil) b h p = p t h.0
  with_child P (cons t (cons u us)) b h p = absurd h.1

  with_children : (P : Terms → Type 0) (ts : Terms) (b c : Boolean) → AllReadings env k ts (b ∷ c ∷ [])
      → ((t u : Term) → Reading (is_variable t) b (piece env k t) (raw_term env k t) → Reading (is_variable u) c (piece env k u) (raw_term env k u) → P (cons t (cons u nil))) → P ts
  with_children P nil b c h p = absurd h
  with_children P (cons t nil) b c h p = absurd h.1
  with_children P (cons t (cons u nil)) b c h p = p t u h.0 h.1.0
  with_children P (cons t (cons u (cons w ws))) b c h p = absurd h.1.1

  applied : (t u : Term) → Reading (is_variable t) false (piece env k t) (raw_term env k t) → Reading (is_variable u) false (piece env k u) (raw_term env k u)
      → Goal Application false (cons t (cons u nil))
  applied (var i) u x y = variable_application (is_variable u) (k - (i + 1)) (piece env k u) (raw_term env k u) (omega arith) y
  applied (lit m) u x y = application_reading (is_variable u) _ (piece env k u) (raw_term env k (lit m)) (raw_term env k u) (function_reading (piece env k (lit m)) (raw_term env k (lit m)) x) y
  applied (node s As ts) u x y =
      application_reading (is_variable u) _ (piece env k u) (raw_term env k (node s As ts)) (raw_term env k u) (function_reading (piece env k (node s As ts)) (raw_term env k (node s As ts)) x) y

  not_pred : (A : Ty) → not (is_prop A) ≡ true → is_prop A ≡ false
  not_pred A e = by (is_prop A) e
    where
      by : (b : Boolean) → not b ≡ true → b ≡ false
      by false e = refl
      by true e = cc

  negated : (b : Boolean) → not b ≡ true → b ≡ false
  negated false e = refl
  negated true e = cc

  pub base_reading : (s : Style) (args : List Ty) (r : Boolean) (ts : Terms) → style_fits s args r ≡ true → AllReadings env k ts (map is_prop args) → Goal s r ts
  base_reading (Word m) [] r ts e h = with_none (Goal (Word m) r) ts h (word_reading m r e)
  base_reading Braces [] r ts e h =
      with_none (Goal Braces r) ts h
      (subst (λ b. Goal Braces b nil) (sym (negated r e))
      (closed_reading false (codes "{}") (members none) (λ ks. mark open_brace ∷ mark close_brace ∷ ks) (after_any Breaks (codes "{") (codes "}") _ _ open_brace_lex (any_breaks _ _ close_brace_lex)) refl
      (λ q g rest. inl (fits_expression q g, (mark close_brace ∷ rest, refl, refl))) refl))
  base_reading (Infix m) (A ∷ B ∷ []) r ts e h =
      let f = both (is_spelled m) _ e in
      with_children (Goal (Infix m) r) ts (is_prop A) (is_prop B) h (λ t u x y.
      infix_reading m r (is_prop A) (is_prop B) _ _ (raw_term env k t) (raw_term env k u) f.0 f.1
      (operand_reading (is_variable t) (is_prop A) (piece env k t) (raw_term env k t) x) (operand_reading (is_variable u) (is_prop B) (piece env k u) (raw_term env k u) y))
  base_reading Not (A ∷ []) r ts e h =
      let f = both (is_prop A) r e in
      subst (λ b. Goal Not b ts) (sym f.1)
      (with_child (Goal Not true) ts true (subst (λ b. AllReadings env k ts (b ∷ [])) f.0 h) (λ t x. not_reading _ (raw_term env k t) (operand_reading (is_variable t) true (piece env k t) (raw_term env k t) x)))
  base_reading Minus (A ∷ []) r ts e h =
      let f = both (not (is_prop A)) (not r) e in
      subst (λ b. Goal Minus b ts) (sym (negated r f.1))
      (with_child (Goal Minus false) ts false (subst (λ b. AllReadings env k ts (b ∷ [])) (not_pred A f.0) h) (λ t x. minus_reading _ (raw_term env k t) (operand_reading (is_variable t) false (piece env k t) (raw_term env k t) x)))
  base_reading Inverse (A ∷ []) r ts e h =
      let f = both (not (is_prop A)) (not r) e in
      subst (λ b. Goal Inverse b ts) (sym (negated r f.1))
      (with_child (Goal Inverse false) ts false (subst (λ b. AllReadings env k ts (b ∷ [])) (not_pred A f.0) h) (λ t x. inverse_reading _ (raw_term env k t) (operand_reading (is_variable t) false (piece env k t) (raw_term env k t) x)))
  base_reading (Around m) (A ∷ []) r ts e h =
      with_child (Goal (Around m) r) ts (is_prop A) h (λ t x. around_reading m (is_variable t) (is_prop A) r (piece env k t) (raw_term env k t) e x)
  base_reading (Quantifier m) (A ∷ []) r ts e h =
      let f = both (is_among (for_all_sign ∷ for_some_sign ∷ []) m) _ e in
      let g = both (is_prop A) r f.1 in
      subst (λ b. Goal (Quantifier m) b ts) (sym g.1)
      (with_child (Goal (Quantifier m) true) ts true (subst (λ b. AllReadings env k ts (b ∷ [])) g.0 h) (λ t x.
      quantifier_reading m n (first_type types) (is_variable t) (piece env k t) (raw_term env k t) f.0 small a x))
  base_reading SetFormer (A ∷ []) r ts e h =
      let f = both (is_prop A) (not r) e in
      subst (λ b. Goal SetFormer b ts) (sym (negated r f.1))
      (with_child (Goal SetFormer false) ts true (subst (λ b. AllReadings env k ts (b ∷ [])) f.0 h) (λ t x. set_reading n (first_type types) (is_variable t) (piece env k t) (raw_term env k t) small a x))
  base_reading Whole [] r ts e h =
      with_none (Goal Whole r) ts h (subst (λ b. Goal Whole b nil) (sym (negated r e)) (whole_reading (first_type types) a params))
  base_reading Image (A ∷ B ∷ []) r ts e h =
      let f = both (not (is_prop A)) _ e in
      let g = both (not (is_prop B)) (not r) f.1 in
      subst (λ b. Goal Image b ts) (sym (negated r g.1))
      (with_children (Goal Image false) ts false false
      (subst (λ b. AllReadings env k ts (false ∷ b ∷ [])) (not_pred B g.0) (subst (λ b. AllReadings env k ts (b ∷ is_prop B ∷ [])) (not_pred A f.0) h))
      (λ t u x y. image_reading (is_variable u) _ (piece env k u) (raw_term env k t) (raw_term env k u) (operand_reading (is_variable t) false (piece env k t) (raw_term env k t) x) y))
  base_reading Application (A ∷ B ∷ []) r ts e h =
      let f = both (not (is_prop A)) _ e in
      let g = both (not (is_prop B)) (not r) f.1 in
      subst (λ b. Goal Application b ts) (sym (negated r g.1))
      (with_children (Goal Application false) ts false false
      (subst (λ b. AllReadings env k ts (false ∷ b ∷ [])) (not_pred B g.0) (subst (λ b. AllReadings env k ts (b ∷ is_prop B ∷ [])) (not_pred A f.0) h)) applied)
  base_reading (Word m) (A ∷ args) r ts e h = absurd (cc)
  base_reading Braces (A ∷ args) r ts e h = absurd (cc)
  base_reading Whole (A ∷ args) r ts e h = absurd (cc)
  base_reading (Infix m) [] r ts e h = absurd (cc)
  base_reading (Infix m) (A ∷ []) r ts e h = absurd (cc)
  base_reading (Infix m) (A ∷ B ∷ C ∷ args) r ts e h = absurd (cc)
  base_reading Not [] r ts e h = absurd (cc)
  base_reading Not (A ∷ B ∷ args) r ts e h = absurd (cc)
  base_reading Minus [] r ts e h = absurd (cc)
  base_reading Minus (A ∷ B ∷ args) r ts e h = absurd (cc)
  base_reading Inverse [] r ts e h = absurd (cc)
  base_reading Inverse (A ∷ B ∷ args) r ts e h = absurd (cc)
  base_reading (Around m) [] r ts e h = absurd (cc)
  base_reading (Around m) (A ∷ B ∷ args) r ts e h = absurd (cc)
  base_reading (Quantifier m) [] r ts e h = absurd (cc)
  base_reading (Quantifier m) (A ∷ B ∷ args) r ts e h = absurd (cc)
  base_reading SetFormer [] r ts e h = absurd (cc)
  base_reading SetFormer (A ∷ B ∷ args) r ts e h = absurd (cc)
  base_reading Image [] r ts e h = absurd (cc)
  base_reading Image (A ∷ []) r ts e h = absurd (cc)
  base_reading Image (A ∷ B ∷ C ∷ args) r ts e h = absurd (cc)
  base_reading Application [] r ts e h = absurd (cc)
  base_reading Application (A ∷ []) r ts e h = absurd (cc)
  base_reading Application (A ∷ B ∷ C ∷ args) r ts e h = absurd (cc)
