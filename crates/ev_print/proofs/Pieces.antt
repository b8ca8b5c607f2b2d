-- What a canonical text reads as, whole and as an operand.
use Rattle.std.proofs.Common.{◌≡◌, ℕ, ◌<◌, ◌^◌, Bool as Boolean, true, false, ◌&&◌, ◌||◌, not, List, [], ◌∷◌, ◌++◌, length, refl, sym, ap, ◌∙◌, subst, arith, inl, true≢false}
use Rattle.std.specs.Prelude.{Some, is_some, codes, decimal, ◌==◌, encode_utf8_all, encode_utf8, if◌then◌else◌}
use Rattle.std.specs.Str.{chars, is_utf8}
use Rattle.std.specs.Str.Parse.{AllDigits}
use Rattle.std.specs.Char.{is_ascii_alphabetic}
use Rattle.std.proofs.lemmas.Bool.Decides.{nat_tests}
use Rattle.std.proofs.lemmas.Fmt.{decimal_is_IsNumeral_wide}
use Rattle.std.proofs.lemmas.Str.Parse.{digit_from_value}
use Rattle.std.proofs.lemmas.Str.{encode_ascii, cons_from_encodes, encodes-chars, IsUtf8-from_is_utf8, length-le-encodes}
use Rattle.unicode_ident.proofs.IdentLemmas.{is_xid_start-ascii}
use Rattle.ev_terms.specs.declared.types.Ty.{Ty}
use Rattle.ev_syntax.specs.Chars.{is_word, starts_name}
use Rattle.ev_syntax.specs.Marks.{reserved_words, open_paren, close_paren, oftype_word}
use Rattle.ev_syntax.specs.Tokens.{row_of, Token, mark}
use Rattle.ev_syntax.specs.Names.{is_name}
use Rattle.ev_syntax.specs.Raw.{Raw, of_type}
use Rattle.ev_syntax.specs.Parts.{Part, expr, expr_level, map_level, function_level, inside}
use Rattle.ev_syntax.specs.Grammar.{◌then◌, Reads}
use Rattle.ev_syntax.proofs.Wrapping.{paren_raw}
use Rattle.ev_print.specs.Canon.{Piece, in_parens, operand_text, function_text, annotated, type_text}
use Rattle.ev_print.specs.Texts.{raw_annotated, raw_type}
use Rattle.ev_print.proofs.Lexing.{Lex, Breaks, StartsOther, after_any, after_word, any_breaks}
use Rattle.ev_print.proofs.Signs.{oftype_lex, blank_break, parens_lex}
use Rattle.ev_print.proofs.TypesBack.{TypeReading}
use Rattle.ev_print.proofs.Rows.{whole_part, fits, inside_whole, both}

-- The text is tokens that read as the raw tree: whole, and where it needs no parentheses as an operand and as a function.
-- The first flag tells a variable, the second a predicate.
pub record Reading (v b : Boolean) (p : Piece) (raw : Raw) : Type 0 where
  pub tokens : List Token → List Token
  pub lex : Lex Breaks p.text tokens
  pub whole : (rest : List Token) → Reads raw (whole_part b) (tokens rest) rest
  pub operand : p.closed ≡ true → (q : Part) → fits b q ≡ true → (rest : List Token) → Reads raw q (tokens rest) rest
  pub function : v ≡ false → p.function ≡ true → (rest : List Token) → Reads raw (expr function_level) (tokens rest) rest
  pub operand_starts : p.closed ≡ true → StartsOther p.text
  pub function_starts : p.function ≡ true → StartsOther p.text

pub record OperandReading (b : Boolean) (text : List ℕ) (raw : Raw) : Type 0 where
  pub tokens : List Token → List Token
  pub lex : Lex Breaks text tokens
  pub reads : (q : Part) → fits b q ≡ true → (rest : List Token) → Reads raw q (tokens rest) rest
  pub starts : StartsOther text

pub operand_reading : (v b : Boolean) (p : Piece) (raw : Raw) → Reading v b p raw → OperandReading b (operand_text p) raw
operand_reading v b p raw r = by p.closed refl
  where
    by : (c : Boolean) → p.closed ≡ c → OperandReading b (operand_text p) raw
    by true e =
        subst (λ c. OperandReading b (if c then p.text else in_parens p.text) raw) (sym e)
        (record { tokens = r.tokens; lex = r.lex; reads = r.operand e; starts = r.operand_starts e })
    by false e =
        subst (λ c. OperandReading b (if c then p.text else in_parens p.text) raw) (sym e)
        (record {
          tokens = λ ks. mark open_paren ∷ r.tokens (mark close_paren ∷ ks);
          lex = any_breaks _ _ (parens_lex p.text r.tokens r.lex);
          reads = λ q h rest.
              (paren_raw raw).wraps q _ _ rest refl
              (subst (λ x. Reads raw x (r.tokens (mark close_paren ∷ rest)) (mark close_paren ∷ rest)) (sym (inside_whole b q h)) (r.whole (mark close_paren ∷ rest)));
          starts = refl;
        })

-- as the function of an application
pub record FunctionReading (text : List ℕ) (raw : Raw) : Type 0 where
  pub tokens : List Token → List Token
  pub lex : Lex Breaks text tokens
  pub reads : (rest : List Token) → Reads raw (expr function_level) (tokens rest) rest
  pub starts : StartsOther text

pub function_reading : (p : Piece) (raw : Raw) → Reading false false p raw → FunctionReading (function_text p) raw
function_reading p raw r = by p.function refl
  where
    by : (c : Boolean) → p.function ≡ c → FunctionReading (function_text p) raw
    by true e =
        subst (λ c. FunctionReading (if c then p.text else in_parens p.text) raw) (sym e)
        (record { tokens = r.tokens; lex = r.lex; reads = r.function refl e; starts = r.function_starts e })
    by false e =
        subst (λ c. FunctionReading (if c then p.text else in_parens p.text) raw) (sym e)
        (record {
          tokens = λ ks. mark open_paren ∷ r.tokens (mark close_paren ∷ ks);
          lex = any_breaks _ _ (parens_lex p.text r.tokens r.lex);
          reads = λ rest. (paren_raw raw).wraps (expr function_level) _ _ rest refl (r.whole (mark close_paren ∷ rest));
          starts = refl;
        })

-- a closed expression with its type
pub annotated_reading : (p : Piece) (raw : Raw) (A : Ty) → Reading false false p raw → p.closed ≡ true → TypeReading A
    → Reading false false (annotated (Some A) p) (raw_annotated (Some A) raw)
annotated_reading p raw A r c a = record {
  tokens = tokens;
  lex = any_breaks _ _ (parens_lex (p.text ++ (codes " oftype " ++ type_text A)) _
      (after_word Breaks p.text 32 (codes "oftype " ++ type_text A) r.tokens _ blank_break r.lex (after_any Breaks (codes " oftype ") (type_text A) _ a.tokens oftype_lex a.lex)));
  whole = λ rest. reads (expr expr_level) refl rest;
  operand = λ e q h rest. reads q (inside_whole false q h) rest;
  function = λ e f rest. reads (expr function_level) refl rest;
  operand_starts = λ e. refl;
  function_starts = λ e. refl;
}
  where
    tokens : List Token → List Token
    tokens ks = mark open_paren ∷ r.tokens (mark oftype_word ∷ a.tokens (mark close_paren ∷ ks))

    alone : (rest : List Token) → Reads (of_type raw (raw_type A)) (expr expr_level) (r.tokens (mark oftype_word ∷ a.tokens rest)) rest
    alone rest = inl (refl, (mark oftype_word ∷ a.tokens rest, r.operand c (expr map_level) refl (mark oftype_word ∷ a.tokens rest), (a.tokens rest, refl, a.whole rest)))

    reads : (q : Part) → inside q ≡ expr expr_level → (rest : List Token) → Reads (of_type raw (raw_type A)) q
        (mark open_paren ∷ r.tokens (mark oftype_word ∷ a.tokens (mark close_paren ∷ rest))) rest
    reads q e rest =
        (paren_raw (of_type raw (raw_type A))).wraps q _ _ rest refl
        (subst (λ x. Reads (of_type raw (raw_type A)) x (r.tokens (mark oftype_word ∷ a.tokens (mark close_paren ∷ rest))) (mark close_paren ∷ rest)) (sym e) (alone (mark close_paren ∷ rest)))

-- how texts begin
pub starts_append : (a b : List ℕ) → StartsOther a → StartsOther (a ++ b)
starts_append [] b h = absurd h
starts_append (c ∷ a) b h = h

pub decimal_starts : (n : ℕ) → n < 2 ^ 127 → StartsOther (decimal n)
decimal_starts n h = by (decimal n) (decimal_is_IsNumeral_wide n (omega arith)).0.0 (decimal_is_IsNumeral_wide n (omega arith)).0.1
  where
    by : (ds : List ℕ) → 0 < length ds → AllDigits 10 ds → StartsOther ds
    by [] some d = absurd (omega arith)
    by (c ∷ cs) some d =
        let r = digit_from_value c d.0 in
        grind (arith, nat_tests, r)

pub alphabetic_starts : (c : ℕ) → is_ascii_alphabetic c ≡ true → (c == 45) ≡ false
alphabetic_starts c a = grind (arith, nat_tests, a)

pub alphabetic_name : (c : ℕ) → is_ascii_alphabetic c ≡ true → starts_name c ≡ true
alphabetic_name c a =
    let small : c < 128 = grind (arith, nat_tests, a) in
    ap (λ b. b || c == 95) (is_xid_start-ascii c small ∙ a)

pub name_starts : (n : List ℕ) → is_name n ≡ true → StartsOther n
name_starts n e = by n (chars n) (both (is_word (chars n)) _ parts.1).0 (encodes-chars n (IsUtf8-from_is_utf8 n parts.0))
  where
    parts : (is_utf8 n ≡ true) × ((is_word (chars n) && not (is_some (row_of reserved_words n))) ≡ true)
    parts = both (is_utf8 n) _ e

    minus_name : starts_name 45 ≡ false
    minus_name = ap (λ b. b || 45 == 95) (is_xid_start-ascii 45 (omega arith))

    by : (n cs : List ℕ) → is_word cs ≡ true → encode_utf8_all cs ≡ n → StartsOther n
    by n [] w e = cc
    by [] (c ∷ cs) w e = absurd (nothing c cs e)
      where
        nothing : (c : ℕ) (cs : List ℕ) → encode_utf8_all (c ∷ cs) ≡ [] → ⊥
        nothing c cs e = let l = length-le-encodes (c ∷ cs) in let z : length (encode_utf8_all (c ∷ cs)) ≡ 0 = ap length e in omega (arith, l, z)
    by (b ∷ bs) (c ∷ cs) w e = go (b == 45) refl
      where
        go : (k : Boolean) → (b == 45) ≡ k → k ≡ false
        go false g = refl
        go true g =
            let m : b ≡ 45 = grind (arith, nat_tests, g) in
            let f : encode_utf8_all (c ∷ cs) ≡ encode_utf8 45 ++ bs = e ∙ ap (λ x. x ∷ bs) m ∙ ap (λ xs. xs ++ bs) (sym (encode_ascii 45 (omega arith))) in
            let r = cons_from_encodes (c ∷ cs) bs 45 f in
            let same : c ≡ 45 = cc in
            let s : starts_name c ≡ true = (both (starts_name c) _ w).0 in
            absurd (true≢false (sym (subst (λ x. starts_name x ≡ true) same s) ∙ minus_name))
