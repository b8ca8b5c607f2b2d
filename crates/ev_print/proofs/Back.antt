-- The canonical text of a typed term reads back.
use Rattle.std.proofs.Common.{◌≡◌, ℕ, zero, suc, ◌+◌, ◌-◌, ◌<◌, ◌≤◌, ◌^◌, Bool as Boolean, true, false, ◌&&◌, ◌||◌, not, List, [], ◌∷◌, ◌++◌, length, map, refl, sym, ap, ◌∙◌, subst, arith, true≢false, inl}
use Rattle.std.proofs.lemmas.List.{append-nil}
use Rattle.std.specs.Prelude.{Option, Some, None, IsSomeAnd, option_map, slice_get, if◌then◌else◌, decimal}
use Rattle.std.specs.Option.{unwrap_or}
use Rattle.std.specs.List.{AllByRecursion, list_any}
use Rattle.ev_terms.specs.declared.types.Ty.{Ty, Int, Bool, Prop, Param, Data}
use Rattle.ev_terms.specs.declared.types.Tys.{Tys, Empty}
use Rattle.ev_terms.specs.declared.types.Sym.{Sym}
use Rattle.ev_terms.specs.declared.types.Sym.TheVariants.{Base, User}
use Rattle.ev_terms.specs.Types.{pow, prod, more, type_list}
use Rattle.ev_terms.specs.Term.{Term, Terms, var, lit, node, nil, cons}
use Rattle.ev_terms.specs.Symbols.{binds}
use Rattle.ev_terms.specs.Substitution.{type_inst, types_inst, type_at}
use Rattle.ev_terms.specs.Measures.{type_params, types_params, params, all_params, depth, depths}
use Rattle.ev_typing.specs.declared.typing.DataDecl.{DataDecl}
use Rattle.ev_typing.specs.Profiles.{Profile}
use Rattle.ev_typing.specs.Env.{Env, Name, Symbol, symbol_profile, profile, find_data, find_symbol}
use Rattle.ev_typing.specs.Typing.{IsProper, AreProper, IsTypedNode, Typed, AreTyped, inside}
use Rattle.ev_typing.specs.Proper.{IsResult}
use Rattle.ev_typing.specs.WellFormed.{IsWellFormed}
use Rattle.ev_typing.proofs.Proper.{result_inst}
use Rattle.ev_typing.proofs.ProperSignatures.{signatures_proper}
use Rattle.ev_typing.proofs.TypeInstances.{profile_bounded}
use Rattle.ev_syntax.specs.Names.{is_name}
use Rattle.ev_syntax.specs.Tokens.{Token, name, number, Tokens, AreTokens, tokens_of, HasTooLarge, is_too_large}
use Rattle.ev_syntax.proofs.Continuing.{text_tokens_same}
use Rattle.ev_syntax.specs.Raw.{Raw, call, literal, none}
use Rattle.ev_syntax.specs.Parts.{Part, is_predicate, may_have_level, post_level, may_be_name}
use Rattle.ev_syntax.specs.Grammar.{Reads}
use Rattle.ev_syntax.specs.Parses.{Parses}
use Rattle.ev_syntax.proofs.OneTree.{at_most_one_tree}
use Rattle.ev_print.specs.Styles.{base_style, is_closed}
use Rattle.ev_print.specs.Canon.{Piece, variable_text, first_type, written_symbol, is_closed_symbol, symbol_shows_type, leaves_open, annotation, annotated, piece, pieces}
use Rattle.ev_print.specs.Texts.{raw_symbol, raw_annotated, first_variable, raw_term, raw_terms}
use Rattle.ev_print.specs.ReadBack.{HasFreeNames, sort_of, ReadsOnlyAs, TextReadsBack}
use Rattle.ev_print.proofs.Lexing.{Toks, no_tokens, name_lex, number_lex, variable_name}
use Rattle.ev_print.proofs.TypesBack.{type_reading}
use Rattle.ev_print.proofs.Rows.{is_prop, whole_part, fits, fits_expression, both, base_row}
use Rattle.ev_print.proofs.Pieces.{Reading, annotated_reading, decimal_starts}
use Rattle.ev_print.proofs.Written.{is_variable, AllReadings, AreExpressions, base_reading, call_reading}
use Rattle.ev_print.proofs.Declared.{HasTextSignature, text_signature, free_symbol, free_datatype, free_is_name}

-- no type put in for a parameter is the type of predicates
expression_at : (env : Env) (As : Tys) (i d : ℕ) → AreProper env As → is_prop (unwrap_or (slice_get (type_list As) i) (Param d)) ≡ false
expression_at env Empty i d h = refl
expression_at env (more A As) zero d h = by A h.0
  where
    by : (A : Ty) → IsProper env A → is_prop A ≡ false
    by Int h = refl
    by Bool h = refl
    by Prop h = absurd h
    by (Param i) h = refl
    by (pow A) h = refl
    by (prod A B) h = refl
    by (Data n As) h = refl
expression_at env (more A As) (suc i) d h = expression_at env As i d h.1

is_prop_inst : (env : Env) (As : Tys) → AreProper env As → (A : Ty) → is_prop (type_inst (type_at As) A) ≡ is_prop A
is_prop_inst env As h Int = refl
is_prop_inst env As h Bool = refl
is_prop_inst env As h Prop = refl
is_prop_inst env As h (Param i) = expression_at env As i i h
is_prop_inst env As h (pow A) = refl
is_prop_inst env As h (prod A B) = refl
is_prop_inst env As h (Data n Bs) = refl

props_inst : (env : Env) (As : Tys) → AreProper env As → (Bs : List Ty) → map is_prop (map (type_inst (type_at As)) Bs) ≡ map is_prop Bs
props_inst env As h [] = refl
props_inst env As h (B ∷ Bs) = ap (λ b. b ∷ map is_prop (map (type_inst (type_at As)) Bs)) (is_prop_inst env As h B) ∙ ap (λ bs. is_prop B ∷ bs) (props_inst env As h Bs)

-- the parameters of an instance are those of the types put in
params_at : (As : Tys) (i d : ℕ) → i < length (type_list As) → type_params (unwrap_or (slice_get (type_list As) i) (Param d)) ≤ types_params As
params_at Empty i d h = absurd (omega arith)
params_at (more A As) zero d h = omega arith
params_at (more A As) (suc i) d h = let r = params_at As i d (omega arith) in omega (arith, r)

mutual
  params_inst : (As : Tys) (A : Ty) → type_params A ≤ length (type_list As) → type_params (type_inst (type_at As) A) ≤ types_params As
  params_inst As Int h = omega arith
  params_inst As Bool h = omega arith
  params_inst As Prop h = omega arith
  params_inst As (Param i) h = params_at As i i (omega arith)
  params_inst As (pow A) h = params_inst As A h
  params_inst As (prod A B) h = let x = params_inst As A (omega arith) in let y = params_inst As B (omega arith) in omega (arith, x, y)
  params_inst As (Data n Bs) h = all_params_inst As Bs h

  all_params_inst : (As Bs : Tys) → types_params Bs ≤ length (type_list As) → types_params (types_inst (type_at As) Bs) ≤ types_params As
  all_params_inst As Empty h = omega arith
  all_params_inst As (more B Bs) h = let x = params_inst As B (omega arith) in let y = all_params_inst As Bs (omega arith) in omega (arith, x, y)

first_proper : (env : Env) (As : Tys) → AreProper env As → IsProper env (first_type (type_list As))
first_proper env Empty h = tt
first_proper env (more A As) h = h.0

first_params : (As : Tys) → type_params (first_type (type_list As)) ≤ types_params As
first_params Empty = omega arith
first_params (more A As) = omega arith

proper_result : (env : Env) (A : Ty) → IsResult env A → is_prop A ≡ false → IsProper env A
proper_result env Int h e = h
proper_result env Bool h e = h
proper_result env Prop h e = cc
proper_result env (Param i) h e = h
proper_result env (pow A) h e = h
proper_result env (prod A B) h e = h
proper_result env (Data n As) h e = h

expressions : (As : List Ty) → AllByRecursion (λ A. is_prop A ≡ false) As → AreExpressions (map is_prop As)
expressions [] h = tt
expressions (A ∷ As) h = (h.0, expressions As h.1)

binds_most : (s : Sym) → binds s ≤ 1
unfolding binds
binds_most (Base k) = by _
  where
    by : (b : Boolean) → (if b then 1 else 0) ≤ 1
    by true = omega arith
    by false = omega arith
binds_most (User n) = omega arith

variable_reading : (k : ℕ) (b : Boolean) → k < 2 ^ 64 → Reading true b (record { text = variable_text k; closed = true; function = true }) (call (variable_text k) none)
variable_reading k b h = record {
  tokens = λ ks. name (variable_text k) ∷ ks;
  lex = name_lex (variable_text k) (variable_name k h);
  whole = λ rest. inl (stands b (whole_part b) (whole_fits b), refl);
  operand = λ e q g rest. inl (stands b q g, refl);
  function = λ e f. absurd (true≢false e);
  operand_starts = λ e. refl;
  function_starts = λ e. refl;
}
  where
    stands : (b : Boolean) (q : Part) → fits b q ≡ true → may_be_name q ≡ true
    stands true q g = ap (λ c. c || may_have_level post_level q) g
    stands false q g = later (is_predicate q) _ g
      where
        later : (a c : Boolean) → c ≡ true → (a || c) ≡ true
        later true c e = refl
        later false c e = e

    whole_fits : (b : Boolean) → fits b (whole_part b) ≡ true
    whole_fits true = refl
    whole_fits false = refl

literal_reading : (n : ℕ) → n < 2 ^ 127 → Reading false false (record { text = decimal n; closed = true; function = false }) (literal n)
literal_reading n h = record {
  tokens = λ ks. number n ∷ ks;
  lex = number_lex n h;
  whole = λ rest. inl (refl, refl);
  operand = λ e q g rest. inl (fits_expression q g, refl);
  function = λ e f. absurd (cc);
  operand_starts = λ e. decimal_starts n h;
  function_starts = λ f. absurd (cc);
}

module _ (env : Env) (good : IsWellFormed env) (free : HasFreeNames env) where
  named : (n : Name) (d : DataDecl) → find_data env n ≡ Some d → is_name n ≡ true
  named n d e = free_is_name n (free_datatype env free n d e)

  -- the text of a symbol without its type
  abbrev plain_piece : ℕ → Sym → Tys → Terms → Piece
  plain_piece n s As ts = record { text = written_symbol s n (type_list As) (pieces env (n + binds s) ts); closed = is_closed_symbol s; function = false }

  abbrev plain_raw : ℕ → Sym → Tys → Terms → Raw
  plain_raw n s As ts = raw_symbol s n (type_list As) (first_variable (n + binds s) ts) (raw_terms env (n + binds s) ts)

  found_symbol : (w : Name) (p : Profile) → profile env (User w) ≡ Some p → (s : Symbol) × (find_symbol env w ≡ Some s) × (symbol_profile s ≡ p)
  found_symbol w p e = by (find_symbol env w) refl e
    where
      by : (o : Option Symbol) → find_symbol env w ≡ o → option_map symbol_profile o ≡ Some p → (s : Symbol) × (find_symbol env w ≡ Some s) × (symbol_profile s ≡ p)
      by None f g = absurd (cc)
      by (Some s) f g = (s, f, (cc))

  plain_reading : (n : ℕ) (s : Sym) (As : Tys) (ts : Terms) (p : Profile) → profile env s ≡ Some p → AreProper env As → types_params As ≤ 2 ^ 32 → n + 1 < 2 ^ 64
      → AllReadings env (n + binds s) ts (map is_prop p.args) → Reading false (is_prop p.result) (plain_piece n s As ts) (plain_raw n s As ts)
  plain_reading n (Base k) As ts p e proper small bound h =
      let b = binds_most (Base k) in
      let f = first_params As in
      base_reading env n (n + binds (Base k)) (omega arith) (omega arith) (type_list As)
      (type_reading env named (first_type (type_list As)) (first_proper env As proper) (omega arith)) (omega arith)
      (base_style k) p.args (is_prop p.result) ts (both _ _ (base_row k p e)).0 h
  plain_reading n (User w) As ts p e proper small bound h =
      let (s, f, same) = found_symbol w p e in
      let t : HasTextSignature p = subst HasTextSignature same (text_signature env good w s f) in
      call_reading env w (n + binds (User w)) ts (map is_prop p.args) (is_prop p.result) (free_is_name w (free_symbol env free w s f)) (expressions p.args t.expressions) h

  -- what is annotated is closed, and an expression
  annotated_closed : (s : Sym) (p : Profile) → profile env s ≡ Some p → (not (symbol_shows_type s) && leaves_open p) ≡ true → (is_closed_symbol s ≡ true) × (is_prop p.result ≡ false)
  annotated_closed (Base k) p e f =
      let g : (not true || (is_closed (base_style k) && not (is_prop p.result))) ≡ true = ap (λ b. not b || (is_closed (base_style k) && not (is_prop p.result))) (sym f) ∙ (both _ _ (base_row k p e)).1 in
      let h = both (is_closed (base_style k)) (not (is_prop p.result)) g in
      (h.0, negated _ h.1)
    where
      negated : (b : Boolean) → not b ≡ true → b ≡ false
      negated false e = refl
      negated true e = cc
  annotated_closed (User w) p e f =
      let (s, g, same) = found_symbol w p e in
      let t : HasTextSignature p = subst HasTextSignature same (text_signature env good w s g) in
      (refl, by (is_prop p.result) refl t.shown)
    where
      by : (b : Boolean) → is_prop p.result ≡ b → (is_prop p.result ≡ true → leaves_open p ≡ false) → is_prop p.result ≡ false
      by false g shown = g
      by true g shown = absurd (true≢false (sym f ∙ shown g))

  abbrev AnnotatedReading : ℕ → Sym → Tys → Terms → Boolean → Option Profile → Type 0
  AnnotatedReading n s As ts b o = Reading false b (annotated (annotation s o As) (plain_piece n s As ts)) (raw_annotated (annotation s o As) (plain_raw n s As ts))

  node_reading : (n : ℕ) (C : List Ty) (s : Sym) (As : Tys) (ts : Terms) (A : Ty)
      → IsSomeAnd (profile env s) (λ p. IsTypedNode env As p A (AreTyped env (inside C s As) ts (map (type_inst (type_at As)) p.args)))
      → types_params As ≤ 2 ^ 32 → n + 1 < 2 ^ 64
      → ((Bs : List Ty) → AreTyped env (inside C s As) ts Bs → AllReadings env (n + binds s) ts (map is_prop Bs))
      → Reading false (is_prop A) (piece env n (node s As ts)) (raw_term env n (node s As ts))
  node_reading n C s As ts A h small bound again = by (profile env s) refl h
    where
      by : (o : Option Profile) → profile env s ≡ o
          → IsSomeAnd o (λ p. IsTypedNode env As p A (AreTyped env (inside C s As) ts (map (type_inst (type_at As)) p.args))) → AnnotatedReading n s As ts (is_prop A) (profile env s)
      by None e h = absurd h
      by (Some p) e h = subst (AnnotatedReading n s As ts (is_prop A)) (sym e) (choose (not (symbol_shows_type s) && leaves_open p) refl)
        where
          sort : is_prop p.result ≡ is_prop A
          sort = sym (is_prop_inst env As h.proper p.result) ∙ ap is_prop (sym h.result)

          inner : Reading false (is_prop p.result) (plain_piece n s As ts) (plain_raw n s As ts)
          inner = plain_reading n s As ts p e h.proper small bound (subst (AllReadings env (n + binds s) ts) (props_inst env As h.proper p.args) (again (map (type_inst (type_at As)) p.args) h.children))

          choose : (b : Boolean) → (not (symbol_shows_type s) && leaves_open p) ≡ b
              → Reading false (is_prop A) (annotated (if b then Some (type_inst (type_at As) p.result) else None) (plain_piece n s As ts))
              (raw_annotated (if b then Some (type_inst (type_at As) p.result) else None) (plain_raw n s As ts))
          choose false f = subst (λ b. Reading false b (plain_piece n s As ts) (plain_raw n s As ts)) sort inner
          choose true f =
              let c = annotated_closed s p e f in
              let most : type_params (type_inst (type_at As) p.result) ≤ types_params As =
              params_inst As p.result (let l = (profile_bounded env good s p e).result in let m = h.count in omega (arith, l, m)) in
              let fine : IsProper env (type_inst (type_at As) p.result) =
              proper_result env _ (result_inst env As p.result h.proper (signatures_proper env good s p e).1) (is_prop_inst env As h.proper p.result ∙ c.1) in
              subst (λ b. Reading false b (annotated (Some (type_inst (type_at As) p.result)) (plain_piece n s As ts)) (raw_annotated (Some (type_inst (type_at As) p.result)) (plain_raw n s As ts)))
              (sym c.1 ∙ sort)
              (annotated_reading (plain_piece n s As ts) (plain_raw n s As ts) (type_inst (type_at As) p.result) (subst (λ b. Reading false b (plain_piece n s As ts) (plain_raw n s As ts)) c.1 inner) c.0
              (type_reading env named (type_inst (type_at As) p.result) fine (omega arith)))

  mutual
    pub term_reading : (n : ℕ) (C : List Ty) (t : Term) (A : Ty) → Typed env C t A → params t ≤ 2 ^ 32 → n + depth t < 2 ^ 64
        → Reading (is_variable t) (is_prop A) (piece env n t) (raw_term env n t)
    term_reading n C (var i) A h p d = variable_reading (n - (i + 1)) (is_prop A) (omega arith)
    term_reading n C (lit k) A h p d = subst (λ B. Reading false (is_prop B) (piece env n (lit k)) (raw_term env n (lit k))) (sym h.1) (literal_reading k h.0)
    term_reading n C (node s As ts) A h p d =
        node_reading n C s As ts A h (omega arith) (omega arith)
        (λ Bs hs. terms_reading (n + binds s) (inside C s As) ts Bs hs (omega arith) (let b = binds_most s in omega (arith, b)))

    terms_reading : (n : ℕ) (C : List Ty) (ts : Terms) (Bs : List Ty) → AreTyped env C ts Bs → all_params ts ≤ 2 ^ 32 → n + depths ts < 2 ^ 64 → AllReadings env n ts (map is_prop Bs)
    terms_reading n C nil [] h p d = tt
    terms_reading n C nil (B ∷ Bs) h p d = absurd h
    terms_reading n C (cons t ts) [] h p d = absurd h
    terms_reading n C (cons t ts) (B ∷ Bs) h p d = (term_reading n C t B h.0 (omega arith) (omega arith), terms_reading n C ts Bs h.1 (omega arith) (omega arith))

-- a text that reads so, whole
abbrev ReadsSort : Boolean → Raw → List Token → Type 0
ReadsSort b raw ts = Reads raw (whole_part b) ts []

whole_parses : (A : Ty) (raw : Raw) (ts : List Token) → ReadsSort (is_prop A) raw ts → Parses ts (sort_of A) raw
whole_parses Int raw ts h = h
whole_parses Bool raw ts h = h
whole_parses Prop raw ts h = h
whole_parses (Param i) raw ts h = h
whole_parses (pow A) raw ts h = h
whole_parses (prod A B) raw ts h = h
whole_parses (Data n As) raw ts h = h

reads_only : (v : Boolean) (A : Ty) (p : Piece) (raw : Raw) → Reading v (is_prop A) p raw → ReadsOnlyAs p.text (sort_of A) raw
reads_only v A p raw r = record {
  tokens = r.tokens [];
  lexes = tokens;
  small = λ large. too_large large;
  parses = parses;
  only = λ ts other l q. at_most_one_tree (r.tokens []) (sort_of A) other raw (subst (λ us. Parses us (sort_of A) other) (same ts l) q) parses;
}
  where
    toks : Toks (r.lex.chars ++ []) (r.tokens [])
    toks = r.lex.lexes [] [] tt no_tokens

    tokens : Tokens p.text (r.tokens [])
    tokens = let (us, h, e) = toks.at 0 in (us, (r.lex.chars, r.lex.spells, subst (λ cs. AreTokens 0 cs us) (append-nil r.lex.chars) h), sym e)

    same : (ts : List Token) → Tokens p.text ts → ts ≡ r.tokens []
    same ts (us, h, e) = e ∙ ap tokens_of (text_tokens_same p.text us tokens.0 h tokens.1) ∙ sym tokens.2

    parses : Parses (r.tokens []) (sort_of A) raw
    parses = whole_parses A raw (r.tokens []) (r.whole [])

    too_large : HasTooLarge p.text → ⊥
    too_large (ts, l, e) = true≢false (sym e ∙ ap (list_any is_too_large) (same ts l) ∙ toks.small)

pub text_reads_back : TextReadsBack
text_reads_back env good free C t A h p d = reads_only (is_variable t) A (piece env (length C) t) (raw_term env (length C) t) (term_reading env good free (length C) C t A h p d)
