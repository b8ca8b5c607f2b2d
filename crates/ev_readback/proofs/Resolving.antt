-- What a canonical text says resolves to its term with the types forgotten that it does not write.
use Rattle.std.specs.Prelude.{◌≡◌, ℕ, zero, suc, ◌+◌, ◌-◌, ◌<◌, ◌≤◌, ◌^◌, max, ◌==◌, Bool as Boolean, true, false, ◌&&◌, not, if◌then◌else◌, List, [], ◌∷◌, ◌++◌, map, take, length, Option, Some, None, option_map, option_and_then, IsSomeAnd, slice_get, reverse, refl}
use Rattle.std.specs.List.{AllByRecursion}
use Rattle.std.proofs.Common.{ap, sym, ◌∙◌, arith, true≢false, subst as transport}
use Rattle.std.proofs.lemmas.Bool.{eqb-true, eq-eqb}
use Rattle.std.proofs.lemmas.List.{length-append, length-reverse, length-map, length-take-le}
use Rattle.ev_terms.specs.declared.types.Ty.{Ty, Int, Bool, Prop, Param, Data}
use Rattle.ev_terms.specs.declared.types.Tys.{Tys, Empty}
use Rattle.ev_terms.specs.declared.types.Sym.{Sym}
use Rattle.ev_terms.specs.declared.types.Sym.TheVariants.{Base, User}
use Rattle.ev_terms.specs.Types.{pow, prod, more, type_list}
use Rattle.ev_terms.specs.Term.{Term, Terms, var, lit, node, nil, cons}
use Rattle.ev_terms.specs.Symbols.{binds}
use Rattle.ev_terms.specs.Measures.{depth, depths}
use Rattle.ev_terms.specs.Substitution.{type_inst, type_at}
use Rattle.ev_forms.specs.Base as base
use Rattle.ev_syntax.specs.Marks.{not_word, minus_sign, int_word, bool_set_word, for_all_sign}
use Rattle.ev_typing.specs.Profiles.{Profile, base_profiles, base_profile}
use Rattle.ev_typing.specs.Env.{Env, Name, profile}
use Rattle.ev_typing.specs.Typing.{IsProper, AreProper, Typed, AreTyped, IsTypedNode, var_type, inside}
use Rattle.ev_typing.specs.WellFormed.{IsWellFormed}
use Rattle.ev_typing.proofs.Proper.{and_split}
use Rattle.ev_syntax.specs.Raw.{Binder, Raw, Raws, word, literal, param, type_set, call, around, unary, binary, inverse, apply, image, of_type, quantified, set_of, members, none, one}
use Rattle.ev_resolve.specs.Reading.{Variable, meaning, variable, symbol, both, Plain, infix_symbols, prefix_symbols, around_symbols, word_symbols, entry_of, swaps, quantifier, count_of}
use Rattle.ev_resolve.specs.Bare.{Bare, Bares, bare_var, bare_lit, bare_node, bare_of, bare_none, bare_more}
use Rattle.ev_resolve.specs.Resolve.{known_of, bare_and_not, plain_bare, two_bares, application_bare, call_bare, resolve, resolve_all, type_bare, bare_one, bare_two, word_bare, bind_all}
use Rattle.ev_infer.proofs.ToBare.{both_to}
use Rattle.ev_infer.proofs.Nodes.{inside_plain, binds_user}
use Rattle.ev_print.specs.declared.styles.Style.{Style}
use Rattle.ev_print.specs.declared.styles.Style.TheVariants.{Word, Braces, Infix, Not, Minus, Inverse, Around, Quantifier, SetFormer, Whole, Image, Application}
use Rattle.ev_print.specs.Styles.{base_style, shows_type}
use Rattle.ev_print.specs.Canon.{variable_text, first_type, annotation, symbol_shows_type}
use Rattle.ev_print.specs.ReadBack.{HasFreeNames}
use Rattle.ev_print.specs.Texts.{raw_type, raw_binder, raw_whole, raw_application, raw_written, raw_symbol, raw_annotated, first_variable, raw_term, raw_terms}
use Rattle.ev_readback.specs.OnlyAnnotation.{AreParameters}
use Rattle.ev_readback.proofs.Rows.{pass, row_passed}
use Rattle.ev_readback.proofs.Meanings.{scope, meaning_at, meaning_symbol}
use Rattle.ev_readback.proofs.WrittenTypes.{some_of, type_back}
use Rattle.ev_readback.proofs.BareTerms.{shown, bare_annotated, bare_term, bare_terms, written_proper, shown_one, hidden_plain}

-- Each base symbol is written so that it is read as itself.
abbrev row_of : Sym → ℕ
row_of (Base k) = k
row_of (User n) = 64

-- the entry of a mark is the symbol's, over its operands in their order
abbrev entry_is : Option Plain → ℕ → Boolean
entry_is None k = false
entry_is (Some e) k = row_of e.sym == k && (not e.swapped && not e.negated)

abbrev style_test : ℕ → Style → ℕ → Boolean
style_test k (Word m) n = entry_is (entry_of word_symbols m) k && n == 0
style_test k Braces n = row_of base.empty_sym == k && n == 0
style_test k (Infix m) n = entry_is (entry_of infix_symbols m) k && n == 2
style_test k Not n = entry_is (entry_of prefix_symbols not_word) k && n == 1
style_test k Minus n = entry_is (entry_of prefix_symbols minus_sign) k && n == 1
style_test k Inverse n = row_of base.inverse_sym == k && n == 1
style_test k (Around m) n = entry_is (entry_of around_symbols m) k && n == 1
style_test k (Quantifier m) n = row_of (quantifier m) == k && n == 1
style_test k SetFormer n = row_of base.set_sym == k && n == 1
style_test k Whole n = row_of base.type_sym == k && n == 0
style_test k Image n = row_of base.image_sym == k && n == 2
style_test k Application n = row_of base.apply_sym == k && n == 2

abbrev binds_test : ℕ → Style → Boolean
binds_test k (Quantifier m) = binds (Base k) == 1
binds_test k SetFormer = binds (Base k) == 1
binds_test k _ = binds (Base k) == 0

abbrev row_test : ℕ → Profile → Boolean
row_test k p = style_test k (base_style k) (length p.args) && binds_test k (base_style k)

rows_pass : pass row_test 0 base_profiles ≡ true
unfolding binds
rows_pass = refl

-- a plain entry gives its symbol
record IsEntry (o : Option Plain) (k : ℕ) : Type 0 where
  entry : Plain
  found : o ≡ Some entry
  sym_is : entry.sym ≡ Base k
  kept : entry.swapped ≡ false
  plain_ : entry.negated ≡ false

base_row : (s : Sym) (k : ℕ) → (row_of s == k) ≡ true → k < 64 → s ≡ Base k
base_row (Base j) k e lt = ap Base (eqb-true j k e)
base_row (User n) k e lt = let same : 64 ≡ k = eqb-true 64 k e in absurd (omega (arith, same, lt))

is_not : (b : Boolean) → not b ≡ true → b ≡ false
is_not true e = absurd (true≢false (sym e))
is_not false e = refl

entry_from : (o : Option Plain) (k : ℕ) → k < 64 → entry_is o k ≡ true → IsEntry o k
entry_from None k lt h = absurd (true≢false (sym h))
entry_from (Some e) k lt h =
    let (row, rest) = and_split (row_of e.sym == k) (not e.swapped && not e.negated) h in
    let (order, sign) = and_split (not e.swapped) (not e.negated) rest in
    record { entry = e; found = refl; sym_is = base_row e.sym k row lt; kept = is_not e.swapped order; plain_ = is_not e.negated sign }

plain_gives : (o : Option Plain) (k : ℕ) (bs : Bares) → IsEntry o k → plain_bare o bs ≡ Some (bare_node (Base k) None bs)
plain_gives o k bs i =
    ap (λ x. plain_bare x bs) i.found
    ∙ ap (λ b. Some (bare_and_not b (bare_node i.entry.sym None bs))) i.plain_
    ∙ ap (λ s. Some (bare_node s None bs)) i.sym_is

order_kept : (o : Option Plain) (k : ℕ) → IsEntry o k → swaps o ≡ false
order_kept o k i = ap swaps i.found ∙ i.kept

word_gives : (o : Option Plain) (m k : ℕ) → IsEntry o k → word_bare o m ≡ Some (bare_node (Base k) None bare_none)
word_gives o m k i =
    ap (λ x. word_bare x m) i.found
    ∙ plain_gives (Some i.entry) k bare_none (record { entry = i.entry; found = refl; sym_is = i.sym_is; kept = i.kept; plain_ = i.plain_ })

-- the variables outside the children
abbrev under : Style → ℕ → ℕ
under (Quantifier m) n = suc n
under SetFormer n = suc n
under _ n = n

under_binds : (style : Style) (k n : ℕ) → binds_test k style ≡ true → n + binds (Base k) ≡ under style n
under_binds (Word m) k n h = let z = eqb-true (binds (Base k)) 0 h in omega (arith, z)
under_binds Braces k n h = let z = eqb-true (binds (Base k)) 0 h in omega (arith, z)
under_binds (Infix m) k n h = let z = eqb-true (binds (Base k)) 0 h in omega (arith, z)
under_binds Not k n h = let z = eqb-true (binds (Base k)) 0 h in omega (arith, z)
under_binds Minus k n h = let z = eqb-true (binds (Base k)) 0 h in omega (arith, z)
under_binds Inverse k n h = let z = eqb-true (binds (Base k)) 0 h in omega (arith, z)
under_binds (Around m) k n h = let z = eqb-true (binds (Base k)) 0 h in omega (arith, z)
under_binds (Quantifier m) k n h = let z = eqb-true (binds (Base k)) 1 h in omega (arith, z)
under_binds SetFormer k n h = let z = eqb-true (binds (Base k)) 1 h in omega (arith, z)
under_binds Whole k n h = let z = eqb-true (binds (Base k)) 0 h in omega (arith, z)
under_binds Image k n h = let z = eqb-true (binds (Base k)) 0 h in omega (arith, z)
under_binds Application k n h = let z = eqb-true (binds (Base k)) 0 h in omega (arith, z)

-- children by their number
module _ (env : Env) (D : List Ty) where
  no_child : (ts : Terms) (Xs : List Ty) → AreTyped env D ts Xs → length Xs ≡ 0 → ts ≡ nil
  no_child nil Xs h e = refl
  no_child (cons t ts) [] h e = absurd h
  no_child (cons t ts) (X ∷ Xs) h e = absurd (omega (arith, e))

  one_child : (ts : Terms) (Xs : List Ty) → AreTyped env D ts Xs → length Xs ≡ 1 → (t : Term) × (ts ≡ cons t nil)
  one_child nil [] h e = absurd (omega (arith, e))
  one_child nil (X ∷ Xs) h e = absurd h
  one_child (cons t ts) [] h e = absurd h
  one_child (cons t ts) (X ∷ Xs) h e = (t, ap (cons t) (no_child ts Xs h.1 (omega (arith, e))))

  two_children : (ts : Terms) (Xs : List Ty) → AreTyped env D ts Xs → length Xs ≡ 2 → (t u : Term) × (ts ≡ cons t (cons u nil))
  two_children nil [] h e = absurd (omega (arith, e))
  two_children nil (X ∷ Xs) h e = absurd h
  two_children (cons t ts) [] h e = absurd h
  two_children (cons t ts) (X ∷ Xs) h e = let (u, q) = one_child ts Xs h.1 (omega (arith, e)) in (t, u, ap (cons t) q)

first_typed : (env : Env) (D : List Ty) (t : Term) (ts : Terms) (Ys : List Ty) → AreTyped env D (cons t ts) Ys → (X : Ty) × Typed env D t X
first_typed env D t ts [] h = absurd h
first_typed env D t ts (Y ∷ Ys) h = (Y, h.0)

first_proper : (env : Env) (As : Tys) → AreProper env As → IsProper env (first_type (type_list As))
first_proper env Empty h = tt
first_proper env (more A As) h = h.0

slice_within : {X : Type 0} (xs : List X) (i : ℕ) (A : X) → slice_get xs i ≡ Some A → i < length xs
slice_within [] i A e = cc
slice_within (x ∷ xs) zero A e = omega arith
slice_within (x ∷ xs) (suc i) A e = omega (arith, slice_within xs i A e)

var_within : (C : List Ty) (i : ℕ) (A : Ty) → var_type C i ≡ Some A → i < length C
var_within C i A e = omega (arith, slice_within (reverse C) i A e, length-reverse C)

module _ (env : Env) (formed : IsWellFormed env) (frees : HasFreeNames env) (params : List Name) (own : AreParameters env params) where
  -- what stands under n variables resolves
  abbrev resolved_at : ℕ → Raw → Option Bare
  resolved_at n raw = resolve params (known_of env) raw (scope n)

  abbrev Resolves : ℕ → Term → Type 0
  Resolves n t = resolved_at n (raw_term env n t) ≡ Some (bare_term env t)

  abbrev AllResolve : ℕ → Terms → Type 0
  AllResolve n nil = Unit {0}
  AllResolve n (cons t ts) = Resolves n t × AllResolve n ts

  all_together : (n : ℕ) (ts : Terms) → AllResolve n ts → resolve_all params (known_of env) (raw_terms env n ts) (scope n) ≡ Some (bare_terms env ts)
  all_together n nil h = refl
  all_together n (cons t ts) h = both_to bare_more _ _ (bare_term env t) (bare_terms env ts) h.0 (all_together n ts h.1)

  variable_means : (n i : ℕ) → n < 2 ^ 64 → i < n → meaning params (known_of env) (variable_text (n - (i + 1))) (scope n) 0 ≡ variable i
  variable_means n i w lt = meaning_at params (known_of env) n i 0 w lt ∙ ap variable sum
    where
      sum : 0 + i ≡ i
      sum = omega arith

  whole_resolves : (n : ℕ) (A : Ty) → IsProper env A → resolved_at n (raw_whole A) ≡ Some (type_bare A)
  whole_resolves n Int h = refl
  whole_resolves n Bool h = refl
  whole_resolves n Prop h = absurd h
  whole_resolves n (Param i) h = refl
  whole_resolves n (pow a) h = ap (option_map type_bare) (type_back env frees params own (pow a) h)
  whole_resolves n (prod a b) h = ap (option_map type_bare) (type_back env frees params own (prod a b) h)
  whole_resolves n (Data m As) h = ap (option_map type_bare) (type_back env frees params own (Data m As) h)

  binder_resolves : (s : Sym) (n : ℕ) (A : Ty) (t : Term) → IsProper env A → Resolves (suc n) t
      → bind_all params (known_of env) s (raw_binder n A ∷ []) (λ vars. resolve params (known_of env) (raw_term env (suc n) t) vars) (scope n)
      ≡ Some (bare_one s (Some A) (bare_term env t))
  binder_resolves s n A t h r = both_to (bare_one s) _ _ (Some A) (bare_term env t) (ap (option_map Some) (type_back env frees params own A h)) r

  -- an application of a variable is a call of it
  application_resolves : (n : ℕ) (D : List Ty) (t u : Term) (X : Ty) → length D ≡ n → n < 2 ^ 64 → Typed env D t X → Resolves n t → Resolves n u
      → resolved_at n (raw_application (first_variable n (cons t (cons u nil))) (raw_term env n t) (raw_term env n u))
      ≡ Some (bare_two base.apply_sym None (bare_term env t) (bare_term env u))
  application_resolves n D (var i) u X size w h r q =
      let lt : i < n = omega (arith, var_within D i X h, size) in
      ap (λ m. option_and_then (call_bare m (variable_text (n - (i + 1))) 1) (resolve_all params (known_of env) (one (raw_term env n u) none) (scope n)))
      (variable_means n i w lt)
      ∙ ap (option_and_then (call_bare (variable i) (variable_text (n - (i + 1))) 1)) (all_together n (cons u nil) (q, tt))
  application_resolves n D (lit m) u X size w h r q = both_to (bare_two base.apply_sym None) _ _ (bare_lit m) (bare_term env u) r q
  application_resolves n D (node s As ts) u X size w h r q = both_to (bare_two base.apply_sym None) _ _ (bare_term env (node s As ts)) (bare_term env u) r q

  unary_resolves : (o : Option Plain) (k n : ℕ) (t : Term) → IsEntry o k → Resolves n t
      → option_and_then (λ b. plain_bare o (bare_more b bare_none)) (resolved_at n (raw_term env n t)) ≡ Some (bare_node (Base k) None (bare_more (bare_term env t) bare_none))
  unary_resolves o k n t i r =
      ap (option_and_then (λ b. plain_bare o (bare_more b bare_none))) r ∙ plain_gives o k (bare_more (bare_term env t) bare_none) i

  infix_resolves : (o : Option Plain) (k n : ℕ) (t u : Term) → IsEntry o k → Resolves n t → Resolves n u
      → option_and_then (plain_bare o) (both (two_bares (swaps o)) (resolved_at n (raw_term env n t)) (resolved_at n (raw_term env n u)))
      ≡ Some (bare_node (Base k) None (bare_more (bare_term env t) (bare_more (bare_term env u) bare_none)))
  infix_resolves o k n t u i r q =
      ap (option_and_then (plain_bare o)) (both_to (two_bares (swaps o)) _ _ (bare_term env t) (bare_term env u) r q)
      ∙ ap (λ w. plain_bare o (two_bares w (bare_term env t) (bare_term env u))) (order_kept o k i)
      ∙ plain_gives o k (bare_more (bare_term env t) (bare_more (bare_term env u) bare_none)) i

  -- what is written for a base symbol over these children
  abbrev raw_base : Style → ℕ → Tys → Terms → Raw
  raw_base style n As ts = raw_written style n (type_list As) (first_variable (under style n) ts) (raw_terms env (under style n) ts)

  abbrev bare_base : Style → ℕ → Tys → Terms → Bare
  bare_base style k As ts = bare_node (Base k) (if shows_type style then Some (first_type (type_list As)) else None) (bare_terms env ts)

  record Children (style : Style) (n : ℕ) (D : List Ty) (ts : Terms) (Xs : List Ty) : Type 0 where
    size : length D ≡ under style n
    small : under style n < 2 ^ 64
    typed : AreTyped env D ts Xs
    resolve_ : AllResolve (under style n) ts

  base_resolves : (style : Style) (k n : ℕ) (As : Tys) (D : List Ty) (ts : Terms) (Xs : List Ty) → k < 64 → style_test k style (length Xs) ≡ true
      → AreProper env As → Children style n D ts Xs → resolved_at n (raw_base style n As ts) ≡ Some (bare_base style k As ts)
  base_resolves (Word m) k n As D ts Xs lt test proper c =
      let (e, count) = and_split (entry_is (entry_of word_symbols m) k) (length Xs == 0) test in
      let none_ = no_child env D ts Xs c.typed (eqb-true (length Xs) 0 count) in
      word_gives (entry_of word_symbols m) m k (entry_from (entry_of word_symbols m) k lt e)
      ∙ ap (λ us. Some (bare_node (Base k) None (bare_terms env us))) (sym none_)
  base_resolves Braces k n As D ts Xs lt test proper c =
      let (e, count) = and_split (row_of base.empty_sym == k) (length Xs == 0) test in
      let none_ = no_child env D ts Xs c.typed (eqb-true (length Xs) 0 count) in
      ap (λ s. Some (bare_node s None bare_none)) (base_row base.empty_sym k e lt)
      ∙ ap (λ us. Some (bare_node (Base k) None (bare_terms env us))) (sym none_)
  base_resolves (Infix m) k n As D ts Xs lt test proper c =
      let (e, count) = and_split (entry_is (entry_of infix_symbols m) k) (length Xs == 2) test in
      let (t, u, two) = two_children env D ts Xs c.typed (eqb-true (length Xs) 2 count) in
      let r = transport (AllResolve n) two c.resolve_ in
      ap (λ us. resolved_at n (raw_base (Infix m) n As us)) two
      ∙ infix_resolves (entry_of infix_symbols m) k n t u (entry_from (entry_of infix_symbols m) k lt e) r.0 r.1.0
      ∙ ap (λ us. Some (bare_base (Infix m) k As us)) (sym two)
  base_resolves Not k n As D ts Xs lt test proper c =
      let (e, count) = and_split (entry_is (entry_of prefix_symbols not_word) k) (length Xs == 1) test in
      let (t, only) = one_child env D ts Xs c.typed (eqb-true (length Xs) 1 count) in
      let r = transport (AllResolve n) only c.resolve_ in
      ap (λ us. resolved_at n (raw_base Not n As us)) only
      ∙ unary_resolves (entry_of prefix_symbols not_word) k n t (entry_from (entry_of prefix_symbols not_word) k lt e) r.0
      ∙ ap (λ us. Some (bare_base Not k As us)) (sym only)
  base_resolves Minus k n As D ts Xs lt test proper c =
      let (e, count) = and_split (entry_is (entry_of prefix_symbols minus_sign) k) (length Xs == 1) test in
      let (t, only) = one_child env D ts Xs c.typed (eqb-true (length Xs) 1 count) in
      let r = transport (AllResolve n) only c.resolve_ in
      ap (λ us. resolved_at n (raw_base Minus n As us)) only
      ∙ unary_resolves (entry_of prefix_symbols minus_sign) k n t (entry_from (entry_of prefix_symbols minus_sign) k lt e) r.0
      ∙ ap (λ us. Some (bare_base Minus k As us)) (sym only)
  base_resolves Inverse k n As D ts Xs lt test proper c =
      let (e, count) = and_split (row_of base.inverse_sym == k) (length Xs == 1) test in
      let (t, only) = one_child env D ts Xs c.typed (eqb-true (length Xs) 1 count) in
      let r = transport (AllResolve n) only c.resolve_ in
      ap (λ us. resolved_at n (raw_base Inverse n As us)) only
      ∙ ap (option_map (bare_one base.inverse_sym None)) r.0
      ∙ ap (λ s. Some (bare_one s None (bare_term env t))) (base_row base.inverse_sym k e lt)
      ∙ ap (λ us. Some (bare_base Inverse k As us)) (sym only)
  base_resolves (Around m) k n As D ts Xs lt test proper c =
      let (e, count) = and_split (entry_is (entry_of around_symbols m) k) (length Xs == 1) test in
      let (t, only) = one_child env D ts Xs c.typed (eqb-true (length Xs) 1 count) in
      let r = transport (AllResolve n) only c.resolve_ in
      ap (λ us. resolved_at n (raw_base (Around m) n As us)) only
      ∙ unary_resolves (entry_of around_symbols m) k n t (entry_from (entry_of around_symbols m) k lt e) r.0
      ∙ ap (λ us. Some (bare_base (Around m) k As us)) (sym only)
  base_resolves (Quantifier m) k n As D ts Xs lt test proper c =
      let (e, count) = and_split (row_of (quantifier m) == k) (length Xs == 1) test in
      let (t, only) = one_child env D ts Xs c.typed (eqb-true (length Xs) 1 count) in
      let r = transport (AllResolve (suc n)) only c.resolve_ in
      ap (λ us. resolved_at n (raw_base (Quantifier m) n As us)) only
      ∙ binder_resolves (quantifier m) n (first_type (type_list As)) t (first_proper env As proper) r.0
      ∙ ap (λ s. Some (bare_one s (Some (first_type (type_list As))) (bare_term env t))) (base_row (quantifier m) k e lt)
      ∙ ap (λ us. Some (bare_base (Quantifier m) k As us)) (sym only)
  base_resolves SetFormer k n As D ts Xs lt test proper c =
      let (e, count) = and_split (row_of base.set_sym == k) (length Xs == 1) test in
      let (t, only) = one_child env D ts Xs c.typed (eqb-true (length Xs) 1 count) in
      let r = transport (AllResolve (suc n)) only c.resolve_ in
      ap (λ us. resolved_at n (raw_base SetFormer n As us)) only
      ∙ binder_resolves base.set_sym n (first_type (type_list As)) t (first_proper env As proper) r.0
      ∙ ap (λ s. Some (bare_one s (Some (first_type (type_list As))) (bare_term env t))) (base_row base.set_sym k e lt)
      ∙ ap (λ us. Some (bare_base SetFormer k As us)) (sym only)
  base_resolves Whole k n As D ts Xs lt test proper c =
      let (e, count) = and_split (row_of base.type_sym == k) (length Xs == 0) test in
      let none_ = no_child env D ts Xs c.typed (eqb-true (length Xs) 0 count) in
      whole_resolves n (first_type (type_list As)) (first_proper env As proper)
      ∙ ap (λ s. Some (bare_node s (Some (first_type (type_list As))) bare_none)) (base_row base.type_sym k e lt)
      ∙ ap (λ us. Some (bare_base Whole k As us)) (sym none_)
  base_resolves Image k n As D ts Xs lt test proper c =
      let (e, count) = and_split (row_of base.image_sym == k) (length Xs == 2) test in
      let (t, u, two) = two_children env D ts Xs c.typed (eqb-true (length Xs) 2 count) in
      let r = transport (AllResolve n) two c.resolve_ in
      ap (λ us. resolved_at n (raw_base Image n As us)) two
      ∙ both_to (bare_two base.image_sym None) _ _ (bare_term env t) (bare_term env u) r.0 r.1.0
      ∙ ap (λ s. Some (bare_two s None (bare_term env t) (bare_term env u))) (base_row base.image_sym k e lt)
      ∙ ap (λ us. Some (bare_base Image k As us)) (sym two)
  base_resolves Application k n As D ts Xs lt test proper c =
      let (e, count) = and_split (row_of base.apply_sym == k) (length Xs == 2) test in
      let (t, u, two) = two_children env D ts Xs c.typed (eqb-true (length Xs) 2 count) in
      let r = transport (AllResolve n) two c.resolve_ in
      let (X, typed) = first_typed env D t (cons u nil) Xs (transport (λ us. AreTyped env D us Xs) two c.typed) in
      ap (λ us. resolved_at n (raw_base Application n As us)) two
      ∙ application_resolves n D t u X c.size c.small typed r.0 r.1.0
      ∙ ap (λ s. Some (bare_two s None (bare_term env t) (bare_term env u))) (base_row base.apply_sym k e lt)
      ∙ ap (λ us. Some (bare_base Application k As us)) (sym two)

  -- a declared symbol is called
  user_resolves : (name : Name) (p : Profile) (n : ℕ) (D : List Ty) (ts : Terms) (Xs : List Ty) → profile env (User name) ≡ Some p → n < 2 ^ 64
      → AreTyped env D ts Xs → length Xs ≡ length p.args → AllResolve n ts
      → resolved_at n (call name (raw_terms env n ts)) ≡ Some (bare_node (User name) None (bare_terms env ts))
  user_resolves name p n D ts Xs e w h count r =
      ap (λ m. option_and_then (call_bare m name (count_of (raw_terms env n ts))) (resolve_all params (known_of env) (raw_terms env n ts) (scope n)))
      (meaning_symbol env frees params own name p n w e)
      ∙ ap (option_and_then (call_bare (symbol (length p.args)) name (count_of (raw_terms env n ts)))) (all_together n ts r)
      ∙ ap (λ c. call_bare (symbol (length p.args)) name c (bare_terms env ts)) (counted ts Xs h ∙ count)
      ∙ ap (λ b. if b then Some (bare_node (User name) None (bare_terms env ts)) else (if length p.args == 0 then (if length p.args == 1 then Some (application_bare (bare_node (User name) None bare_none) (bare_terms env ts)) else None) else None)) (eq-eqb (length p.args) (length p.args) refl)
    where
      counted : (us : Terms) (Ys : List Ty) → AreTyped env D us Ys → count_of (raw_terms env n us) ≡ length Ys
      counted nil [] g = refl
      counted nil (Y ∷ Ys) g = absurd g
      counted (cons u us) [] g = absurd g
      counted (cons u us) (Y ∷ Ys) g = omega (arith, counted us Ys g.1)

  annotated_resolves : (o : Option Ty) (n : ℕ) (e : Raw) (b : Bare) → ((a : Ty) → o ≡ Some a → IsProper env a) → resolved_at n e ≡ Some b
      → resolved_at n (raw_annotated o e) ≡ Some (bare_annotated o b)
  annotated_resolves None n e b h r = r
  annotated_resolves (Some a) n e b h r = both_to bare_of _ _ b a r (type_back env frees params own a (h a refl))

  base_within : (k : ℕ) (p : Profile) → base_profile k ≡ Some p → k < 64
  base_within k p e = slice_within base_profiles k p e

  under_most : (style : Style) (n : ℕ) → under style n ≤ suc n
  under_most (Word m) n = omega arith
  under_most Braces n = omega arith
  under_most (Infix m) n = omega arith
  under_most Not n = omega arith
  under_most Minus n = omega arith
  under_most Inverse n = omega arith
  under_most (Around m) n = omega arith
  under_most (Quantifier m) n = omega arith
  under_most SetFormer n = omega arith
  under_most Whole n = omega arith
  under_most Image n = omega arith
  under_most Application n = omega arith

  -- as many variables stand outside the children as the context has types
  inside_size : (C : List Ty) (k : ℕ) (p : Profile) (As : Tys) → base_profile k ≡ Some p → length (type_list As) ≡ p.params → binds_test k (base_style k) ≡ true
      → length (inside C (Base k) As) ≡ under (base_style k) (length C)
  inside_size C k p As e count test = by (symbol_shows_type (Base k)) refl
    where
      z : length C + binds (Base k) ≡ under (base_style k) (length C)
      z = under_binds (base_style k) k (length C) test

      by : (y : Boolean) → symbol_shows_type (Base k) ≡ y → length (inside C (Base k) As) ≡ under (base_style k) (length C)
      by false hides =
          let none_ = hidden_plain env (Base k) p e hides in
          ap length (inside_plain C (Base k) As none_) ∙ omega (arith, z, none_)
      by true shows =
          let only = shown_one env (Base k) p e shows in
          let most = under_most (base_style k) (length C) in
          let joined = length-append C (take (binds (Base k)) (type_list As)) in
          let taken = length-take-le (binds (Base k)) (type_list As) (omega (arith, only, count, most, z)) in
          omega (arith, joined, taken, z)

  symbol_resolves : (C : List Ty) (s : Sym) (p : Profile) (As : Tys) (A : Ty) (ts : Terms) → profile env s ≡ Some p
      → IsTypedNode env As p A (AreTyped env (inside C s As) ts (map (type_inst (type_at As)) p.args)) → length C + depth (node s As ts) < 2 ^ 64
      → ((D : List Ty) (Xs : List Ty) → AreTyped env D ts Xs → length D + depths ts < 2 ^ 64 → AllResolve (length D) ts)
      → resolved_at (length C) (raw_symbol s (length C) (type_list As) (first_variable (length C + binds s) ts) (raw_terms env (length C + binds s) ts))
      ≡ Some (bare_node s (shown s As) (bare_terms env ts))
  symbol_resolves C (Base k) p As A ts e q w children =
      let n = length C in
      let D = inside C (Base k) As in
      let Xs = map (type_inst (type_at As)) p.args in
      let (style_fits, binder_fits) = and_split (style_test k (base_style k) (length p.args)) (binds_test k (base_style k)) (row_passed row_test rows_pass k p e) in
      let size = inside_size C k p As e q.count binder_fits in
      let most = under_most (base_style k) n in
      let deep = children D Xs q.children (omega (arith, size, most, w)) in
      let counted : style_test k (base_style k) (length Xs) ≡ true = ap (style_test k (base_style k)) (length-map p.args (type_inst (type_at As))) ∙ style_fits in
      ap (λ m. resolved_at n (raw_written (base_style k) n (type_list As) (first_variable m ts) (raw_terms env m ts))) (under_binds (base_style k) k n binder_fits)
      ∙ base_resolves (base_style k) k n As D ts Xs (base_within k p e) counted q.proper
      (record { size = size; small = omega (arith, most, w); typed = q.children; resolve_ = transport (λ m. AllResolve m ts) size deep })
  symbol_resolves C (User name) p As A ts e q w children =
      let n = length C in
      let Xs = map (type_inst (type_at As)) p.args in
      let typed : AreTyped env C ts Xs = transport (λ D. AreTyped env D ts Xs) (inside_plain C (User name) As (binds_user name)) q.children in
      let there : n + binds (User name) ≡ n = omega (arith, binds_user name) in
      ap (λ m. resolved_at n (call name (raw_terms env m ts))) there
      ∙ user_resolves name p n C ts Xs e (omega (arith, w)) typed (length-map p.args (type_inst (type_at As))) (children C Xs typed (omega (arith, w)))

  -- A typed term's canonical form resolves.
  mutual
    pub resolves : (C : List Ty) (t : Term) (A : Ty) → Typed env C t A → length C + depth t < 2 ^ 64 → Resolves (length C) t
    resolves C (var i) A h w =
        ap (λ m. option_and_then (call_bare m (variable_text (length C - (i + 1))) 0) (Some bare_none)) (variable_means (length C) i (omega (arith, w)) (var_within C i A h))
    resolves C (lit n) A h w = refl
    resolves C (node s As ts) A h w =
        let (p, e, q) = some_of (λ (p : Profile). IsTypedNode env As p A (AreTyped env (inside C s As) ts (map (type_inst (type_at As)) p.args))) (profile env s) h in
        annotated_resolves (annotation s (profile env s) As) (length C) _ (bare_node s (shown s As) (bare_terms env ts))
        (λ a v. written_proper env formed s p As a A _ e q (sym (ap (λ o. annotation s o As) e) ∙ v))
        (symbol_resolves C s p As A ts e q w (λ D Xs. all_resolve D ts Xs))

    pub all_resolve : (C : List Ty) (ts : Terms) (As : List Ty) → AreTyped env C ts As → length C + depths ts < 2 ^ 64 → AllResolve (length C) ts
    all_resolve C nil As h w = tt
    all_resolve C (cons t ts) [] h w = absurd h
    all_resolve C (cons t ts) (A ∷ As) h w = (resolves C t A h.0 (omega (arith, w)), all_resolve C ts As h.1 (omega (arith, w)))
