-- The law of canonical texts and their annotations.
use Rattle.std.specs.Prelude.{◌≡◌, ℕ, ◌+◌, ◌<◌, ◌≤◌, ◌^◌, ◌==◌, if◌then◌else◌, Bool as Boolean, true, false, ◌||◌, List, [], ◌∷◌, ◌++◌, map, reverse, length, Option, Some, None, IfSome, Any, refl}
use Rattle.std.specs.List.{AllByRecursion, list_any}
use Rattle.std.proofs.Common.{ap, sym, ◌∙◌, arith, true≢false, subst as transport}
use Rattle.std.proofs.lemmas.List.Folds.{list_any-from_Any}
use Rattle.ev_terms.specs.declared.types.Ty.{Ty}
use Rattle.ev_terms.specs.declared.types.Sym.{Sym}
use Rattle.ev_terms.specs.declared.types.Sym.TheVariants.{Base, User}
use Rattle.ev_terms.specs.Types.{type_list}
use Rattle.ev_terms.specs.Term.{Term, Terms, var, lit, node, nil, cons}
use Rattle.ev_terms.specs.Symbols.{binds}
use Rattle.ev_terms.specs.Measures.{depth, depths}
use Rattle.ev_typing.specs.Env.{Env, Name, profile}
use Rattle.ev_typing.specs.Typing.{IsProper, Typed}
use Rattle.ev_typing.specs.Proper.{HasProperSignatures}
use Rattle.ev_typing.specs.WellFormed.{IsWellFormed}
use Rattle.ev_typing.proofs.ProperSignatures.{signatures_proper}
use Rattle.ev_syntax.specs.Raw.{Raw, Raws, none, one}
use Rattle.ev_resolve.specs.Reading.{Variable, context_of}
use Rattle.ev_resolve.specs.UsedNames.{binder_names, all_binder_names, is_formula_name}
use Rattle.ev_infer.specs.Annotates.{variables_context}
use Rattle.ev_resolve.specs.Bare.{Fits}
use Rattle.ev_resolve.specs.Resolve.{known_of, forget, resolve}
use Rattle.ev_infer.specs.Inference.{HaveProperTypes, IsAnnotation}
use Rattle.ev_infer.proofs.Nodes.{context_type_proper}
use Rattle.ev_infer.proofs.ToBare.{AreGood, to_bare}
use Rattle.ev_infer.proofs.FromBare.{from_bare}
use Rattle.ev_infer.proofs.Inferring.{context_reverse, good_reverse}
use Rattle.ev_typing.proofs.Proper.{result_from_proper}
use Rattle.ev_print.specs.declared.styles.Style.{Style}
use Rattle.ev_print.specs.declared.styles.Style.TheVariants.{Word, Braces, Infix, Not, Minus, Inverse, Around, Quantifier, SetFormer, Whole, Image, Application}
use Rattle.ev_print.specs.Styles.{base_style}
use Rattle.ev_print.specs.Canon.{variable_text, first_type, annotation}
use Rattle.ev_print.specs.ReadBack.{HasFreeNames}
use Rattle.ev_print.specs.Texts.{raw_whole, raw_application, raw_written, raw_symbol, raw_annotated, first_variable, raw_term, raw_terms}
use Rattle.ev_syntax.specs.Names.{is_variable_name}
use Rattle.ev_print.proofs.Back.{text_reads_back}
use Rattle.ev_readback.specs.OnlyAnnotation.{TextMeansItsTerm, variables_from, canonical_variables, AreParameters, TextAnnotatesBack}
use Rattle.ev_readback.proofs.Meanings.{scope, canonical_scope, variable_text_is, variable_no_formula}
use Rattle.ev_readback.proofs.BareTerms.{bare_term, own_fits, only_fits}
use Rattle.ev_readback.proofs.Resolving.{resolves}

-- The names that a canonical text binds are those of variables.
abbrev AllNamed : List Name → Type 0
AllNamed ms = AllByRecursion (λ m. is_variable_name m ≡ true) ms

joined : (ms ns : List Name) → AllNamed ms → AllNamed ns → AllNamed (ms ++ ns)
joined [] ns h g = g
joined (m ∷ ms) ns h g = (h.0, joined ms ns h.1 g)

first : (ms ns : List Name) → AllNamed (ms ++ ns) → AllNamed ms
first [] ns h = tt
first (m ∷ ms) ns h = (h.0, first ms ns h.1)

second : (ms ns : List Name) → AllNamed (ms ++ ns) → AllNamed ns
second [] ns h = h
second (m ∷ ms) ns h = second ms ns h.1

-- of one child, and of two
only_named : (a : Raw) (es : Raws) → AllNamed (all_binder_names (one a es)) → AllNamed (binder_names a)
only_named a es h = first (binder_names a) (all_binder_names es) h

both_named : (a b : Raw) (es : Raws) → AllNamed (all_binder_names (one a (one b es))) → AllNamed (binder_names a ++ binder_names b)
both_named a b es h =
    joined (binder_names a) (binder_names b) (only_named a (one b es) h)
    (only_named b es (second (binder_names a) (all_binder_names (one b es)) h))

whole_named : (A : Ty) → AllNamed (binder_names (raw_whole A))
whole_named Rattle.ev_terms.specs.declared.types.Ty.Int = tt
whole_named Rattle.ev_terms.specs.declared.types.Ty.Bool = tt
whole_named Rattle.ev_terms.specs.declared.types.Ty.Prop = tt
whole_named (Rattle.ev_terms.specs.declared.types.Ty.Param i) = tt
whole_named (Rattle.ev_terms.specs.Types.pow a) = tt
whole_named (Rattle.ev_terms.specs.Types.prod a b) = tt
whole_named (Rattle.ev_terms.specs.declared.types.Ty.Data n As) = tt

application_named : (v : Option Name) (a b : Raw) (es : Raws) → AllNamed (all_binder_names (one a (one b es))) → AllNamed (binder_names (raw_application v a b))
application_named None a b es h = both_named a b es h
application_named (Some x) a b es h = joined (binder_names b) [] (only_named b es (second (binder_names a) (all_binder_names (one b es)) h)) tt

written_named : (style : Style) (n : ℕ) (types : List Ty) (v : Option Name) (es : Raws) → n < 2 ^ 64 → AllNamed (all_binder_names es)
    → AllNamed (binder_names (raw_written style n types v es))
written_named (Word m) n types v es w h = tt
written_named Braces n types v es w h = tt
written_named (Infix m) n types v none w h = tt
written_named (Infix m) n types v (one a none) w h = tt
written_named (Infix m) n types v (one a (one b es)) w h = both_named a b es h
written_named Not n types v none w h = tt
written_named Not n types v (one a es) w h = only_named a es h
written_named Minus n types v none w h = tt
written_named Minus n types v (one a es) w h = only_named a es h
written_named Inverse n types v none w h = tt
written_named Inverse n types v (one a es) w h = only_named a es h
written_named (Around m) n types v none w h = tt
written_named (Around m) n types v (one a es) w h = only_named a es h
written_named (Quantifier m) n types v none w h = tt
written_named (Quantifier m) n types v (one a es) w h = (variable_text_is n w, only_named a es h)
written_named SetFormer n types v none w h = tt
written_named SetFormer n types v (one a es) w h = (variable_text_is n w, only_named a es h)
written_named Whole n types v es w h = whole_named (first_type types)
written_named Image n types v none w h = tt
written_named Image n types v (one a none) w h = tt
written_named Image n types v (one a (one b es)) w h = both_named a b es h
written_named Application n types v none w h = tt
written_named Application n types v (one a none) w h = tt
written_named Application n types v (one a (one b es)) w h = application_named v a b es h

symbol_named : (s : Sym) (n : ℕ) (types : List Ty) (v : Option Name) (es : Raws) → n < 2 ^ 64 → AllNamed (all_binder_names es)
    → AllNamed (binder_names (raw_symbol s n types v es))
symbol_named (Base row) n types v es w h = written_named (base_style row) n types v es w h
symbol_named (User name) n types v es w h = h

annotated_named : (o : Option Ty) (e : Raw) → AllNamed (binder_names e) → AllNamed (binder_names (raw_annotated o e))
annotated_named None e h = h
annotated_named (Some a) e h = h

binds_most : (s : Sym) → binds s ≤ 1
unfolding binds
binds_most (Base k) = at_most ((k == 7 || k == 8) || k == 29)
  where
    at_most : (b : Boolean) → (if b then 1 else 0) ≤ 1
    at_most true = omega arith
    at_most false = omega arith
binds_most (User n) = omega arith

mutual
  term_named : (env : Env) (n : ℕ) (t : Term) → n + depth t < 2 ^ 64 → AllNamed (binder_names (raw_term env n t))
  term_named env n (var i) w = tt
  term_named env n (lit k) w = tt
  term_named env n (node s As ts) w =
      annotated_named (annotation s (profile env s) As) (raw_symbol s n (type_list As) (first_variable (n + binds s) ts) (raw_terms env (n + binds s) ts))
      (symbol_named s n (type_list As) (first_variable (n + binds s) ts) (raw_terms env (n + binds s) ts) (omega (arith, w))
      (terms_named env (n + binds s) ts (omega (arith, binds_most s, w))))

  terms_named : (env : Env) (n : ℕ) (ts : Terms) → n + depths ts < 2 ^ 64 → AllNamed (all_binder_names (raw_terms env n ts))
  terms_named env n nil w = tt
  terms_named env n (cons t ts) w =
      joined (binder_names (raw_term env n t)) (all_binder_names (raw_terms env n ts)) (term_named env n t (omega (arith, w))) (terms_named env n ts (omega (arith, w)))

-- The variables of a context.
proper_variables : (env : Env) (n : ℕ) (C : List Ty) → AllByRecursion (IsProper env) C → HaveProperTypes env (variables_from n C)
proper_variables env n [] h = tt
proper_variables env n (A ∷ As) h = (result_from_proper env A h.0, proper_variables env (n + 1) As h.1)

same_context : (env : Env) (n : ℕ) (C : List Ty) → AllByRecursion (IsProper env) C → variables_context (variables_from n C) ≡ C
same_context env n [] h = refl
same_context env n (A ∷ As) h =
    ap (λ B. B ∷ variables_context (variables_from (n + 1) As)) (context_type_proper env A h.0) ∙ ap (λ Bs. A ∷ Bs) (same_context env (n + 1) As h.1)

some_same : {X : Type 0} (x y : X) → Some x ≡ Some y → x ≡ y
some_same x y e = cc

module _ (env : Env) (formed : IsWellFormed env) (frees : HasFreeNames env) (params : List Name) (own : AreParameters env params)
    (C : List Ty) (proper : AllByRecursion (IsProper env) C) (t : Term) (A : Ty) (typed : Typed env C t A) (w : length C + depth t < 2 ^ 64) where
  abbrev vars : List Variable
  vars = canonical_variables C

  abbrev raw : Raw
  raw = raw_term env (length C) t

  signatures : HasProperSignatures env
  signatures = signatures_proper env formed

  good : AreGood env (reverse vars)
  good = good_reverse env vars (proper_variables env 0 C proper)

  outer : variables_context vars ≡ C
  outer = same_context env 0 C proper

  back : context_of (reverse vars) ≡ C
  back = context_reverse vars ∙ outer

  resolved : resolve params (known_of env) raw (map forget (reverse vars)) ≡ Some (bare_term env t)
  resolved = ap (resolve params (known_of env) raw) (canonical_scope env C proper) ∙ resolves env formed frees params own C t A typed w

  none_formula : (ms : List Name) → AllNamed ms → list_any (is_formula_name params (known_of env)) ms ≡ false
  none_formula [] h = refl
  none_formula (m ∷ ms) h =
      ap (λ b. b || list_any (is_formula_name params (known_of env)) ms) (variable_no_formula env frees params own m h.0) ∙ none_formula ms h.1

  annotates : (expected : Option Ty) → IfSome expected (λ B. B ≡ A) → IsAnnotation env params vars raw expected t
  annotates expected asked = record {
    annotates = record {
      type = A;
      typed = transport (λ D. Typed env D t A) (sym outer) typed;
      binders = λ taken. true≢false (sym (list_any-from_Any (is_formula_name params (known_of env)) (binder_names raw) taken) ∙ none_formula (binder_names raw) (term_named env (length C) t w));
      gives = from_bare env signatures params (known_of env) raw (reverse vars) t (bare_term env t) good resolved
          (transport (λ D. Fits env (bare_term env t) D t) (sym back) (own_fits env formed C t A typed)) (A, transport (λ D. Typed env D t A) (sym back) typed);
    };
    has_expected = at expected asked;
  }
    where
      at : (o : Option Ty) → IfSome o (λ B. B ≡ A) → IfSome o (λ B. Typed env (variables_context vars) t B)
      at None e = tt
      at (Some B) e = transport (Typed env (variables_context vars) t) (sym e) (transport (λ D. Typed env D t A) (sym outer) typed)

  only : (expected : Option Ty) (u : Term) → IsAnnotation env params vars raw expected u → u ≡ t
  only expected u a =
      let B = a.annotates.type in
      let typed_u : Typed env C u B = transport (λ D. Typed env D u B) outer a.annotates.typed in
      let (b, e, f) = to_bare env signatures params (known_of env) raw (reverse vars) u good a.annotates.gives (B, transport (λ D. Typed env D u B) (sym back) typed_u) in
      let same : b ≡ bare_term env t = some_same b (bare_term env t) (sym e ∙ resolved) in
      let fits : Fits env (bare_term env t) C u = transport (λ D. Fits env (bare_term env t) D u) back (transport (λ c. Fits env c (context_of (reverse vars)) u) same f) in
      sym (only_fits env formed C t A u B typed typed_u fits)

pub annotates_back : TextAnnotatesBack
annotates_back env formed frees params own C proper t A typed w expected asked =
    (annotates env formed frees params own C proper t A typed w expected asked, λ u a. only env formed frees params own C proper t A typed w expected u a)

pub means_its_term : TextMeansItsTerm
means_its_term env formed frees params own C proper t A typed few w =
    record {
      raw = raw_term env (length C) t;
      reads = text_reads_back env formed frees C t A typed few w;
      annotated = λ expected asked. annotates_back env formed frees params own C proper t A typed w expected asked;
    }
