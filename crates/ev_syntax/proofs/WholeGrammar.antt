-- The whole grammar: the parser finds each tree, so for one list of tokens and one sort there is one at most.
use Rattle.std.proofs.Common.{◌≡◌, ℕ, Bool, true, false, List, [], ◌∷◌, refl, subst, sym, inl}
use Rattle.std.specs.Prelude.{Option, Some, None, if◌then◌else◌, ◌==◌, ◌&&◌, nat_le}
use Rattle.std.proofs.lemmas.Bool.{eqb-true}
use Rattle.ev_syntax.specs.Marks.{finite_word, bool_word, not_word, minus_sign, open_paren, close_paren, open_brace, close_brace, bar, union_over_word, inter_over_word}
use Rattle.ev_syntax.specs.Tokens.{Token, mark}
use Rattle.ev_syntax.specs.Raw.{Raw, Raws, word, literal, param, type_set, call, around, unary, binary, inverse, apply, image, of_type, quantified, set_of, collected, lambda, members, written, none, one, Binder}
use Rattle.ev_syntax.specs.Parts.{Part, pred, expr, inside, is_among, operand, around_operand, may_have_level}
use Rattle.ev_syntax.specs.Grammar.{Front, Is, ◌then◌, Reads, WithOperand, may_collect}
use Rattle.ev_syntax.proofs.Balanced.{keeps}
use Rattle.ev_syntax.proofs.WholeParser.{calls}
use Rattle.ev_syntax.proofs.WholeRead.{Complete}
use Rattle.ev_syntax.proofs.WholeForms.{prims, never, literal_complete, word_complete, param_complete, type_set_complete, name_complete, CompleteList, no_more_complete, more_complete, call_complete, empty_complete, members_complete, inverse_complete, apply_complete, image_complete}
use Rattle.ev_syntax.proofs.WholeLevels.{among_all, around_complete, minus_complete, of_type_complete, binary_complete}
use Rattle.ev_syntax.proofs.WholeBinding.{FoundBefore, bool_complete, set_complete, brace_collected, union_collected, inter_collected, lambda_complete}
use Rattle.ev_syntax.proofs.WholePredicates.{CompletePred, no_predicate, level_only, no_level, word_pred, around_pred, unary_pred, quantified_pred, name_pred, call_pred, binary_pred, clash}

-- as an expression and as a predicate
pub record Whole (e : Raw) : Type 0 where
  pub as_expr : Complete e (Reads e)
  pub as_predicate : CompletePred e (Reads e)

before_paren : (e : Raw) → CompletePred e (Reads e) → FoundBefore e (mark close_paren)
before_paren e c ts rest h = c.as_pred ts (mark close_paren ∷ rest) h (((refl, refl), refl, refl), refl, refl)

before_brace : (e : Raw) → CompletePred e (Reads e) → FoundBefore e (mark close_brace)
before_brace e c ts rest h = c.as_pred ts (mark close_brace ∷ rest) h (((refl, refl), refl, refl), refl, refl)

before_bar : (e : Raw) → CompletePred e (Reads e) → FoundBefore e (mark bar)
before_bar e c ts rest h = c.as_pred ts (mark bar ∷ rest) h (((refl, refl), refl, refl), refl, refl)

-- a word before ( ), as an expression
around_expr : (m : ℕ) (e : Raw) → Whole e → Complete (around m e) (Reads (around m e))
around_expr m e w = go (m == bool_word) refl (is_among calls m) refl
  where
    inner : Part → Front
    inner q = Is (mark m) then Is (mark open_paren) then Reads e q then Is (mark close_paren)

    no_operand : (a b c d : Bool) → b ≡ false → c ≡ false → (ts rest : List Token)
        → WithOperand (if a && false then Some (expr 0) else (if b && d then Some pred else (if c && d then Some (expr 0) else None))) inner ts rest → ⊥
    no_operand true true c d x y ts rest h = clash true refl x
    no_operand false true c d x y ts rest h = clash true refl x
    no_operand true false true d x y ts rest h = clash true refl y
    no_operand false false true d x y ts rest h = clash true refl y
    no_operand true false false d x y ts rest h = h
    no_operand false false false d x y ts rest h = h

    go : (b : Bool) → (m == bool_word) ≡ b → (c : Bool) → is_among calls m ≡ c → Complete (around m e) (Reads (around m e))
    go true x c y = subst (λ k. Complete (around k e) (Reads (around k e))) (sym (eqb-true m bool_word x)) (bool_complete e (before_paren e w.as_predicate))
    go false x true y = around_complete m e y w.as_expr
    go false x false y = prims (around m e) (λ p. WithOperand (around_operand m p) inner)
        (λ k ts rest h. absurd (no_operand (m == finite_word) (m == bool_word) (is_among calls m) (nat_le k 10) x y ts rest h))

-- a sign or word before an operand, as an expression
unary_expr : (m : ℕ) (e : Raw) → Complete e (Reads e) → Complete (unary m e) (Reads (unary m e))
unary_expr m e c = go (m == minus_sign) refl
  where
    inner : Part → Front
    inner q = Is (mark m) then Reads e q

    no_operand : (a b : Bool) (o : Option Part) → b ≡ false → (ts rest : List Token) → WithOperand (if a then None else (if b then o else None)) inner ts rest → ⊥
    no_operand true b o x ts rest h = h
    no_operand false true o x ts rest h = clash true refl x
    no_operand false false o x ts rest h = h

    go : (b : Bool) → (m == minus_sign) ≡ b → Complete (unary m e) (Reads (unary m e))
    go true x = subst (λ k. Complete (unary k e) (Reads (unary k e))) (sym (eqb-true m minus_sign x)) (minus_complete e c)
    go false x = prims (unary m e) (λ p. WithOperand (operand m p) inner) (λ k ts rest h. absurd (no_operand (m == not_word) (m == minus_sign) _ x ts rest h))

-- what binds names and collects values
collected_expr : (m : ℕ) (bs : List Binder) (e f : Raw) → Whole e → Whole f → Complete (collected m bs e f) (Reads (collected m bs e f))
collected_expr m [] e f we wf = prims (collected m [] e f) _ (λ k ts rest h. absurd h.1.2.1)
collected_expr m (b ∷ bs) e f we wf = go (m == open_brace) refl (is_among (union_over_word ∷ inter_over_word ∷ []) m) refl
  where
    Goal : ℕ → Type 0
    Goal i = Complete (collected i (b ∷ bs) e f) (Reads (collected i (b ∷ bs) e f))

    found : FoundBefore e (mark bar)
    found = before_bar e we.as_predicate

    no_form : (k : ℕ) → (m == open_brace) ≡ false → is_among (union_over_word ∷ inter_over_word ∷ []) m ≡ false → may_collect m (expr k) ≡ false
    no_form k x y = rw (x, y) refl

    go : (x : Bool) → (m == open_brace) ≡ x → (y : Bool) → is_among (union_over_word ∷ inter_over_word ∷ []) m ≡ y → Goal m
    go true x y i = subst Goal (sym (eqb-true m open_brace x)) (brace_collected b bs e f found wf.as_expr)
    go false x true i = among_all Goal (union_over_word ∷ inter_over_word ∷ [])
        (union_collected (b ∷ bs) e f found wf.as_expr, (inter_collected (b ∷ bs) e f found wf.as_expr, tt)) m i
    go false x false i = prims (collected m (b ∷ bs) e f) _ (λ k ts rest h. clash (may_collect m (expr k)) h.0 (no_form k x i))

collected_pred : (m : ℕ) (bs : List Binder) (e f : Raw) → CompletePred (collected m bs e f) (Reads (collected m bs e f))
collected_pred m bs e f = no_predicate (collected m bs e f) _ (λ q ts rest h n. keeps (collected m bs e f) q ts rest (inl h) n)
    (λ p i ts rest h. clash (may_collect m p) h.0 (none_at (m == open_brace) (is_among (union_over_word ∷ inter_over_word ∷ []) m) p i))
  where
    none_at : (x y : Bool) (p : Part) → inside p ≡ pred → (if x then may_have_level 10 p else (y && may_have_level 0 p)) ≡ false
    none_at true y p i = no_level 10 p i
    none_at false true p i = no_level 0 p i
    none_at false false p i = refl

mutual
  pub whole : (e : Raw) → Whole e
  whole (word m) = record { as_expr = word_complete m; as_predicate = word_pred m }
  whole (literal n) = record { as_expr = literal_complete n; as_predicate = level_only (literal n) 10 _ (λ q ts rest h m. keeps (literal n) q ts rest (inl h) m) }
  whole (param i) = record {
    as_expr = param_complete i;
    as_predicate = no_predicate (param i) _ (λ q ts rest h n. keeps (param i) q ts rest (inl h) n) (λ p is ts rest h. clash (may_have_level 10 p) h.1.0 (no_level 10 p is));
  }
  whole (type_set a) = record { as_expr = type_set_complete a; as_predicate = level_only (type_set a) 10 _ (λ q ts rest h n. keeps (type_set a) q ts rest (inl h) n) }
  whole (call n none) = record { as_expr = name_complete n; as_predicate = name_pred n (name_complete n) }
  whole (call n (one e es)) =
      let c : Complete (call n (one e es)) (Reads (call n (one e es))) = call_complete n e es (whole e).as_expr (whole_list es) in
      record { as_expr = c; as_predicate = call_pred n e es c }
  whole (around m e) = record { as_expr = around_expr m e (whole e); as_predicate = around_pred m e (whole e).as_expr }
  whole (unary m e) = record { as_expr = unary_expr m e (whole e).as_expr; as_predicate = unary_pred m e (whole e).as_predicate }
  whole (binary m a b) = record {
    as_expr = binary_complete m a b (whole a).as_expr (whole b).as_expr;
    as_predicate = binary_pred m a b (whole a).as_expr (whole b).as_expr (whole a).as_predicate (whole b).as_predicate;
  }
  whole (inverse e) = record { as_expr = inverse_complete e (whole e).as_expr; as_predicate = level_only (inverse e) 10 _ (λ q ts rest h n. keeps (inverse e) q ts rest (inl h) n) }
  whole (apply f e) = record {
    as_expr = apply_complete f e (whole f).as_expr (whole e).as_expr;
    as_predicate = level_only (apply f e) 10 _ (λ q ts rest h n. keeps (apply f e) q ts rest (inl h) n);
  }
  whole (image f e) = record {
    as_expr = image_complete f e (whole f).as_expr (whole e).as_expr;
    as_predicate = level_only (image f e) 10 _ (λ q ts rest h n. keeps (image f e) q ts rest (inl h) n);
  }
  whole (of_type e a) = record {
    as_expr = of_type_complete e a (whole e).as_expr;
    as_predicate = level_only (of_type e a) 0 _ (λ q ts rest h n. keeps (of_type e a) q ts rest (inl h) n);
  }
  whole (quantified m bs e) = record {
    as_expr = prims (quantified m bs e) _ (λ k ts rest h. never h.0);
    as_predicate = quantified_pred m bs e (whole e).as_predicate;
  }
  whole (set_of b e) = record {
    as_expr = set_complete b e (before_brace e (whole e).as_predicate);
    as_predicate = level_only (set_of b e) 10 _ (λ q ts rest h n. keeps (set_of b e) q ts rest (inl h) n);
  }
  whole (collected m bs e f) = record { as_expr = collected_expr m bs e f (whole e) (whole f); as_predicate = collected_pred m bs e f }
  whole (lambda x e f) = record {
    as_expr = lambda_complete x e f (before_bar e (whole e).as_predicate) (whole f).as_expr;
    as_predicate = level_only (lambda x e f) 0 _ (λ q ts rest h n. keeps (lambda x e f) q ts rest (inl h) n);
  }
  whole (members none) = record { as_expr = empty_complete; as_predicate = level_only (members none) 10 _ (λ q ts rest h n. keeps (members none) q ts rest (inl h) n) }
  whole (members (one e es)) = record {
    as_expr = members_complete e es (whole e).as_expr (whole_list es);
    as_predicate = level_only (members (one e es)) 10 _ (λ q ts rest h n. keeps (members (one e es)) q ts rest (inl h) n);
  }
  whole (written a) = record {
    as_expr = record {
      at_level = λ k le ts rest h s. absurd h;
      spine = λ k c ts rest h s. absurd h;
      as_post = λ ts rest h s. absurd h;
      as_function = λ ts rest h. absurd h;
    };
    as_predicate = record {
      as_lit = λ ts rest h s. absurd h;
      as_lit_or_quant = λ ts rest h s. absurd h;
      as_ands = λ ts rest h s. absurd h;
      as_ors = λ ts rest h s. absurd h;
      as_conj = λ ts rest h s. absurd h;
      as_conj_or_tail = λ ts rest h s. absurd h;
      as_pred = λ ts rest h s. absurd h;
    };
  }

  pub whole_list : (es : Raws) → CompleteList es
  whole_list none = no_more_complete
  whole_list (one e es) = more_complete e es (whole e).as_expr (whole_list es)
