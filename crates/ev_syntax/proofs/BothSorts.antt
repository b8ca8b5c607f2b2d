-- What is read both as a predicate and as an expression is a name, with arguments or with none.
use Rattle.std.proofs.Common.{◌≡◌, ℕ, ◌<◌, ◌^◌, Bool, true, false, List, [], ◌∷◌, refl, subst, sym, ◌∙◌, ◌⊎◌, inl, inr}
use Rattle.std.specs.Prelude.{Option, Some, None, is_some, if◌then◌else◌, ◌==◌, ◌&&◌, ◌||◌}
use Rattle.std.proofs.lemmas.Bool.{eqb-true}
use Rattle.ev_syntax.specs.declared.sorts.Sort.TheVariants.{Either}
use Rattle.ev_syntax.specs.Marks.{param_sign, for_all_sign, for_some_sign, true_word, false_word, not_word, finite_word, minus_sign, implies_sign, iff_sign, and_sign, or_word, bool_word, open_brace, union_over_word, inter_over_word}
use Rattle.ev_syntax.specs.Tokens.{Token, number, mark}
use Rattle.ev_syntax.specs.Raw.{Raw, Raws, word, literal, param, type_set, call, around, unary, binary, inverse, apply, image, of_type, quantified, set_of, collected, lambda, members, written, none, one}
use Rattle.ev_syntax.specs.Parts.{Part, Operands, pred, expr, expr_level, inside, is_among, relation_signs, implication_operands, and_operands, or_operands, relation_operands, operator_operands, operands, operand, not_operand, minus_operand, around_operand, may_be_word, may_be_quantified, may_have_level, is_expression}
use Rattle.ev_syntax.specs.Grammar.{Front, Is, ◌then◌, InParens, Reads, Where, WithOperand, WithOperands, may_collect}
use Rattle.ev_syntax.specs.GrammarLaws.{BothAreCalls, CallsAreBoth}
use Rattle.ev_syntax.proofs.OneTree.{at_most_one_tree}
use Rattle.ev_syntax.proofs.WholeForms.{never, or_either}

-- whether the form of a tree may stand in a part
abbrev may_stand : Raw → Part → Bool
may_stand (word m) p = may_be_word m p
may_stand (call n es) p = true
may_stand (around m e) p = is_some (around_operand m p)
may_stand (unary m e) p = is_some (operand m p)
may_stand (binary m a b) p = is_some (operands m p)
may_stand (of_type e a) p = may_have_level expr_level p
may_stand (quantified m bs e) p = may_be_quantified p && is_among (for_all_sign ∷ for_some_sign ∷ []) m
may_stand (collected m bs e f) p = may_collect m p
may_stand (lambda x e f) p = may_have_level expr_level p
may_stand (written a) p = false
may_stand _ p = is_expression p

-- within parentheses the same may stand as outside
alone_there : (b : Part → Bool) (alone : Part → Front) → ((q : Part) (ts rest : List Token) → alone q ts rest → b q ≡ true) → (p : Part) → inside p ≡ p
    → (ts rest : List Token) → InParens inside alone p ts rest → b p ≡ true
alone_there b alone go p same ts rest (inl h) = go p ts rest h
alone_there b alone go p same ts rest (inr (n, (mid, opens, (to, h, closes)))) = subst (λ q. b q ≡ true) same (go (inside p) mid to h)

-- where the form asks a test of the part
where_there : (b : Part → Bool) (inner : Front) (p : Part) → inside p ≡ p → (ts rest : List Token) → InParens inside (λ q. Where (b q) inner) p ts rest → b p ≡ true
where_there b inner p same ts rest h = alone_there b (λ q. Where (b q) inner) (λ q us vs i. i.0) p same ts rest h

-- or an operand, or two
asked : (o : Option Part) (reads : Part → Front) (ts rest : List Token) → WithOperand o reads ts rest → is_some o ≡ true
asked None reads ts rest h = absurd h
asked (Some p) reads ts rest h = refl

operand_there : (o : Part → Option Part) (reads : Part → Front) (p : Part) → inside p ≡ p → (ts rest : List Token)
    → InParens inside (λ q. WithOperand (o q) reads) p ts rest → is_some (o p) ≡ true
operand_there o reads p same ts rest h = alone_there (λ q. is_some (o q)) (λ q. WithOperand (o q) reads) (λ q us vs i. asked (o q) reads us vs i) p same ts rest h

both_asked : (o : Option Operands) (reads : Part → Part → Front) (ts rest : List Token) → WithOperands o reads ts rest → is_some o ≡ true
both_asked None reads ts rest h = absurd h
both_asked (Some p) reads ts rest h = refl

operands_there : (o : Part → Option Operands) (reads : Part → Part → Front) (p : Part) → inside p ≡ p → (ts rest : List Token)
    → InParens inside (λ q. WithOperands (o q) reads) p ts rest → is_some (o p) ≡ true
operands_there o reads p same ts rest h = alone_there (λ q. is_some (o q)) (λ q. WithOperands (o q) reads) (λ q us vs i. both_asked (o q) reads us vs i) p same ts rest h

module _ (p : Part) (same : inside p ≡ p) (ts rest : List Token) where
  stands : (a : Raw) → Reads a p ts rest → may_stand a p ≡ true
  stands (word m) h = where_there (may_be_word m) _ p same ts rest h
  stands (literal n) h = where_there is_expression _ p same ts rest h
  stands (param i) h =
      alone_there is_expression (λ q us vs. (i < 2 ^ 32) × Where (is_expression q) (Is (mark param_sign) then Is (number i)) us vs) (λ q us vs j. j.1.0) p same ts rest h
  stands (type_set a) h = where_there is_expression _ p same ts rest h
  stands (call n es) h = refl
  stands (around m e) h = operand_there (around_operand m) _ p same ts rest h
  stands (unary m e) h = operand_there (operand m) _ p same ts rest h
  stands (binary m a b) h = operands_there (operands m) _ p same ts rest h
  stands (inverse e) h = where_there is_expression _ p same ts rest h
  stands (apply f e) h = where_there is_expression _ p same ts rest h
  stands (image r e) h = where_there is_expression _ p same ts rest h
  stands (of_type e a) h = where_there (may_have_level expr_level) _ p same ts rest h
  stands (quantified m bs e) h = where_there (λ q. may_be_quantified q && is_among (for_all_sign ∷ for_some_sign ∷ []) m) _ p same ts rest h
  stands (set_of b e) h = where_there is_expression _ p same ts rest h
  stands (collected m bs e f) h = where_there (may_collect m) _ p same ts rest h
  stands (lambda x e f) h = where_there (may_have_level expr_level) _ p same ts rest h
  stands (members none) h = where_there is_expression _ p same ts rest h
  stands (members (one e es)) h = where_there is_expression _ p same ts rest h
  stands (written a) h = absurd h

abbrev IsCall : Raw → Type 0
IsCall a = (n : List ℕ) × (es : Raws) × (a ≡ call n es)

the_truth : (t v : Bool) → (t && true) || (v && false) ≡ true → t ≡ true
the_truth true v h = refl
the_truth false true h = never h
the_truth false false h = never h

word_clash : (m : ℕ) → may_be_word m pred ≡ true → may_be_word m (expr 0) ≡ true → ⊥
word_clash m h i = by_word (or_either (true_word == m) ((false_word == m) || false) (the_truth (is_among (true_word ∷ false_word ∷ []) m) _ h))
  where
    last : ((false_word == m) ≡ true) ⊎ (false ≡ true) → ⊥
    last (inl e) = never (subst (λ k. may_be_word k (expr 0) ≡ true) (sym (eqb-true false_word m e)) i)
    last (inr e) = never e

    by_word : ((true_word == m) ≡ true) ⊎ ((false_word == m) || false ≡ true) → ⊥
    by_word (inl e) = never (subst (λ k. may_be_word k (expr 0) ≡ true) (sym (eqb-true true_word m e)) i)
    by_word (inr e) = last (or_either (false_word == m) false e)

around_clash : (m : ℕ) → is_some (around_operand m pred) ≡ true → is_some (around_operand m (expr 0)) ≡ true → ⊥
around_clash m h i =
    never (subst (λ k. is_some (around_operand k (expr 0)) ≡ true) (eqb-true m finite_word (finite (m == finite_word) (m == bool_word) _ h)) i)
  where
    finite : (f b l : Bool) → is_some (if f && true then Some (expr 0) else (if b && false then Some pred else (if l && false then Some (expr 0) else None))) ≡ true → f ≡ true
    finite true b l h = refl
    finite false true true h = never h
    finite false true false h = never h
    finite false false true h = never h
    finite false false false h = never h

unary_clash : (m : ℕ) → is_some (operand m pred) ≡ true → is_some (operand m (expr 0)) ≡ true → ⊥
unary_clash m h i = go (m == not_word) (m == minus_sign) h i
  where
    asks : Bool → Bool → Part → Option Part
    asks n s p = if n then not_operand p else (if s then minus_operand p else None)

    go : (n s : Bool) → is_some (asks n s pred) ≡ true → is_some (asks n s (expr 0)) ≡ true → ⊥
    go true s h i = never i
    go false true h i = never h
    go false false h i = never h

binary_clash : (m : ℕ) → is_some (operands m pred) ≡ true → is_some (operands m (expr 0)) ≡ true → ⊥
binary_clash m h i = go (is_among (implies_sign ∷ iff_sign ∷ []) m) (m == and_sign) (m == or_word) (is_among relation_signs m) h i
  where
    asks : Bool → Bool → Bool → Bool → Part → Option Operands
    asks i x y r p = if i then implication_operands p else (if x then and_operands p else (if y then or_operands p else (if r then relation_operands p else operator_operands m p)))

    go : (i x y r : Bool) → is_some (asks i x y r pred) ≡ true → is_some (asks i x y r (expr 0)) ≡ true → ⊥
    go true x y r h i = never i
    go false true y r h i = never i
    go false false true r h i = never i
    go false false false true h i = never i
    go false false false false h i = never h

collected_clash : (m : ℕ) → may_collect m pred ≡ true → ⊥
collected_clash m h = go (m == open_brace) (is_among (union_over_word ∷ inter_over_word ∷ []) m) h
  where
    go : (b c : Bool) → (if b then false else (c && false)) ≡ true → ⊥
    go true c h = never h
    go false true h = never h
    go false false h = never h

only_calls : (a : Raw) → may_stand a pred ≡ true → may_stand a (expr 0) ≡ true → IsCall a
only_calls (word m) h i = absurd (word_clash m h i)
only_calls (literal n) h i = never h
only_calls (param n) h i = never h
only_calls (type_set a) h i = never h
only_calls (call n es) h i = (n, es, refl)
only_calls (around m e) h i = absurd (around_clash m h i)
only_calls (unary m e) h i = absurd (unary_clash m h i)
only_calls (binary m a b) h i = absurd (binary_clash m h i)
only_calls (inverse e) h i = never h
only_calls (apply f e) h i = never h
only_calls (image r e) h i = never h
only_calls (of_type e a) h i = never h
only_calls (quantified m bs e) h i = never i
only_calls (set_of b e) h i = never h
only_calls (collected m bs e f) h i = absurd (collected_clash m h)
only_calls (lambda x e f) h i = never h
only_calls (members es) h i = never h
only_calls (written a) h i = never h

pub both_are_calls : BothAreCalls
both_are_calls ts a b h i =
    let same : a ≡ b = at_most_one_tree ts Either a b (inl h) (inr i) in
    let c : IsCall a = only_calls a (stands pred refl ts [] a h) (stands (expr 0) refl ts [] a (subst (λ x. Reads x (expr 0) ts []) (sym same) i)) in
    (c.0, c.1, c.2, sym same ∙ c.2)

pub calls_are_both : CallsAreBoth
calls_are_both ts n none = (λ h. h, λ h. h)
calls_are_both ts n (one e es) = (λ h. h, λ h. h)
