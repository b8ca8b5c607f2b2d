-- What stands as a tighter part stands as a looser one too.
use Rattle.std.proofs.Common.{◌≡◌, ℕ, ◌≤◌, ◌<◌, ◌^◌, Bool, true, false, List, [], ◌∷◌, refl, subst, sym, ◌⊎◌, inl, inr, arith}
use Rattle.std.specs.Prelude.{Option, Some, None, if◌then◌else◌, ◌==◌, ◌&&◌, ◌||◌, nat_le}
use Rattle.std.proofs.lemmas.Bool.Decides.{nat_tests}
use Rattle.ev_syntax.specs.Marks.{implies_sign, iff_sign, and_sign, or_word, not_word, minus_sign, finite_word, bool_word, true_word, false_word, open_paren, close_paren, open_brace, union_over_word, inter_over_word, param_sign, dot, bar}
use Rattle.ev_syntax.specs.Tokens.{Token, number, mark}
use Rattle.ev_syntax.specs.Raw.{Raw, word, literal, param, type_set, call, around, unary, binary, inverse, apply, image, of_type, quantified, set_of, collected, lambda, members, written, none, one}
use Rattle.ev_syntax.specs.Parts.{Part, pred, conj, conj_or_tail, ands, ors, lit, lit_or_quant, expr, inside, is_among, relation_signs, implication_operands, and_operands, or_operands, relation_operands, operator_operands, operands, operand, not_operand, minus_operand, around_operand, may_be_word, may_have_level}
use Rattle.ev_syntax.specs.Grammar.{Front, Is, ◌then◌, InParens, Reads, ReadsBinders, EndsCollected, may_collect, Where, WithOperand, WithOperands}
use Rattle.ev_syntax.proofs.Levels.{operator_at}
use Rattle.ev_syntax.proofs.WholeParser.{calls, words}
use Rattle.ev_syntax.proofs.WholeForms.{never, and_both, or_either}
use Rattle.ev_syntax.proofs.Wrapping.{with_two}

pub lit_to_ands : (e : Raw) (ts rest : List Token) → Reads e lit ts rest → Reads e ands ts rest
lit_to_ands (word m) ts rest h = h
lit_to_ands (literal n) ts rest h = h
lit_to_ands (param i) ts rest h = h
lit_to_ands (type_set a) ts rest h = h
lit_to_ands (call n none) ts rest h = h
lit_to_ands (call n (one e es)) ts rest h = h
lit_to_ands (around m e) ts rest h = h
lit_to_ands (inverse e) ts rest h = h
lit_to_ands (apply f e) ts rest h = h
lit_to_ands (image f e) ts rest h = h
lit_to_ands (of_type e a) ts rest h = h
lit_to_ands (set_of b e) ts rest h = h
lit_to_ands (collected m bs e f) ts rest h = h
lit_to_ands (lambda x e f) ts rest h = h
lit_to_ands (members none) ts rest h = h
lit_to_ands (members (one e es)) ts rest h = h
lit_to_ands (written a) ts rest h = h
lit_to_ands (unary m e) ts rest h = h
lit_to_ands (quantified m bs e) ts rest h = h
lit_to_ands (binary m a b) ts rest h = go (is_among (implies_sign ∷ iff_sign ∷ []) m) (m == and_sign) (m == or_word) h
  where
    two : Part → Part → Front
    two l r = Reads a l then Is (mark m) then Reads b r

    asks : Bool → Bool → Bool → Part → Front
    asks i x y p = WithOperands (if i then implication_operands p else (if x then and_operands p else (if y then or_operands p else
        (if is_among relation_signs m then relation_operands p else operator_operands m p)))) two

    go : (i x y : Bool) → InParens inside (asks i x y) lit ts rest
        → InParens inside (asks i x y) ands ts rest
    go true x y (inl i) = absurd i
    go true x y (inr i) = inr i
    go false true y (inl i) = absurd i
    go false true y (inr i) = inr i
    go false false true (inl i) = absurd i
    go false false true (inr i) = inr i
    go false false false (inl i) = inl i
    go false false false (inr i) = inr i

pub lit_to_ors : (e : Raw) (ts rest : List Token) → Reads e lit ts rest → Reads e ors ts rest
lit_to_ors (word m) ts rest h = h
lit_to_ors (literal n) ts rest h = h
lit_to_ors (param i) ts rest h = h
lit_to_ors (type_set a) ts rest h = h
lit_to_ors (call n none) ts rest h = h
lit_to_ors (call n (one e es)) ts rest h = h
lit_to_ors (around m e) ts rest h = h
lit_to_ors (inverse e) ts rest h = h
lit_to_ors (apply f e) ts rest h = h
lit_to_ors (image f e) ts rest h = h
lit_to_ors (of_type e a) ts rest h = h
lit_to_ors (set_of b e) ts rest h = h
lit_to_ors (collected m bs e f) ts rest h = h
lit_to_ors (lambda x e f) ts rest h = h
lit_to_ors (members none) ts rest h = h
lit_to_ors (members (one e es)) ts rest h = h
lit_to_ors (written a) ts rest h = h
lit_to_ors (unary m e) ts rest h = h
lit_to_ors (quantified m bs e) ts rest h = h
lit_to_ors (binary m a b) ts rest h = go (is_among (implies_sign ∷ iff_sign ∷ []) m) (m == and_sign) (m == or_word) h
  where
    two : Part → Part → Front
    two l r = Reads a l then Is (mark m) then Reads b r

    asks : Bool → Bool → Bool → Part → Front
    asks i x y p = WithOperands (if i then implication_operands p else (if x then and_operands p else (if y then or_operands p else
        (if is_among relation_signs m then relation_operands p else operator_operands m p)))) two

    go : (i x y : Bool) → InParens inside (asks i x y) lit ts rest
        → InParens inside (asks i x y) ors ts rest
    go true x y (inl i) = absurd i
    go true x y (inr i) = inr i
    go false true y (inl i) = absurd i
    go false true y (inr i) = inr i
    go false false true (inl i) = absurd i
    go false false true (inr i) = inr i
    go false false false (inl i) = inl i
    go false false false (inr i) = inr i

pub ands_to_conj : (e : Raw) (ts rest : List Token) → Reads e ands ts rest → Reads e conj ts rest
ands_to_conj (word m) ts rest h = h
ands_to_conj (literal n) ts rest h = h
ands_to_conj (param i) ts rest h = h
ands_to_conj (type_set a) ts rest h = h
ands_to_conj (call n none) ts rest h = h
ands_to_conj (call n (one e es)) ts rest h = h
ands_to_conj (around m e) ts rest h = h
ands_to_conj (inverse e) ts rest h = h
ands_to_conj (apply f e) ts rest h = h
ands_to_conj (image f e) ts rest h = h
ands_to_conj (of_type e a) ts rest h = h
ands_to_conj (set_of b e) ts rest h = h
ands_to_conj (collected m bs e f) ts rest h = h
ands_to_conj (lambda x e f) ts rest h = h
ands_to_conj (members none) ts rest h = h
ands_to_conj (members (one e es)) ts rest h = h
ands_to_conj (written a) ts rest h = h
ands_to_conj (unary m e) ts rest h = h
ands_to_conj (quantified m bs e) ts rest h = h
ands_to_conj (binary m a b) ts rest h = go (is_among (implies_sign ∷ iff_sign ∷ []) m) (m == and_sign) (m == or_word) h
  where
    two : Part → Part → Front
    two l r = Reads a l then Is (mark m) then Reads b r

    asks : Bool → Bool → Bool → Part → Front
    asks i x y p = WithOperands (if i then implication_operands p else (if x then and_operands p else (if y then or_operands p else
        (if is_among relation_signs m then relation_operands p else operator_operands m p)))) two

    go : (i x y : Bool) → InParens inside (asks i x y) ands ts rest
        → InParens inside (asks i x y) conj ts rest
    go true x y (inl i) = absurd i
    go true x y (inr i) = inr i
    go false true y (inl i) = inl i
    go false true y (inr i) = inr i
    go false false true (inl i) = absurd i
    go false false true (inr i) = inr i
    go false false false (inl i) = inl i
    go false false false (inr i) = inr i

pub ors_to_conj : (e : Raw) (ts rest : List Token) → Reads e ors ts rest → Reads e conj ts rest
ors_to_conj (word m) ts rest h = h
ors_to_conj (literal n) ts rest h = h
ors_to_conj (param i) ts rest h = h
ors_to_conj (type_set a) ts rest h = h
ors_to_conj (call n none) ts rest h = h
ors_to_conj (call n (one e es)) ts rest h = h
ors_to_conj (around m e) ts rest h = h
ors_to_conj (inverse e) ts rest h = h
ors_to_conj (apply f e) ts rest h = h
ors_to_conj (image f e) ts rest h = h
ors_to_conj (of_type e a) ts rest h = h
ors_to_conj (set_of b e) ts rest h = h
ors_to_conj (collected m bs e f) ts rest h = h
ors_to_conj (lambda x e f) ts rest h = h
ors_to_conj (members none) ts rest h = h
ors_to_conj (members (one e es)) ts rest h = h
ors_to_conj (written a) ts rest h = h
ors_to_conj (unary m e) ts rest h = h
ors_to_conj (quantified m bs e) ts rest h = h
ors_to_conj (binary m a b) ts rest h = go (is_among (implies_sign ∷ iff_sign ∷ []) m) (m == and_sign) (m == or_word) h
  where
    two : Part → Part → Front
    two l r = Reads a l then Is (mark m) then Reads b r

    asks : Bool → Bool → Bool → Part → Front
    asks i x y p = WithOperands (if i then implication_operands p else (if x then and_operands p else (if y then or_operands p else
        (if is_among relation_signs m then relation_operands p else operator_operands m p)))) two

    go : (i x y : Bool) → InParens inside (asks i x y) ors ts rest
        → InParens inside (asks i x y) conj ts rest
    go true x y (inl i) = absurd i
    go true x y (inr i) = inr i
    go false true y (inl i) = absurd i
    go false true y (inr i) = inr i
    go false false true (inl i) = inl i
    go false false true (inr i) = inr i
    go false false false (inl i) = inl i
    go false false false (inr i) = inr i

pub lit_to_quant : (e : Raw) (ts rest : List Token) → Reads e lit ts rest → Reads e lit_or_quant ts rest
lit_to_quant (word m) ts rest h = h
lit_to_quant (literal n) ts rest h = h
lit_to_quant (param i) ts rest h = h
lit_to_quant (type_set a) ts rest h = h
lit_to_quant (call n none) ts rest h = h
lit_to_quant (call n (one e es)) ts rest h = h
lit_to_quant (around m e) ts rest h = h
lit_to_quant (inverse e) ts rest h = h
lit_to_quant (apply f e) ts rest h = h
lit_to_quant (image f e) ts rest h = h
lit_to_quant (of_type e a) ts rest h = h
lit_to_quant (set_of b e) ts rest h = h
lit_to_quant (collected m bs e f) ts rest h = h
lit_to_quant (lambda x e f) ts rest h = h
lit_to_quant (members none) ts rest h = h
lit_to_quant (members (one e es)) ts rest h = h
lit_to_quant (written a) ts rest h = h
lit_to_quant (unary m e) ts rest h = go (m == not_word) h (λ us i. lit_to_quant e us rest i)
  where
    inner : Part → Front
    inner q = Is (mark m) then Reads e q

    go : (b : Bool) → InParens inside (λ p. WithOperand (if b then not_operand p else (if m == minus_sign then minus_operand p else None)) inner) lit ts rest
        → ((us : List Token) → Reads e lit us rest → Reads e lit_or_quant us rest)
        → InParens inside (λ p. WithOperand (if b then not_operand p else (if m == minus_sign then minus_operand p else None)) inner) lit_or_quant ts rest
    go true (inl (us, d, i)) more = inl (us, d, more us i)
    go false (inl i) more = inl i
    go true (inr i) more = inr i
    go false (inr i) more = inr i
lit_to_quant (quantified m bs e) ts rest (inl h) = never h.0
lit_to_quant (quantified m bs e) ts rest (inr h) = inr h
lit_to_quant (binary m a b) ts rest h = h

pub conj_to_tail : (e : Raw) (ts rest : List Token) → Reads e conj ts rest → Reads e conj_or_tail ts rest
conj_to_tail (word m) ts rest h = h
conj_to_tail (literal n) ts rest h = h
conj_to_tail (param i) ts rest h = h
conj_to_tail (type_set a) ts rest h = h
conj_to_tail (call n none) ts rest h = h
conj_to_tail (call n (one e es)) ts rest h = h
conj_to_tail (around m e) ts rest h = h
conj_to_tail (inverse e) ts rest h = h
conj_to_tail (apply f e) ts rest h = h
conj_to_tail (image f e) ts rest h = h
conj_to_tail (of_type e a) ts rest h = h
conj_to_tail (set_of b e) ts rest h = h
conj_to_tail (collected m bs e f) ts rest h = h
conj_to_tail (lambda x e f) ts rest h = h
conj_to_tail (members none) ts rest h = h
conj_to_tail (members (one e es)) ts rest h = h
conj_to_tail (written a) ts rest h = h
conj_to_tail (unary m e) ts rest h = go (m == not_word) h (λ us i. lit_to_quant e us rest i)
  where
    inner : Part → Front
    inner q = Is (mark m) then Reads e q

    go : (b : Bool) → InParens inside (λ p. WithOperand (if b then not_operand p else (if m == minus_sign then minus_operand p else None)) inner) conj ts rest
        → ((us : List Token) → Reads e lit us rest → Reads e lit_or_quant us rest)
        → InParens inside (λ p. WithOperand (if b then not_operand p else (if m == minus_sign then minus_operand p else None)) inner) conj_or_tail ts rest
    go true (inl (us, d, i)) more = inl (us, d, more us i)
    go false (inl i) more = inl i
    go true (inr i) more = inr i
    go false (inr i) more = inr i
conj_to_tail (quantified m bs e) ts rest (inl h) = never h.0
conj_to_tail (quantified m bs e) ts rest (inr h) = inr h
conj_to_tail (binary m a b) ts rest h = go (is_among (implies_sign ∷ iff_sign ∷ []) m) (m == and_sign) (m == or_word) h (λ us i. lit_to_quant b us rest i)
  where
    two : Part → Part → Front
    two l r = Reads a l then Is (mark m) then Reads b r

    asks : Bool → Bool → Bool → Part → Front
    asks i x y p = WithOperands (if i then implication_operands p else (if x then and_operands p else (if y then or_operands p else
        (if is_among relation_signs m then relation_operands p else operator_operands m p)))) two

    go : (i x y : Bool) → InParens inside (asks i x y) conj ts rest
        → ((us : List Token) → Reads b lit us rest → Reads b lit_or_quant us rest)
        → InParens inside (asks i x y) conj_or_tail ts rest
    go true x y (inl i) more = absurd i
    go true x y (inr i) more = inr i
    go false true y (inl (us, i, (vs, d, k))) more = inl (us, i, (vs, d, more vs k))
    go false true y (inr i) more = inr i
    go false false true (inl (us, i, (vs, d, k))) more = inl (us, i, (vs, d, more vs k))
    go false false true (inr i) more = inr i
    go false false false (inl i) more = inl i
    go false false false (inr i) more = inr i

pub tail_to_pred : (e : Raw) (ts rest : List Token) → Reads e conj_or_tail ts rest → Reads e pred ts rest
tail_to_pred (word m) ts rest h = h
tail_to_pred (literal n) ts rest h = h
tail_to_pred (param i) ts rest h = h
tail_to_pred (type_set a) ts rest h = h
tail_to_pred (call n none) ts rest h = h
tail_to_pred (call n (one e es)) ts rest h = h
tail_to_pred (around m e) ts rest h = h
tail_to_pred (inverse e) ts rest h = h
tail_to_pred (apply f e) ts rest h = h
tail_to_pred (image f e) ts rest h = h
tail_to_pred (of_type e a) ts rest h = h
tail_to_pred (set_of b e) ts rest h = h
tail_to_pred (collected m bs e f) ts rest h = h
tail_to_pred (lambda x e f) ts rest h = h
tail_to_pred (members none) ts rest h = h
tail_to_pred (members (one e es)) ts rest h = h
tail_to_pred (written a) ts rest h = h
tail_to_pred (unary m e) ts rest h = h
tail_to_pred (quantified m bs e) ts rest h = h
tail_to_pred (binary m a b) ts rest h = go (is_among (implies_sign ∷ iff_sign ∷ []) m) (m == and_sign) (m == or_word) h
  where
    two : Part → Part → Front
    two l r = Reads a l then Is (mark m) then Reads b r

    asks : Bool → Bool → Bool → Part → Front
    asks i x y p = WithOperands (if i then implication_operands p else (if x then and_operands p else (if y then or_operands p else
        (if is_among relation_signs m then relation_operands p else operator_operands m p)))) two

    go : (i x y : Bool) → InParens inside (asks i x y) conj_or_tail ts rest
        → InParens inside (asks i x y) pred ts rest
    go true x y (inl i) = absurd i
    go true x y (inr i) = inr i
    go false true y (inl i) = inl i
    go false true y (inr i) = inr i
    go false false true (inl i) = inl i
    go false false true (inr i) = inr i
    go false false false (inl i) = inl i
    go false false false (inr i) = inr i

pub quant_to_tail : (e : Raw) (ts rest : List Token) → Reads e lit_or_quant ts rest → Reads e conj_or_tail ts rest
quant_to_tail (word m) ts rest h = h
quant_to_tail (literal n) ts rest h = h
quant_to_tail (param i) ts rest h = h
quant_to_tail (type_set a) ts rest h = h
quant_to_tail (call n none) ts rest h = h
quant_to_tail (call n (one e es)) ts rest h = h
quant_to_tail (around m e) ts rest h = h
quant_to_tail (inverse e) ts rest h = h
quant_to_tail (apply f e) ts rest h = h
quant_to_tail (image f e) ts rest h = h
quant_to_tail (of_type e a) ts rest h = h
quant_to_tail (set_of b e) ts rest h = h
quant_to_tail (collected m bs e f) ts rest h = h
quant_to_tail (lambda x e f) ts rest h = h
quant_to_tail (members none) ts rest h = h
quant_to_tail (members (one e es)) ts rest h = h
quant_to_tail (written a) ts rest h = h
quant_to_tail (unary m e) ts rest h = h
quant_to_tail (quantified m bs e) ts rest h = h
quant_to_tail (binary m a b) ts rest h = go (is_among (implies_sign ∷ iff_sign ∷ []) m) (m == and_sign) (m == or_word) h
  where
    two : Part → Part → Front
    two l r = Reads a l then Is (mark m) then Reads b r

    asks : Bool → Bool → Bool → Part → Front
    asks i x y p = WithOperands (if i then implication_operands p else (if x then and_operands p else (if y then or_operands p else
        (if is_among relation_signs m then relation_operands p else operator_operands m p)))) two

    go : (i x y : Bool) → InParens inside (asks i x y) lit_or_quant ts rest
        → InParens inside (asks i x y) conj_or_tail ts rest
    go true x y (inl i) = absurd i
    go true x y (inr i) = inr i
    go false true y (inl i) = absurd i
    go false true y (inr i) = inr i
    go false false true (inl i) = absurd i
    go false false true (inr i) = inr i
    go false false false (inl i) = inl i
    go false false false (inr i) = inr i

-- levels
lower_le : (l k j : ℕ) → j ≤ k → nat_le k l ≡ true → nat_le j l ≡ true
lower_le l k j le h = grind (arith, nat_tests)

lower_parens : (alone : Part → Front) (k j : ℕ) → ((ts rest : List Token) → alone (expr k) ts rest → alone (expr j) ts rest) → (ts rest : List Token)
    → InParens inside alone (expr k) ts rest → InParens inside alone (expr j) ts rest
lower_parens alone k j f ts rest (inl h) = inl (f ts rest h)
lower_parens alone k j f ts rest (inr h) = inr h

lower_where : (l : ℕ) (inner : Front) (k j : ℕ) → j ≤ k → (ts rest : List Token) → InParens inside (λ p. Where (may_have_level l p) inner) (expr k) ts rest
    → InParens inside (λ p. Where (may_have_level l p) inner) (expr j) ts rest
lower_where l inner k j le ts rest h = lower_parens (λ p. Where (may_have_level l p) inner) k j (λ ts rest i. (lower_le l k j le i.0, i.1)) ts rest h

and_true : (a b : Bool) → a ≡ true → b ≡ true → (a && b) ≡ true
and_true a b e d = rw (e, d)

or_second : (a b : Bool) → b ≡ true → (a || b) ≡ true
or_second true b h = refl
or_second false b h = h

pub lower : (e : Raw) (k j : ℕ) → j ≤ k → (ts rest : List Token) → Reads e (expr k) ts rest → Reads e (expr j) ts rest
lower (word m) k j le ts rest h = lower_parens (λ p. Where (may_be_word m p) (Is (mark m))) k j (λ ts rest i. (word_at i.0, i.1)) ts rest h
  where
    word_at : ((is_among (true_word ∷ false_word ∷ []) m && false) || (is_among words m && nat_le k 10)) ≡ true
        → ((is_among (true_word ∷ false_word ∷ []) m && false) || (is_among words m && nat_le j 10)) ≡ true
    word_at h = go (or_either (is_among (true_word ∷ false_word ∷ []) m && false) _ h)
      where
        go : ((is_among (true_word ∷ false_word ∷ []) m && false) ≡ true) ⊎ ((is_among words m && nat_le k 10) ≡ true)
            → ((is_among (true_word ∷ false_word ∷ []) m && false) || (is_among words m && nat_le j 10)) ≡ true
        go (inl e) = never (and_both (is_among (true_word ∷ false_word ∷ []) m) false e).1
        go (inr e) = let b = and_both (is_among words m) (nat_le k 10) e in
            or_second (is_among (true_word ∷ false_word ∷ []) m && false) _ (and_true (is_among words m) (nat_le j 10) b.0 (lower_le 10 k j le b.1))
lower (literal n) k j le ts rest h = lower_where 10 _ k j le ts rest h
lower (param i) k j le ts rest h = lower_parens (λ p ts rest. (i < 2 ^ 32) × Where (may_have_level 10 p) (Is (mark param_sign) then Is (number i)) ts rest) k j (λ ts rest x. (x.0, (lower_le 10 k j le x.1.0, x.1.1))) ts rest h
lower (type_set a) k j le ts rest h = lower_where 10 _ k j le ts rest h
lower (call n none) k j le ts rest h = lower_where 9 _ k j le ts rest h
lower (call n (one e es)) k j le ts rest h = lower_where 10 _ k j le ts rest h
lower (around m e) k j le ts rest h = lower_parens (λ p. WithOperand (around_operand m p) inner) k j (λ ts rest i. go (m == finite_word) (m == bool_word) (is_among calls m) (nat_le k 10) refl ts rest i) ts rest h
  where
    inner : Part → Front
    inner q = Is (mark m) then Is (mark open_paren) then Reads e q then Is (mark close_paren)

    at : Bool → Bool → Bool → Bool → Option Part
    at a b c d = if a && false then Some (expr 0) else (if b && d then Some pred else (if c && d then Some (expr 0) else None))

    go : (a b c d : Bool) → nat_le k 10 ≡ d → (ts rest : List Token) → WithOperand (at a b c d) inner ts rest → WithOperand (at a b c (nat_le j 10)) inner ts rest
    go a b c true e ts rest i = subst (λ x. WithOperand (at a b c x) inner ts rest) (sym (lower_le 10 k j le e)) i
    go true true true false e ts rest i = absurd i
    go true true false false e ts rest i = absurd i
    go true false true false e ts rest i = absurd i
    go true false false false e ts rest i = absurd i
    go false true true false e ts rest i = absurd i
    go false true false false e ts rest i = absurd i
    go false false true false e ts rest i = absurd i
    go false false false false e ts rest i = absurd i
lower (unary m e) k j le ts rest h = lower_parens (λ p. WithOperand (operand m p) inner) k j (λ ts rest i. go (m == not_word) (m == minus_sign) (nat_le k 7) refl ts rest i) ts rest h
  where
    inner : Part → Front
    inner q = Is (mark m) then Reads e q

    at : Bool → Bool → Bool → Option Part
    at a b d = if a then None else (if b then (if d then Some (expr 8) else None) else None)

    go : (a b d : Bool) → nat_le k 7 ≡ d → (ts rest : List Token) → WithOperand (at a b d) inner ts rest → WithOperand (at a b (nat_le j 7)) inner ts rest
    go a b true e ts rest i = subst (λ x. WithOperand (at a b x) inner ts rest) (sym (lower_le 7 k j le e)) i
    go true b false e ts rest i = absurd i
    go false true false e ts rest i = absurd i
    go false false false e ts rest i = absurd i
lower (binary m a b) k j le ts rest h = lower_parens (λ p. WithOperands (operands m p) two) k j (λ ts rest i.
    let u = operator_at m k two ts rest i in
    with_two (operands m (expr j)) (record { left = expr u.operator.left; right = expr u.operator.right }) two ts rest (u.used.asks j (lower_le u.operator.level k j le u.level)) u.operands_read) ts rest h
  where
    two : Part → Part → Front
    two l r = Reads a l then Is (mark m) then Reads b r
lower (inverse e) k j le ts rest h = lower_where 10 _ k j le ts rest h
lower (apply f e) k j le ts rest h = lower_where 10 _ k j le ts rest h
lower (image f e) k j le ts rest h = lower_where 10 _ k j le ts rest h
lower (of_type e a) k j le ts rest h = lower_where 0 _ k j le ts rest h
lower (quantified m bs e) k j le ts rest (inl h) = never h.0
lower (quantified m bs e) k j le ts rest (inr h) = inr h
lower (set_of b e) k j le ts rest h = lower_where 10 _ k j le ts rest h
lower (collected m bs e f) k j le ts rest h = lower_parens (λ p. Where (may_collect m p) (Is (mark m) then ReadsBinders bs then Is (mark dot) then Reads e pred then Is (mark bar) then Reads f (expr 0) then EndsCollected m)) k j (λ ts rest i. (go (m == open_brace) (is_among (union_over_word ∷ inter_over_word ∷ []) m) i.0, i.1)) ts rest h
  where
    go : (x y : Bool) → (if x then nat_le k 10 else (y && nat_le k 0)) ≡ true → (if x then nat_le j 10 else (y && nat_le j 0)) ≡ true
    go true y e = lower_le 10 k j le e
    go false true e = lower_le 0 k j le e
    go false false e = never e
lower (lambda x e f) k j le ts rest h = lower_where 0 _ k j le ts rest h
lower (members none) k j le ts rest h = lower_where 10 _ k j le ts rest h
lower (members (one e es)) k j le ts rest h = lower_where 10 _ k j le ts rest h
lower (written a) k j le ts rest h = absurd h
