-- Formulas and types have no `@`.
use Rattle.std.proofs.Common.{◌≡◌, ℕ, zero, suc, Bool, true, false, List, [], ◌∷◌, refl, ap, subst, sym, ◌∙◌, inl, inr}
use Rattle.std.specs.Prelude.{Option, Some, None, ◌==◌, ◌&&◌, ◌||◌, if◌then◌else◌}
use Rattle.std.proofs.lemmas.Bool.{eqb-true}
use Rattle.ev_syntax.specs.Marks.{open_paren, close_paren, at_sign, open_brace, close_brace, for_all_sign, for_some_sign}
use Rattle.ev_syntax.specs.Tokens.{Token, name, number, mark}
use Rattle.ev_syntax.specs.Raw.{RawType, RawTypes, int_type, bool_type, param_type, named_type, pow_type, prod_type, no_types, one_type, Binder, Pattern, bound, pair, Raw, Raws, word, literal, param, type_set, call, around, unary, binary, inverse, apply, image, of_type, quantified, set_of, collected, lambda, members, written, none, one}
use Rattle.ev_syntax.specs.Parts.{Part, pred, conj, conj_or_tail, ands, ors, lit, lit_or_quant, expr, expr_level, Operands, operands, operand, around_operand, may_be_word, may_be_quantified, is_among, inside}
use Rattle.ev_syntax.specs.declared.sorts.Sort.{Sort}
use Rattle.ev_syntax.specs.declared.sorts.Sort.TheVariants.{Pred, Expr, Either, TypeText}
use Rattle.ev_syntax.specs.Parses.{ReadsWrittenType, Parses}
use Rattle.ev_syntax.specs.Grammar.{Front, Is, ◌then◌, Times, InParens, Reads, ReadsMore, ReadsType, ReadsMoreTypes, ReadsWritten, ReadsBinder, ReadsMoreBinders, ReadsBinders, ReadsPattern, WithOperand, WithOperands, Where, EndsCollected, may_collect}
use Rattle.ev_deriv.proofs.NoSign.{has_at}

-- what stands before the rest has none
abbrev pub Keeps : Front → Type 0
Keeps reads = (ts rest : List Token) → reads ts rest → has_at ts ≡ has_at rest

abbrev pub IsOther : ℕ → Type 0
IsOther m = (m == at_sign) ≡ false

keeps_mark : (m : ℕ) → IsOther m → Keeps (Is (mark m))
keeps_mark m o ts rest h = ap has_at h ∙ ap (λ b. b || has_at rest) o

keeps_name : (x : List ℕ) → Keeps (Is (name x))
keeps_name x ts rest h = ap has_at h

keeps_number : (x : ℕ) → Keeps (Is (number x))
keeps_number x ts rest h = ap has_at h

keeps_then : (a b : Front) → Keeps a → Keeps b → Keeps (a then b)
keeps_then a b ka kb ts rest (mid, ha, hb) = ka ts mid ha ∙ kb mid rest hb

keeps_same : Keeps (λ ts rest. ts ≡ rest)
keeps_same ts rest h = ap has_at h

keeps_pair : (a : Front) → Keeps a → Keeps (Is (mark open_paren) then a then Is (mark close_paren))
keeps_pair a ka ts rest (us, e, (vs, h, d)) = ap has_at e ∙ ka us vs h ∙ ap has_at d

keeps_times : (m : ℕ) → IsOther m → (k : ℕ) → Keeps (Times k (mark m))
keeps_times m o zero ts rest h = ap has_at h
keeps_times m o (suc k) ts rest (us, e, h) = keeps_mark m o ts us e ∙ keeps_times m o k us rest h

keeps_parens : {P : Type 0} (inside : P → P) (alone : P → Front) → ((p : P) → Keeps (alone p)) → (p : P) → Keeps (InParens inside alone p)
keeps_parens {P} inside alone k p ts rest (inl h) = k p ts rest h
keeps_parens {P} inside alone k p ts rest (inr (j, (mid, o, (to, h, c)))) =
    keeps_times open_paren refl (suc j) ts mid o ∙ k (inside p) mid to h ∙ keeps_times close_paren refl (suc j) to rest c

keeps_where : (b : Bool) (a : Front) → (b ≡ true → Keeps a) → Keeps (Where b a)
keeps_where b a k ts rest h = k h.0 ts rest h.1

keeps_fact : (P : Type 0) (a : Front) → Keeps a → Keeps (λ ts rest. P × a ts rest)
keeps_fact P a k ts rest h = k ts rest h.1

keeps_operand : (o : Option Part) (reads : Part → Front) → ((p : Part) → o ≡ Some p → Keeps (reads p)) → Keeps (WithOperand o reads)
keeps_operand None reads k ts rest h = absurd h
keeps_operand (Some p) reads k ts rest h = k p refl ts rest h

-- an operand is asked for
abbrev pub IsNotNone : {A : Type 0} → Option A → Type 0
IsNotNone None = ⊥
IsNotNone (Some a) = Unit {0}

keeps_operands : (o : Option Operands) (reads : Part → Part → Front) → ((p q : Part) → IsNotNone o → Keeps (reads p q)) → Keeps (WithOperands o reads)
keeps_operands None reads k ts rest h = absurd h
keeps_operands (Some o) reads k ts rest h = k o.left o.right tt ts rest h

is_false : (b : Bool) → (b ≡ true → ⊥) → b ≡ false
is_false true h = absurd (h refl)
is_false false h = refl

false_true : false ≡ true → ⊥
false_true h = cc

other_by_test : (f : ℕ → Bool) (m : ℕ) → f m ≡ true → f at_sign ≡ false → IsOther m
other_by_test f m h a = is_false (m == at_sign) (λ e. false_true (sym a ∙ ap f (sym (eqb-true m at_sign e)) ∙ h))

other_by_none : {A : Type 0} (o : ℕ → Option A) (m : ℕ) → IsNotNone (o m) → o at_sign ≡ None → IsOther m
other_by_none o m h a = is_false (m == at_sign) (λ e. subst IsNotNone (ap o (eqb-true m at_sign e) ∙ a) h)

some_is : {A : Type 0} (o : Option A) (a : A) → o ≡ Some a → IsNotNone o
some_is o a e = subst IsNotNone (sym e) tt

no_at_operands : (p : Part) → operands at_sign p ≡ None
no_at_operands pred = refl
no_at_operands conj = refl
no_at_operands conj_or_tail = refl
no_at_operands ands = refl
no_at_operands ors = refl
no_at_operands lit = refl
no_at_operands lit_or_quant = refl
no_at_operands (expr k) = refl

and_second : (a b : Bool) → a && b ≡ true → b ≡ true
and_second true b h = h
and_second false b h = absurd (false_true h)

-- one mark, then the rest
mark_then : (m : ℕ) (a : Front) → IsOther m → Keeps a → Keeps (Is (mark m) then a)
mark_then m a o ka = keeps_then (Is (mark m)) a (keeps_mark m o) ka

-- an item, further ones and the closing parenthesis
pair_list : (a b : Front) → Keeps a → Keeps b → Keeps (Is (mark open_paren) then a then b then Is (mark close_paren))
pair_list a b ka kb ts rest (us, e, (vs, h, (ws, i, d))) = ap has_at e ∙ ka us vs h ∙ kb vs ws i ∙ ap has_at d

type_parens : (alone : Bool → Front) → ((p : Bool) → Keeps (alone p)) → (p : Bool) → Keeps (InParens (λ (q : Bool). true) alone p)
type_parens alone k p = keeps_parens (λ (q : Bool). true) alone k p

mutual
  pub type_keeps : (a : RawType) → (p : Bool) → Keeps (ReadsType a p)
  type_keeps int_type = type_parens _ (λ p. keeps_mark _ refl)
  type_keeps bool_type = type_parens _ (λ p. keeps_mark _ refl)
  type_keeps (param_type i) = type_parens _ (λ p. keeps_fact _ _ (mark_then _ _ refl (keeps_number _)))
  type_keeps (named_type n no_types) = type_parens _ (λ p. keeps_name _)
  type_keeps (named_type n (one_type a types)) =
      type_parens _ (λ p. keeps_then (Is (name n)) _ (keeps_name n) (pair_list (ReadsType a true) (ReadsMoreTypes types) (type_keeps a true) (more_types_keeps types)))
  type_keeps (pow_type a) = type_parens _ (λ p. mark_then _ _ refl (keeps_pair (ReadsType a true) (type_keeps a true)))
  type_keeps (prod_type a b) =
      type_parens _ (λ p. keeps_fact _ _ (keeps_then (ReadsType a true) _ (type_keeps a true) (mark_then _ (ReadsType b false) refl (type_keeps b false))))

  pub more_types_keeps : (types : RawTypes) → Keeps (ReadsMoreTypes types)
  more_types_keeps no_types = keeps_same
  more_types_keeps (one_type a types) =
      mark_then _ _ refl (keeps_then (ReadsType a true) (ReadsMoreTypes types) (type_keeps a true) (more_types_keeps types))

written_keeps : (o : Option RawType) → Keeps (ReadsWritten o)
written_keeps None = keeps_same
written_keeps (Some a) = mark_then _ (ReadsType a true) refl (type_keeps a true)

binder_keeps : (b : Binder) → Keeps (ReadsBinder b)
binder_keeps b = keeps_then (Is (name b.name)) (ReadsWritten b.type) (keeps_name b.name) (written_keeps b.type)

more_binders_keeps : (bs : List Binder) → Keeps (ReadsMoreBinders bs)
more_binders_keeps [] = keeps_same
more_binders_keeps (b ∷ bs) = mark_then _ _ refl (keeps_then (ReadsBinder b) (ReadsMoreBinders bs) (binder_keeps b) (more_binders_keeps bs))

binders_keeps : (bs : List Binder) → Keeps (ReadsBinders bs)
binders_keeps [] = λ ts rest h. absurd h
binders_keeps (b ∷ bs) = keeps_then (ReadsBinder b) (ReadsMoreBinders bs) (binder_keeps b) (more_binders_keeps bs)

pattern_keeps : (x : Pattern) → (p : Bool) → Keeps (ReadsPattern x p)
pattern_keeps (bound b) = type_parens _ (λ p. binder_keeps b)
pattern_keeps (pair x y) =
    type_parens _ (λ p. keeps_fact _ _ (keeps_then (ReadsPattern x true) _ (pattern_keeps x true) (mark_then _ (ReadsPattern y false) refl (pattern_keeps y false))))

ends_keeps : (m : ℕ) → Keeps (EndsCollected m)
ends_keeps m ts rest h = go (m == open_brace) h
  where
    go : (b : Bool) → ts ≡ (if b then mark close_brace ∷ rest else rest) → has_at ts ≡ has_at rest
    go true e = ap has_at e
    go false e = ap has_at e

raw_parens : (alone : Part → Front) → ((p : Part) → Keeps (alone p)) → (p : Part) → Keeps (InParens inside alone p)
raw_parens alone k p = keeps_parens inside alone k p

mutual
  pub keeps : (e : Raw) → (p : Part) → Keeps (Reads e p)
  keeps (word m) = raw_parens _ (λ p. keeps_where _ _ (λ t. keeps_mark m (other_by_test (λ i. may_be_word i p) m t refl)))
  keeps (literal n) = raw_parens _ (λ p. keeps_where _ _ (λ t. keeps_number _))
  keeps (param i) = raw_parens _ (λ p. keeps_fact _ _ (keeps_where _ _ (λ t. mark_then _ _ refl (keeps_number _))))
  keeps (type_set a) = raw_parens _ (λ p. keeps_where _ _ (λ t. mark_then _ _ refl (keeps_pair (ReadsType a true) (type_keeps a true))))
  keeps (call n none) = raw_parens _ (λ p. keeps_where _ _ (λ t. keeps_name _))
  keeps (call n (one e es)) =
      raw_parens _ (λ p. keeps_where _ _ (λ t. keeps_then (Is (name n)) _ (keeps_name n) (pair_list (Reads e _) (ReadsMore es) (keeps e _) (more_keeps es))))
  keeps (around m e) = raw_parens _ (λ p. keeps_operand (around_operand m p) _ (λ q d.
      mark_then m _ (other_by_none (λ i. around_operand i p) m (some_is _ _ d) refl) (keeps_pair (Reads e q) (keeps e q))))
  keeps (unary m e) = raw_parens _ (λ p. keeps_operand (operand m p) _ (λ q d.
      mark_then m (Reads e q) (other_by_none (λ i. operand i p) m (some_is _ _ d) refl) (keeps e q)))
  keeps (binary m a b) = raw_parens _ (λ p. keeps_operands (operands m p) _ (λ l r d.
      keeps_then (Reads a l) _ (keeps a l) (mark_then m (Reads b r) (other_by_none (λ i. operands i p) m d (no_at_operands p)) (keeps b r))))
  keeps (inverse e) = raw_parens _ (λ p. keeps_where _ _ (λ t. keeps_then (Reads e _) _ (keeps e _) (keeps_mark _ refl)))
  keeps (apply f e) = raw_parens _ (λ p. keeps_where _ _ (λ t. keeps_then (Reads f _) _ (keeps f _) (keeps_pair (Reads e _) (keeps e _))))
  keeps (image f e) =
      raw_parens _ (λ p. keeps_where _ _ (λ t. keeps_then (Reads f _) _ (keeps f _) (mark_then _ _ refl (keeps_then (Reads e _) _ (keeps e _) (keeps_mark _ refl)))))
  keeps (of_type e a) =
      raw_parens _ (λ p. keeps_where _ _ (λ t. keeps_then (Reads e _) _ (keeps e _) (mark_then _ (ReadsType a true) refl (type_keeps a true))))
  keeps (quantified m bs e) = raw_parens _ (λ p. keeps_where _ _ (λ t.
      mark_then m _ (other_by_test (λ i. is_among (for_all_sign ∷ for_some_sign ∷ []) i) m (and_second (may_be_quantified p) _ t) refl)
      (keeps_then (ReadsBinders bs) _ (binders_keeps bs) (mark_then _ (Reads e _) refl (keeps e _)))))
  keeps (set_of b e) = raw_parens _ (λ p. keeps_where _ _ (λ t. mark_then _ _ refl
      (keeps_then (ReadsBinder b) _ (binder_keeps b) (mark_then _ _ refl (keeps_then (Reads e _) _ (keeps e _) (keeps_mark _ refl))))))
  keeps (collected m bs e f) = raw_parens _ (λ p. keeps_where _ _ (λ t.
      mark_then m _ (other_by_test (λ i. may_collect i p) m t refl)
      (keeps_then (ReadsBinders bs) _ (binders_keeps bs) (mark_then _ _ refl (keeps_then (Reads e _) _ (keeps e _)
      (mark_then _ _ refl (keeps_then (Reads f _) _ (keeps f _) (ends_keeps m))))))))
  keeps (lambda x e f) = raw_parens _ (λ p. keeps_where _ _ (λ t. mark_then _ _ refl
      (keeps_then (ReadsPattern x true) _ (pattern_keeps x true) (mark_then _ _ refl (keeps_then (Reads e _) _ (keeps e _) (mark_then _ (Reads f _) refl (keeps f _)))))))
  keeps (members none) = raw_parens _ (λ p. keeps_where _ _ (λ t. mark_then _ _ refl (keeps_mark _ refl)))
  keeps (members (one e es)) = raw_parens _ (λ p. keeps_where _ _ (λ t. mark_then _ _ refl
      (keeps_then (Reads e _) _ (keeps e _) (keeps_then (ReadsMore es) _ (more_keeps es) (keeps_mark _ refl)))))
  keeps (written a) = λ p ts rest h. absurd h

  pub more_keeps : (es : Raws) → Keeps (ReadsMore es)
  more_keeps none = keeps_same
  more_keeps (one e es) = mark_then _ _ refl (keeps_then (Reads e _) (ReadsMore es) (keeps e _) (more_keeps es))

-- all tokens of a formula or of a type
pub formula_without : (sort : Sort) (raw : Raw) (ts : List Token) → Parses ts sort raw → has_at ts ≡ false
formula_without Pred raw ts h = keeps raw pred ts [] h
formula_without Expr raw ts h = keeps raw (expr expr_level) ts [] h
formula_without Either raw ts (inl h) = keeps raw pred ts [] h
formula_without Either raw ts (inr h) = keeps raw (expr expr_level) ts [] h
formula_without TypeText raw ts h = of_type_text raw h
  where
    of_type_text : (raw : Raw) → ReadsWrittenType raw ts [] → has_at ts ≡ false
    of_type_text (written a) h = type_keeps a true ts [] h
    of_type_text _ h = absurd h
