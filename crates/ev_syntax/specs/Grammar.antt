-- The grammar of formulas, as a recursion over the raw tree: it stands at the front of the tokens, and `rest` comes after it.
use Rattle.std.specs.Prelude.{◌≡◌, ℕ, zero, suc, ◌<◌, ◌^◌, ◌⊎◌, Bool, true, false, ◌||◌, ◌&&◌, ◌==◌, if◌then◌else◌, List, [], ◌∷◌, Option, Some, None, IsTrue}
use Rattle.ev_syntax.specs.Marks.{for_all_sign, for_some_sign, maps_to_sign, inverse_sign, open_paren, close_paren, open_bracket, close_bracket, open_brace, close_brace, comma, dot, bar, lambda_sign, param_sign, product_sign, int_word, bool_set_word, pow_word, type_word, oftype_word, union_over_word, inter_over_word}
use Rattle.ev_syntax.specs.Tokens.{Token, name, number, mark}
use Rattle.ev_syntax.specs.Raw.{RawType, RawTypes, int_type, bool_type, param_type, named_type, pow_type, prod_type, no_types, one_type, Binder, Pattern, bound, pair, Raw, Raws, word, literal, param, type_set, call, around, unary, binary, inverse, apply, image, of_type, quantified, set_of, collected, lambda, members, written, none, one}
use Rattle.ev_syntax.specs.Parts.{Part, pred, expr, Operands, operands, operand, is_predicate, may_be_quantified, may_have_level, is_expression, may_be_name, may_be_word, around_operand, inside, is_among, expr_level, map_level, post_level, function_level}

-- what tokens stand at the front of a list, and the list after them
abbrev pub Front : Type 1
Front = List Token → List Token → Type 0

-- one token
abbrev pub Is : Token → Front
Is t ts rest = ts ≡ t ∷ rest

-- one after the other
infixr 30 ◌then◌
abbrev pub ◌then◌ : Front → Front → Front
(a then b) ts rest = (after : List Token) × a ts after × b after rest

-- n times the token
abbrev pub Times : ℕ → Token → Front
Times zero t ts rest = ts ≡ rest
Times (suc n) t ts rest = (Is t then Times n t) ts rest

-- the tokens alone, or within one or more pairs of parentheses, where they stand as what may stand there
abbrev pub InParens : {P : Type 0} → (P → P) → (P → Front) → P → Front
InParens inside alone p ts rest =
    alone p ts rest
    ⊎ ((n : ℕ) × (Times (suc n) (mark open_paren) then alone (inside p) then Times (suc n) (mark close_paren)) ts rest)

-- A type: the flag says whether `A ** B` may stand there outside parentheses.
abbrev mutual
  pub ReadsType : RawType → Bool → Front
  ReadsType int_type = InParens (λ p. true) (λ p. Is (mark int_word))
  ReadsType bool_type = InParens (λ p. true) (λ p. Is (mark bool_set_word))
  ReadsType (param_type i) = InParens (λ p. true) (λ p ts rest. (i < 2 ^ 32) × (Is (mark param_sign) then Is (number i)) ts rest)
  ReadsType (named_type n no_types) = InParens (λ p. true) (λ p. Is (name n))
  ReadsType (named_type n (one_type a types)) =
      InParens (λ p. true) (λ p. Is (name n) then Is (mark open_paren) then ReadsType a true then ReadsMoreTypes types then Is (mark close_paren))
  ReadsType (pow_type a) =
      InParens (λ p. true) (λ p. Is (mark pow_word) then Is (mark open_paren) then ReadsType a true then Is (mark close_paren))
  ReadsType (prod_type a b) =
      InParens (λ p. true) (λ p ts rest. IsTrue p × (ReadsType a true then Is (mark product_sign) then ReadsType b false) ts rest)

  -- further types of a list, each after a comma
  pub ReadsMoreTypes : RawTypes → Front
  ReadsMoreTypes no_types ts rest = ts ≡ rest
  ReadsMoreTypes (one_type a types) ts rest = (Is (mark comma) then ReadsType a true then ReadsMoreTypes types) ts rest

-- `[oftype type]`
abbrev pub ReadsWritten : Option RawType → Front
ReadsWritten None ts rest = ts ≡ rest
ReadsWritten (Some a) ts rest = (Is (mark oftype_word) then ReadsType a true) ts rest

abbrev pub ReadsBinder : Binder → Front
ReadsBinder b = Is (name b.name) then ReadsWritten b.type

-- bound names, at least one, separated by commas
abbrev pub ReadsMoreBinders : List Binder → Front
ReadsMoreBinders [] ts rest = ts ≡ rest
ReadsMoreBinders (b ∷ bs) ts rest = (Is (mark comma) then ReadsBinder b then ReadsMoreBinders bs) ts rest

abbrev pub ReadsBinders : List Binder → Front
ReadsBinders [] ts rest = ⊥
ReadsBinders (b ∷ bs) ts rest = (ReadsBinder b then ReadsMoreBinders bs) ts rest

-- A pattern: the flag says whether `p |-> q` may stand there outside parentheses.
abbrev pub ReadsPattern : Pattern → Bool → Front
ReadsPattern (bound b) = InParens (λ p. true) (λ p. ReadsBinder b)
ReadsPattern (pair x y) =
    InParens (λ p. true) (λ p ts rest. IsTrue p × (ReadsPattern x true then Is (mark maps_to_sign) then ReadsPattern y false) ts rest)

-- what the part asks of an operand or of two, as it then reads
abbrev pub WithOperand : Option Part → (Part → Front) → Front
WithOperand None reads ts rest = ⊥
WithOperand (Some p) reads ts rest = reads p ts rest

abbrev pub WithOperands : Option Operands → (Part → Part → Front) → Front
WithOperands None reads ts rest = ⊥
WithOperands (Some o) reads ts rest = reads o.left o.right ts rest

-- where a test holds
abbrev pub Where : Bool → Front → Front
Where holds reads ts rest = IsTrue holds × reads ts rest

-- the mark that begins `{xs . P | E}`, `UNION xs . P | E` or `INTER xs . P | E`, where it may stand, and what ends the form
abbrev pub may_collect : ℕ → Part → Bool
may_collect m p = if m == open_brace then is_expression p else (is_among (union_over_word ∷ inter_over_word ∷ []) m && may_have_level expr_level p)

abbrev pub EndsCollected : ℕ → Front
EndsCollected m ts rest = ts ≡ (if m == open_brace then mark close_brace ∷ rest else rest)

abbrev mutual
  pub Reads : Raw → Part → Front
  Reads (word m) = InParens inside (λ p. Where (may_be_word m p) (Is (mark m)))
  Reads (literal n) = InParens inside (λ p. Where (is_expression p) (Is (number n)))
  Reads (param i) = InParens inside (λ p ts rest. (i < 2 ^ 32) × Where (is_expression p) (Is (mark param_sign) then Is (number i)) ts rest)
  Reads (type_set a) =
      InParens inside (λ p. Where (is_expression p) (Is (mark type_word) then Is (mark open_paren) then ReadsType a true then Is (mark close_paren)))
  Reads (call n none) = InParens inside (λ p. Where (may_be_name p) (Is (name n)))
  Reads (call n (one e es)) =
      InParens inside (λ p. Where (is_predicate p || is_expression p)
      (Is (name n) then Is (mark open_paren) then Reads e (expr expr_level) then ReadsMore es then Is (mark close_paren)))
  Reads (around m e) =
      InParens inside (λ p. WithOperand (around_operand m p) (λ q. Is (mark m) then Is (mark open_paren) then Reads e q then Is (mark close_paren)))
  Reads (unary m e) = InParens inside (λ p. WithOperand (operand m p) (λ q. Is (mark m) then Reads e q))
  Reads (binary m a b) = InParens inside (λ p. WithOperands (operands m p) (λ l r. Reads a l then Is (mark m) then Reads b r))
  Reads (inverse e) = InParens inside (λ p. Where (is_expression p) (Reads e (expr post_level) then Is (mark inverse_sign)))
  Reads (apply f e) =
      InParens inside (λ p. Where (is_expression p)
      (Reads f (expr function_level) then Is (mark open_paren) then Reads e (expr expr_level) then Is (mark close_paren)))
  Reads (image r e) =
      InParens inside (λ p. Where (is_expression p)
      (Reads r (expr post_level) then Is (mark open_bracket) then Reads e (expr expr_level) then Is (mark close_bracket)))
  Reads (of_type e a) =
      InParens inside (λ p. Where (may_have_level expr_level p) (Reads e (expr map_level) then Is (mark oftype_word) then ReadsType a true))
  Reads (quantified m bs e) =
      InParens inside (λ p. Where (may_be_quantified p && is_among (for_all_sign ∷ for_some_sign ∷ []) m)
      (Is (mark m) then ReadsBinders bs then Is (mark dot) then Reads e pred))
  Reads (set_of b e) =
      InParens inside (λ p. Where (is_expression p)
      (Is (mark open_brace) then ReadsBinder b then Is (mark bar) then Reads e pred then Is (mark close_brace)))
  Reads (collected m bs e f) =
      InParens inside (λ p. Where (may_collect m p)
      (Is (mark m) then ReadsBinders bs then Is (mark dot) then Reads e pred then Is (mark bar) then Reads f (expr expr_level) then EndsCollected m))
  Reads (lambda x e f) =
      InParens inside (λ p. Where (may_have_level expr_level p)
      (Is (mark lambda_sign) then ReadsPattern x true then Is (mark dot) then Reads e pred then Is (mark bar) then Reads f (expr expr_level)))
  Reads (members none) = InParens inside (λ p. Where (is_expression p) (Is (mark open_brace) then Is (mark close_brace)))
  Reads (members (one e es)) =
      InParens inside (λ p. Where (is_expression p)
      (Is (mark open_brace) then Reads e (expr expr_level) then ReadsMore es then Is (mark close_brace)))
  Reads (written a) = λ p ts rest. ⊥

  -- further expressions of a list, each after a comma
  pub ReadsMore : Raws → Front
  ReadsMore none ts rest = ts ≡ rest
  ReadsMore (one e es) ts rest = (Is (mark comma) then Reads e (expr expr_level) then ReadsMore es) ts rest
