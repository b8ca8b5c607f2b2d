-- Formulas within one more pair of parentheses, and what a part asks of operands.
use Rattle.std.proofs.Common.{◌≡◌, ℕ, zero, suc, ◌<◌, Bool, true, List, ◌∷◌, refl, subst, sym, inl, inr, arith}
use Rattle.std.specs.Prelude.{Option, Some, nat_lt}
use Rattle.std.proofs.lemmas.Bool.Decides.{nat_tests}
use Rattle.ev_syntax.specs.Marks.{open_paren, close_paren}
use Rattle.ev_syntax.specs.Tokens.{Token, mark}
use Rattle.ev_syntax.specs.Raw.{RawType, int_type, bool_type, param_type, named_type, pow_type, prod_type, no_types, one_type, Pattern, bound, pair, Raw, word, literal, param, type_set, call, around, unary, binary, inverse, apply, image, of_type, quantified, set_of, collected, lambda, members, written, none, one}
use Rattle.ev_syntax.specs.Parts.{Part, pred, conj, conj_or_tail, ands, ors, lit, lit_or_quant, expr, inside, Operands}
use Rattle.ev_syntax.specs.Grammar.{Front, Times, InParens, ReadsType, ReadsPattern, Reads, WithOperand, WithOperands}

-- one pair of parentheses more
close_first : (n : ℕ) (t : Token) (ts rest : List Token) → Times n t ts (t ∷ rest) → Times (suc n) t ts rest
close_first zero t ts rest h = (rest, h, refl)
close_first (suc n) t ts rest (after, e, h) = (after, e, close_first n t after rest h)

-- in parentheses stands what stands within
pub record Wraps {P : Type 0} (inner : P → P) (reads : P → Front) : Type 0 where
  pub wraps : (p : P) (ts us rest : List Token) → ts ≡ mark open_paren ∷ us → reads (inner p) us (mark close_paren ∷ rest) → reads p ts rest

wrap_parens : {P : Type 0} (inner : P → P) (alone : P → Front) → ((p : P) → inner (inner p) ≡ inner p) → (p : P) (ts us rest : List Token) → ts ≡ mark open_paren ∷ us
    → InParens inner alone (inner p) us (mark close_paren ∷ rest) → InParens inner alone p ts rest
wrap_parens inner alone same p ts us rest e (inl h) = inr (0, (us, (us, e, refl), (mark close_paren ∷ rest, h, (rest, refl, refl))))
wrap_parens inner alone same p ts us rest e (inr (n, (mid, o, (to, h, c)))) =
    inr (suc n, (mid, (us, e, o), (to, subst (λ q. alone q mid to) (same p) h, close_first (suc n) (mark close_paren) to rest c)))

pub wrap : {P : Type 0} (inner : P → P) (alone : P → Front) → ((p : P) → inner (inner p) ≡ inner p) → Wraps inner (InParens inner alone)
wrap inner alone same = record { wraps = λ p ts us rest e h. wrap_parens inner alone same p ts us rest e h }

pub inside_inside : (p : Part) → inside (inside p) ≡ inside p
inside_inside pred = refl
inside_inside conj = refl
inside_inside conj_or_tail = refl
inside_inside ands = refl
inside_inside ors = refl
inside_inside lit = refl
inside_inside lit_or_quant = refl
inside_inside (expr k) = refl

pub below : (i n : ℕ) → nat_lt i n ≡ true → i < n
below i n h = grind (arith, nat_tests)

-- types
pub paren_type : (a : RawType) → Wraps (λ (p : Bool). true) (ReadsType a)
paren_type int_type = wrap (λ (p : Bool). true) _ (λ p. refl)
paren_type bool_type = wrap (λ (p : Bool). true) _ (λ p. refl)
paren_type (param_type i) = wrap (λ (p : Bool). true) _ (λ p. refl)
paren_type (named_type n no_types) = wrap (λ (p : Bool). true) _ (λ p. refl)
paren_type (named_type n (one_type a types)) = wrap (λ (p : Bool). true) _ (λ p. refl)
paren_type (pow_type a) = wrap (λ (p : Bool). true) _ (λ p. refl)
paren_type (prod_type a b) = wrap (λ (p : Bool). true) _ (λ p. refl)

-- patterns
pub paren_pattern : (x : Pattern) → Wraps (λ (p : Bool). true) (ReadsPattern x)
paren_pattern (bound b) = wrap (λ (p : Bool). true) _ (λ p. refl)
paren_pattern (pair x y) = wrap (λ (p : Bool). true) _ (λ p. refl)

pub paren_raw : (e : Raw) → Wraps inside (Reads e)
paren_raw (word m) = wrap inside _ inside_inside
paren_raw (literal n) = wrap inside _ inside_inside
paren_raw (param i) = wrap inside _ inside_inside
paren_raw (type_set a) = wrap inside _ inside_inside
paren_raw (call n none) = wrap inside _ inside_inside
paren_raw (call n (one e es)) = wrap inside _ inside_inside
paren_raw (around m e) = wrap inside _ inside_inside
paren_raw (unary m e) = wrap inside _ inside_inside
paren_raw (binary m a b) = wrap inside _ inside_inside
paren_raw (inverse e) = wrap inside _ inside_inside
paren_raw (apply f e) = wrap inside _ inside_inside
paren_raw (image f e) = wrap inside _ inside_inside
paren_raw (of_type e a) = wrap inside _ inside_inside
paren_raw (quantified m bs e) = wrap inside _ inside_inside
paren_raw (set_of b e) = wrap inside _ inside_inside
paren_raw (collected m bs e f) = wrap inside _ inside_inside
paren_raw (lambda x e f) = wrap inside _ inside_inside
paren_raw (members none) = wrap inside _ inside_inside
paren_raw (members (one e es)) = wrap inside _ inside_inside
paren_raw (written a) = record { wraps = λ p ts us rest e h. absurd h }

pub with_one : (o : Option Part) (q : Part) (reads : Part → Front) (ts rest : List Token) → o ≡ Some q → reads q ts rest → WithOperand o reads ts rest
with_one o q reads ts rest e h = subst (λ x. WithOperand x reads ts rest) (sym e) h

pub with_two : (o : Option Operands) (q : Operands) (reads : Part → Part → Front) (ts rest : List Token) → o ≡ Some q → reads q.left q.right ts rest → WithOperands o reads ts rest
with_two o q reads ts rest e h = subst (λ x. WithOperands x reads ts rest) (sym e) h
