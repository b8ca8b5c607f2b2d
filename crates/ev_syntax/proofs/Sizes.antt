-- What stands at the front takes at least one token.
use Rattle.std.proofs.Common.{◌≡◌, ℕ, zero, suc, ◌+◌, ◌≤◌, ◌<◌, Bool, true, false, List, length, ap, sym, ◌∙◌, inl, inr, arith, length-append}
use Rattle.std.specs.Prelude.{Option, Some, None}
use Rattle.ev_syntax.specs.Marks.{open_paren, close_paren}
use Rattle.ev_syntax.specs.Tokens.{Token, mark}
use Rattle.ev_syntax.specs.Raw.{RawType, RawTypes, int_type, bool_type, param_type, named_type, pow_type, prod_type, no_types, one_type, Binder, Pattern, bound, pair, Raw, Raws, word, literal, param, type_set, call, around, unary, binary, inverse, apply, image, of_type, quantified, set_of, collected, lambda, members, written, none, one}
use Rattle.ev_syntax.specs.Parts.{Part, Operands, inside}
use Rattle.ev_syntax.specs.Grammar.{Front, Is, ◌then◌, Times, InParens, Reads, ReadsMore, ReadsType, ReadsMoreTypes, ReadsWritten, ReadsBinder, ReadsBinders, ReadsPattern, WithOperand, WithOperands, EndsCollected}
use Rattle.ev_syntax.proofs.Frame.{Takes, IsFrame, frame, more_frame, type_frame, more_types_frame, written_frame, binder_frame, binders_frame, pattern_frame, ends_frame}

-- it leaves no more tokens than there were
pub weak : (a : Front) → IsFrame a → (ts rest : List Token) → a ts rest → length rest ≤ length ts
weak a f ts rest h = let t : Takes a ts rest = f ts rest h in
    let n : length ts ≡ length t.front + length rest = ap length t.splits ∙ length-append t.front rest in omega arith

abbrev pub Weak : Front → Type 0
Weak a = (ts rest : List Token) → a ts rest → length rest ≤ length ts

-- it leaves fewer
abbrev pub Strict : Front → Type 0
Strict a = (ts rest : List Token) → a ts rest → length rest < length ts

s_is : (t : Token) → Strict (Is t)
s_is t ts rest h = let n : length ts ≡ suc (length rest) = ap length h in omega arith

w_is : (t : Token) → Weak (Is t)
w_is t ts rest h = let n : length ts ≡ suc (length rest) = ap length h in omega arith

w_then : (a b : Front) → Weak a → Weak b → Weak (a then b)
w_then a b wa wb ts rest (us, ha, hb) = omega (arith, wa ts us ha, wb us rest hb)

-- a token, then what leaves no more
s_is_then : (t : Token) (a : Front) → Weak a → Strict (Is t then a)
s_is_then t a wa ts rest (us, e, h) = let n : length ts ≡ suc (length us) = ap length e in omega (arith, wa us rest h)

-- what leaves no more, then a token and the like
s_then : (a b : Front) → Weak a → Strict b → Strict (a then b)
s_then a b wa sb ts rest (us, ha, hb) = omega (arith, wa ts us ha, sb us rest hb)

s_fact : (P : Type 0) (a : Front) → Strict a → Strict (λ ts rest. P × a ts rest)
s_fact P a s ts rest h = s ts rest h.1

s_operand : (o : Option Part) (reads : Part → Front) → ((p : Part) → Strict (reads p)) → Strict (WithOperand o reads)
s_operand None reads s ts rest h = absurd h
s_operand (Some p) reads s ts rest h = s p ts rest h

s_operands : (o : Option Operands) (reads : Part → Part → Front) → ((p q : Part) → Strict (reads p q)) → Strict (WithOperands o reads)
s_operands None reads s ts rest h = absurd h
s_operands (Some o) reads s ts rest h = s o.left o.right ts rest h

pub times_size : (n : ℕ) (t : Token) (ts rest : List Token) → Times n t ts rest → length ts ≡ n + length rest
times_size zero t ts rest h = let e : 0 + length rest ≡ length rest = omega arith in ap length h ∙ sym e
times_size (suc n) t ts rest (us, e, h) = let d : length ts ≡ suc (length us) = ap length e in let i : length us ≡ n + length rest = times_size n t us rest h in omega arith

-- at every part
pub record Shrinks {P : Type 0} (reads : P → Front) : Type 0 where
  pub shrinks : (p : P) (ts rest : List Token) → reads p ts rest → length rest < length ts

pub in_parens : {P : Type 0} (inner : P → P) (alone : P → Front) → Shrinks alone → Shrinks (InParens inner alone)
in_parens {P} inner alone s = record { shrinks = λ p ts rest h. go p ts rest h }
  where
    go : (p : P) (ts rest : List Token) → InParens inner alone p ts rest → length rest < length ts
    go p ts rest (inl h) = s.shrinks p ts rest h
    go p ts rest (inr (n, (mid, o, (to, h, c)))) =
        omega (arith, times_size (suc n) (mark open_paren) ts mid o, s.shrinks (inner p) mid to h, times_size (suc n) (mark close_paren) to rest c)

pub strict : {P : Type 0} (alone : P → Front) → ((p : P) → Strict (alone p)) → Shrinks alone
strict alone s = record { shrinks = λ p ts rest h. s p ts rest h }

bools : (alone : Bool → Front) → ((p : Bool) → Strict (alone p)) → Shrinks (InParens (λ (q : Bool). true) alone)
bools alone s = in_parens (λ (q : Bool). true) alone (strict alone s)

parts : (alone : Part → Front) → ((p : Part) → Strict (alone p)) → Shrinks (InParens inside alone)
parts alone s = in_parens inside alone (strict alone s)

pub type_weak : (a : RawType) (p : Bool) → Weak (ReadsType a p)
type_weak a p ts rest h = weak (ReadsType a p) (type_frame a p) ts rest h

pub types_weak : (types : RawTypes) → Weak (ReadsMoreTypes types)
types_weak types ts rest h = weak (ReadsMoreTypes types) (more_types_frame types) ts rest h

pub type_shrinks : (a : RawType) → Shrinks (ReadsType a)
type_shrinks int_type = bools _ (λ p. s_is _)
type_shrinks bool_type = bools _ (λ p. s_is _)
type_shrinks (param_type i) = bools _ (λ p. s_fact _ _ (s_is_then _ _ (w_is _)))
type_shrinks (named_type n no_types) = bools _ (λ p. s_is _)
type_shrinks (named_type n (one_type a types)) =
    bools _ (λ p. s_is_then _ _ (w_then _ _ (w_is _) (w_then (ReadsType a true) _ (type_weak a true) (w_then (ReadsMoreTypes types) _ (types_weak types) (w_is _)))))
type_shrinks (pow_type a) = bools _ (λ p. s_is_then _ _ (w_then _ _ (w_is _) (w_then (ReadsType a true) _ (type_weak a true) (w_is _))))
type_shrinks (prod_type a b) = bools _ (λ p. s_fact _ _ (s_then (ReadsType a true) _ (type_weak a true) (s_is_then _ (ReadsType b false) (type_weak b false))))

binder_strict : (b : Binder) → Strict (ReadsBinder b)
binder_strict b = s_is_then _ (ReadsWritten b.type) (λ ts rest h. weak (ReadsWritten b.type) (written_frame b.type) ts rest h)

pub pattern_weak : (x : Pattern) (p : Bool) → Weak (ReadsPattern x p)
pattern_weak x p ts rest h = weak (ReadsPattern x p) (pattern_frame x p) ts rest h

pub pattern_shrinks : (x : Pattern) → Shrinks (ReadsPattern x)
pattern_shrinks (bound b) = bools _ (λ p. binder_strict b)
pattern_shrinks (pair x y) = bools _ (λ p. s_fact _ _ (s_then (ReadsPattern x true) _ (pattern_weak x true) (s_is_then _ (ReadsPattern y false) (pattern_weak y false))))

pub raw_weak : (e : Raw) (p : Part) → Weak (Reads e p)
raw_weak e p ts rest h = weak (Reads e p) (frame e p) ts rest h

pub more_weak : (es : Raws) → Weak (ReadsMore es)
more_weak es ts rest h = weak (ReadsMore es) (more_frame es) ts rest h

pub binder_weak : (b : Binder) → Weak (ReadsBinder b)
binder_weak b ts rest h = weak (ReadsBinder b) (binder_frame b) ts rest h

pub binders_weak : (bs : List Binder) → Weak (ReadsBinders bs)
binders_weak bs ts rest h = weak (ReadsBinders bs) (binders_frame bs) ts rest h

pub ends_weak : (m : ℕ) → Weak (EndsCollected m)
ends_weak m ts rest h = weak (EndsCollected m) (ends_frame m) ts rest h

pub raw_shrinks : (e : Raw) → Shrinks (Reads e)
raw_shrinks (word m) = parts _ (λ p. s_fact _ _ (s_is _))
raw_shrinks (literal n) = parts _ (λ p. s_fact _ _ (s_is _))
raw_shrinks (param i) = parts _ (λ p. s_fact _ _ (s_fact _ _ (s_is_then _ _ (w_is _))))
raw_shrinks (type_set a) = parts _ (λ p. s_fact _ _ (s_is_then _ _ (w_then _ _ (w_is _) (w_then (ReadsType a true) _ (type_weak a true) (w_is _)))))
raw_shrinks (call n none) = parts _ (λ p. s_fact _ _ (s_is _))
raw_shrinks (call n (one e es)) =
    parts _ (λ p. s_fact _ _ (s_is_then _ _ (w_then _ _ (w_is _) (w_then (Reads e _) _ (raw_weak e _) (w_then (ReadsMore es) _ (more_weak es) (w_is _))))))
raw_shrinks (around m e) = parts _ (λ p. s_operand _ _ (λ q. s_is_then _ _ (w_then _ _ (w_is _) (w_then (Reads e q) _ (raw_weak e q) (w_is _)))))
raw_shrinks (unary m e) = parts _ (λ p. s_operand _ _ (λ q. s_is_then _ (Reads e q) (raw_weak e q)))
raw_shrinks (binary m a b) = parts _ (λ p. s_operands _ _ (λ l r. s_then (Reads a l) _ (raw_weak a l) (s_is_then _ (Reads b r) (raw_weak b r))))
raw_shrinks (inverse e) = parts _ (λ p. s_fact _ _ (s_then (Reads e _) _ (raw_weak e _) (s_is _)))
raw_shrinks (apply f e) = parts _ (λ p. s_fact _ _ (s_then (Reads f _) _ (raw_weak f _) (s_is_then _ _ (w_then (Reads e _) _ (raw_weak e _) (w_is _)))))
raw_shrinks (image f e) = parts _ (λ p. s_fact _ _ (s_then (Reads f _) _ (raw_weak f _) (s_is_then _ _ (w_then (Reads e _) _ (raw_weak e _) (w_is _)))))
raw_shrinks (of_type e a) = parts _ (λ p. s_fact _ _ (s_then (Reads e _) _ (raw_weak e _) (s_is_then _ (ReadsType a true) (type_weak a true))))
raw_shrinks (quantified m bs e) =
    parts _ (λ p. s_fact _ _ (s_is_then _ _ (w_then (ReadsBinders bs) _ (binders_weak bs) (w_then _ _ (w_is _) (raw_weak e _)))))
raw_shrinks (set_of b e) =
    parts _ (λ p. s_fact _ _ (s_is_then _ _ (w_then (ReadsBinder b) _ (binder_weak b) (w_then _ _ (w_is _) (w_then (Reads e _) _ (raw_weak e _) (w_is _))))))
raw_shrinks (collected m bs e f) =
    parts _ (λ p. s_fact _ _ (s_is_then _ _ (w_then (ReadsBinders bs) _ (binders_weak bs) (w_then _ _ (w_is _) (w_then (Reads e _) _ (raw_weak e _)
    (w_then _ _ (w_is _) (w_then (Reads f _) _ (raw_weak f _) (ends_weak m))))))))
raw_shrinks (lambda x e f) =
    parts _ (λ p. s_fact _ _ (s_is_then _ _ (w_then (ReadsPattern x true) _ (pattern_weak x true) (w_then _ _ (w_is _) (w_then (Reads e _) _ (raw_weak e _)
    (w_then _ _ (w_is _) (raw_weak f _)))))))
raw_shrinks (members none) = parts _ (λ p. s_fact _ _ (s_is_then _ _ (w_is _)))
raw_shrinks (members (one e es)) = parts _ (λ p. s_fact _ _ (s_is_then _ _ (w_then (Reads e _) _ (raw_weak e _) (w_then (ReadsMore es) _ (more_weak es) (w_is _)))))
raw_shrinks (written a) = record { shrinks = λ p ts rest h. absurd h }
