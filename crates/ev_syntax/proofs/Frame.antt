-- What stands at the front of some tokens stands at the front of others that begin with the same, whatever follows.
use Rattle.std.proofs.Common.{◌≡◌, ℕ, zero, suc, Bool, true, false, List, [], ◌∷◌, ◌++◌, refl, ap, subst, sym, ◌∙◌, inl, inr, append_assoc}
use Rattle.std.specs.Prelude.{Option, Some, None, ◌==◌, if◌then◌else◌}
use Rattle.ev_syntax.specs.Marks.{open_paren, close_paren, open_brace, close_brace}
use Rattle.ev_syntax.specs.Tokens.{Token, mark}
use Rattle.ev_syntax.specs.Raw.{RawType, RawTypes, int_type, bool_type, param_type, named_type, pow_type, prod_type, no_types, one_type, Binder, Pattern, bound, pair, Raw, Raws, word, literal, param, type_set, call, around, unary, binary, inverse, apply, image, of_type, quantified, set_of, collected, lambda, members, written, none, one}
use Rattle.ev_syntax.specs.Parts.{Part, Operands, inside}
use Rattle.ev_syntax.specs.Grammar.{Front, Is, ◌then◌, Times, InParens, Reads, ReadsMore, ReadsType, ReadsMoreTypes, ReadsWritten, ReadsBinder, ReadsMoreBinders, ReadsBinders, ReadsPattern, WithOperand, WithOperands, EndsCollected}

-- the tokens that it takes, and that it takes them before any rest
pub record Takes (reads : Front) (ts rest : List Token) : Type 0 where
  pub front : List Token
  pub splits : ts ≡ front ++ rest
  pub anywhere : (other : List Token) → reads (front ++ other) other

abbrev pub IsFrame : Front → Type 0
IsFrame reads = (ts rest : List Token) → reads ts rest → Takes reads ts rest

is_frame : (t : Token) → IsFrame (Is t)
is_frame t ts rest h = record { front = t ∷ []; splits = h; anywhere = λ other. refl }

same_frame : IsFrame (λ ts rest. ts ≡ rest)
same_frame ts rest h = record { front = []; splits = h; anywhere = λ other. refl }

then_takes : (a b : Front) (ts mid rest : List Token) → Takes a ts mid → Takes b mid rest → Takes (a then b) ts rest
then_takes a b ts mid rest s t = record {
  front = s.front ++ t.front;
  splits = s.splits ∙ ap (λ xs. s.front ++ xs) t.splits ∙ sym (append_assoc s.front t.front rest);
  anywhere = λ other. (t.front ++ other, subst (λ xs. a xs (t.front ++ other)) (sym (append_assoc s.front t.front other)) (s.anywhere (t.front ++ other)), t.anywhere other);
}

then_frame : (a b : Front) → IsFrame a → IsFrame b → IsFrame (a then b)
then_frame a b fa fb ts rest (mid, ha, hb) = then_takes a b ts mid rest (fa ts mid ha) (fb mid rest hb)

absurd_frame : IsFrame (λ ts rest. ⊥)
absurd_frame ts rest h = absurd h

with_fact : (P : Type 0) (a : Front) → IsFrame a → IsFrame (λ ts rest. P × a ts rest)
with_fact P a fa ts rest (p, h) = let t : Takes a ts rest = fa ts rest h in
    record { front = t.front; splits = t.splits; anywhere = λ other. (p, t.anywhere other) }

times_frame : (n : ℕ) (t : Token) → IsFrame (Times n t)
times_frame zero t = same_frame
times_frame (suc n) t = then_frame (Is t) (Times n t) (is_frame t) (times_frame n t)

operand_frame : (o : Option Part) (reads : Part → Front) → ((p : Part) → IsFrame (reads p)) → IsFrame (WithOperand o reads)
operand_frame None reads f = absurd_frame
operand_frame (Some p) reads f = f p

operands_frame : (o : Option Operands) (reads : Part → Part → Front) → ((p q : Part) → IsFrame (reads p q)) → IsFrame (WithOperands o reads)
operands_frame None reads f = absurd_frame
operands_frame (Some o) reads f = f o.left o.right

parens_frame : {P : Type 0} (inside : P → P) (alone : P → Front) → ((p : P) → IsFrame (alone p)) → (p : P) → IsFrame (InParens inside alone p)
parens_frame {P} inside alone f p ts rest (inl h) = let t : Takes (alone p) ts rest = f p ts rest h in
    record { front = t.front; splits = t.splits; anywhere = λ other. inl (t.anywhere other) }
parens_frame {P} inside alone f p ts rest (inr (n, h)) =
    let between : Front = Times (suc n) (mark open_paren) then alone (inside p) then Times (suc n) (mark close_paren) in
    let t : Takes between ts rest = then_frame (Times (suc n) (mark open_paren)) (alone (inside p) then Times (suc n) (mark close_paren))
    (times_frame (suc n) (mark open_paren))
    (then_frame (alone (inside p)) (Times (suc n) (mark close_paren)) (f (inside p)) (times_frame (suc n) (mark close_paren))) ts rest h in
    record { front = t.front; splits = t.splits; anywhere = λ other. inr (n, t.anywhere other) }

token_then : (t : Token) (a : Front) → IsFrame a → IsFrame (Is t then a)
token_then t a fa = then_frame (Is t) a (is_frame t) fa

-- between two tokens
enclosed : (s t : Token) (a : Front) → IsFrame a → IsFrame (Is s then a then Is t)
enclosed s t a fa = token_then s (a then Is t) (then_frame a (Is t) fa (is_frame t))

-- a list's first item, and the others
listed : (s t : Token) (a b : Front) → IsFrame a → IsFrame b → IsFrame (Is s then a then b then Is t)
listed s t a b fa fb = token_then s (a then b then Is t) (then_frame a (b then Is t) fa (then_frame b (Is t) fb (is_frame t)))

type_parens : (alone : Bool → Front) → ((p : Bool) → IsFrame (alone p)) → (p : Bool) → IsFrame (InParens (λ (q : Bool). true) alone p)
type_parens alone f p = parens_frame (λ (q : Bool). true) alone f p

raw_parens : (alone : Part → Front) → ((p : Part) → IsFrame (alone p)) → (p : Part) → IsFrame (InParens inside alone p)
raw_parens alone f p = parens_frame inside alone f p

mutual
  pub type_frame : (a : RawType) → (p : Bool) → IsFrame (ReadsType a p)
  type_frame int_type = type_parens _ (λ p. is_frame _)
  type_frame bool_type = type_parens _ (λ p. is_frame _)
  type_frame (param_type i) = type_parens _ (λ p. with_fact _ _ (token_then _ _ (is_frame _)))
  type_frame (named_type n no_types) = type_parens _ (λ p. is_frame _)
  type_frame (named_type n (one_type a types)) =
      type_parens _ (λ p. token_then _ _ (listed _ _ (ReadsType a true) (ReadsMoreTypes types) (type_frame a true) (more_types_frame types)))
  type_frame (pow_type a) = type_parens _ (λ p. token_then _ _ (enclosed _ _ (ReadsType a true) (type_frame a true)))
  type_frame (prod_type a b) =
      type_parens _ (λ p. with_fact _ _ (then_frame (ReadsType a true) _ (type_frame a true) (token_then _ (ReadsType b false) (type_frame b false))))

  pub more_types_frame : (types : RawTypes) → IsFrame (ReadsMoreTypes types)
  more_types_frame no_types = same_frame
  more_types_frame (one_type a types) =
      token_then _ _ (then_frame (ReadsType a true) (ReadsMoreTypes types) (type_frame a true) (more_types_frame types))

pub written_frame : (o : Option RawType) → IsFrame (ReadsWritten o)
written_frame None = same_frame
written_frame (Some a) = token_then _ (ReadsType a true) (type_frame a true)

pub binder_frame : (b : Binder) → IsFrame (ReadsBinder b)
binder_frame b = token_then _ (ReadsWritten b.type) (written_frame b.type)

pub more_binders_frame : (bs : List Binder) → IsFrame (ReadsMoreBinders bs)
more_binders_frame [] = same_frame
more_binders_frame (b ∷ bs) = token_then _ _ (then_frame (ReadsBinder b) (ReadsMoreBinders bs) (binder_frame b) (more_binders_frame bs))

pub binders_frame : (bs : List Binder) → IsFrame (ReadsBinders bs)
binders_frame [] = absurd_frame
binders_frame (b ∷ bs) = then_frame (ReadsBinder b) (ReadsMoreBinders bs) (binder_frame b) (more_binders_frame bs)

pub pattern_frame : (x : Pattern) → (p : Bool) → IsFrame (ReadsPattern x p)
pattern_frame (bound b) = type_parens _ (λ p. binder_frame b)
pattern_frame (pair x y) =
    type_parens _ (λ p. with_fact _ _ (then_frame (ReadsPattern x true) _ (pattern_frame x true) (token_then _ (ReadsPattern y false) (pattern_frame y false))))

pub ends_frame : (m : ℕ) → IsFrame (EndsCollected m)
ends_frame m ts rest h = go (m == open_brace) h
  where
    go : (b : Bool) → ts ≡ (if b then mark close_brace ∷ rest else rest) → Takes (λ ts rest. ts ≡ (if b then mark close_brace ∷ rest else rest)) ts rest
    go true e = record { front = mark close_brace ∷ []; splits = e; anywhere = λ other. refl }
    go false e = record { front = []; splits = e; anywhere = λ other. refl }

mutual
  pub frame : (e : Raw) → (p : Part) → IsFrame (Reads e p)
  frame (word m) = raw_parens _ (λ p. with_fact _ _ (is_frame _))
  frame (literal n) = raw_parens _ (λ p. with_fact _ _ (is_frame _))
  frame (param i) = raw_parens _ (λ p. with_fact _ _ (with_fact _ _ (token_then _ _ (is_frame _))))
  frame (type_set a) = raw_parens _ (λ p. with_fact _ _ (token_then _ _ (enclosed _ _ (ReadsType a true) (type_frame a true))))
  frame (call n none) = raw_parens _ (λ p. with_fact _ _ (is_frame _))
  frame (call n (one e es)) =
      raw_parens _ (λ p. with_fact _ _ (token_then _ _ (listed _ _ (Reads e _) (ReadsMore es) (frame e _) (more_frame es))))
  frame (around m e) = raw_parens _ (λ p. operand_frame _ _ (λ q. token_then _ _ (enclosed _ _ (Reads e q) (frame e q))))
  frame (unary m e) = raw_parens _ (λ p. operand_frame _ _ (λ q. token_then _ (Reads e q) (frame e q)))
  frame (binary m a b) = raw_parens _ (λ p. operands_frame _ _ (λ l r. then_frame (Reads a l) _ (frame a l) (token_then _ (Reads b r) (frame b r))))
  frame (inverse e) = raw_parens _ (λ p. with_fact _ _ (then_frame (Reads e _) _ (frame e _) (is_frame _)))
  frame (apply f e) = raw_parens _ (λ p. with_fact _ _ (then_frame (Reads f _) _ (frame f _) (enclosed _ _ (Reads e _) (frame e _))))
  frame (image f e) = raw_parens _ (λ p. with_fact _ _ (then_frame (Reads f _) _ (frame f _) (enclosed _ _ (Reads e _) (frame e _))))
  frame (of_type e a) = raw_parens _ (λ p. with_fact _ _ (then_frame (Reads e _) _ (frame e _) (token_then _ (ReadsType a true) (type_frame a true))))
  frame (quantified m bs e) =
      raw_parens _ (λ p. with_fact _ _ (token_then _ _ (then_frame (ReadsBinders bs) _ (binders_frame bs) (token_then _ (Reads e _) (frame e _)))))
  frame (set_of b e) =
      raw_parens _ (λ p. with_fact _ _ (token_then _ _ (then_frame (ReadsBinder b) _ (binder_frame b) (enclosed _ _ (Reads e _) (frame e _)))))
  frame (collected m bs e f) =
      raw_parens _ (λ p. with_fact _ _ (token_then _ _ (then_frame (ReadsBinders bs) _ (binders_frame bs)
      (token_then _ _ (then_frame (Reads e _) _ (frame e _) (token_then _ _ (then_frame (Reads f _) _ (frame f _) (ends_frame m))))))))
  frame (lambda x e f) =
      raw_parens _ (λ p. with_fact _ _ (token_then _ _ (then_frame (ReadsPattern x true) _ (pattern_frame x true)
      (token_then _ _ (then_frame (Reads e _) _ (frame e _) (token_then _ (Reads f _) (frame f _)))))))
  frame (members none) = raw_parens _ (λ p. with_fact _ _ (token_then _ _ (is_frame _)))
  frame (members (one e es)) = raw_parens _ (λ p. with_fact _ _ (listed _ _ (Reads e _) (ReadsMore es) (frame e _) (more_frame es)))
  frame (written a) = λ p. absurd_frame

  pub more_frame : (es : Raws) → IsFrame (ReadsMore es)
  more_frame none = same_frame
  more_frame (one e es) = token_then _ _ (then_frame (Reads e _) (ReadsMore es) (frame e _) (more_frame es))
