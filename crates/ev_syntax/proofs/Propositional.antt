-- The grammar restricted to `true`, `false`, `not`, `&`, `or`, `=>`, `<=>` and parentheses: a parser that climbs finds each tree, so there is one at most.
use Rattle.std.proofs.Common.{◌≡◌, ℕ, zero, suc, ◌+◌, ◌-◌, ◌≤◌, Bool, true, false, List, [], ◌∷◌, refl, ap, subst, sym, ◌∙◌, arith, ◌⊎◌, inl, inr, eq-eqb}
use Rattle.std.specs.Prelude.{Option, Some, None, if◌then◌else◌, ◌==◌, max}
use Rattle.ev_syntax.specs.Marks.{true_word, false_word, not_word, and_sign, or_word, implies_sign, iff_sign, open_paren, close_paren}
use Rattle.ev_syntax.specs.Tokens.{Token, name, number, mark}
use Rattle.ev_syntax.specs.Raw.{Raw, word, literal, param, type_set, call, around, unary, binary, inverse, apply, image, of_type, quantified, set_of, collected, lambda, members, written}
use Rattle.ev_syntax.specs.Parts.{Part, pred, conj, conj_or_tail, ands, ors, lit, lit_or_quant, expr, inside, operand}
use Rattle.ev_syntax.specs.Grammar.{Front, Is, ◌then◌, Times, InParens, Reads, WithOperand}

-- what is read, and the tokens after it
pub record Found : Type 0 where
  pub raw : Raw
  pub rest : List Token

abbrev pub found : Raw → List Token → Found
found raw rest = record { raw = raw; rest = rest }

abbrev pub is_mark : ℕ → Token → Bool
is_mark m (name n) = false
is_mark m (number n) = false
is_mark m (mark k) = k == m

abbrev pub begins_with : ℕ → List Token → Bool
begins_with m [] = false
begins_with m (t ∷ ts) = is_mark m t

abbrev pub on_found : Option Found → (Raw → List Token → Option Found) → Option Found
on_found None go = None
on_found (Some x) go = go x.raw x.rest

abbrev pub closed : Raw → List Token → Option Found
closed raw [] = None
closed raw (t ∷ ts) = if is_mark close_paren t then Some (found raw ts) else None

-- `read` reads literals, `whole` predicates
abbrev pub parse_lit : (List Token → Option Found) → (List Token → Option Found) → List Token → Option Found
parse_lit whole read [] = None
parse_lit whole read (t ∷ ts) =
    if is_mark true_word t then Some (found (word true_word) ts) else
    (if is_mark false_word t then Some (found (word false_word) ts) else
    (if is_mark not_word t then on_found (read ts) (λ raw rest. Some (found (unary not_word raw) rest)) else
    (if is_mark open_paren t then on_found (whole ts) closed else None)))

-- further operands after the mark, at most so many
abbrev pub climb : ℕ → (List Token → Option Found) → ℕ → Raw → List Token → Option Found
climb zero read m a ts = Some (found a ts)
climb (suc n) read m a [] = Some (found a [])
climb (suc n) read m a (t ∷ ts) =
    if is_mark m t then on_found (read ts) (λ b rest. climb n read m (binary m a b) rest) else Some (found a (t ∷ ts))

abbrev pub chain : ℕ → (List Token → Option Found) → Raw → List Token → Option Found
chain n read a ts =
    if begins_with and_sign ts then climb n read and_sign a ts else
    (if begins_with or_word ts then climb n read or_word a ts else Some (found a ts))

abbrev pub implication : (List Token → Option Found) → Raw → List Token → Option Found
implication read a [] = Some (found a [])
implication read a (t ∷ ts) =
    if is_mark implies_sign t then on_found (read ts) (λ b rest. Some (found (binary implies_sign a b) rest)) else
    (if is_mark iff_sign t then on_found (read ts) (λ b rest. Some (found (binary iff_sign a b) rest)) else Some (found a (t ∷ ts)))

pub data Want : Type 0 where
  a_lit : Want
  a_conj : Want
  a_pred : Want

abbrev pub parse : ℕ → Want → List Token → Option Found
parse zero w ts = None
parse (suc f) a_lit ts = parse_lit (parse f a_pred) (parse f a_lit) ts
parse (suc f) a_conj ts = on_found (parse f a_lit ts) (chain f (parse f a_lit))
parse (suc f) a_pred ts = on_found (parse f a_conj ts) (implication (parse f a_conj))

-- with enough fuel the parser finds just this
abbrev pub Parsed : Want → List Token → Raw → List Token → Type 0
Parsed w ts raw rest = (f : ℕ) × ((g : ℕ) → f ≤ g → parse g w ts ≡ Some (found raw rest))

-- with enough fuel the climb from a comes to b
abbrev pub Reaches : ℕ → Raw → List Token → Raw → List Token → Type 0
Reaches m a ts b rest =
    (j f : ℕ) × ((g n : ℕ) → f ≤ g → climb (j + n) (parse g a_lit) m a ts ≡ climb n (parse g a_lit) m b rest)

mark_itself : (m : ℕ) → is_mark m (mark m) ≡ true
mark_itself m = eq-eqb m m refl

-- one step more of the fuel
more_fuel : (P : ℕ → Type 0) (f : ℕ) → ((g : ℕ) → f ≤ g → P (suc g)) → (g : ℕ) → suc f ≤ g → P g
more_fuel P f h zero le = absurd (omega arith)
more_fuel P f h (suc g) le = h g (omega arith)

-- nothing goes on after a conjunction or disjunction, after a predicate
abbrev pub StopsConj : List Token → Type 0
StopsConj ts = (begins_with and_sign ts ≡ false) × (begins_with or_word ts ≡ false)

abbrev pub StopsPred : List Token → Type 0
StopsPred ts = StopsConj ts × (begins_with implies_sign ts ≡ false) × (begins_with iff_sign ts ≡ false)

chain_stops : (n : ℕ) (read : List Token → Option Found) (a : Raw) (ts : List Token) → StopsConj ts → chain n read a ts ≡ Some (found a ts)
chain_stops n read a ts h = rw (h.0, h.1)

implication_stops : (read : List Token → Option Found) (a : Raw) (ts : List Token) → StopsPred ts → implication read a ts ≡ Some (found a ts)
implication_stops read a [] h = refl
implication_stops read a (t ∷ ts) h = rw (h.1, h.2)

conj_of_lit : (ts : List Token) (raw : Raw) (rest : List Token) → Parsed a_lit ts raw rest → StopsConj rest → Parsed a_conj ts raw rest
conj_of_lit ts raw rest p stops = (
  suc p.0,
  more_fuel (λ g. parse g a_conj ts ≡ Some (found raw rest)) p.0
      (λ g le. ap (λ o. on_found o (chain g (parse g a_lit))) (p.1 g le) ∙ chain_stops g (parse g a_lit) raw rest stops),
)

pred_of_conj : (ts : List Token) (raw : Raw) (rest : List Token) → Parsed a_conj ts raw rest → StopsPred rest → Parsed a_pred ts raw rest
pred_of_conj ts raw rest p stops = (
  suc p.0,
  more_fuel (λ g. parse g a_pred ts ≡ Some (found raw rest)) p.0
      (λ g le. ap (λ o. on_found o (implication (parse g a_conj))) (p.1 g le) ∙ implication_stops (parse g a_conj) raw rest stops),
)

-- a predicate in parentheses is a literal
in_parens : (ts : List Token) (raw : Raw) (rest : List Token) → Parsed a_pred ts raw (mark close_paren ∷ rest) → Parsed a_lit (mark open_paren ∷ ts) raw rest
in_parens ts raw rest p = (
  suc p.0,
  more_fuel (λ g. parse g a_lit (mark open_paren ∷ ts) ≡ Some (found raw rest)) p.0
      (λ g le. ap (λ o. on_found o closed) (p.1 g le)),
)

-- the last of some equal marks is the outermost parenthesis
close_last : (n : ℕ) (t : Token) (ts rest : List Token) → Times (suc n) t ts rest → Times n t ts (t ∷ rest)
close_last zero t ts rest (after, e, h) = e ∙ ap (λ xs. t ∷ xs) h
close_last (suc n) t ts rest (after, e, h) = (after, e, close_last n t after rest h)

at_tokens : (w : Want) (raw : Raw) (rest ts us : List Token) → ts ≡ us → Parsed w us raw rest → Parsed w ts raw rest
at_tokens w raw rest ts us e p = subst (λ xs. Parsed w xs raw rest) (sym e) p

at_rest : (w : Want) (raw : Raw) (ts rest others : List Token) → rest ≡ others → Parsed w ts raw rest → Parsed w ts raw others
at_rest w raw ts rest others e p = subst (λ xs. Parsed w ts raw xs) e p

parens_lit : (raw : Raw) (k : ℕ) (ts mid to rest : List Token) → Times (suc k) (mark open_paren) ts mid → Parsed a_pred mid raw to
    → Times (suc k) (mark close_paren) to rest → Parsed a_lit ts raw rest
parens_lit raw zero ts mid to rest (a, e, h) p (b, d, i) =
    at_tokens a_lit raw rest ts (mark open_paren ∷ mid) (e ∙ ap (λ xs. mark open_paren ∷ xs) h)
    (in_parens mid raw rest (at_rest a_pred raw mid to (mark close_paren ∷ rest) (d ∙ ap (λ xs. mark close_paren ∷ xs) i) p))
parens_lit raw (suc k) ts mid to rest (a, e, h) p closes =
    let inner : Parsed a_lit a raw (mark close_paren ∷ rest) =
    parens_lit raw k a mid to (mark close_paren ∷ rest) h p (close_last (suc k) (mark close_paren) to rest closes) in
    at_tokens a_lit raw rest ts (mark open_paren ∷ a) e
    (in_parens a raw rest (pred_of_conj a raw _ (conj_of_lit a raw _ inner (refl, refl)) ((refl, refl), refl, refl)))

closing_stops : (k : ℕ) (to rest : List Token) → Times (suc k) (mark close_paren) to rest → StopsPred to
closing_stops k to rest (b, e, h) = subst (λ xs. StopsPred xs) (sym e) ((refl, refl), refl, refl)

-- the operands before the last mark, and the last
abbrev pub Chained : ℕ → List Token → Raw → List Token → Type 0
Chained m ts raw rest = (a : Raw) × (mid : List Token) × Parsed a_lit ts a (mark m ∷ mid) × Reaches m a (mark m ∷ mid) raw rest

abbrev pub Spine : ℕ → List Token → Raw → List Token → Type 0
Spine m ts raw rest = Parsed a_lit ts raw rest ⊎ Chained m ts raw rest

one_step : (m : ℕ) (a b : Raw) (mid rest : List Token) → Parsed a_lit mid b rest → Reaches m a (mark m ∷ mid) (binary m a b) rest
one_step m a b mid rest p = (
  1,
  p.0,
  λ g n le. let e : 1 + n ≡ suc n = omega arith in
      ap (λ k. climb k (parse g a_lit) m a (mark m ∷ mid)) e ∙ rw (mark_itself m) (ap (λ o. on_found o (λ c after. climb n (parse g a_lit) m (binary m a c) after)) (p.1 g le)),
)

two_reaches : (m : ℕ) (a b c : Raw) (ts us vs : List Token) → Reaches m a ts b us → Reaches m b us c vs → Reaches m a ts c vs
two_reaches m a b c ts us vs r s = (
  r.0 + s.0,
  max r.1 s.1,
  λ g n le.
      let e : (r.0 + s.0) + n ≡ r.0 + (s.0 + n) = omega arith in
      ap (λ k. climb k (parse g a_lit) m a ts) e ∙ r.2 g (s.0 + n) (omega arith) ∙ s.2 g n (omega arith),
)

snoc : (m : ℕ) (a b : Raw) (ts mid rest : List Token) → Spine m ts a (mark m ∷ mid) → Parsed a_lit mid b rest → Chained m ts (binary m a b) rest
snoc m a b ts mid rest (inl p) q = (a, mid, p, one_step m a b mid rest q)
snoc m a b ts mid rest (inr (c, us, p, r)) q =
    (c, us, p, two_reaches m c a (binary m a b) (mark m ∷ us) (mark m ∷ mid) rest r (one_step m a b mid rest q))

climb_stops : (n : ℕ) (read : List Token → Option Found) (m : ℕ) (a : Raw) (ts : List Token) → begins_with m ts ≡ false
    → climb n read m a ts ≡ Some (found a ts)
climb_stops zero read m a ts h = refl
climb_stops (suc n) read m a [] h = refl
climb_stops (suc n) read m a (t ∷ ts) h = rw h

finish : (m : ℕ) (ts : List Token) (raw : Raw) (rest : List Token)
    → ((n : ℕ) (read : List Token → Option Found) (a : Raw) (mid : List Token) → chain n read a (mark m ∷ mid) ≡ climb n read m a (mark m ∷ mid))
    → Chained m ts raw rest → begins_with m rest ≡ false → Parsed a_conj ts raw rest
finish m ts raw rest picks (a, mid, p, (j, f, r)) stops = (
  suc (max p.0 (max j f)),
  more_fuel (λ g. parse g a_conj ts ≡ Some (found raw rest)) (max p.0 (max j f)) (λ g le.
      let e : j + (g - j) ≡ g = omega arith in
      ap (λ o. on_found o (chain g (parse g a_lit))) (p.1 g (omega arith))
      ∙ picks g (parse g a_lit) a mid
      ∙ sym (ap (λ k. climb k (parse g a_lit) m a (mark m ∷ mid)) e)
      ∙ r g (g - j) (omega arith)
      ∙ climb_stops (g - j) (parse g a_lit) m raw rest stops),
)

-- wherever the raw tree stands, the parser finds it
pub record Complete (raw : Raw) (reads : Part → Front) : Type 0 where
  pub as_lit : (ts rest : List Token) → reads lit ts rest → Parsed a_lit ts raw rest
  pub as_lit_or_quant : (ts rest : List Token) → reads lit_or_quant ts rest → Parsed a_lit ts raw rest
  pub as_ands : (ts rest : List Token) → reads ands ts rest → Spine and_sign ts raw rest
  pub as_ors : (ts rest : List Token) → reads ors ts rest → Spine or_word ts raw rest
  pub as_conj : (ts rest : List Token) → reads conj ts rest → StopsConj rest → Parsed a_conj ts raw rest
  pub as_conj_or_tail : (ts rest : List Token) → reads conj_or_tail ts rest → StopsConj rest → Parsed a_conj ts raw rest
  pub as_pred : (ts rest : List Token) → reads pred ts rest → StopsPred rest → Parsed a_pred ts raw rest

-- what stands in a part where a predicate may stand in parentheses: alone, or as a literal
in_part : (raw : Raw) (alone : Part → Front) (p : Part) → inside p ≡ pred
    → ((ts rest : List Token) → alone pred ts rest → StopsPred rest → Parsed a_pred ts raw rest)
    → (ts rest : List Token) → InParens inside alone p ts rest → alone p ts rest ⊎ Parsed a_lit ts raw rest
in_part raw alone p e whole ts rest (inl h) = inl h
in_part raw alone p e whole ts rest (inr (k, (mid, opens, (to, inner, closes)))) =
    inr (parens_lit raw k ts mid to rest opens
    (whole mid to (subst (λ q. alone q mid to) e inner) (closing_stops k to rest closes)) closes)

-- a form that is a literal wherever it stands alone
literals : (raw : Raw) (alone : Part → Front)
    → ((p : Part) → inside p ≡ pred → (ts rest : List Token) → alone p ts rest → Parsed a_lit ts raw rest) → Complete raw (InParens inside alone)
literals raw alone bare = record {
  as_lit = λ ts rest h. lit_at lit refl ts rest h;
  as_lit_or_quant = λ ts rest h. lit_at lit_or_quant refl ts rest h;
  as_ands = λ ts rest h. inl (lit_at ands refl ts rest h);
  as_ors = λ ts rest h. inl (lit_at ors refl ts rest h);
  as_conj = λ ts rest h stops. conj_of_lit ts raw rest (lit_at conj refl ts rest h) stops;
  as_conj_or_tail = λ ts rest h stops. conj_of_lit ts raw rest (lit_at conj_or_tail refl ts rest h) stops;
  as_pred = λ ts rest h stops. pred_of_conj ts raw rest (conj_of_lit ts raw rest (lit_at pred refl ts rest h) stops.0) stops;
}
  where
    whole : (ts rest : List Token) → alone pred ts rest → StopsPred rest → Parsed a_pred ts raw rest
    whole ts rest h stops = pred_of_conj ts raw rest (conj_of_lit ts raw rest (bare pred refl ts rest h) stops.0) stops

    either : (p : Part) → inside p ≡ pred → (ts rest : List Token) → alone p ts rest ⊎ Parsed a_lit ts raw rest → Parsed a_lit ts raw rest
    either p e ts rest (inl h) = bare p e ts rest h
    either p e ts rest (inr h) = h

    lit_at : (p : Part) → inside p ≡ pred → (ts rest : List Token) → InParens inside alone p ts rest → Parsed a_lit ts raw rest
    lit_at p e ts rest h = either p e ts rest (in_part raw alone p e whole ts rest h)

-- the words
word_lit : (ts rest : List Token) → ts ≡ mark true_word ∷ rest → Parsed a_lit ts (word true_word) rest
word_lit ts rest e = at_tokens a_lit (word true_word) rest ts (mark true_word ∷ rest) e
    (1, more_fuel (λ g. parse g a_lit (mark true_word ∷ rest) ≡ Some (found (word true_word) rest)) 0 (λ g le. refl))

false_lit : (ts rest : List Token) → ts ≡ mark false_word ∷ rest → Parsed a_lit ts (word false_word) rest
false_lit ts rest e = at_tokens a_lit (word false_word) rest ts (mark false_word ∷ rest) e
    (1, more_fuel (λ g. parse g a_lit (mark false_word ∷ rest) ≡ Some (found (word false_word) rest)) 0 (λ g le. refl))

true_complete : Complete (word true_word) (Reads (word true_word))
true_complete = literals (word true_word) _ (λ p e ts rest h. word_lit ts rest h.1)

false_complete : Complete (word false_word) (Reads (word false_word))
false_complete = literals (word false_word) _ (λ p e ts rest h. false_lit ts rest h.1)

-- negation
not_lit : (e : Raw) (ts after rest : List Token) → ts ≡ mark not_word ∷ after → Parsed a_lit after e rest → Parsed a_lit ts (unary not_word e) rest
not_lit e ts after rest is p = at_tokens a_lit (unary not_word e) rest ts (mark not_word ∷ after) is (
  suc p.0,
  more_fuel (λ g. parse g a_lit (mark not_word ∷ after) ≡ Some (found (unary not_word e) rest)) p.0
      (λ g le. ap (λ o. on_found o (λ raw after. Some (found (unary not_word raw) after))) (p.1 g le)),
)

not_complete : (e : Raw) → Complete e (Reads e) → Complete (unary not_word e) (Reads (unary not_word e))
not_complete e c = literals (unary not_word e) _ bare
  where
    bare : (p : Part) → inside p ≡ pred → (ts rest : List Token) → WithOperand (operand not_word p) (λ q. Is (mark not_word) then Reads e q) ts rest → Parsed a_lit ts (unary not_word e) rest
    bare pred i ts rest (after, is, h) = not_lit e ts after rest is (c.as_lit_or_quant after rest h)
    bare conj_or_tail i ts rest (after, is, h) = not_lit e ts after rest is (c.as_lit_or_quant after rest h)
    bare lit_or_quant i ts rest (after, is, h) = not_lit e ts after rest is (c.as_lit_or_quant after rest h)
    bare conj i ts rest (after, is, h) = not_lit e ts after rest is (c.as_lit after rest h)
    bare ands i ts rest (after, is, h) = not_lit e ts after rest is (c.as_lit after rest h)
    bare ors i ts rest (after, is, h) = not_lit e ts after rest is (c.as_lit after rest h)
    bare lit i ts rest (after, is, h) = not_lit e ts after rest is (c.as_lit after rest h)
    bare (expr k) i ts rest h = cc

-- a form that stands alone only as a chain with the mark, or as the whole of a predicate
record Chains (raw : Raw) (alone : Part → Front) : Type 0 where
  no_lit : (ts rest : List Token) → alone lit ts rest → ⊥
  no_lit_or_quant : (ts rest : List Token) → alone lit_or_quant ts rest → ⊥
  in_ands : (ts rest : List Token) → alone ands ts rest → Chained and_sign ts raw rest
  in_ors : (ts rest : List Token) → alone ors ts rest → Chained or_word ts raw rest
  in_conj : (ts rest : List Token) → alone conj ts rest → StopsConj rest → Parsed a_conj ts raw rest
  in_conj_or_tail : (ts rest : List Token) → alone conj_or_tail ts rest → StopsConj rest → Parsed a_conj ts raw rest
  in_pred : (ts rest : List Token) → alone pred ts rest → StopsPred rest → Parsed a_pred ts raw rest

or_else : {A B C : Type 0} → (A → C) → (B → C) → A ⊎ B → C
or_else f g (inl a) = f a
or_else f g (inr b) = g b

from_chains : (raw : Raw) (alone : Part → Front) → Chains raw alone → Complete raw (InParens inside alone)
from_chains raw alone c = record {
  as_lit = λ ts rest h. or_else (λ bare. absurd (c.no_lit ts rest bare)) (λ p. p) (part lit refl ts rest h);
  as_lit_or_quant = λ ts rest h. or_else (λ bare. absurd (c.no_lit_or_quant ts rest bare)) (λ p. p) (part lit_or_quant refl ts rest h);
  as_ands = λ ts rest h. or_else (λ bare. inr (c.in_ands ts rest bare)) (λ p. inl p) (part ands refl ts rest h);
  as_ors = λ ts rest h. or_else (λ bare. inr (c.in_ors ts rest bare)) (λ p. inl p) (part ors refl ts rest h);
  as_conj = λ ts rest h stops. or_else (λ bare. c.in_conj ts rest bare stops) (λ p. conj_of_lit ts raw rest p stops) (part conj refl ts rest h);
  as_conj_or_tail = λ ts rest h stops.
      or_else (λ bare. c.in_conj_or_tail ts rest bare stops) (λ p. conj_of_lit ts raw rest p stops) (part conj_or_tail refl ts rest h);
  as_pred = λ ts rest h stops.
      or_else (λ bare. c.in_pred ts rest bare stops) (λ p. pred_of_conj ts raw rest (conj_of_lit ts raw rest p stops.0) stops) (part pred refl ts rest h);
}
  where
    part : (p : Part) → inside p ≡ pred → (ts rest : List Token) → InParens inside alone p ts rest → alone p ts rest ⊎ Parsed a_lit ts raw rest
    part p e ts rest h = in_part raw alone p e c.in_pred ts rest h

spine_at : (m : ℕ) (a : Raw) (ts us vs : List Token) → us ≡ vs → Spine m ts a us → Spine m ts a vs
spine_at m a ts us vs e s = subst (λ xs. Spine m ts a xs) e s

module _ (a b : Raw) (ca : Complete a (Reads a)) (cb : Complete b (Reads b)) where
  abbrev Two : ℕ → Part → Part → Front
  Two m l r = Reads a l then Is (mark m) then Reads b r

  and_chain : (ts rest : List Token) → Two and_sign ands lit ts rest → Chained and_sign ts (binary and_sign a b) rest
  and_chain ts rest (us, ra, (vs, is, rb)) = snoc and_sign a b ts vs rest (spine_at and_sign a ts us _ is (ca.as_ands ts us ra)) (cb.as_lit vs rest rb)

  and_chain_quant : (ts rest : List Token) → Two and_sign ands lit_or_quant ts rest → Chained and_sign ts (binary and_sign a b) rest
  and_chain_quant ts rest (us, ra, (vs, is, rb)) =
      snoc and_sign a b ts vs rest (spine_at and_sign a ts us _ is (ca.as_ands ts us ra)) (cb.as_lit_or_quant vs rest rb)

  or_chain : (ts rest : List Token) → Two or_word ors lit ts rest → Chained or_word ts (binary or_word a b) rest
  or_chain ts rest (us, ra, (vs, is, rb)) = snoc or_word a b ts vs rest (spine_at or_word a ts us _ is (ca.as_ors ts us ra)) (cb.as_lit vs rest rb)

  or_chain_quant : (ts rest : List Token) → Two or_word ors lit_or_quant ts rest → Chained or_word ts (binary or_word a b) rest
  or_chain_quant ts rest (us, ra, (vs, is, rb)) =
      snoc or_word a b ts vs rest (spine_at or_word a ts us _ is (ca.as_ors ts us ra)) (cb.as_lit_or_quant vs rest rb)

  finish_and : (ts rest : List Token) → Chained and_sign ts (binary and_sign a b) rest → StopsConj rest → Parsed a_conj ts (binary and_sign a b) rest
  finish_and ts rest c stops = finish and_sign ts (binary and_sign a b) rest (λ n read x mid. refl) c stops.0

  finish_or : (ts rest : List Token) → Chained or_word ts (binary or_word a b) rest → StopsConj rest → Parsed a_conj ts (binary or_word a b) rest
  finish_or ts rest c stops = finish or_word ts (binary or_word a b) rest (λ n read x mid. refl) c stops.1

  and_complete : Complete (binary and_sign a b) (Reads (binary and_sign a b))
  and_complete = from_chains (binary and_sign a b) _ (record {
    no_lit = λ ts rest h. h;
    no_lit_or_quant = λ ts rest h. h;
    in_ands = λ ts rest h. and_chain ts rest h;
    in_ors = λ ts rest h. absurd h;
    in_conj = λ ts rest h stops. finish_and ts rest (and_chain ts rest h) stops;
    in_conj_or_tail = λ ts rest h stops. finish_and ts rest (and_chain_quant ts rest h) stops;
    in_pred = λ ts rest h stops. pred_of_conj ts _ rest (finish_and ts rest (and_chain_quant ts rest h) stops.0) stops;
  })

  or_complete : Complete (binary or_word a b) (Reads (binary or_word a b))
  or_complete = from_chains (binary or_word a b) _ (record {
    no_lit = λ ts rest h. h;
    no_lit_or_quant = λ ts rest h. h;
    in_ands = λ ts rest h. absurd h;
    in_ors = λ ts rest h. or_chain ts rest h;
    in_conj = λ ts rest h stops. finish_or ts rest (or_chain ts rest h) stops;
    in_conj_or_tail = λ ts rest h stops. finish_or ts rest (or_chain_quant ts rest h) stops;
    in_pred = λ ts rest h stops. pred_of_conj ts _ rest (finish_or ts rest (or_chain_quant ts rest h) stops.0) stops;
  })

  -- an implication or equivalence
  implies_pred : (m : ℕ) → ((ts : List Token) → StopsConj (mark m ∷ ts))
      → ((read : List Token → Option Found) (x : Raw) (ts : List Token) →
      implication read x (mark m ∷ ts) ≡ on_found (read ts) (λ c rest. Some (found (binary m x c) rest)))
      → (ts rest : List Token) → Two m conj conj_or_tail ts rest → StopsPred rest → Parsed a_pred ts (binary m a b) rest
  implies_pred m stops picks ts rest (us, ra, (vs, is, rb)) end =
      let p : Parsed a_conj ts a (mark m ∷ vs) = at_rest a_conj a ts us (mark m ∷ vs) is (ca.as_conj ts us ra (subst (λ xs. StopsConj xs) (sym is) (stops vs))) in
      let q : Parsed a_conj vs b rest = cb.as_conj_or_tail vs rest rb end.0 in (
        suc (max p.0 q.0),
        more_fuel (λ g. parse g a_pred ts ≡ Some (found (binary m a b) rest)) (max p.0 q.0) (λ g le.
            ap (λ o. on_found o (implication (parse g a_conj))) (p.1 g (omega arith))
            ∙ picks (parse g a_conj) a vs
            ∙ ap (λ o. on_found o (λ c after. Some (found (binary m a c) after))) (q.1 g (omega arith))),
      )

  implies_complete : Complete (binary implies_sign a b) (Reads (binary implies_sign a b))
  implies_complete = from_chains (binary implies_sign a b) _ (record {
    no_lit = λ ts rest h. h;
    no_lit_or_quant = λ ts rest h. h;
    in_ands = λ ts rest h. absurd h;
    in_ors = λ ts rest h. absurd h;
    in_conj = λ ts rest h stops. absurd h;
    in_conj_or_tail = λ ts rest h stops. absurd h;
    in_pred = λ ts rest h stops. implies_pred implies_sign (λ ts. (refl, refl)) (λ read x ts. refl) ts rest h stops;
  })

  iff_complete : Complete (binary iff_sign a b) (Reads (binary iff_sign a b))
  iff_complete = from_chains (binary iff_sign a b) _ (record {
    no_lit = λ ts rest h. h;
    no_lit_or_quant = λ ts rest h. h;
    in_ands = λ ts rest h. absurd h;
    in_ors = λ ts rest h. absurd h;
    in_conj = λ ts rest h stops. absurd h;
    in_conj_or_tail = λ ts rest h stops. absurd h;
    in_pred = λ ts rest h stops. implies_pred iff_sign (λ ts. (refl, refl)) (λ read x ts. refl) ts rest h stops;
  })

-- the connectives
pub data Connective (m : ℕ) : Type 0 where
  is_and : m ≡ and_sign → Connective m
  is_or : m ≡ or_word → Connective m
  is_implies : m ≡ implies_sign → Connective m
  is_iff : m ≡ iff_sign → Connective m

-- the raw trees of propositional formulas
abbrev pub IsPropositional : Raw → Type 0
IsPropositional (word m) = (m ≡ true_word) ⊎ (m ≡ false_word)
IsPropositional (unary m e) = (m ≡ not_word) × IsPropositional e
IsPropositional (binary m a b) = Connective m × IsPropositional a × IsPropositional b
IsPropositional _ = ⊥

word_complete : (m : ℕ) → (m ≡ true_word) ⊎ (m ≡ false_word) → Complete (word m) (Reads (word m))
word_complete m (inl e) = subst (λ k. Complete (word k) (Reads (word k))) (sym e) true_complete
word_complete m (inr e) = subst (λ k. Complete (word k) (Reads (word k))) (sym e) false_complete

binary_complete : (m : ℕ) (a b : Raw) → Complete a (Reads a) → Complete b (Reads b) → Connective m → Complete (binary m a b) (Reads (binary m a b))
binary_complete m a b ca cb (is_and e) = subst (λ k. Complete (binary k a b) (Reads (binary k a b))) (sym e) (and_complete a b ca cb)
binary_complete m a b ca cb (is_or e) = subst (λ k. Complete (binary k a b) (Reads (binary k a b))) (sym e) (or_complete a b ca cb)
binary_complete m a b ca cb (is_implies e) = subst (λ k. Complete (binary k a b) (Reads (binary k a b))) (sym e) (implies_complete a b ca cb)
binary_complete m a b ca cb (is_iff e) = subst (λ k. Complete (binary k a b) (Reads (binary k a b))) (sym e) (iff_complete a b ca cb)

pub complete : (raw : Raw) → IsPropositional raw → Complete raw (Reads raw)
complete (word m) h = word_complete m h
complete (unary m e) h = subst (λ k. Complete (unary k e) (Reads (unary k e))) (sym h.0) (not_complete e (complete e h.1))
complete (binary m a b) h = binary_complete m a b (complete a h.1) (complete b h.2) h.0
complete (literal n) h = absurd h
complete (param i) h = absurd h
complete (type_set a) h = absurd h
complete (call n es) h = absurd h
complete (around m e) h = absurd h
complete (inverse e) h = absurd h
complete (apply e f) h = absurd h
complete (image e f) h = absurd h
complete (of_type e a) h = absurd h
complete (quantified m bs e) h = absurd h
complete (set_of x e) h = absurd h
complete (collected m bs e f) h = absurd h
complete (lambda x e f) h = absurd h
complete (members es) h = absurd h
complete (written a) h = absurd h

some_same : (x y : Found) → Some x ≡ Some y → x ≡ y
some_same x y e = cc

differ : (t : Token) (ts : List Token) → t ∷ ts ≡ [] → ⊥
differ t ts e = cc

-- for one list of tokens at most one propositional tree
pub only_one : (ts : List Token) (a b : Raw) → IsPropositional a → IsPropositional b → Reads a pred ts [] → Reads b pred ts [] → a ≡ b
only_one ts a b pa pb ra rb =
    let p : Parsed a_pred ts a [] = (complete a pa).as_pred ts [] ra ((refl, refl), refl, refl) in
    let q : Parsed a_pred ts b [] = (complete b pb).as_pred ts [] rb ((refl, refl), refl, refl) in
    let e : Some (found a []) ≡ Some (found b []) = sym (p.1 (p.0 + q.0) (omega arith)) ∙ q.1 (p.0 + q.0) (omega arith) in
    ap (λ x. x.raw) (some_same _ _ e)

-- `true & true or true` is none
pub mixed_none : (a : Raw) → IsPropositional a → Reads a pred (mark true_word ∷ mark and_sign ∷ mark true_word ∷ mark or_word ∷ mark true_word ∷ []) [] → ⊥
mixed_none a pa ra =
    let ts : List Token = mark true_word ∷ mark and_sign ∷ mark true_word ∷ mark or_word ∷ mark true_word ∷ [] in
    let p : Parsed a_pred ts a [] = (complete a pa).as_pred ts [] ra ((refl, refl), refl, refl) in
    let found_less : parse (suc (suc (suc (suc (suc p.0))))) a_pred ts ≡ Some (found (binary and_sign (word true_word) (word true_word)) (mark or_word ∷ mark true_word ∷ [])) = refl in
    let e : Some (found (binary and_sign (word true_word) (word true_word)) (mark or_word ∷ mark true_word ∷ [])) ≡ Some (found a []) =
    sym found_less ∙ p.1 (suc (suc (suc (suc (suc p.0))))) (omega arith) in
    differ _ _ (ap (λ x. x.rest) (some_same _ _ e))
