-- The grammar restricted to literals, infix signs of expressions and parentheses: a climb by the table of operators finds each tree, at each level.
use Rattle.std.proofs.Common.{◌≡◌, ℕ, zero, suc, ◌+◌, ◌-◌, ◌≤◌, ◌<◌, Bool, true, false, List, [], ◌∷◌, refl, ap, subst, sym, ◌∙◌, arith, ◌⊎◌, inl, inr, eq-eqb, add-one}
use Rattle.std.specs.Prelude.{Option, Some, None, if◌then◌else◌, ◌==◌, ◌&&◌, ◌||◌, nat_le, max, find, cond}
use Rattle.std.specs.List.{list_all}
use Rattle.std.proofs.lemmas.Bool.{eqb-true}
use Rattle.std.proofs.lemmas.Bool.Decides.{nat_tests}
use Rattle.ev_syntax.specs.Marks.{and_sign, or_word, implies_sign, iff_sign, open_paren, close_paren}
use Rattle.ev_syntax.specs.Tokens.{Token, name, number, mark}
use Rattle.ev_syntax.specs.Raw.{Raw, literal, binary}
use Rattle.ev_syntax.specs.Parts.{Part, expr, Operator, operators, two, operands, is_among, relation_signs, operator_operands_at, is_expression, inside}
use Rattle.ev_syntax.specs.Grammar.{Front, Is, ◌then◌, Times, InParens, Reads, Where, WithOperands}
use Rattle.ev_syntax.proofs.Propositional.{Found, found, on_found, closed}
pub use Rattle.ev_syntax.specs.inner.Lookahead.{operator_of, is_from, is_at, token_operator, first_operator, mark_number}

abbrev pub chain_levels : List ℕ
chain_levels = 1 ∷ 2 ∷ 3 ∷ 5 ∷ 6 ∷ []

abbrev pub once_levels : List ℕ
once_levels = 4 ∷ 8 ∷ []

-- a chained operator stands at a level of chains, its left operand at the same, its right one at the next; the others want the next level twice
abbrev pub is_good : Operator → Bool
is_good o =
    (is_among chain_levels o.level && (o.left == o.level && o.right == o.level + 1))
    || (is_among once_levels o.level && (o.left == o.level + 1 && o.right == o.level + 1))

pub all_good : list_all is_good operators ≡ true
all_good = refl

pub and_parts : (a b : Bool) → a && b ≡ true → (a ≡ true) × (b ≡ true)
and_parts true b h = (refl, h)
and_parts false b h = cc

pub or_parts : (a b : Bool) → a || b ≡ true → (a ≡ true) ⊎ (b ≡ true)
or_parts true b h = inl refl
or_parts false b h = inr h

pub found_good : (p good : Operator → Bool) (os : List Operator) (o : Operator) → list_all good os ≡ true → find p os ≡ Some o → (p o ≡ true) × (good o ≡ true)
found_good p good [] o all e = cc
found_good p good (x ∷ os) o all e = go (p x) refl e (and_parts (good x) (list_all good os) all) (λ rest found. found_good p good os o rest found)
  where
    go : (b : Bool) → p x ≡ b → cond b (Some x) (find p os) ≡ Some o → (good x ≡ true) × (list_all good os ≡ true)
        → (list_all good os ≡ true → find p os ≡ Some o → (p o ≡ true) × (good o ≡ true)) → (p o ≡ true) × (good o ≡ true)
    go true t e all again = let same : x ≡ o = cc in (subst (λ y. p y ≡ true) same t, subst (λ y. good y ≡ true) same all.0)
    go false t e all again = again all.1 e

-- an operator with its mark, and what each level that it may stand at asks for
pub record Used (m : ℕ) (o : Operator) : Type 0 where
  pub is_found : operator_of m ≡ Some o
  pub asks : (k : ℕ) → nat_le k o.level ≡ true → operands m (expr k) ≡ Some (two (expr o.left) (expr o.right))

pub record At (m k : ℕ) (reads : Part → Part → Front) (ts rest : List Token) : Type 0 where
  pub operator : Operator
  pub used : Used m operator
  pub level : nat_le k operator.level ≡ true
  pub operands_read : reads (expr operator.left) (expr operator.right) ts rest

pub operator_at : (m k : ℕ) (reads : Part → Part → Front) (ts rest : List Token) → WithOperands (operands m (expr k)) reads ts rest → At m k reads ts rest
operator_at m k reads ts rest h =
    at_implies (is_among (implies_sign ∷ iff_sign ∷ []) m) (m == and_sign) (m == or_word) (is_among relation_signs m) refl refl refl refl h
  where
    chosen : (b : Bool) (o : Operator) → nat_le k o.level ≡ b → operator_of m ≡ Some o
        → ((j : ℕ) → operands m (expr j) ≡ operator_operands_at j (operator_of m))
        → WithOperands (if b then Some (two (expr o.left) (expr o.right)) else None) reads ts rest → At m k reads ts rest
    chosen true o le e plain h = record {
      operator = o;
      used = record { is_found = e; asks = λ j below. plain j ∙ ap (operator_operands_at j) e ∙ ap (λ b. if b then Some (two (expr o.left) (expr o.right)) else None) below };
      level = le;
      operands_read = h;
    }
    chosen false o le e plain h = absurd h

    at_operator : (o : Option Operator) → operator_of m ≡ o → ((j : ℕ) → operands m (expr j) ≡ operator_operands_at j (operator_of m))
        → WithOperands (operator_operands_at k o) reads ts rest → At m k reads ts rest
    at_operator None e plain h = absurd h
    at_operator (Some o) e plain h = chosen (nat_le k o.level) o refl e plain h

    at_implies : (a b c d : Bool) → is_among (implies_sign ∷ iff_sign ∷ []) m ≡ a → (m == and_sign) ≡ b → (m == or_word) ≡ c → is_among relation_signs m ≡ d
        → WithOperands (if a then None else (if b then None else (if c then None else (if d then None else operator_operands_at k (operator_of m))))) reads ts rest
        → At m k reads ts rest
    at_implies true b c d e f g i h = absurd h
    at_implies false true c d e f g i h = absurd h
    at_implies false false true d e f g i h = absurd h
    at_implies false false false true e f g i h = absurd h
    at_implies false false false false e f g i h = at_operator (operator_of m) refl (λ j. rw (e, f, g, i)) h

-- nothing goes on after an expression of the level
abbrev pub Stops : ℕ → List Token → Type 0
Stops k ts = is_from k (first_operator ts) ≡ false

-- further operands of one level
abbrev pub climb : ℕ → (List Token → Option Found) → ℕ → Raw → List Token → Option Found
climb zero read k a ts = Some (found a ts)
climb (suc n) read k a [] = Some (found a [])
climb (suc n) read k a (t ∷ ts) =
    if is_at k (token_operator t) then on_found (read ts) (λ b rest. climb n read k (binary (mark_number t) a b) rest) else Some (found a (t ∷ ts))

abbrev pub once : (List Token → Option Found) → ℕ → Raw → List Token → Option Found
once read k a [] = Some (found a [])
once read k a (t ∷ ts) =
    if is_at k (token_operator t) then on_found (read ts) (λ b rest. Some (found (binary (mark_number t) a b) rest)) else Some (found a (t ∷ ts))

abbrev pub parse_prim : (List Token → Option Found) → List Token → Option Found
parse_prim whole [] = None
parse_prim whole (name n ∷ ts) = None
parse_prim whole (number n ∷ ts) = Some (found (literal n) ts)
parse_prim whole (mark m ∷ ts) = if m == open_paren then on_found (whole ts) closed else None

abbrev pub by_level : ℕ → ℕ → (List Token → Option Found) → Raw → List Token → Option Found
by_level k fuel read a ts = if is_among chain_levels k then climb fuel read k a ts else (if is_among once_levels k then once read k a ts else Some (found a ts))

abbrev pub parse : ℕ → ℕ → List Token → Option Found
parse zero k ts = None
parse (suc f) k ts = if nat_le 9 k then parse_prim (parse f 0) ts else on_found (parse f (suc k) ts) (by_level k f (parse f (suc k)))

abbrev pub Parsed : ℕ → List Token → Raw → List Token → Type 0
Parsed k ts raw rest = (f : ℕ) × ((g : ℕ) → f ≤ g → parse g k ts ≡ Some (found raw rest))

more_fuel : (P : ℕ → Type 0) (f : ℕ) → ((g : ℕ) → f ≤ g → P (suc g)) → (g : ℕ) → suc f ≤ g → P g
more_fuel P f h zero le = absurd (omega arith)
more_fuel P f h (suc g) le = h g (omega arith)

-- from the level on, so at it
pub not_at : (k : ℕ) (o : Option Operator) → is_from k o ≡ false → is_at k o ≡ false
not_at k None h = refl
not_at k (Some o) h = from_le k o.level h
  where
    from_le : (j l : ℕ) → nat_le j l ≡ false → (l == j) ≡ false
    from_le j l h = grind (arith, nat_tests)

pub not_later : (k j : ℕ) (o : Option Operator) → k ≤ j → is_from k o ≡ false → is_from j o ≡ false
not_later k j None le h = refl
not_later k j (Some o) le h = later k j o.level le h
  where
    later : (k j l : ℕ) → k ≤ j → nat_le k l ≡ false → nat_le j l ≡ false
    later k j l le h = grind (arith, nat_tests)

climb_stops : (n : ℕ) (read : List Token → Option Found) (k : ℕ) (a : Raw) (ts : List Token) → Stops k ts → climb n read k a ts ≡ Some (found a ts)
climb_stops zero read k a ts h = refl
climb_stops (suc n) read k a [] h = refl
climb_stops (suc n) read k a (t ∷ ts) h = rw (not_at k (token_operator t) h)

once_stops : (read : List Token → Option Found) (k : ℕ) (a : Raw) (ts : List Token) → Stops k ts → once read k a ts ≡ Some (found a ts)
once_stops read k a [] h = refl
once_stops read k a (t ∷ ts) h = rw (not_at k (token_operator t) h)

level_stops : (k fuel : ℕ) (read : List Token → Option Found) (a : Raw) (ts : List Token) → Stops k ts → by_level k fuel read a ts ≡ Some (found a ts)
level_stops k fuel read a ts h = go (is_among chain_levels k) (is_among once_levels k)
  where
    go : (b c : Bool) → (if b then climb fuel read k a ts else (if c then once read k a ts else Some (found a ts))) ≡ Some (found a ts)
    go true c = climb_stops fuel read k a ts h
    go false true = once_stops read k a ts h
    go false false = refl

-- what is of the next level is of this one
lift : (k : ℕ) (ts : List Token) (raw : Raw) (rest : List Token) → k < 9 → Parsed (suc k) ts raw rest → Stops k rest → Parsed k ts raw rest
lift k ts raw rest low p stops = (
  suc p.0,
  more_fuel (λ g. parse g k ts ≡ Some (found raw rest)) p.0 (λ g le.
      let e : nat_le 9 k ≡ false = below k low in
      rw e (ap (λ o. on_found o (by_level k g (parse g (suc k)))) (p.1 g le) ∙ level_stops k g (parse g (suc k)) raw rest stops)),
)
  where
    below : (k : ℕ) → k < 9 → nat_le 9 k ≡ false
    below k h = grind (arith, nat_tests)

down : (d k j : ℕ) (ts : List Token) (raw : Raw) (rest : List Token) → d + k ≡ j → j ≤ 9 → Parsed j ts raw rest → Stops k rest → Parsed k ts raw rest
down zero k j ts raw rest e le p stops = let same : j ≡ k = omega arith in subst (λ i. Parsed i ts raw rest) same p
down (suc d) k j ts raw rest e le p stops =
    lift k ts raw rest (omega arith)
    (down d (suc k) j ts raw rest (omega arith) le p (not_later k (suc k) (first_operator rest) (omega arith) stops)) stops

close_last : (n : ℕ) (t : Token) (ts rest : List Token) → Times (suc n) t ts rest → Times n t ts (t ∷ rest)
close_last zero t ts rest (after, e, h) = e ∙ ap (λ xs. t ∷ xs) h
close_last (suc n) t ts rest (after, e, h) = (after, e, close_last n t after rest h)

at_tokens : (k : ℕ) (raw : Raw) (rest ts us : List Token) → ts ≡ us → Parsed k us raw rest → Parsed k ts raw rest
at_tokens k raw rest ts us e p = subst (λ xs. Parsed k xs raw rest) (sym e) p

at_rest : (k : ℕ) (raw : Raw) (ts rest others : List Token) → rest ≡ others → Parsed k ts raw rest → Parsed k ts raw others
at_rest k raw ts rest others e p = subst (λ xs. Parsed k ts raw xs) e p

in_parens : (ts : List Token) (raw : Raw) (rest : List Token) → Parsed 0 ts raw (mark close_paren ∷ rest) → Parsed 9 (mark open_paren ∷ ts) raw rest
in_parens ts raw rest p =
    (suc p.0, more_fuel (λ g. parse g 9 (mark open_paren ∷ ts) ≡ Some (found raw rest)) p.0 (λ g le. ap (λ o. on_found o closed) (p.1 g le)))

parens_prim : (raw : Raw) (n : ℕ) (ts mid to rest : List Token) → Times (suc n) (mark open_paren) ts mid → Parsed 0 mid raw to
    → Times (suc n) (mark close_paren) to rest → Parsed 9 ts raw rest
parens_prim raw zero ts mid to rest (a, e, h) p (b, d, i) =
    at_tokens 9 raw rest ts (mark open_paren ∷ mid) (e ∙ ap (λ xs. mark open_paren ∷ xs) h)
    (in_parens mid raw rest (at_rest 0 raw mid to (mark close_paren ∷ rest) (d ∙ ap (λ xs. mark close_paren ∷ xs) i) p))
parens_prim raw (suc n) ts mid to rest (a, e, h) p closes =
    let inner : Parsed 9 a raw (mark close_paren ∷ rest) =
    parens_prim raw n a mid to (mark close_paren ∷ rest) h p (close_last (suc n) (mark close_paren) to rest closes) in
    at_tokens 9 raw rest ts (mark open_paren ∷ a) e
    (in_parens a raw rest (down 9 0 9 a raw (mark close_paren ∷ rest) refl (omega arith) inner refl))

closing_stops : (n : ℕ) (to rest : List Token) → Times (suc n) (mark close_paren) to rest → Stops 0 to
closing_stops n to rest (b, e, h) = subst (λ xs. Stops 0 xs) (sym e) refl

abbrev Reaches : ℕ → Raw → List Token → Raw → List Token → Type 0
Reaches k a ts b rest =
    (j f : ℕ) × ((g n : ℕ) → f ≤ g → climb (j + n) (parse g (suc k)) k a ts ≡ climb n (parse g (suc k)) k b rest)

-- the first operand, and how the climb from it comes to the whole
abbrev Chained : ℕ → List Token → Raw → List Token → Type 0
Chained k ts raw rest = (a : Raw) × (mid : List Token) × Parsed (suc k) ts a mid × Reaches k a mid raw rest

alone_chained : (k : ℕ) (ts : List Token) (raw : Raw) (rest : List Token) → Parsed (suc k) ts raw rest → Chained k ts raw rest
alone_chained k ts raw rest p =
    (raw, rest, p, (0, 0, λ g n le. let e : 0 + n ≡ n = omega arith in ap (λ i. climb i (parse g (suc k)) k raw rest) e))

one_step : (k m : ℕ) (a b : Raw) (mid rest : List Token) → is_at k (operator_of m) ≡ true → Parsed (suc k) mid b rest
    → Reaches k a (mark m ∷ mid) (binary m a b) rest
one_step k m a b mid rest here p = (
  1,
  p.0,
  λ g n le. let e : 1 + n ≡ suc n = omega arith in
      ap (λ i. climb i (parse g (suc k)) k a (mark m ∷ mid)) e
      ∙ rw here (ap (λ o. on_found o (λ c after. climb n (parse g (suc k)) k (binary m a c) after)) (p.1 g le)),
)

two_reaches : (k : ℕ) (a b c : Raw) (ts us vs : List Token) → Reaches k a ts b us → Reaches k b us c vs → Reaches k a ts c vs
two_reaches k a b c ts us vs r s = (
  r.0 + s.0,
  max r.1 s.1,
  λ g n le.
      let e : (r.0 + s.0) + n ≡ r.0 + (s.0 + n) = omega arith in
      ap (λ i. climb i (parse g (suc k)) k a ts) e ∙ r.2 g (s.0 + n) (omega arith) ∙ s.2 g n (omega arith),
)

snoc : (k m : ℕ) (a b : Raw) (ts mid rest : List Token) → is_at k (operator_of m) ≡ true → Chained k ts a (mark m ∷ mid) → Parsed (suc k) mid b rest
    → Chained k ts (binary m a b) rest
snoc k m a b ts mid rest here (c, us, p, r) q =
    (c, us, p, two_reaches k c a (binary m a b) us (mark m ∷ mid) rest r (one_step k m a b mid rest here q))

below_nine : (k : ℕ) → k < 9 → nat_le 9 k ≡ false
below_nine k h = grind (arith, nat_tests)

finish : (k : ℕ) (ts : List Token) (raw : Raw) (rest : List Token) → k < 9 → is_among chain_levels k ≡ true → Chained k ts raw rest → Stops k rest → Parsed k ts raw rest
finish k ts raw rest low chains (a, mid, p, (j, f, r)) stops = (
  suc (max p.0 (max j f)),
  more_fuel (λ g. parse g k ts ≡ Some (found raw rest)) (max p.0 (max j f)) (λ g le.
      let e : j + (g - j) ≡ g = omega arith in
      rw (below_nine k low)
      (ap (λ o. on_found o (by_level k g (parse g (suc k)))) (p.1 g (omega arith))
      ∙ rw chains (sym (ap (λ i. climb i (parse g (suc k)) k a mid) e)
      ∙ r g (g - j) (omega arith)
      ∙ climb_stops (g - j) (parse g (suc k)) k raw rest stops))),
)

-- one operator that does not chain
finish_once : (k m : ℕ) (a b : Raw) (ts mid rest : List Token) → k < 9 → is_among chain_levels k ≡ false → is_among once_levels k ≡ true
    → is_at k (operator_of m) ≡ true → Parsed (suc k) ts a (mark m ∷ mid) → Parsed (suc k) mid b rest → Parsed k ts (binary m a b) rest
finish_once k m a b ts mid rest low no_chain is_once here p q = (
  suc (max p.0 q.0),
  more_fuel (λ g. parse g k ts ≡ Some (found (binary m a b) rest)) (max p.0 q.0) (λ g le.
      rw (below_nine k low)
      (ap (λ o. on_found o (by_level k g (parse g (suc k)))) (p.1 g (omega arith))
      ∙ rw (no_chain, is_once, here) (ap (λ o. on_found o (λ c after. Some (found (binary m a c) after))) (q.1 g (omega arith))))),
)

record Complete (raw : Raw) (reads : Part → Front) : Type 0 where
  at_level : (k : ℕ) → k ≤ 9 → (ts rest : List Token) → reads (expr k) ts rest → Stops k rest → Parsed k ts raw rest
  spine : (k : ℕ) → is_among chain_levels k ≡ true → (ts rest : List Token) → reads (expr k) ts rest → Stops (suc k) rest → Chained k ts raw rest

in_part : (raw : Raw) (alone : Part → Front) → ((ts rest : List Token) → alone (expr 0) ts rest → Stops 0 rest → Parsed 0 ts raw rest)
    → (k : ℕ) (ts rest : List Token) → InParens inside alone (expr k) ts rest → alone (expr k) ts rest ⊎ Parsed 9 ts raw rest
in_part raw alone whole k ts rest (inl h) = inl h
in_part raw alone whole k ts rest (inr (n, (mid, opens, (to, inner, closes)))) =
    inr (parens_prim raw n ts mid to rest opens (whole mid to inner (closing_stops n to rest closes)) closes)

low_chain : (k : ℕ) → is_among chain_levels k ≡ true → k < 9
low_chain k h = grind (arith, nat_tests)

low_once : (k : ℕ) → is_among once_levels k ≡ true → (k < 9) × (is_among chain_levels k ≡ false)
low_once k h = go (or_parts (4 == k) ((8 == k) || false) h)
  where
    last : ((8 == k) ≡ true) ⊎ (false ≡ true) → (k < 9) × (is_among chain_levels k ≡ false)
    last (inl e) = let same : 8 ≡ k = eqb-true 8 k e in subst (λ j. (j < 9) × (is_among chain_levels j ≡ false)) same (omega arith, refl)
    last (inr e) = cc

    go : ((4 == k) ≡ true) ⊎ ((8 == k) || false ≡ true) → (k < 9) × (is_among chain_levels k ≡ false)
    go (inl e) = let same : 4 ≡ k = eqb-true 4 k e in subst (λ j. (j < 9) × (is_among chain_levels j ≡ false)) same (omega arith, refl)
    go (inr e) = last (or_parts (8 == k) false e)

-- a form that is parsed at some level above
from_above : (k j : ℕ) (ts : List Token) (raw : Raw) (rest : List Token) → k ≤ j → j ≤ 9 → Parsed j ts raw rest → Stops k rest → Parsed k ts raw rest
from_above k j ts raw rest le low p stops = down (j - k) k j ts raw rest (omega arith) low p stops

literal_prim : (n : ℕ) (ts rest : List Token) → ts ≡ number n ∷ rest → Parsed 9 ts (literal n) rest
literal_prim n ts rest e = at_tokens 9 (literal n) rest ts (number n ∷ rest) e
    (1, more_fuel (λ g. parse g 9 (number n ∷ rest) ≡ Some (found (literal n) rest)) 0 (λ g le. refl))

literal_complete : (n : ℕ) → Complete (literal n) (Reads (literal n))
literal_complete n = record {
  at_level = λ k le ts rest h stops. from_above k 9 ts (literal n) rest le (omega arith) (prim k ts rest h) stops;
  spine = λ k chains ts rest h stops. let low : k < 9 = low_chain k chains in
      alone_chained k ts (literal n) rest (from_above (suc k) 9 ts (literal n) rest low (omega arith) (prim k ts rest h) stops);
}
  where
    alone : Part → Front
    alone p = Where (is_expression p) (Is (number n))

    whole : (ts rest : List Token) → alone (expr 0) ts rest → Stops 0 rest → Parsed 0 ts (literal n) rest
    whole ts rest h stops = from_above 0 9 ts (literal n) rest (omega arith) (omega arith) (literal_prim n ts rest h.1) stops

    either : (k : ℕ) (ts rest : List Token) → alone (expr k) ts rest ⊎ Parsed 9 ts (literal n) rest → Parsed 9 ts (literal n) rest
    either k ts rest (inl h) = literal_prim n ts rest h.1
    either k ts rest (inr p) = p

    prim : (k : ℕ) (ts rest : List Token) → Reads (literal n) (expr k) ts rest → Parsed 9 ts (literal n) rest
    prim k ts rest h = either k ts rest (in_part (literal n) alone whole k ts rest h)

module _ (m : ℕ) (a b : Raw) (ca : Complete a (Reads a)) (cb : Complete b (Reads b)) where
  abbrev Two : Part → Part → Front
  Two l r = Reads a l then Is (mark m) then Reads b r

  -- what an operator at a level gives: a chain at that level, or a tree parsed there
  record Built (j : ℕ) (ts rest : List Token) : Type 0 where
    low : j < 9
    tree : Stops j rest → Parsed j ts (binary m a b) rest
    chain : is_among chain_levels j ≡ true → Stops (suc j) rest → Chained j ts (binary m a b) rest

  here_level : (o : Operator) → operator_of m ≡ Some o → is_at o.level (operator_of m) ≡ true
  here_level o e = rw e (eq-eqb o.level o.level refl)

  next_stops : (o : Operator) (mid : List Token) → operator_of m ≡ Some o → Stops (suc o.level) (mark m ∷ mid)
  next_stops o mid e = rw e (above o.level)
    where
      above : (l : ℕ) → nat_le (suc l) l ≡ false
      above l = grind (arith, nat_tests)

  chained : (o : Operator) (ts rest : List Token) → operator_of m ≡ Some o → is_among chain_levels o.level ≡ true → o.left ≡ o.level → o.right ≡ o.level + 1
      → Two (expr o.left) (expr o.right) ts rest → Stops (suc o.level) rest → Chained o.level ts (binary m a b) rest
  chained o ts rest e chains l r (us, ra, (vs, is, rb)) stops =
      let low : o.level < 9 = low_chain o.level chains in
      let left : Reads a (expr o.level) ts (mark m ∷ vs) = subst (λ xs. Reads a (expr o.level) ts xs) is (subst (λ k. Reads a (expr k) ts us) l ra) in
      let next : o.right ≡ suc o.level = r ∙ add-one o.level in
      let right : Reads b (expr (suc o.level)) vs rest = subst (λ k. Reads b (expr k) vs rest) next rb in
      snoc o.level m a b ts vs rest (here_level o e) (ca.spine o.level chains ts (mark m ∷ vs) left (next_stops o vs e)) (cb.at_level (suc o.level) low vs rest right stops)

  built_chain : (o : Operator) (ts rest : List Token) → operator_of m ≡ Some o → is_among chain_levels o.level ≡ true → o.left ≡ o.level → o.right ≡ o.level + 1
      → Two (expr o.left) (expr o.right) ts rest → Built o.level ts rest
  built_chain o ts rest e chains l r h = record {
    low = low_chain o.level chains;
    tree = λ stops. finish o.level ts (binary m a b) rest (low_chain o.level chains) chains
        (chained o ts rest e chains l r h (not_later o.level (suc o.level) (first_operator rest) (omega arith) stops)) stops;
    chain = λ chains stops. chained o ts rest e chains l r h stops;
  }

  built_once : (o : Operator) (ts rest : List Token) → operator_of m ≡ Some o → is_among once_levels o.level ≡ true → o.left ≡ o.level + 1 → o.right ≡ o.level + 1
      → Two (expr o.left) (expr o.right) ts rest → Built o.level ts rest
  built_once o ts rest e is_once l r (us, ra, (vs, is, rb)) =
      let low = low_once o.level is_once in
      let left : Reads a (expr (suc o.level)) ts (mark m ∷ vs) =
      subst (λ xs. Reads a (expr (suc o.level)) ts xs) is (subst (λ k. Reads a (expr k) ts us) (l ∙ add-one o.level) ra) in
      let right : Reads b (expr (suc o.level)) vs rest = subst (λ k. Reads b (expr k) vs rest) (r ∙ add-one o.level) rb in
      record {
        low = low.0;
        tree = λ stops. finish_once o.level m a b ts vs rest low.0 low.1 is_once (here_level o e)
            (ca.at_level (suc o.level) (low.0) ts (mark m ∷ vs) left (next_stops o vs e))
            (cb.at_level (suc o.level) (low.0) vs rest right (not_later o.level (suc o.level) (first_operator rest) (omega arith) stops));
        chain = λ chains stops. let clash : true ≡ false = sym chains ∙ low.1 in cc;
      }

  built : (o : Operator) (ts rest : List Token) → operator_of m ≡ Some o → Two (expr o.left) (expr o.right) ts rest → Built o.level ts rest
  built o ts rest e h = go (or_parts _ _ (found_good (λ p. p.sign == m) is_good operators o all_good e).1)
    where
      chain_facts : (is_among chain_levels o.level ≡ true) × ((o.left == o.level && o.right == o.level + 1) ≡ true) → Built o.level ts rest
      chain_facts (c, sides) = let s = and_parts (o.left == o.level) (o.right == o.level + 1) sides in
          built_chain o ts rest e c (eqb-true o.left o.level s.0) (eqb-true o.right (o.level + 1) s.1) h

      once_facts : (is_among once_levels o.level ≡ true) × ((o.left == o.level + 1 && o.right == o.level + 1) ≡ true) → Built o.level ts rest
      once_facts (c, sides) = let s = and_parts (o.left == o.level + 1) (o.right == o.level + 1) sides in
          built_once o ts rest e c (eqb-true o.left (o.level + 1) s.0) (eqb-true o.right (o.level + 1) s.1) h

      go : ((is_among chain_levels o.level && (o.left == o.level && o.right == o.level + 1)) ≡ true)
          ⊎ ((is_among once_levels o.level && (o.left == o.level + 1 && o.right == o.level + 1)) ≡ true) → Built o.level ts rest
      go (inl g) = chain_facts (and_parts (is_among chain_levels o.level) _ g)
      go (inr g) = once_facts (and_parts (is_among once_levels o.level) _ g)

  abbrev alone : Part → Front
  alone p = WithOperands (operands m p) Two

  used_built : (k : ℕ) (ts rest : List Token) → alone (expr k) ts rest → (j : ℕ) × (k ≤ j) × Built j ts rest
  used_built k ts rest h = let u = operator_at m k Two ts rest h in
      (u.operator.level, le_of k u.operator.level u.level, built u.operator ts rest u.used.is_found u.operands_read)
    where
      le_of : (k l : ℕ) → nat_le k l ≡ true → k ≤ l
      le_of k l h = grind (arith, nat_tests)

  tree_at : (k : ℕ) (ts rest : List Token) → alone (expr k) ts rest → Stops k rest → Parsed k ts (binary m a b) rest
  tree_at k ts rest h stops = let u = used_built k ts rest h in
      from_above k u.0 ts (binary m a b) rest u.1 (omega (arith, u.2.low)) (u.2.tree (not_later k u.0 (first_operator rest) u.1 stops)) stops

  spine_at : (k : ℕ) (ts rest : List Token) → is_among chain_levels k ≡ true → alone (expr k) ts rest → Stops (suc k) rest → Chained k ts (binary m a b) rest
  spine_at k ts rest chains h stops = let u = used_built k ts rest h in go u.0 u.1 u.2 (same_or_above k u.0 u.1)
    where
      same_or_above : (k j : ℕ) → k ≤ j → (j ≡ k) ⊎ (k < j)
      same_or_above k j le = grind arith

      go : (j : ℕ) → k ≤ j → Built j ts rest → (j ≡ k) ⊎ (k < j) → Chained k ts (binary m a b) rest
      go j le u (inl e) = let v : Built k ts rest = subst (λ i. Built i ts rest) e u in v.chain chains stops
      go j le u (inr lt) =
          alone_chained k ts (binary m a b) rest
          (from_above (suc k) j ts (binary m a b) rest lt (omega (arith, u.low)) (u.tree (not_later (suc k) j (first_operator rest) lt stops)) stops)

  binary_complete : Complete (binary m a b) (Reads (binary m a b))
  binary_complete = record {
    at_level = λ k le ts rest h stops. tree_or k le ts rest stops (in_part (binary m a b) alone (λ us vs i s. tree_at 0 us vs i s) k ts rest h);
    spine = λ k chains ts rest h stops. chain_or k chains ts rest stops (in_part (binary m a b) alone (λ us vs i s. tree_at 0 us vs i s) k ts rest h);
  }
    where
      tree_or : (k : ℕ) → k ≤ 9 → (ts rest : List Token) → Stops k rest → alone (expr k) ts rest ⊎ Parsed 9 ts (binary m a b) rest → Parsed k ts (binary m a b) rest
      tree_or k le ts rest stops (inl h) = tree_at k ts rest h stops
      tree_or k le ts rest stops (inr p) = from_above k 9 ts (binary m a b) rest le (omega arith) p stops

      chain_or : (k : ℕ) → is_among chain_levels k ≡ true → (ts rest : List Token) → Stops (suc k) rest
          → alone (expr k) ts rest ⊎ Parsed 9 ts (binary m a b) rest → Chained k ts (binary m a b) rest
      chain_or k chains ts rest stops (inl h) = spine_at k ts rest chains h stops
      chain_or k chains ts rest stops (inr p) = let low : k < 9 = low_chain k chains in
          alone_chained k ts (binary m a b) rest (from_above (suc k) 9 ts (binary m a b) rest low (omega arith) p stops)

-- literals, infix signs and parentheses
abbrev pub IsArithmetic : Raw → Type 0
IsArithmetic (literal n) = Unit {0}
IsArithmetic (binary m a b) = IsArithmetic a × IsArithmetic b
IsArithmetic _ = ⊥

complete : (raw : Raw) → IsArithmetic raw → Complete raw (Reads raw)
complete (literal n) h = literal_complete n
complete (binary m a b) h = binary_complete m a b (complete a h.0) (complete b h.1)
complete _ h = absurd h

some_same : (x y : Found) → Some x ≡ Some y → x ≡ y
some_same x y e = cc

-- for one list of tokens, and each level, at most one such tree
pub only_one : (k : ℕ) → k ≤ 9 → (ts : List Token) (a b : Raw) → IsArithmetic a → IsArithmetic b → Reads a (expr k) ts [] → Reads b (expr k) ts [] → a ≡ b
only_one k le ts a b pa pb ra rb =
    let p : Parsed k ts a [] = (complete a pa).at_level k le ts [] ra refl in
    let q : Parsed k ts b [] = (complete b pb).at_level k le ts [] rb refl in
    let e : Some (found a []) ≡ Some (found b []) = sym (p.1 (p.0 + q.0) (omega arith)) ∙ q.1 (p.0 + q.0) (omega arith) in
    ap (λ x. x.raw) (some_same _ _ e)
