-- Words before parentheses, signs, written types and operators of expressions.
use Rattle.std.proofs.Common.{◌≡◌, ℕ, suc, ◌+◌, ◌-◌, ◌≤◌, ◌<◌, Bool, true, false, List, [], ◌∷◌, refl, ap, subst, sym, ◌∙◌, arith, ◌⊎◌, inl, inr, eq-eqb, add-one}
use Rattle.std.specs.Prelude.{Option, Some, None, if◌then◌else◌, ◌==◌, ◌&&◌, nat_le}
use Rattle.std.specs.List.{AllByRecursion}
use Rattle.std.proofs.lemmas.Bool.{eqb-true}
use Rattle.std.proofs.lemmas.Bool.Decides.{nat_tests}
use Rattle.ev_syntax.specs.Marks.{finite_word, bool_word, type_word, param_sign, open_paren, close_paren, oftype_word, minus_sign, product_sign}
use Rattle.ev_syntax.specs.Tokens.{Token, name, number, mark}
use Rattle.ev_syntax.specs.Raw.{Raw, RawType, around, unary, binary, of_type}
use Rattle.ev_syntax.specs.Parts.{Part, pred, expr, Operator, operators, operands, operand, is_among, may_have_level, around_operand, expr_level, map_level}
use Rattle.ev_syntax.specs.Grammar.{Front, Is, ◌then◌, Reads, ReadsType, Where, WithOperand, WithOperands}
use Rattle.ev_syntax.proofs.Eventually.{on_found, Eventually, always, like, later, and_then}
use Rattle.ev_syntax.proofs.TypesRead.{begins, expect, parse_type, a_type, StopsType, type_found}
use Rattle.ev_syntax.proofs.Levels.{operator_of, is_from, is_at, first_operator, is_good, all_good, found_good, and_parts, or_parts, operator_at}
use Rattle.ev_syntax.proofs.WholeParser.{words, calls, prim, climb, after_operand, parse, E, Prim, Stops, stops_later, no_open, climb_stops, from_above, chain_levels, once_levels, level, a_pred, plain}
use Rattle.ev_syntax.proofs.WholeRead.{Chained, Complete, alone_chained, from_parts, low_chain, paren_stops}
use Rattle.ev_syntax.proofs.WholeForms.{prims, never}

pub among_all : (Q : ℕ → Type 0) (xs : List ℕ) → AllByRecursion Q xs → (m : ℕ) → is_among xs m ≡ true → Q m
among_all Q [] all m h = absurd (clash h)
  where
    clash : false ≡ true → ⊥
    clash h = cc
among_all Q (x ∷ xs) all m h = go (or_parts (x == m) (is_among xs m) h) (λ k. among_all Q xs all.1 m k)
  where
    go : ((x == m) ≡ true) ⊎ (is_among xs m ≡ true) → (is_among xs m ≡ true → Q m) → Q m
    go (inl e) again = subst Q (eqb-true x m e) all.0
    go (inr e) again = again e

-- a word before ( )
abbrev CallFacts : ℕ → Type 0
CallFacts m = (is_among words m ≡ false) × ((m == param_sign) ≡ false) × ((m == type_word) ≡ false) × ((m == bool_word) ≡ false)

call_facts : (m : ℕ) → is_among calls m ≡ true → CallFacts m
call_facts m h = among_all CallFacts calls (
  (refl, refl, refl, refl),
  (
    (refl, refl, refl, refl),
    (
      (refl, refl, refl, refl),
      (
        (refl, refl, refl, refl),
        ((refl, refl, refl, refl), ((refl, refl, refl, refl), ((refl, refl, refl, refl), ((refl, refl, refl, refl), tt)))),
      ),
    ),
  ),
) m h

pub around_complete : (m : ℕ) (e : Raw) → is_among calls m ≡ true → Complete e (Reads e) → Complete (around m e) (Reads (around m e))
around_complete m e is_call c = prims (around m e) alone bare
  where
    facts : CallFacts m
    facts = call_facts m is_call

    inner : Part → Front
    inner q = Is (mark m) then Is (mark open_paren) then Reads e q then Is (mark close_paren)

    alone : Part → Front
    alone p = WithOperand (around_operand m p) inner

    chosen : (a b c d : Bool) → b ≡ false → (ts rest : List Token)
        → WithOperand (if a && false then Some (expr 0) else (if b && d then Some pred else (if c && d then Some (expr 0) else None))) inner ts rest → inner (expr 0) ts rest
    chosen true true c d n ts rest h = let clash : true ≡ false = n in cc
    chosen true false true true n ts rest h = h
    chosen true false true false n ts rest h = absurd h
    chosen true false false d n ts rest h = absurd h
    chosen false true c d n ts rest h = let clash : true ≡ false = n in cc
    chosen false false true true n ts rest h = h
    chosen false false true false n ts rest h = absurd h
    chosen false false false d n ts rest h = absurd h

    found_inner : (ts rest : List Token) → inner (expr 0) ts rest → Prim ts (around m e) rest
    found_inner ts rest (us, d, (vs, f, (ws, h, i))) =
        subst (λ xs. Prim xs (around m e) rest) (sym (d ∙ ap (λ xs. mark m ∷ xs) f))
        (like (λ g. prim g (parse g (level 0)) (parse g a_pred) (mark m ∷ mark open_paren ∷ vs)) (λ g. on_found (parse g (level 0) vs) (λ x xs. expect close_paren xs (λ rest. Some (around m x, rest)))) (around m e, rest)
        (λ g. rw (facts.0, facts.1, facts.2, is_call))
        (and_then (λ g. parse g (level 0) vs) (λ g x xs. expect close_paren xs (λ rest. Some (around m x, rest))) e (mark close_paren ∷ rest) (around m e, rest)
        (c.at_level 0 (omega arith) vs (mark close_paren ∷ rest) (subst (λ xs. Reads e (expr 0) vs xs) i h) (paren_stops rest)) (always _ _ (λ g. refl))))

    bare : (k : ℕ) (ts rest : List Token) → alone (expr k) ts rest → Prim ts (around m e) rest
    bare k ts rest h = found_inner ts rest (chosen (m == finite_word) (m == bool_word) (is_among calls m) (nat_le k 10) facts.3 ts rest h)

-- a sign
pub minus_complete : (e : Raw) → Complete e (Reads e) → Complete (unary minus_sign e) (Reads (unary minus_sign e))
minus_complete e c = from_parts (unary minus_sign e) alone tree chain (λ ts rest h stops. absurd h) (λ ts rest h. absurd h)
  where
    inner : Part → Front
    inner q = Is (mark minus_sign) then Reads e q

    alone : Part → Front
    alone p = WithOperand (operand minus_sign p) inner

    signed : (k : ℕ) (ts rest : List Token) → alone (expr k) ts rest → (k ≤ 7) × inner (expr 8) ts rest
    signed k ts rest h = go (nat_le k 7) refl h
      where
        le_of : (k : ℕ) → nat_le k 7 ≡ true → k ≤ 7
        le_of k h = grind (arith, nat_tests)

        go : (b : Bool) → nat_le k 7 ≡ b → WithOperand (if b then Some (expr 8) else None) inner ts rest → (k ≤ 7) × inner (expr 8) ts rest
        go true le h = (le_of k le, h)
        go false le h = absurd h

    at7 : (ts rest : List Token) → inner (expr 8) ts rest → Stops 8 rest → E 7 ts (unary minus_sign e) rest
    at7 ts rest (us, d, h) s = subst (λ xs. E 7 xs (unary minus_sign e) rest) (sym d)
        (later (λ g. parse g (level 7) (mark minus_sign ∷ us)) (λ g. on_found (parse g (level 8) us) (λ x vs. Some (unary minus_sign x, vs))) (unary minus_sign e, rest) (λ g. refl)
        (and_then (λ g. parse g (level 8) us) (λ g x vs. Some (unary minus_sign x, vs)) e rest (unary minus_sign e, rest) (c.at_level 8 (omega arith) us rest h s) (always _ _ (λ g. refl))))

    tree : (k : ℕ) → k ≤ 9 → (ts rest : List Token) → alone (expr k) ts rest → Stops k rest → E k ts (unary minus_sign e) rest
    tree k le ts rest h s = let i = signed k ts rest h in
        from_above k 7 ts (unary minus_sign e) rest i.0 (omega arith) (at7 ts rest i.1 (stops_later k 8 rest (omega (arith, i.0)) s)) s

    chain : (k : ℕ) → is_among chain_levels k ≡ true → (ts rest : List Token) → alone (expr k) ts rest → Stops (suc k) rest → Chained k ts (unary minus_sign e) rest
    chain k ch ts rest h s = let i = signed k ts rest h in let low : k ≤ 6 = low_chain k ch in
        alone_chained k ts (unary minus_sign e) rest
        (from_above (suc k) 7 ts (unary minus_sign e) rest (omega arith) (omega arith) (at7 ts rest i.1 (stops_later (suc k) 8 rest (omega arith) s)) s)

-- a written type behind
no_product : (ts : List Token) → is_from 0 (first_operator ts) ≡ false → begins product_sign ts ≡ false
no_product [] h = refl
no_product (name n ∷ ts) h = refl
no_product (number n ∷ ts) h = refl
no_product (mark m ∷ ts) h = go (m == product_sign) refl
  where
    go : (b : Bool) → (m == product_sign) ≡ b → b ≡ false
    go false e = refl
    go true e = let same : m ≡ product_sign = eqb-true m product_sign e in
        subst (λ i. is_from 0 (operator_of i) ≡ false) same h

type_stops : (ts : List Token) → Stops 0 ts → StopsType ts
type_stops ts s = (no_product ts s.operator, no_open ts s.post)

pub of_type_complete : (e : Raw) (a : RawType) → Complete e (Reads e) → Complete (of_type e a) (Reads (of_type e a))
of_type_complete e a c = from_parts (of_type e a) alone tree chain (λ ts rest h stops. never h.0) (λ ts rest h. never h.0)
  where
    inner : Front
    inner = Reads e (expr map_level) then Is (mark oftype_word) then ReadsType a true

    alone : Part → Front
    alone p = Where (may_have_level expr_level p) inner

    at0 : (ts rest : List Token) → inner ts rest → Stops 0 rest → E 0 ts (of_type e a) rest
    at0 ts rest (us, h, (vs, d, t)) s =
        let first : E 1 ts e (mark oftype_word ∷ vs) = c.at_level 1 (omega arith) ts (mark oftype_word ∷ vs) (subst (λ xs. Reads e (expr 1) ts xs) d h)
        (record { operator = refl; post = refl; type = refl }) in
        later (λ g. parse g (level 0) ts) (λ g. on_found (parse g (level 1) ts) (after_operand 0 g (parse g (level 1)))) (of_type e a, rest) (λ g. rw (plain 0 ts (e, mark oftype_word ∷ vs) first) refl)
        (and_then (λ g. parse g (level 1) ts) (λ g. after_operand 0 g (parse g (level 1))) e (mark oftype_word ∷ vs) (of_type e a, rest) first
        (and_then (λ g. parse_type g a_type vs) (λ g b xs. Some (of_type e b, xs)) a rest (of_type e a, rest) (type_found a vs rest t (type_stops rest s)) (always _ _ (λ g. refl))))

    zero_of : (k : ℕ) → nat_le k 0 ≡ true → k ≡ 0
    zero_of k h = grind (arith, nat_tests)

    tree : (k : ℕ) → k ≤ 9 → (ts rest : List Token) → alone (expr k) ts rest → Stops k rest → E k ts (of_type e a) rest
    tree k le ts rest h s = let is0 : k ≡ 0 = zero_of k h.0 in
        subst (λ i. E i ts (of_type e a) rest) (sym is0) (at0 ts rest h.1 (subst (λ i. Stops i rest) is0 s))

    chain : (k : ℕ) → is_among chain_levels k ≡ true → (ts rest : List Token) → alone (expr k) ts rest → Stops (suc k) rest → Chained k ts (of_type e a) rest
    chain k ch ts rest h s = let is0 : k ≡ 0 = zero_of k h.0 in never (subst (λ i. is_among chain_levels i ≡ true) is0 ch)

module _ (m : ℕ) (a b : Raw) (ca : Complete a (Reads a)) (cb : Complete b (Reads b)) where
  abbrev Two : Part → Part → Front
  Two l r = Reads a l then Is (mark m) then Reads b r

  -- what an operator at a level gives: a chain at that level, or a tree parsed there
  record Built (j : ℕ) (ts rest : List Token) : Type 0 where
    low : j ≤ 8
    tree : Stops j rest → E j ts (binary m a b) rest
    chain : is_among chain_levels j ≡ true → Stops (suc j) rest → Chained j ts (binary m a b) rest

  here_level : (o : Operator) → operator_of m ≡ Some o → is_at o.level (operator_of m) ≡ true
  here_level o e = rw e (eq-eqb o.level o.level refl)

  is_false : (b : Bool) → (b ≡ true → ⊥) → b ≡ false
  is_false true h = absurd (h refl)
  is_false false h = refl

  operator_no : (o : Operator) (j : ℕ) → operator_of m ≡ Some o → operator_of j ≡ None → (m == j) ≡ false
  operator_no o j e gone = is_false (m == j) (λ t. clash (operator_of m) e (ap operator_of (eqb-true m j t) ∙ gone))
    where
      clash : (x : Option Operator) → x ≡ Some o → x ≡ None → ⊥
      clash x e d = cc

  next_stops : (o : Operator) (mid : List Token) → operator_of m ≡ Some o → Stops (suc o.level) (mark m ∷ mid)
  next_stops o mid e = record {
    operator = rw e (above o.level);
    post = rw (operator_no o 40 e refl, operator_no o 41 e refl, operator_no o 43 e refl);
    type = not_zero o.level (m == oftype_word);
  }
    where
      above : (l : ℕ) → nat_le (suc l) l ≡ false
      above l = grind (arith, nat_tests)

      zero_no : (l : ℕ) → (suc l == 0) ≡ false
      zero_no l = grind (arith, nat_tests)

      not_zero : (l : ℕ) (c : Bool) → (suc l == 0 && c) ≡ false
      not_zero l c = rw (zero_no l)

  below : (k : ℕ) → k ≤ 8 → nat_le 9 k ≡ false
  below k h = grind (arith, nat_tests)

  not_seven : (k : ℕ) (c : Bool) → (k == 7) ≡ false → (k == 7 && c) ≡ false
  not_seven k c h = rw h

  -- the levels of operators are none of those with a beginning or an end of their own
  abbrev OperatorLevel : ℕ → Type 0
  OperatorLevel k = (k ≤ 8) × ((k == 0) ≡ false) × ((k == 7) ≡ false)

  chain_level : (k : ℕ) → is_among chain_levels k ≡ true → OperatorLevel k
  chain_level k h = among_all OperatorLevel chain_levels ((omega arith, refl, refl), ((omega arith, refl, refl), ((omega arith, refl, refl), ((omega arith, refl, refl), ((omega arith, refl, refl), tt))))) k h

  once_level : (k : ℕ) → is_among once_levels k ≡ true → OperatorLevel k × (is_among chain_levels k ≡ false)
  once_level k h = among_all (λ i. OperatorLevel i × (is_among chain_levels i ≡ false)) once_levels (((omega arith, refl, refl), refl), (((omega arith, refl, refl), refl), tt)) k h

  -- an operand and what comes after it
  at_level : (k : ℕ) (ts us : List Token) (x raw : Raw) (rest : List Token) → OperatorLevel k → E (suc k) ts x us
      → Eventually (λ g. after_operand k g (parse g (level (suc k))) x us) (raw, rest) → E k ts raw rest
  at_level k ts us x raw rest l p q =
      later (λ g. parse g (level k) ts) (λ g. on_found (parse g (level (suc k)) ts) (after_operand k g (parse g (level (suc k))))) (raw, rest)
      (λ g. rw (below k l.0, not_seven k (begins minus_sign ts) l.2, l.1) refl)
      (and_then (λ g. parse g (level (suc k)) ts) (λ g. after_operand k g (parse g (level (suc k)))) x us (raw, rest) p q)

  snoc : (k : ℕ) (ts mid rest : List Token) → is_at k (operator_of m) ≡ true → Chained k ts a (mark m ∷ mid) → E (suc k) mid b rest → Chained k ts (binary m a b) rest
  snoc k ts mid rest here (c, us, p, (j, f, r)) (h, q) = (
    c,
    us,
    p,
    (
      j + 1,
      f + h,
      λ g n le.
          let e : (j + 1) + n ≡ j + suc n = omega arith in
          ap (λ i. climb i (parse g (level (suc k))) k c us) e ∙ r g (suc n) (omega arith)
          ∙ rw here (ap (λ o. on_found o (λ d after. climb n (parse g (level (suc k))) k (binary m a d) after)) (q g (omega arith))),
    ),
  )

  finish : (k : ℕ) (ts rest : List Token) → is_among chain_levels k ≡ true → Chained k ts (binary m a b) rest → Stops k rest → E k ts (binary m a b) rest
  finish k ts rest chains (x, mid, p, (j, f, r)) stops =
      at_level k ts mid x (binary m a b) rest (chain_level k chains) p (
        j + f,
        λ g le. let e : j + (g - j) ≡ g = omega arith in
            rw ((chain_level k chains).1, chains) (sym (ap (λ i. climb i (parse g (level (suc k))) k x mid) e) ∙ r g (g - j) (omega arith)
            ∙ climb_stops (g - j) (parse g (level (suc k))) k (binary m a b) rest stops.operator),
      )

  finish_once : (k : ℕ) (ts mid rest : List Token) → is_among once_levels k ≡ true → is_at k (operator_of m) ≡ true
      → E (suc k) ts a (mark m ∷ mid) → E (suc k) mid b rest → E k ts (binary m a b) rest
  finish_once k ts mid rest is_once here p q =
      at_level k ts (mark m ∷ mid) a (binary m a b) rest (once_level k is_once).0 p
      (like (λ g. after_operand k g (parse g (level (suc k))) a (mark m ∷ mid)) (λ g. on_found (parse g (level (suc k)) mid) (λ c after. Some (binary m a c, after))) (binary m a b, rest)
      (λ g. rw ((once_level k is_once).0.1, (once_level k is_once).1, is_once, here))
      (and_then (λ g. parse g (level (suc k)) mid) (λ g c after. Some (binary m a c, after)) b rest (binary m a b, rest) q (always _ _ (λ g. refl))))

  chained : (o : Operator) (ts rest : List Token) → operator_of m ≡ Some o → is_among chain_levels o.level ≡ true → o.left ≡ o.level → o.right ≡ o.level + 1
      → Two (expr o.left) (expr o.right) ts rest → Stops (suc o.level) rest → Chained o.level ts (binary m a b) rest
  chained o ts rest e chains l r (us, ra, (vs, is, rb)) stops =
      let low : o.level ≤ 6 = low_chain o.level chains in
      let left : Reads a (expr o.level) ts (mark m ∷ vs) = subst (λ xs. Reads a (expr o.level) ts xs) is (subst (λ k. Reads a (expr k) ts us) l ra) in
      let right : Reads b (expr (suc o.level)) vs rest = subst (λ k. Reads b (expr k) vs rest) (r ∙ add-one o.level) rb in
      snoc o.level ts vs rest (here_level o e) (ca.spine o.level chains ts (mark m ∷ vs) left (next_stops o vs e))
      (cb.at_level (suc o.level) (omega arith) vs rest right stops)

  built_chain : (o : Operator) (ts rest : List Token) → operator_of m ≡ Some o → is_among chain_levels o.level ≡ true → o.left ≡ o.level → o.right ≡ o.level + 1
      → Two (expr o.left) (expr o.right) ts rest → Built o.level ts rest
  built_chain o ts rest e chains l r h = record {
    low = (chain_level o.level chains).0;
    tree = λ stops. finish o.level ts rest chains (chained o ts rest e chains l r h (stops_later o.level (suc o.level) rest (omega arith) stops)) stops;
    chain = λ chains stops. chained o ts rest e chains l r h stops;
  }

  built_once : (o : Operator) (ts rest : List Token) → operator_of m ≡ Some o → is_among once_levels o.level ≡ true → o.left ≡ o.level + 1 → o.right ≡ o.level + 1
      → Two (expr o.left) (expr o.right) ts rest → Built o.level ts rest
  built_once o ts rest e is_once l r (us, ra, (vs, is, rb)) =
      let low : o.level ≤ 8 = (once_level o.level is_once).0.0 in
      let left : Reads a (expr (suc o.level)) ts (mark m ∷ vs) =
      subst (λ xs. Reads a (expr (suc o.level)) ts xs) is (subst (λ k. Reads a (expr k) ts us) (l ∙ add-one o.level) ra) in
      let right : Reads b (expr (suc o.level)) vs rest = subst (λ k. Reads b (expr k) vs rest) (r ∙ add-one o.level) rb in
      record {
        low = low;
        tree = λ stops. finish_once o.level ts vs rest is_once (here_level o e)
            (ca.at_level (suc o.level) (omega arith) ts (mark m ∷ vs) left (next_stops o vs e))
            (cb.at_level (suc o.level) (omega arith) vs rest right (stops_later o.level (suc o.level) rest (omega arith) stops));
        chain = λ chains stops. never (sym (once_level o.level is_once).1 ∙ chains);
      }

  built : (o : Operator) (ts rest : List Token) → operator_of m ≡ Some o → Two (expr o.left) (expr o.right) ts rest → Built o.level ts rest
  built o ts rest e h = go (or_parts _ _ (found_good (λ p. p.sign == m) is_good operators o all_good e).1)
    where
      chain_facts : (is_among chain_levels o.level ≡ true) × ((o.left == o.level && o.right == o.level + 1) ≡ true) → Built o.level ts rest
      chain_facts (c, sides) = let s = and_parts (o.left == o.level) (o.right == o.level + 1) sides in
          built_chain o ts rest e c (eqb-true o.left o.level s.0) (eqb-true o.right (o.level + 1) s.1) h

      once_facts : (is_among once_levels o.level ≡ true) × ((o.left == o.level + 1 && o.right == o.level + 1) ≡ true) → Built o.level ts rest
      once_facts (c, sides) = let s = and_parts (o.left == o.level + 1) (o.right == o.level + 1) sides in
          built_once o ts rest e c (eqb-true o.left (o.level + 1) s.0) (eqb-true o.right (o.level + 1) s.1) h

      go : ((is_among chain_levels o.level && (o.left == o.level && o.right == o.level + 1)) ≡ true)
          ⊎ ((is_among once_levels o.level && (o.left == o.level + 1 && o.right == o.level + 1)) ≡ true) → Built o.level ts rest
      go (inl g) = chain_facts (and_parts (is_among chain_levels o.level) _ g)
      go (inr g) = once_facts (and_parts (is_among once_levels o.level) _ g)

  abbrev alone : Part → Front
  alone p = WithOperands (operands m p) Two

  used_built : (k : ℕ) (ts rest : List Token) → alone (expr k) ts rest → (j : ℕ) × (k ≤ j) × Built j ts rest
  used_built k ts rest h = let u = operator_at m k Two ts rest h in
      (u.operator.level, le_of k u.operator.level u.level, built u.operator ts rest u.used.is_found u.operands_read)
    where
      le_of : (k l : ℕ) → nat_le k l ≡ true → k ≤ l
      le_of k l h = grind (arith, nat_tests)

  tree_at : (k : ℕ) → k ≤ 9 → (ts rest : List Token) → alone (expr k) ts rest → Stops k rest → E k ts (binary m a b) rest
  tree_at k le ts rest h stops = let u = used_built k ts rest h in
      from_above k u.0 ts (binary m a b) rest u.1 (omega (arith, u.2.low)) (u.2.tree (stops_later k u.0 rest u.1 stops)) stops

  chain_at : (k : ℕ) → is_among chain_levels k ≡ true → (ts rest : List Token) → alone (expr k) ts rest → Stops (suc k) rest → Chained k ts (binary m a b) rest
  chain_at k chains ts rest h stops = let u = used_built k ts rest h in go u.0 u.1 u.2 (same_or_above k u.0 u.1)
    where
      same_or_above : (k j : ℕ) → k ≤ j → (j ≡ k) ⊎ (k < j)
      same_or_above k j le = grind arith

      go : (j : ℕ) → k ≤ j → Built j ts rest → (j ≡ k) ⊎ (k < j) → Chained k ts (binary m a b) rest
      go j le u (inl e) = let v : Built k ts rest = subst (λ i. Built i ts rest) e u in v.chain chains stops
      go j le u (inr lt) =
          alone_chained k ts (binary m a b) rest
          (from_above (suc k) j ts (binary m a b) rest lt (omega (arith, u.low)) (u.tree (stops_later (suc k) j rest lt stops)) stops)

  no_operator : (k : ℕ) → 8 < k → (ts rest : List Token) → alone (expr k) ts rest → ⊥
  no_operator k high ts rest h = let u = used_built k ts rest h in absurd (omega (arith, u.1, u.2.low))

  pub binary_complete : Complete (binary m a b) (Reads (binary m a b))
  binary_complete = from_parts (binary m a b) alone tree_at chain_at
      (λ ts rest h stops. absurd (no_operator 9 (omega arith) ts rest h)) (λ ts rest h. absurd (no_operator 10 (omega arith) ts rest h))
