-- What the fuelled parser finds is a formula by the grammar, with any fuel.
use Rattle.std.proofs.Common.{◌≡◌, ℕ, zero, suc, ◌+◌, ◌≤◌, ◌^◌, Bool, true, false, List, [], ◌∷◌, refl, ap, subst, sym, ◌∙◌, ◌⊎◌, inl, inr, arith, add-one}
use Rattle.std.specs.Prelude.{Option, Some, None, if◌then◌else◌, ◌==◌, ◌&&◌, ◌||◌, nat_le, nat_lt}
use Rattle.std.specs.List.{list_all}
use Rattle.std.proofs.lemmas.Bool.{eqb-true}
use Rattle.std.proofs.lemmas.Bool.Decides.{nat_tests}
use Rattle.ev_syntax.specs.Marks.{type_word, param_sign, open_paren, close_paren, open_bracket, close_bracket, open_brace, close_brace, oftype_word, minus_sign, inverse_sign, bool_word, dot, bar, lambda_sign, union_over_word, inter_over_word, true_word, false_word, finite_word, not_word, for_all_sign, for_some_sign, and_sign, or_word, implies_sign, iff_sign}
use Rattle.ev_syntax.specs.Tokens.{Token, name, number, mark}
use Rattle.ev_syntax.specs.Raw.{Raw, Raws, word, literal, param, type_set, call, around, unary, binary, inverse, apply, image, of_type, quantified, set_of, collected, lambda, members, written, none, one, Binder}
use Rattle.ev_syntax.specs.Parts.{Part, pred, conj, conj_or_tail, ands, ors, lit, lit_or_quant, expr, Operator, operators, two, operands, operator_operands_at, around_operand, is_among, relation_signs}
use Rattle.ev_syntax.specs.Grammar.{Front, Is, ◌then◌, Reads, ReadsMore, ReadsBinders}
use Rattle.ev_syntax.proofs.Eventually.{Found, on_found}
use Rattle.ev_syntax.proofs.TypesRead.{begins, expect, parse_type, a_type}
use Rattle.ev_syntax.proofs.BindersRead.{listed, parse_binders}
use Rattle.ev_syntax.proofs.PatternsRead.{parse_pattern, a_pattern}
use Rattle.ev_syntax.proofs.Levels.{operator_of, is_at, is_good, all_good, found_good, and_parts, or_parts}
use Rattle.ev_syntax.proofs.WholeParser.{Read, parse, level, a_lit, a_conj, a_pred, items, words, calls, param_at, at_name, collects, first_binder, in_braces, at_mark, prim, posts, climb, once, typed, after_operand, chain_levels, once_levels, begins_special, overs, special, is_relation, call_only, related, behind_open, after_open, atom, connects, quantifies, literal_at, connect, connected, implied, or_false}
use Rattle.ev_syntax.proofs.OpenFirst.{goes_on}
use Rattle.ev_syntax.proofs.WholeForms.{never}
use Rattle.ev_syntax.proofs.WholeLevels.{among_all}
use Rattle.ev_syntax.proofs.WholeLiterals.{connect_stops}
use Rattle.ev_syntax.proofs.WholePredicates.{clash}
use Rattle.ev_syntax.proofs.Wrapping.{below}
use Rattle.ev_syntax.proofs.Wrapping.{paren_raw, with_one, with_two}
use Rattle.ev_syntax.proofs.Looser.{lower, lit_to_ands, lit_to_ors, ands_to_conj, ors_to_conj, conj_to_tail, tail_to_pred, quant_to_tail}
use Rattle.ev_syntax.proofs.WholeSound.{Holds, holds_found, holds_expect, holds_if, listed_sound, TypeIs, type_is, BindersAre, binders_are, PatternIs, pattern_is}

abbrev pub RawIs : Part → List Token → Found Raw → Type 0
RawIs p ts x = Reads x.0 p ts x.1

-- a list of expressions, one at least
abbrev ItemsRead : Raws → Front
ItemsRead none ts rest = ⊥
ItemsRead (one e es) ts rest = (Reads e (expr 0) then ReadsMore es) ts rest

abbrev ItemsAre : List Token → Found Raws → Type 0
ItemsAre ts x = ItemsRead x.0 ts x.1

-- a post, and whether a parenthesis goes on with it
abbrev PostIs : List Token → Found Raw → Type 0
PostIs ts x = Reads x.0 (expr 10) ts x.1 ⊎ (Reads x.0 (expr 9) ts x.1 × (begins open_paren x.1 ≡ false))

-- a literal, or a quantified predicate, which ends before no connective; and a conjunction likewise
abbrev pub LitIs : List Token → Found Raw → Type 0
LitIs ts x = Reads x.0 lit ts x.1 ⊎ (Reads x.0 lit_or_quant ts x.1 × (connects x.1 ≡ false))

abbrev pub ConjIs : List Token → Found Raw → Type 0
ConjIs ts x = Reads x.0 conj ts x.1 ⊎ (Reads x.0 conj_or_tail ts x.1 × (connects x.1 ≡ false))

or_second : (a b : Bool) → b ≡ true → (a || b) ≡ true
or_second true b h = refl
or_second false b h = h

and_true : (a b : Bool) → a ≡ true → b ≡ true → (a && b) ≡ true
and_true a b e d = rw (e, d)

-- an operator at a level
pub record OperatorAt (m k : ℕ) : Type 0 where
  pub left : ℕ
  pub right : ℕ
  pub asks : operands m (expr k) ≡ Some (two (expr left) (expr right))
  pub kind : ((is_among chain_levels k ≡ true) × (left ≡ k) × (right ≡ suc k)) ⊎ ((is_among once_levels k ≡ true) × (left ≡ suc k) × (right ≡ suc k))

abbrev no_connective : Operator → Bool
no_connective o =
    if is_among (implies_sign ∷ iff_sign ∷ []) o.sign then false else
    (if o.sign == and_sign then false else (if o.sign == or_word then false else (if is_among relation_signs o.sign then false else true)))

none_connective : list_all no_connective operators ≡ true
none_connective = refl

plain_operands : (m k : ℕ) → (a b c d : Bool) → is_among (implies_sign ∷ iff_sign ∷ []) m ≡ a → (m == and_sign) ≡ b → (m == or_word) ≡ c → is_among relation_signs m ≡ d
    → (if a then false else (if b then false else (if c then false else (if d then false else true)))) ≡ true → operands m (expr k) ≡ operator_operands_at k (operator_of m)
plain_operands m k true b c d ea eb ec ed h = never h
plain_operands m k false true c d ea eb ec ed h = never h
plain_operands m k false false true d ea eb ec ed h = never h
plain_operands m k false false false true ea eb ec ed h = never h
plain_operands m k false false false false ea eb ec ed h = rw (ea, eb, ec, ed)

le_self : (k : ℕ) → nat_le k k ≡ true
le_self k = grind (arith, nat_tests)

operator_facts : (m k : ℕ) (o : Operator) → operator_of m ≡ Some o → o.level ≡ k → OperatorAt m k
operator_facts m k o e l = record { left = o.left; right = o.right; asks = asks; kind = sides (or_parts _ _ (found_good (λ p. p.sign == m) is_good operators o all_good e).1) }
  where
    sign : o.sign ≡ m
    sign = eqb-true o.sign m (found_good (λ p. p.sign == m) is_good operators o all_good e).0

    not_one : no_connective o ≡ true
    not_one = (found_good (λ p. p.sign == m) no_connective operators o none_connective e).1

    plain : operands m (expr k) ≡ operator_operands_at k (operator_of m)
    plain = subst (λ i. operands i (expr k) ≡ operator_operands_at k (operator_of i)) sign
        (plain_operands o.sign k (is_among (implies_sign ∷ iff_sign ∷ []) o.sign) (o.sign == and_sign) (o.sign == or_word) (is_among relation_signs o.sign) refl refl refl refl not_one)

    low : nat_le k o.level ≡ true
    low = subst (λ i. nat_le k i ≡ true) (sym l) (le_self k)

    asks : operands m (expr k) ≡ Some (two (expr o.left) (expr o.right))
    asks = plain ∙ ap (operator_operands_at k) e ∙ ap (λ b. if b then Some (two (expr o.left) (expr o.right)) else None) low

    sides : ((is_among chain_levels o.level && (o.left == o.level && o.right == o.level + 1)) ≡ true)
        ⊎ ((is_among once_levels o.level && (o.left == o.level + 1 && o.right == o.level + 1)) ≡ true)
        → ((is_among chain_levels k ≡ true) × (o.left ≡ k) × (o.right ≡ suc k)) ⊎ ((is_among once_levels k ≡ true) × (o.left ≡ suc k) × (o.right ≡ suc k))
    sides (inl h) = let a = and_parts (is_among chain_levels o.level) _ h in let b = and_parts (o.left == o.level) (o.right == o.level + 1) a.1 in
        inl (subst (λ i. is_among chain_levels i ≡ true) l a.0, eqb-true o.left o.level b.0 ∙ l, eqb-true o.right (o.level + 1) b.1 ∙ add-one o.level ∙ ap suc l)
    sides (inr h) = let a = and_parts (is_among once_levels o.level) _ h in let b = and_parts (o.left == o.level + 1) (o.right == o.level + 1) a.1 in
        inr (subst (λ i. is_among once_levels i ≡ true) l a.0, eqb-true o.left (o.level + 1) b.0 ∙ add-one o.level ∙ ap suc l, eqb-true o.right (o.level + 1) b.1 ∙ add-one o.level ∙ ap suc l)

pub operator_here : (m k : ℕ) → is_at k (operator_of m) ≡ true → OperatorAt m k
operator_here m k h = go (operator_of m) refl h
  where
    go : (o : Option Operator) → operator_of m ≡ o → is_at k o ≡ true → OperatorAt m k
    go None e h = never h
    go (Some o) e h = operator_facts m k o e (eqb-true o.level k h)

not_once : (k : ℕ) → is_among chain_levels k ≡ true → is_among once_levels k ≡ false
not_once k h = among_all (λ i. is_among once_levels i ≡ false) chain_levels (refl, (refl, (refl, (refl, (refl, tt))))) k h

-- what holds with less fuel
module _ (read whole : Read) (r : (ts : List Token) → Holds (RawIs (expr 0) ts) (read ts)) (w : (ts : List Token) → Holds (RawIs pred ts) (whole ts)) where
  items_are : (f : ℕ) (ts : List Token) → Holds (ItemsAre ts) (items f read ts)
  items_are f ts = holds_found (ItemsAre ts) (RawIs (expr 0) ts) (read ts) _ (r ts) (λ e us h.
      holds_found (ItemsAre ts) (λ (x : Found Raws). ReadsMore x.0 us x.1) (listed none one f read us) _
      (listed_sound none one (λ e. Reads e (expr 0)) ReadsMore (λ ts. refl) (λ a b ts us vs rest e h i. (us, e, (vs, h, i))) f read r us) (λ es rest i. (us, h, i)))

  call_of : (n : List ℕ) (es : Raws) (us vs ws rest : List Token) → us ≡ mark open_paren ∷ vs → ItemsRead es vs ws → ws ≡ mark close_paren ∷ rest → Reads (call n es) (expr 10) (name n ∷ us) rest
  call_of n none us vs ws rest d h c = absurd h
  call_of n (one e es) us vs ws rest d (xs, h, i) c = inl (refl, (us, refl, (vs, d, (xs, h, (ws, i, c)))))

  name_is : (f : ℕ) (n : List ℕ) (ts : List Token) → Holds (PostIs (name n ∷ ts)) (at_name f read n ts)
  name_is f n ts = holds_if Q (begins open_paren ts) _ _
      (λ t. holds_expect Q open_paren ts _ (λ us e. holds_found Q (ItemsAre us) (items f read us) _ (items_are f us) (λ es vs h. holds_expect Q close_paren vs _ (λ rest c.
      inl (call_of n es ts us vs rest e h c)))))
      (λ t. inr (inl (refl, refl), t))
    where
      Q : Found Raw → Type 0
      Q = PostIs (name n ∷ ts)

  abbrev InBraces : List Token → Found Raw → Type 0
  InBraces ts x = PostIs (mark open_brace ∷ ts) x

  members_of : (es : Raws) (ts us rest : List Token) → ItemsRead es ts us → us ≡ mark close_brace ∷ rest → Reads (members es) (expr 10) (mark open_brace ∷ ts) rest
  members_of none ts us rest h c = absurd h
  members_of (one e es) ts us rest (vs, h, i) c = inl (refl, (ts, refl, (vs, h, (us, i, c))))

  braces_are : (f : ℕ) (ts : List Token) (es : Raws) (us : List Token) → ItemsRead es ts us → Holds (InBraces ts) (in_braces f read whole ts es us)
  braces_are f ts es us h = holds_if Q (begins dot us) _ _
      (λ t. holds_found Q (BindersAre ts) (parse_binders f ts) _ (binders_are f ts) (λ bs vs hb. holds_expect Q dot vs _ (λ ws d.
      holds_found Q (RawIs pred ws) (whole ws) _ (w ws) (λ p xs hp. holds_expect Q bar xs _ (λ ys i. holds_found Q (RawIs (expr 0) ys) (read ys) _ (r ys) (λ e zs he.
      holds_expect Q close_brace zs _ (λ rest c. inl (inl (refl, (ts, refl, (vs, hb, (ws, d, (xs, hp, (ys, i, (zs, he, c)))))))))))))))
      (λ t. holds_if Q (begins bar us) _ _
      (λ t. holds_found Q (BindersAre ts) (parse_binders f ts) _ (binders_are f ts) (λ bs vs hb. bar_behind bs vs hb))
      (λ t. holds_expect Q close_brace us _ (λ rest c. inl (members_of es ts us rest h c))))
    where
      Q : Found Raw → Type 0
      Q = InBraces ts

      bar_behind : (bs : List Binder) (vs : List Token) → ReadsBinders bs ts vs
          → Holds (InBraces ts) (first_binder bs (λ b. expect bar vs (λ ws. on_found (whole ws) (λ p xs. expect close_brace xs (λ rest. Some (set_of b p, rest))))))
      bar_behind [] vs hb = tt
      bar_behind (b ∷ c ∷ bs) vs hb = tt
      bar_behind (b ∷ []) vs (ws, hb, same) = holds_expect (InBraces ts) bar vs _ (λ xs d. holds_found (InBraces ts) (RawIs pred xs) (whole xs) _ (w xs) (λ p ys hp.
          holds_expect (InBraces ts) close_brace ys _ (λ rest k. inl (inl (refl, (ts, refl, (ws, hb, (xs, same ∙ d, (ys, hp, k)))))))))

  param_is : (ts us : List Token) → ts ≡ mark param_sign ∷ us → Holds (PostIs ts) (param_at us)
  param_is ts [] e = tt
  param_is ts (name n ∷ us) e = tt
  param_is ts (mark m ∷ us) e = tt
  param_is ts (number i ∷ us) e = holds_if (PostIs ts) (nat_lt i (2 ^ 32)) _ _ (λ t. inl (inl (below i (2 ^ 32) t, (refl, (number i ∷ us, e, refl))))) (λ t. tt)

  call_asks : (m : ℕ) → is_among calls m ≡ true → around_operand m (expr 10) ≡ Some (expr 0)
  call_asks m h = among_all (λ i. around_operand i (expr 10) ≡ Some (expr 0)) calls (refl, (refl, (refl, (refl, (refl, (refl, (refl, (refl, tt)))))))) m h

  mark_is : (f m : ℕ) (ts : List Token) → Holds (PostIs (mark m ∷ ts)) (at_mark f read whole m ts)
  mark_is f m ts =
      holds_if Q (is_among words m) _ _ (λ t. inl (inl (or_second (is_among (true_word ∷ false_word ∷ []) m && false) _ (and_true (is_among words m) true t refl), refl))) (λ t.
      holds_if Q (m == param_sign) _ _ (λ t. param_is (mark m ∷ ts) ts (is param_sign t)) (λ t.
      holds_if Q (m == type_word) _ _ (λ t. holds_expect Q open_paren ts _ (λ us e. holds_found Q (TypeIs true us) (parse_type f a_type us) _ (type_is f us) (λ a vs h.
      holds_expect Q close_paren vs _ (λ rest c. inl (inl (refl, (ts, is type_word t, (us, e, (vs, h, c))))))))) (λ t.
      holds_if Q (is_among calls m) _ _ (λ t. holds_expect Q open_paren ts _ (λ us e. holds_found Q (RawIs (expr 0) us) (read us) _ (r us) (λ x vs h.
      holds_expect Q close_paren vs _ (λ rest c. inl (inl (with_one (around_operand m (expr 10)) (expr 0) (λ q. Is (mark m) then Is (mark open_paren) then Reads x q then Is (mark close_paren)) (mark m ∷ ts) rest
      (call_asks m t) (ts, refl, (us, e, (vs, h, c))))))))) (λ t.
      holds_if Q (m == open_paren) _ _ (λ t. holds_found Q (RawIs (expr 0) ts) (read ts) _ (r ts) (λ x vs h. holds_expect Q close_paren vs _ (λ rest c.
      inl ((paren_raw x).wraps (expr 10) (mark m ∷ ts) ts rest (is open_paren t) (subst (λ xs. Reads x (expr 0) ts xs) c h))))) (λ t.
      holds_if Q (m == open_brace) _ _ (λ t. subst (λ i. Holds (PostIs (mark i ∷ ts)) (if begins close_brace ts then expect close_brace ts (λ rest. Some (members none, rest)) else on_found (items f read ts) (in_braces f read whole ts)))
      (sym (eqb-true m open_brace t)) (braced)) (λ t.
      holds_if Q (m == bool_word) _ _ (λ t. holds_expect Q open_paren ts _ (λ us e. holds_found Q (RawIs pred us) (whole us) _ (w us) (λ x vs h.
      holds_expect Q close_paren vs _ (λ rest c. inl (inl (ts, is bool_word t, (us, e, (vs, h, c)))))))) (λ t. tt)))))))
    where
      Q : Found Raw → Type 0
      Q = PostIs (mark m ∷ ts)

      is : (k : ℕ) → (m == k) ≡ true → mark m ∷ ts ≡ mark k ∷ ts
      is k t = ap (λ i. mark i ∷ ts) (eqb-true m k t)

      braced : Holds (InBraces ts) (if begins close_brace ts then expect close_brace ts (λ rest. Some (members none, rest)) else on_found (items f read ts) (in_braces f read whole ts))
      braced = holds_if (InBraces ts) (begins close_brace ts) _ _ (λ t. holds_expect (InBraces ts) close_brace ts _ (λ rest c. inl (inl (refl, (ts, refl, c)))))
          (λ t. holds_found (InBraces ts) (ItemsAre ts) (items f read ts) _ (items_are f ts) (λ es us h. braces_are f ts es us h))

  prim_is : (f : ℕ) (ts : List Token) → Holds (PostIs ts) (prim f read whole ts)
  prim_is f [] = tt
  prim_is f (number n ∷ ts) = inl (inl (refl, refl))
  prim_is f (name n ∷ ts) = name_is f n ts
  prim_is f (mark m ∷ ts) = mark_is f m ts

  as_post : (a : Raw) (start ts : List Token) → PostIs start (a, ts) → Reads a (expr 9) start ts
  as_post a start ts (inl h) = lower a 10 9 (omega arith) start ts h
  as_post a start ts (inr h) = h.0

  posts_are : (n : ℕ) (a : Raw) (start ts : List Token) → PostIs start (a, ts) → Holds (RawIs (expr 9) start) (posts n read a ts)
  posts_are zero a start ts h = as_post a start ts h
  posts_are (suc n) a start ts h = holds_if Q (begins inverse_sign ts) _ _
      (λ t. holds_expect Q inverse_sign ts _ (λ us e. posts_are n (inverse a) start us (inl (inl (refl, (ts, as_post a start ts h, e))))))
      (λ t. holds_if Q (begins open_paren ts) _ _
      (λ t. holds_expect Q open_paren ts _ (λ us e. holds_found Q (RawIs (expr 0) us) (read us) _ (r us) (λ x vs i. holds_expect Q close_paren vs _ (λ rest c.
      posts_are n (apply a x) start rest (inl (inl (refl, (ts, function h t, (us, e, (vs, i, c))))))))))
      (λ t. holds_if Q (begins open_bracket ts) _ _
      (λ t. holds_expect Q open_bracket ts _ (λ us e. holds_found Q (RawIs (expr 0) us) (read us) _ (r us) (λ x vs i. holds_expect Q close_bracket vs _ (λ rest c.
      posts_are n (image a x) start rest (inl (inl (refl, (ts, as_post a start ts h, (us, e, (vs, i, c))))))))))
      (λ t. as_post a start ts h)))
    where
      Q : Found Raw → Type 0
      Q = RawIs (expr 9) start

      function : PostIs start (a, ts) → begins open_paren ts ≡ true → Reads a (expr 10) start ts
      function (inl h) t = h
      function (inr h) t = clash (begins open_paren ts) t h.1

  -- behind the dot
  collects_are : (start : List Token) (end : Raw → Raw → List Token → Option (Found Raw)) (ts : List Token)
      → ((p e : Raw) (xs ys zs : List Token) → Reads p pred ts xs → xs ≡ mark bar ∷ ys → Reads e (expr 0) ys zs → Holds (RawIs (expr 0) start) (end p e zs))
      → Holds (RawIs (expr 0) start) (collects read whole end ts)
  collects_are start end ts f = holds_found (RawIs (expr 0) start) (RawIs pred ts) (whole ts) _ (w ts) (λ p xs h. holds_expect (RawIs (expr 0) start) bar xs _ (λ ys d.
      holds_found (RawIs (expr 0) start) (RawIs (expr 0) ys) (read ys) _ (r ys) (λ e zs i. f p e xs ys zs h d i)))

  union_is : (f : ℕ) (ts : List Token) → Holds (RawIs (expr 0) ts) (overs f union_over_word read whole ts)
  union_is f ts = holds_expect (RawIs (expr 0) ts) union_over_word ts _ (λ us e. holds_found (RawIs (expr 0) ts) (BindersAre us) (parse_binders f us) _ (binders_are f us) (λ bs vs hb.
      holds_expect (RawIs (expr 0) ts) dot vs _ (λ ws d. collects_are ts (λ p e rest. Some (collected union_over_word bs p e, rest)) ws (λ p x xs ys zs h i k.
      inl (refl, (us, e, (vs, hb, (ws, d, (xs, h, (ys, i, (zs, k, refl)))))))))))

  inter_is : (f : ℕ) (ts : List Token) → Holds (RawIs (expr 0) ts) (overs f inter_over_word read whole ts)
  inter_is f ts = holds_expect (RawIs (expr 0) ts) inter_over_word ts _ (λ us e. holds_found (RawIs (expr 0) ts) (BindersAre us) (parse_binders f us) _ (binders_are f us) (λ bs vs hb.
      holds_expect (RawIs (expr 0) ts) dot vs _ (λ ws d. collects_are ts (λ p e rest. Some (collected inter_over_word bs p e, rest)) ws (λ p x xs ys zs h i k.
      inl (refl, (us, e, (vs, hb, (ws, d, (xs, h, (ys, i, (zs, k, refl)))))))))))

  special_is : (f : ℕ) (ts : List Token) → Holds (RawIs (expr 0) ts) (special f read whole ts)
  special_is f ts = holds_if (RawIs (expr 0) ts) (begins lambda_sign ts) _ _
      (λ t. holds_expect (RawIs (expr 0) ts) lambda_sign ts _ (λ us e. holds_found (RawIs (expr 0) ts) (PatternIs true us) (parse_pattern f a_pattern us) _ (pattern_is f us) (λ x vs hb.
      holds_expect (RawIs (expr 0) ts) dot vs _ (λ ws d. collects_are ts (λ p e rest. Some (lambda x p e, rest)) ws (λ p v xs ys zs h i k.
      inl (refl, (us, e, (vs, hb, (ws, d, (xs, h, (ys, i, k)))))))))))
      (λ t. holds_if (RawIs (expr 0) ts) (begins union_over_word ts) _ _ (λ t. union_is f ts) (λ t. inter_is f ts))

  -- relations
  call_as_lit : (n : List ℕ) (es : Raws) (ts rest : List Token) → Reads (call n es) (expr 0) ts rest → Reads (call n es) lit ts rest
  call_as_lit n none ts rest (inl h) = inl (refl, h.1)
  call_as_lit n none ts rest (inr (k, (mid, o, (to, h, c)))) = inr (k, (mid, o, (to, (refl, h.1), c)))
  call_as_lit n (one e es) ts rest (inl h) = inl (refl, h.1)
  call_as_lit n (one e es) ts rest (inr (k, (mid, o, (to, h, c)))) = inr (k, (mid, o, (to, (refl, h.1), c)))

  call_is : (a : Raw) (start ts : List Token) → Reads a (expr 0) start ts → Holds (RawIs lit start) (call_only a ts)
  call_is (call n es) start ts h = call_as_lit n es start ts h
  call_is (word m) start ts h = tt
  call_is (literal n) start ts h = tt
  call_is (param i) start ts h = tt
  call_is (type_set a) start ts h = tt
  call_is (around m e) start ts h = tt
  call_is (unary m e) start ts h = tt
  call_is (binary m a b) start ts h = tt
  call_is (inverse e) start ts h = tt
  call_is (apply e f) start ts h = tt
  call_is (image e f) start ts h = tt
  call_is (of_type e a) start ts h = tt
  call_is (quantified m bs e) start ts h = tt
  call_is (set_of x e) start ts h = tt
  call_is (collected m bs e f) start ts h = tt
  call_is (lambda x e f) start ts h = tt
  call_is (members es) start ts h = tt
  call_is (written a) start ts h = tt

  relation_asks : (m : ℕ) → is_among relation_signs m ≡ true → operands m lit ≡ Some (two (expr 0) (expr 0))
  relation_asks m h = among_all (λ i. operands i lit ≡ Some (two (expr 0) (expr 0))) relation_signs (refl, (refl, (refl, (refl, (refl, (refl, (refl, (refl, (refl, (refl, tt)))))))))) m h

  related_is : (a : Raw) (start ts : List Token) → Reads a (expr 0) start ts → Holds (RawIs lit start) (related read a ts)
  related_is a start [] h = call_is a start [] h
  related_is a start (name n ∷ ts) h = call_is a start (name n ∷ ts) h
  related_is a start (number n ∷ ts) h = call_is a start (number n ∷ ts) h
  related_is a start (mark m ∷ ts) h = holds_if (RawIs lit start) (is_among relation_signs m) _ _
      (λ t. holds_found (RawIs lit start) (RawIs (expr 0) ts) (read ts) _ (r ts) (λ b rest i.
      inl (with_two (operands m lit) (two (expr 0) (expr 0)) (λ x y. Reads a x then Is (mark m) then Reads b y) start rest (relation_asks m t) (mark m ∷ ts, h, (ts, refl, i)))))
      (λ t. call_is a start (mark m ∷ ts) h)

  behind_is : (ts : List Token) (o : Option (List Token)) → Holds (RawIs lit ts) (behind_open read whole ts o)
  behind_is ts None = tt
  behind_is ts (Some rest) = holds_if (RawIs lit ts) (goes_on rest || is_relation rest) _ _
      (λ t. holds_found (RawIs lit ts) (RawIs (expr 0) ts) (read ts) _ (r ts) (λ a us h. related_is a ts us h))
      (λ t. holds_expect (RawIs lit ts) open_paren ts _ (λ us e. holds_found (RawIs lit ts) (RawIs pred us) (whole us) _ (w us) (λ p vs h. holds_expect (RawIs lit ts) close_paren vs _ (λ rest c.
      (paren_raw p).wraps lit ts us rest e (subst (λ xs. Reads p pred us xs) c h)))))

  atom_is : (ts : List Token) → Holds (RawIs lit ts) (atom read whole ts)
  atom_is ts =
      holds_if (RawIs lit ts) (begins true_word ts) _ _ (λ t. holds_expect (RawIs lit ts) true_word ts _ (λ us e. inl (refl, e))) (λ t.
      holds_if (RawIs lit ts) (begins false_word ts) _ _ (λ t. holds_expect (RawIs lit ts) false_word ts _ (λ us e. inl (refl, e))) (λ t.
      holds_if (RawIs lit ts) (begins finite_word ts) _ _ (λ t. holds_expect (RawIs lit ts) finite_word ts _ (λ us e. holds_expect (RawIs lit ts) open_paren us _ (λ vs d.
      holds_found (RawIs lit ts) (RawIs (expr 0) vs) (read vs) _ (r vs) (λ x ws h. holds_expect (RawIs lit ts) close_paren ws _ (λ rest c. inl (us, e, (vs, d, (ws, h, c)))))))) (λ t.
      holds_if (RawIs lit ts) (begins open_paren ts) _ _ (λ t. behind_is ts (after_open ts))
      (λ t. holds_found (RawIs lit ts) (RawIs (expr 0) ts) (read ts) _ (r ts) (λ a us h. related_is a ts us h)))))

  lit_of : (start : List Token) (o : Option (Found Raw)) → Holds (RawIs lit start) o → Holds (LitIs start) o
  lit_of start None h = tt
  lit_of start (Some x) h = inl h

  quantifies_is : (f m : ℕ) (ts : List Token) → is_among (for_all_sign ∷ for_some_sign ∷ []) m ≡ true → Holds (LitIs ts) (quantifies f m whole ts)
  quantifies_is f m ts q = holds_expect (LitIs ts) m ts _ (λ us e. holds_found (LitIs ts) (BindersAre us) (parse_binders f us) _ (binders_are f us) (λ bs vs hb.
      holds_expect (LitIs ts) dot vs _ (λ ws d. holds_found (LitIs ts) (RawIs pred ws) (whole ws) _ (w ws) (λ p rest h.
      holds_if (LitIs ts) (connects rest) _ _ (λ t. tt) (λ t. inr (inl (q, (us, e, (vs, hb, (ws, d, h)))), t))))))

  literal_is : (f : ℕ) (again : Read) → ((ts : List Token) → Holds (LitIs ts) (again ts)) → (ts : List Token) → Holds (LitIs ts) (literal_at f again read whole ts)
  literal_is f again l ts =
      holds_if (LitIs ts) (begins not_word ts) _ _ (λ t. holds_expect (LitIs ts) not_word ts _ (λ us e. holds_found (LitIs ts) (LitIs us) (again us) _ (l us) (λ p rest h. negated p ts us rest e h))) (λ t.
      holds_if (LitIs ts) (begins for_all_sign ts) _ _ (λ t. quantifies_is f for_all_sign ts refl) (λ t.
      holds_if (LitIs ts) (begins for_some_sign ts) _ _ (λ t. quantifies_is f for_some_sign ts refl) (λ t. lit_of ts (atom read whole ts) (atom_is ts))))
    where
      negated : (p : Raw) (ts us rest : List Token) → ts ≡ mark not_word ∷ us → LitIs us (p, rest) → LitIs ts (unary not_word p, rest)
      negated p ts us rest e (inl h) = inl (inl (us, e, h))
      negated p ts us rest e (inr h) = inr (inl (us, e, h.0), h.1)

-- levels
climb_is : (n k : ℕ) (read : Read) → ((ts : List Token) → Holds (RawIs (expr (suc k)) ts) (read ts)) → is_among chain_levels k ≡ true → (a : Raw) (start ts : List Token) → Reads a (expr k) start ts
    → Holds (RawIs (expr k) start) (climb n read k a ts)
climb_is zero k read r c a start ts h = h
climb_is (suc n) k read r c a start [] h = h
climb_is (suc n) k read r c a start (name x ∷ ts) h = h
climb_is (suc n) k read r c a start (number x ∷ ts) h = h
climb_is (suc n) k read r c a start (mark m ∷ ts) h = holds_if (RawIs (expr k) start) (is_at k (operator_of m)) _ _
    (λ t. holds_found (RawIs (expr k) start) (RawIs (expr (suc k)) ts) (read ts) _ (r ts) (λ b rest i.
    climb_is n k read r c (binary m a b) start rest (joined (operator_here m k t) b rest i)))
    (λ t. h)
  where
    sides : (o : OperatorAt m k) → ((is_among chain_levels k ≡ true) × (o.left ≡ k) × (o.right ≡ suc k)) ⊎ ((is_among once_levels k ≡ true) × (o.left ≡ suc k) × (o.right ≡ suc k))
        → (o.left ≡ k) × (o.right ≡ suc k)
    sides o (inl s) = (s.1, s.2)
    sides o (inr s) = clash (is_among once_levels k) s.0 (not_once k c)

    joined : OperatorAt m k → (b : Raw) (rest : List Token) → Reads b (expr (suc k)) ts rest → Reads (binary m a b) (expr k) start rest
    joined o b rest i = let s = sides o o.kind in
        inl (with_two (operands m (expr k)) (two (expr o.left) (expr o.right)) (λ x y. Reads a x then Is (mark m) then Reads b y) start rest o.asks
        (mark m ∷ ts, subst (λ j. Reads a (expr j) start (mark m ∷ ts)) (sym s.0) h, (ts, refl, subst (λ j. Reads b (expr j) ts rest) (sym s.1) i)))

once_is : (k : ℕ) (read : Read) → ((ts : List Token) → Holds (RawIs (expr (suc k)) ts) (read ts)) → is_among chain_levels k ≡ false → (a : Raw) (start ts : List Token) → Reads a (expr (suc k)) start ts
    → Holds (RawIs (expr k) start) (once read k a ts)
once_is k read r c a start [] h = lower a (suc k) k (omega arith) start [] h
once_is k read r c a start (name x ∷ ts) h = lower a (suc k) k (omega arith) start (name x ∷ ts) h
once_is k read r c a start (number x ∷ ts) h = lower a (suc k) k (omega arith) start (number x ∷ ts) h
once_is k read r c a start (mark m ∷ ts) h = holds_if (RawIs (expr k) start) (is_at k (operator_of m)) _ _
    (λ t. holds_found (RawIs (expr k) start) (RawIs (expr (suc k)) ts) (read ts) _ (r ts) (λ b rest i. joined (operator_here m k t) b rest i))
    (λ t. lower a (suc k) k (omega arith) start (mark m ∷ ts) h)
  where
    sides : (o : OperatorAt m k) → ((is_among chain_levels k ≡ true) × (o.left ≡ k) × (o.right ≡ suc k)) ⊎ ((is_among once_levels k ≡ true) × (o.left ≡ suc k) × (o.right ≡ suc k))
        → (o.left ≡ suc k) × (o.right ≡ suc k)
    sides o (inl s) = clash (is_among chain_levels k) s.0 c
    sides o (inr s) = (s.1, s.2)

    joined : OperatorAt m k → (b : Raw) (rest : List Token) → Reads b (expr (suc k)) ts rest → Reads (binary m a b) (expr k) start rest
    joined o b rest i = let s = sides o o.kind in
        inl (with_two (operands m (expr k)) (two (expr o.left) (expr o.right)) (λ x y. Reads a x then Is (mark m) then Reads b y) start rest o.asks
        (mark m ∷ ts, subst (λ j. Reads a (expr j) start (mark m ∷ ts)) (sym s.0) h, (ts, refl, subst (λ j. Reads b (expr j) ts rest) (sym s.1) i)))

typed_is : (f : ℕ) (a : Raw) (start ts : List Token) → Reads a (expr 1) start ts → Holds (RawIs (expr 0) start) (typed f a ts)
typed_is f a start ts h = holds_if (RawIs (expr 0) start) (begins oftype_word ts) _ _
    (λ t. holds_expect (RawIs (expr 0) start) oftype_word ts _ (λ us e. holds_found (RawIs (expr 0) start) (TypeIs true us) (parse_type f a_type us) _ (type_is f us) (λ b rest i.
    inl (refl, (ts, h, (us, e, i))))))
    (λ t. lower a 1 0 (omega arith) start ts h)

operand_is : (k f : ℕ) (read : Read) → ((ts : List Token) → Holds (RawIs (expr (suc k)) ts) (read ts)) → (a : Raw) (start ts : List Token) → Reads a (expr (suc k)) start ts
    → Holds (RawIs (expr k) start) (after_operand k f read a ts)
operand_is k f read r a start ts h = holds_if (RawIs (expr k) start) (k == 0) _ _
    (λ t. let is0 : k ≡ 0 = eqb-true k 0 t in
    subst (λ i. Holds (RawIs (expr i) start) (typed f a ts)) (sym is0) (typed_is f a start ts (subst (λ i. Reads a (expr (suc i)) start ts) is0 h)))
    (λ t. holds_if (RawIs (expr k) start) (is_among chain_levels k) _ _ (λ c. climb_is f k read r c a start ts (lower a (suc k) k (omega arith) start ts h))
    (λ c. holds_if (RawIs (expr k) start) (is_among once_levels k) _ _ (λ o. once_is k read r c a start ts h) (λ o. lower a (suc k) k (omega arith) start ts h)))

-- chains of one connective
module _ (again : Read) (l : (ts : List Token) → Holds (LitIs ts) (again ts)) (m : ℕ) (p : Part) (start : List Token)
    (ends : (a : Raw) (ts : List Token) → Reads a p start ts → Reads a conj start ts)
    (stops : (ts : List Token) → connects ts ≡ false → begins m ts ≡ false)
    (step : (a b : Raw) (ts us rest : List Token) → Reads a p start ts → ts ≡ mark m ∷ us → Reads b lit us rest → Reads (binary m a b) p start rest)
    (last : (a b : Raw) (ts us rest : List Token) → Reads a p start ts → ts ≡ mark m ∷ us → Reads b lit_or_quant us rest → Reads (binary m a b) conj_or_tail start rest)
  where
    connect_is : (n : ℕ) (a : Raw) (ts : List Token) → Reads a p start ts → Holds (ConjIs start) (connect n again m a ts)
    connect_is zero a ts h = inl (ends a ts h)
    connect_is (suc n) a ts h = holds_if (ConjIs start) (begins m ts) _ _
        (λ t. holds_expect (ConjIs start) m ts _ (λ us e. holds_found (ConjIs start) (LitIs us) (again us) _ (l us) (λ b rest i. more b us rest e i (λ g. connect_is n (binary m a b) rest g))))
        (λ t. inl (ends a ts h))
      where
        more : (b : Raw) (us rest : List Token) → ts ≡ mark m ∷ us → LitIs us (b, rest) → (Reads (binary m a b) p start rest → Holds (ConjIs start) (connect n again m (binary m a b) rest))
            → Holds (ConjIs start) (connect n again m (binary m a b) rest)
        more b us rest e (inl i) go = go (step a b ts us rest h e i)
        more b us rest e (inr i) go =
            subst (λ o. Holds (ConjIs start) o) (sym (connect_stops n again m (binary m a b) rest (stops rest i.1))) (inr (last a b ts us rest h e i.0, i.1))

no_and : (ts : List Token) → connects ts ≡ false → begins and_sign ts ≡ false
no_and ts h = (or_false (begins and_sign ts) _ h).0

no_or : (ts : List Token) → connects ts ≡ false → begins or_word ts ≡ false
no_or ts h = (or_false (begins or_word ts) _ (or_false (begins and_sign ts) _ h).1).0

no_implies : (ts : List Token) → connects ts ≡ false → begins implies_sign ts ≡ false
no_implies ts h = (or_false (begins implies_sign ts) _ (or_false (begins or_word ts) _ (or_false (begins and_sign ts) _ h).1).1).0

no_iff : (ts : List Token) → connects ts ≡ false → begins iff_sign ts ≡ false
no_iff ts h = (or_false (begins implies_sign ts) _ (or_false (begins or_word ts) _ (or_false (begins and_sign ts) _ h).1).1).1

connected_is : (f : ℕ) (again : Read) → ((ts : List Token) → Holds (LitIs ts) (again ts)) → (a : Raw) (start ts : List Token) → LitIs start (a, ts) → Holds (ConjIs start) (connected f again a ts)
connected_is f again l a start ts (inl h) =
    holds_if (ConjIs start) (begins and_sign ts) _ _
    (λ t. connect_is again l and_sign ands start (λ a ts h. ands_to_conj a start ts h) no_and (λ a b ts us rest h e i. inl (ts, h, (us, e, i))) (λ a b ts us rest h e i. inl (ts, h, (us, e, i))) f a ts (lit_to_ands a start ts h))
    (λ t. holds_if (ConjIs start) (begins or_word ts) _ _
    (λ t. connect_is again l or_word ors start (λ a ts h. ors_to_conj a start ts h) no_or (λ a b ts us rest h e i. inl (ts, h, (us, e, i))) (λ a b ts us rest h e i. inl (ts, h, (us, e, i))) f a ts (lit_to_ors a start ts h))
    (λ t. inl (ands_to_conj a start ts (lit_to_ands a start ts h))))
connected_is f again l a start ts (inr h) =
    subst (λ o. Holds (ConjIs start) o) (sym stays) (inr (quant_to_tail a start ts h.0, h.1))
  where
    stays : connected f again a ts ≡ Some (a, ts)
    stays = rw (no_and ts h.1, no_or ts h.1) refl

tail_of : (b : Raw) (ts rest : List Token) → ConjIs ts (b, rest) → Reads b conj_or_tail ts rest
tail_of b ts rest (inl h) = conj_to_tail b ts rest h
tail_of b ts rest (inr h) = h.0

implied_is : (again : Read) → ((ts : List Token) → Holds (ConjIs ts) (again ts)) → (a : Raw) (start ts : List Token) → ConjIs start (a, ts) → Holds (RawIs pred start) (implied again a ts)
implied_is again l a start ts (inl h) =
    holds_if (RawIs pred start) (begins implies_sign ts) _ _
    (λ t. holds_expect (RawIs pred start) implies_sign ts _ (λ us e. holds_found (RawIs pred start) (ConjIs us) (again us) _ (l us) (λ b rest i. inl (ts, h, (us, e, tail_of b us rest i)))))
    (λ t. holds_if (RawIs pred start) (begins iff_sign ts) _ _
    (λ t. holds_expect (RawIs pred start) iff_sign ts _ (λ us e. holds_found (RawIs pred start) (ConjIs us) (again us) _ (l us) (λ b rest i. inl (ts, h, (us, e, tail_of b us rest i)))))
    (λ t. tail_to_pred a start ts (conj_to_tail a start ts h)))
implied_is again l a start ts (inr h) = subst (λ o. Holds (RawIs pred start) o) (sym stays) (tail_to_pred a start ts h.0)
  where
    stays : implied again a ts ≡ Some (a, ts)
    stays = rw (no_implies ts h.1, no_iff ts h.1) refl

nine_of : (k : ℕ) → k ≤ 9 → nat_le 9 k ≡ true → k ≡ 9
nine_of k le h = grind (arith, nat_tests)

low_of : (k : ℕ) → nat_le 9 k ≡ false → suc k ≤ 9
low_of k h = grind (arith, nat_tests)

mutual
  pub level_is : (g k : ℕ) → k ≤ 9 → (ts : List Token) → Holds (RawIs (expr k) ts) (parse g (level k) ts)
  level_is zero k le ts = tt
  level_is (suc f) k le ts = holds_if (RawIs (expr k) ts) (nat_le 9 k) _ _
      (λ t. subst (λ i. Holds (RawIs (expr i) ts) (on_found (prim f (parse f (level 0)) (parse f a_pred) ts) (posts f (parse f (level 0))))) (sym (nine_of k le t))
      (holds_found (RawIs (expr 9) ts) (PostIs ts) (prim f (parse f (level 0)) (parse f a_pred) ts) _
      (prim_is (parse f (level 0)) (parse f a_pred) (λ ts. level_is f 0 (omega arith) ts) (λ ts. pred_is f ts) f ts)
      (λ a us h. posts_are (parse f (level 0)) (parse f a_pred) (λ ts. level_is f 0 (omega arith) ts) (λ ts. pred_is f ts) f a ts us h)))
      (λ t. holds_if (RawIs (expr k) ts) (k == 7 && begins minus_sign ts) _ _
      (λ s. holds_expect (RawIs (expr k) ts) minus_sign ts _ (λ us e. holds_found (RawIs (expr k) ts) (RawIs (expr 8) us) (parse f (level 8) us) _ (level_is f 8 (omega arith) us) (λ x vs h.
      subst (λ i. Reads (unary minus_sign x) (expr i) ts vs) (sym (eqb-true k 7 (and_parts (k == 7) (begins minus_sign ts) s).0)) (inl (us, e, h)))))
      (λ s. holds_if (RawIs (expr k) ts) (k == 0 && begins_special ts) _ _
      (λ z. subst (λ i. Holds (RawIs (expr i) ts) (special f (parse f (level 0)) (parse f a_pred) ts)) (sym (eqb-true k 0 (and_parts (k == 0) (begins_special ts) z).0))
      (special_is (parse f (level 0)) (parse f a_pred) (λ ts. level_is f 0 (omega arith) ts) (λ ts. pred_is f ts) f ts))
      (λ z. holds_found (RawIs (expr k) ts) (RawIs (expr (suc k)) ts) (parse f (level (suc k)) ts) _ (level_is f (suc k) (low_of k t) ts)
      (λ a us h. operand_is k f (parse f (level (suc k))) (λ ts. level_is f (suc k) (low_of k t) ts) a ts us h))))

  pub lit_is : (g : ℕ) (ts : List Token) → Holds (LitIs ts) (parse g a_lit ts)
  lit_is zero ts = tt
  lit_is (suc f) ts = literal_is (parse f (level 0)) (parse f a_pred) (λ ts. level_is f 0 (omega arith) ts) (λ ts. pred_is f ts) f (parse f a_lit) (λ ts. lit_is f ts) ts

  pub conj_is : (g : ℕ) (ts : List Token) → Holds (ConjIs ts) (parse g a_conj ts)
  conj_is zero ts = tt
  conj_is (suc f) ts = holds_found (ConjIs ts) (LitIs ts) (parse f a_lit ts) _ (lit_is f ts) (λ a us h. connected_is f (parse f a_lit) (λ ts. lit_is f ts) a ts us h)

  pub pred_is : (g : ℕ) (ts : List Token) → Holds (RawIs pred ts) (parse g a_pred ts)
  pred_is zero ts = tt
  pred_is (suc f) ts = holds_found (RawIs pred ts) (ConjIs ts) (parse f a_conj ts) _ (conj_is f ts) (λ a us h. implied_is (parse f a_conj) (λ ts. conj_is f ts) a ts us h)
