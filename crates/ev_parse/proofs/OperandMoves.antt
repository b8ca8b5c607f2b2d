-- What comes behind a primary and behind an operand.
use Rattle.std.proofs.Common.{◌≡◌, ℕ, zero, suc, ◌+◌, ◌-◌, ◌<◌, ◌≤◌, Bool, true, false, List, [], ◌∷◌, ◌++◌, refl, ap, subst, sym, ◌∙◌, arith, append-nil, append_assoc, ◌⊎◌, inl, inr}
use Rattle.std.specs.Prelude.{Option, Some, None, ◌==◌, ◌&&◌, nat_lt, nat_le, if◌then◌else◌}
use Rattle.std.proofs.lemmas.Bool.{eq-eqb}
use Rattle.std.proofs.lemmas.Bool.Decides.{nat_tests}
use Rattle.ev_syntax.specs.Marks.{inverse_sign, open_paren, open_bracket, oftype_word, close_paren, close_bracket}
use Rattle.ev_syntax.specs.Tokens.{Token, mark}
use Rattle.ev_syntax.specs.Raw.{RawType, Raw, binary, inverse, apply, image, of_type}
use Rattle.ev_syntax.specs.Parts.{Operator, operators, is_among}
use Rattle.ev_syntax.specs.inner.Lookahead.{operator_of, is_at, first_operator}
use Rattle.ev_parse.specs.inner.Levels.{level_of, operator_level}
use Rattle.ev_syntax.specs.inner.Finding.{Found, on_found, Comes}
use Rattle.ev_syntax.specs.inner.TypeParser.{begins, parse_type, a_type}
use Rattle.ev_syntax.specs.inner.FormulaParser.{level, parse, posts, climb, once, typed, after_operand, chain_levels, once_levels, Read}
use Rattle.ev_syntax.specs.inner.Resuming.{Settles, Behind, Reach, FromCall}
use Rattle.ev_parse.specs.inner.Frames.{level_at, post_behind, level_behind, levels, between, tail, argument_behind, image_behind, right_behind}
use Rattle.ev_syntax.proofs.Levels.{found_good, all_good, is_good, and_parts, or_parts}
use Rattle.ev_syntax.proofs.Resumes.{settles_like, settles_turn, settles_bind, done, found_inside, moves_inside, work_inside, nothing_inside}
use Rattle.ev_syntax.proofs.TypeMoves.{expect_no}

module _ (whole : ℕ → Option (Found Raw)) (bs : List (Behind Raw)) where
  abbrev pub FoundBy : List (Behind Raw) → Raw → List Token → Type 0
  FoundBy cs r ts = Reach whole (bs ++ cs) (Some (r, ts))

  -- behind a primary
  pub inverted : (k : ℕ) (r : Raw) (ts us : List Token) → ts ≡ mark inverse_sign ∷ us → FoundBy (tail k) r ts → FoundBy (tail k) (inverse r) us
  inverted k r ts us e h = moves_inside whole bs (between k 9) post_behind post_behind r (inverse r) ts us h (λ z s.
      subst (λ xs. Settles (λ n g. posts n (parse g (level 0)) r xs) z) (sym e)
      (settles_turn (λ n g. posts n (parse g (level 0)) r (mark inverse_sign ∷ us)) (λ n g. posts n (parse g (level 0)) (inverse r) us) z (λ n g. refl) s))

  pub argued : (k : ℕ) (r : Raw) (ts us : List Token) → ts ≡ mark open_paren ∷ us → FoundBy (tail k) r ts → FromCall whole (bs ++ (between k 9 ++ argument_behind r ∷ [])) (level_at 0 us)
  argued k r ts us e h = work_inside whole bs (between k 9) post_behind (argument_behind r) r ts (level_at 0 us) h (λ x z c s.
      subst (λ xs. Settles (λ n g. posts n (parse g (level 0)) r xs) z) (sym e)
      (settles_turn (λ n g. posts n (parse g (level 0)) r (mark open_paren ∷ us)) (λ n g. on_found (parse g (level 0) us) (argument_behind r n g)) z (λ n g. refl)
      (settles_bind (level_at 0 us) (λ n g. argument_behind r n g) x z c s)))

  pub imaged : (k : ℕ) (r : Raw) (ts us : List Token) → ts ≡ mark open_bracket ∷ us → FoundBy (tail k) r ts → FromCall whole (bs ++ (between k 9 ++ image_behind r ∷ [])) (level_at 0 us)
  imaged k r ts us e h = work_inside whole bs (between k 9) post_behind (image_behind r) r ts (level_at 0 us) h (λ x z c s.
      subst (λ xs. Settles (λ n g. posts n (parse g (level 0)) r xs) z) (sym e)
      (settles_turn (λ n g. posts n (parse g (level 0)) r (mark open_bracket ∷ us)) (λ n g. on_found (parse g (level 0) us) (image_behind r n g)) z (λ n g. refl)
      (settles_bind (level_at 0 us) (λ n g. image_behind r n g) x z c s)))

  posts_end : (n : ℕ) (read : Read) (r : Raw) (ts : List Token) → begins inverse_sign ts ≡ false → begins open_paren ts ≡ false → begins open_bracket ts ≡ false → posts n read r ts ≡ Some (r, ts)
  posts_end zero read r ts a b c = refl
  posts_end (suc n) read r ts a b c = rw (a, b, c)

  pub no_post : (k : ℕ) (r : Raw) (ts : List Token) → begins inverse_sign ts ≡ false → begins open_paren ts ≡ false → begins open_bracket ts ≡ false → FoundBy (tail k) r ts → FoundBy (between k 9) r ts
  no_post k r ts a b c h = found_inside whole bs (between k 9) post_behind r ts (Some (r, ts)) h (λ n g. posts_end n (parse g (level 0)) r ts a b c)

  -- the end of an argument
  pub argument_ends : (k : ℕ) (f e : Raw) (ts us : List Token) → ts ≡ mark close_paren ∷ us → FoundBy (between k 9 ++ argument_behind f ∷ []) e ts → FoundBy (tail k) (apply f e) us
  argument_ends k f e ts us d h = moves_inside whole bs (between k 9) (argument_behind f) post_behind e (apply f e) ts us h (λ z s.
      subst (λ xs. Settles (λ n g. argument_behind f n g e xs) z) (sym d) s)

  pub argument_open : (k : ℕ) (f e : Raw) (ts : List Token) → begins close_paren ts ≡ false → FoundBy (between k 9 ++ argument_behind f ∷ []) e ts → Reach whole bs None
  argument_open k f e ts d h = nothing_inside whole bs (between k 9) (found_inside whole bs (between k 9) (argument_behind f) e ts None h (λ n g. expect_no close_paren ts _ d))

  pub image_ends : (k : ℕ) (f e : Raw) (ts us : List Token) → ts ≡ mark close_bracket ∷ us → FoundBy (between k 9 ++ image_behind f ∷ []) e ts → FoundBy (tail k) (image f e) us
  image_ends k f e ts us d h = moves_inside whole bs (between k 9) (image_behind f) post_behind e (image f e) ts us h (λ z s.
      subst (λ xs. Settles (λ n g. image_behind f n g e xs) z) (sym d) s)

  pub image_open : (k : ℕ) (f e : Raw) (ts : List Token) → begins close_bracket ts ≡ false → FoundBy (between k 9 ++ image_behind f ∷ []) e ts → Reach whole bs None
  image_open k f e ts d h = nothing_inside whole bs (between k 9) (found_inside whole bs (between k 9) (image_behind f) e ts None h (λ n g. expect_no close_bracket ts _ d))

-- levels
levels-snoc : (k d : ℕ) → levels k (suc d) ≡ levels k d ++ level_behind (k + d) ∷ []
levels-snoc k zero = let same : k ≡ k + 0 = omega arith in ap (λ i. level_behind i ∷ []) same
levels-snoc k (suc d) = let same : suc k + d ≡ k + suc d = omega arith in
    ap (λ xs. level_behind k ∷ xs) (levels-snoc (suc k) d ∙ ap (λ i. levels (suc k) d ++ level_behind i ∷ []) same)

pub between-suc : (k l : ℕ) → k ≤ l → between k (l + 1) ≡ between k l ++ level_behind l ∷ []
between-suc k l le =
    let d : (l + 1) - k ≡ suc (l - k) = omega arith in let e : k + (l - k) ≡ l = omega arith in
    ap (levels k) d ∙ levels-snoc k (l - k) ∙ ap (λ i. levels k (l - k) ++ level_behind i ∷ []) e

-- a level at which nothing goes on
abbrev pub LevelStops : ℕ → List Token → Type 0
LevelStops i ts = (is_at i (first_operator ts) ≡ false) × ((i == 0 && begins oftype_word ts) ≡ false)

climb_ends : (n : ℕ) (read : Read) (k : ℕ) (a : Raw) (ts : List Token) → is_at k (first_operator ts) ≡ false → climb n read k a ts ≡ Some (a, ts)
climb_ends zero read k a ts h = refl
climb_ends (suc n) read k a [] h = refl
climb_ends (suc n) read k a (t ∷ ts) h = rw h

once_ends : (read : Read) (k : ℕ) (a : Raw) (ts : List Token) → is_at k (first_operator ts) ≡ false → once read k a ts ≡ Some (a, ts)
once_ends read k a [] h = refl
once_ends read k a (t ∷ ts) h = rw h

level_ends : (i n : ℕ) (read : Read) (a : Raw) (ts : List Token) → LevelStops i ts → after_operand i n read a ts ≡ Some (a, ts)
level_ends i n read a ts s = go (i == 0) (is_among chain_levels i) (is_among once_levels i) s.1
  where
    go : (z b c : Bool) → (z && begins oftype_word ts) ≡ false
        → (if z then typed n a ts else (if b then climb n read i a ts else (if c then once read i a ts else Some (a, ts)))) ≡ Some (a, ts)
    go true b c h = rw h
    go false true c h = climb_ends n read i a ts s.0
    go false false true h = once_ends read i a ts s.0
    go false false false h = refl

module _ (whole : ℕ → Option (Found Raw)) (bs : List (Behind Raw)) where
  drop_levels : (d e k : ℕ) (a : Raw) (ts : List Token) → ((i : ℕ) → k + e ≤ i → i < k + (e + d) → LevelStops i ts) → FoundBy whole bs (levels k (e + d)) a ts → FoundBy whole bs (levels k e) a ts
  drop_levels zero e k a ts stops h = let same : e + 0 ≡ e = omega arith in subst (λ i. FoundBy whole bs (levels k i) a ts) same h
  drop_levels (suc d) e k a ts stops h =
      let same : e + suc d ≡ suc (e + d) = omega arith in
      drop_levels d e k a ts (λ i low high. stops i low (omega arith))
      (found_inside whole bs (levels k (e + d)) (level_behind (k + (e + d))) a ts (Some (a, ts))
      (subst (λ xs. FoundBy whole bs xs a ts) (ap (levels k) same ∙ levels-snoc k (e + d)) h)
      (λ n g. level_ends (k + (e + d)) n (parse g (level (suc (k + (e + d))))) a ts (stops (k + (e + d)) (omega arith) (omega arith))))

  pub fewer_levels : (k i j : ℕ) (a : Raw) (ts : List Token) → k ≤ i → i ≤ j → ((l : ℕ) → i ≤ l → l < j → LevelStops l ts) → FoundBy whole bs (between k j) a ts → FoundBy whole bs (between k i) a ts
  fewer_levels k i j a ts le to stops h = let same : j - k ≡ (i - k) + (j - i) = omega arith in
      drop_levels (j - i) (i - k) k a ts (λ l low high. stops l (omega arith) (omega arith)) (subst (λ d. FoundBy whole bs (levels k d) a ts) same h)

  pub no_level : (k j : ℕ) (a : Raw) (ts : List Token) → ((l : ℕ) → k ≤ l → l < j → LevelStops l ts) → FoundBy whole bs (between k j) a ts → Reach whole bs (Some (a, ts))
  no_level k j a ts stops h = let same : j - k ≡ 0 + (j - k) = omega arith in
      subst (λ xs. Reach whole xs (Some (a, ts))) (append-nil bs)
      (drop_levels (j - k) 0 k a ts (λ l low high. stops l (omega arith) (omega arith)) (subst (λ d. FoundBy whole bs (levels k d) a ts) same h))

  pub bare_found : (a : Raw) (ts : List Token) → FoundBy whole bs [] a ts → Reach whole bs (Some (a, ts))
  bare_found a ts h = subst (λ xs. Reach whole xs (Some (a, ts))) (append-nil bs) h

  -- a written type
  pub typed_part : (a : Raw) (ts us : List Token) (x : Option (Found RawType)) → ts ≡ mark oftype_word ∷ us → Comes (λ g. parse_type g a_type us) x → FoundBy whole bs (level_behind 0 ∷ []) a ts
      → Reach whole bs (on_found x (λ b vs. Some (of_type a b, vs)))
  typed_part a ts us x e c h = subst (λ xs. Reach whole xs (on_found x (λ b vs. Some (of_type a b, vs)))) (append-nil bs)
      (found_all (subst (λ xs. Reach whole xs (Some (a, ts))) (sym (append_assoc bs [] (level_behind 0 ∷ []))) h))
    where
      found_all : Reach whole ((bs ++ []) ++ level_behind 0 ∷ []) (Some (a, ts)) → Reach whole (bs ++ []) (on_found x (λ b vs. Some (of_type a b, vs)))
      found_all k = done whole (bs ++ []) (level_behind 0) (Some (a, ts)) _ k
          (subst (λ xs. Settles (λ n g. typed n a xs) (on_found x (λ b vs. Some (of_type a b, vs)))) (sym e)
          (c.0, λ n g le low. ap (λ o. on_found o (λ b vs. Some (of_type a b, vs))) (c.1 n le)))

-- the levels of signs
good_level : (m : ℕ) (o : Operator) → operator_of m ≡ Some o → (is_among chain_levels o.level ≡ true) ⊎ (is_among once_levels o.level ≡ true)
good_level m o e = let r = found_good (λ x. x.sign == m) is_good operators o all_good e in split (or_parts _ _ r.1)
  where
    split : ((is_among chain_levels o.level && (o.left == o.level && o.right == o.level + 1)) ≡ true) ⊎ ((is_among once_levels o.level && (o.left == o.level + 1 && o.right == o.level + 1)) ≡ true)
        → (is_among chain_levels o.level ≡ true) ⊎ (is_among once_levels o.level ≡ true)
    split (inl h) = inl (and_parts (is_among chain_levels o.level) _ h).0
    split (inr h) = inr (and_parts (is_among once_levels o.level) _ h).0

chain_facts : (l : ℕ) → is_among chain_levels l ≡ true → ((l == 0) ≡ false) × (is_among once_levels l ≡ false) × (1 ≤ l)
chain_facts l h = (grind (arith, nat_tests), grind (arith, nat_tests), grind (arith, nat_tests))

once_facts : (l : ℕ) → is_among once_levels l ≡ true → ((l == 0) ≡ false) × (is_among chain_levels l ≡ false) × (1 ≤ l)
once_facts l h = (grind (arith, nat_tests), grind (arith, nat_tests), grind (arith, nat_tests))

pub positive : (m : ℕ) (o : Operator) → operator_of m ≡ Some o → 1 ≤ o.level
positive m o e = go (good_level m o e)
  where
    go : (is_among chain_levels o.level ≡ true) ⊎ (is_among once_levels o.level ≡ true) → 1 ≤ o.level
    go (inl h) = (chain_facts o.level h).2
    go (inr h) = (once_facts o.level h).2

in_test : (l j k i : ℕ) → 1 ≤ l → (nat_lt 0 l && (nat_le k l && nat_lt l j)) ≡ false → k ≤ i → i < j → (l == i) ≡ false
in_test l j k i p h low high = grind (arith, nat_tests)

-- no sign of the levels comes
pub out_of_range : (m k j i : ℕ) → (nat_lt 0 (operator_level m) && (nat_le k (operator_level m) && nat_lt (operator_level m) j)) ≡ false → k ≤ i → i < j → is_at i (operator_of m) ≡ false
out_of_range m k j i h low high = go (operator_of m) refl h
  where
    go : (o : Option Operator) → operator_of m ≡ o → (nat_lt 0 (level_of o) && (nat_le k (level_of o) && nat_lt (level_of o) j)) ≡ false → is_at i o ≡ false
    go None e t = refl
    go (Some o) e t = in_test o.level j k i (positive m o e) t low high

pub in_range : (l j k : ℕ) → (nat_lt 0 l && (nat_le k l && nat_lt l j)) ≡ true → (1 ≤ l) × (k ≤ l) × (l < j)
in_range l j k h = let a = and_parts (nat_lt 0 l) _ h in let b = and_parts (nat_le k l) _ a.1 in (lt 0 l a.0, le k l b.0, lt l j b.1)
  where
    lt : (a b : ℕ) → nat_lt a b ≡ true → a < b
    lt a b h = grind (arith, nat_tests)

    le : (a b : ℕ) → nat_le a b ≡ true → a ≤ b
    le a b h = grind (arith, nat_tests)

other_level : (l i : ℕ) → l < i → (l == i) ≡ false
other_level l i lt = grind (arith, nat_tests)

not_zero : (i : ℕ) (b : Bool) → 1 ≤ i → (i == 0 && b) ≡ false
not_zero i b le = ap (λ c. c && b) (no i le)
  where
    no : (i : ℕ) → 1 ≤ i → (i == 0) ≡ false
    no i le = grind (arith, nat_tests)

chain_right : (m l : ℕ) (a : Raw) (n g : ℕ) (o : Option (Found Raw)) → (l == 0) ≡ false → is_among once_levels l ≡ false → is_among chain_levels l ≡ true
    → on_found o (λ b rest. climb n (parse g (level (suc l))) l (binary m a b) rest) ≡ on_found o (right_behind m l a n g)
chain_right m l a n g None z w h = refl
chain_right m l a n g (Some (b, rest)) z w h = rw (w, z, h) refl

once_right : (m l : ℕ) (a : Raw) (n g : ℕ) (o : Option (Found Raw)) → is_among once_levels l ≡ true → on_found o (λ b rest. Some (binary m a b, rest)) ≡ on_found o (right_behind m l a n g)
once_right m l a n g None h = refl
once_right m l a n g (Some (b, rest)) h = rw h refl

-- what a sign of a level does
sign_turn : (m l : ℕ) (o : Operator) (a : Raw) (us : List Token) (x z : Option (Found Raw)) → operator_of m ≡ Some o → o.level ≡ l → Comes (level_at (suc l) us) x
    → Settles (λ n g. on_found x (right_behind m l a n g)) z → Settles (λ n g. level_behind l n g a (mark m ∷ us)) z
sign_turn m l o a us x z e d c s = go (subst (λ i. (is_among chain_levels i ≡ true) ⊎ (is_among once_levels i ≡ true)) d (good_level m o e))
  where
    here : is_at l (operator_of m) ≡ true
    here = ap (is_at l) e ∙ eq-eqb o.level l d

    later : Settles (λ n g. on_found (level_at (suc l) us g) (right_behind m l a n g)) z
    later = settles_bind (level_at (suc l) us) (λ n g. right_behind m l a n g) x z c s

    first : (n g : ℕ) → level_behind l (suc n) g a (mark m ∷ us) ≡ on_found (level_at (suc l) us g) (λ b rest. climb n (parse g (level (suc l))) l (binary m a b) rest)
        → level_behind l (suc n) g a (mark m ∷ us) ≡ on_found (level_at (suc l) us g) (λ b rest. climb n (parse g (level (suc l))) l (binary m a b) rest)
    first n g e = e

    again : (n g : ℕ) → level_behind l n g a (mark m ∷ us) ≡ on_found (level_at (suc l) us g) (λ b rest. Some (binary m a b, rest))
        → level_behind l n g a (mark m ∷ us) ≡ on_found (level_at (suc l) us g) (λ b rest. Some (binary m a b, rest))
    again n g e = e

    go : (is_among chain_levels l ≡ true) ⊎ (is_among once_levels l ≡ true) → Settles (λ n g. level_behind l n g a (mark m ∷ us)) z
    go (inl h) = let f = chain_facts l h in
        settles_turn (λ n g. level_behind l n g a (mark m ∷ us)) (λ n g. on_found (level_at (suc l) us g) (right_behind m l a n g)) z (λ n g. first n g (rw (f.0, h, here) refl) ∙ chain_right m l a n g (level_at (suc l) us g) f.0 f.1 h) later
    go (inr h) = let f = once_facts l h in
        settles_like (λ n g. level_behind l n g a (mark m ∷ us)) (λ n g. on_found (level_at (suc l) us g) (right_behind m l a n g)) z (λ n g. again n g (rw (f.0, f.1, h, here) refl) ∙ once_right m l a n g (level_at (suc l) us g) h) later

module _ (whole : ℕ → Option (Found Raw)) (bs : List (Behind Raw)) where
  pub operated : (m j k : ℕ) (a : Raw) (ts us : List Token) → ts ≡ mark m ∷ us → (nat_lt 0 (operator_level m) && (nat_le k (operator_level m) && nat_lt (operator_level m) j)) ≡ true
      → FoundBy whole bs (between k j) a ts → FromCall whole (bs ++ (between k (operator_level m) ++ right_behind m (operator_level m) a ∷ [])) (level_at (operator_level m + 1) us)
  operated m j k a ts us e t h = go (operator_of m) refl t
    where
      with_sign : (o : Operator) → operator_of m ≡ Some o → (l : ℕ) → o.level ≡ l → k ≤ l → l < j → FromCall whole (bs ++ (between k l ++ right_behind m l a ∷ [])) (level_at (l + 1) us)
      with_sign o d l f low high =
          let stops : (i : ℕ) → l + 1 ≤ i → i < j → LevelStops i ts =
          (λ i above below. (ap (λ xs. is_at i (first_operator xs)) e ∙ ap (is_at i) d ∙ other_level o.level i (omega arith), not_zero i (begins oftype_word ts) (omega arith))) in
          let same : suc l ≡ l + 1 = omega arith in
          subst (λ i. FromCall whole (bs ++ (between k l ++ right_behind m l a ∷ [])) (level_at i us)) same
          (work_inside whole bs (between k l) (level_behind l) (right_behind m l a) a ts (level_at (suc l) us)
          (subst (λ xs. FoundBy whole bs xs a ts) (between-suc k l low) (fewer_levels whole bs k (l + 1) j a ts (omega arith) (omega arith) stops h))
          (λ x z c s. subst (λ xs. Settles (λ n g. level_behind l n g a xs) z) (sym e) (sign_turn m l o a us x z d f c s)))

      go : (o : Option Operator) → operator_of m ≡ o → (nat_lt 0 (level_of o) && (nat_le k (level_of o) && nat_lt (level_of o) j)) ≡ true
          → FromCall whole (bs ++ (between k (level_of (operator_of m)) ++ right_behind m (level_of (operator_of m)) a ∷ [])) (level_at (level_of (operator_of m) + 1) us)
      go None d t = let r = in_range 0 j k t in absurd (omega arith)
      go (Some o) d t = let r = in_range o.level j k t in let same : o.level ≡ level_of (operator_of m) = ap level_of (sym d) in
          with_sign o d (level_of (operator_of m)) same (omega arith) (omega arith)

  -- a mark that is no sign of the levels, and no `oftype`
  pub other_mark : (m j k : ℕ) (a : Raw) (ts us : List Token) → ts ≡ mark m ∷ us → (nat_lt 0 (operator_level m) && (nat_le k (operator_level m) && nat_lt (operator_level m) j)) ≡ false
      → ((m == oftype_word) ≡ false) ⊎ (0 < k) ⊎ (j ≡ 0) → FoundBy whole bs (between k j) a ts → Reach whole bs (Some (a, ts))
  other_mark m j k a ts us e t o h = no_level whole bs k j a ts (λ i low high.
      (ap (λ xs. is_at i (first_operator xs)) e ∙ out_of_range m k j i t low high, ap (λ xs. i == 0 && begins oftype_word xs) e ∙ last o i low high)) h
    where
      false_of : (b c : Bool) → c ≡ false → b && c ≡ false
      false_of true c e = e
      false_of false c e = refl

      last : ((m == oftype_word) ≡ false) ⊎ (0 < k) ⊎ (j ≡ 0) → (i : ℕ) → k ≤ i → i < j → (i == 0 && (m == oftype_word)) ≡ false
      last (inl p) i low high = false_of (i == 0) (m == oftype_word) p
      last (inr (inl p)) i low high = not_zero i (m == oftype_word) (omega arith)
      last (inr (inr p)) i low high = absurd (omega arith)

  pub no_mark : (j k : ℕ) (a : Raw) (ts : List Token) → first_operator ts ≡ None → begins oftype_word ts ≡ false → FoundBy whole bs (between k j) a ts → Reach whole bs (Some (a, ts))
  no_mark j k a ts e d h = no_level whole bs k j a ts (λ i low high. (ap (is_at i) e, false_of (i == 0) (begins oftype_word ts) d)) h
    where
      false_of : (b c : Bool) → c ≡ false → b && c ≡ false
      false_of true c e = e
      false_of false c e = refl

  -- before `oftype` only the level of written types is left
  pub last_level : (j : ℕ) (a : Raw) (ts us : List Token) → ts ≡ mark oftype_word ∷ us → 0 < j → FoundBy whole bs (between 0 j) a ts → FoundBy whole bs (level_behind 0 ∷ []) a ts
  last_level j a ts us e lt h = fewer_levels whole bs 0 1 j a ts (omega arith) (omega arith)
      (λ i low high. (ap (λ xs. is_at i (first_operator xs)) e, not_zero i (begins oftype_word ts) low)) h
