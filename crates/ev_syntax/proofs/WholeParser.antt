-- A parser for the whole grammar; and what it comes to at the levels of expressions.
use Rattle.std.proofs.Common.{◌≡◌, ℕ, zero, suc, ◌+◌, ◌-◌, ◌≤◌, ◌<◌, Bool, true, false, List, [], ◌∷◌, refl, ap, subst, ◌∙◌, arith}
use Rattle.std.specs.Prelude.{Option, Some, None, if◌then◌else◌, ◌==◌, ◌&&◌, ◌||◌, nat_le}
use Rattle.std.proofs.lemmas.Bool.{eqb-true}
use Rattle.std.proofs.lemmas.Bool.Decides.{nat_tests}
use Rattle.ev_syntax.specs.Marks.{open_paren, open_bracket, oftype_word, minus_sign, inverse_sign, lambda_sign, union_over_word, inter_over_word}
use Rattle.ev_syntax.specs.Tokens.{Token, name, number, mark}
use Rattle.ev_syntax.specs.Raw.{Raw, unary}
use Rattle.ev_syntax.specs.Parts.{is_among}
use Rattle.ev_syntax.proofs.Eventually.{Found, on_found, Eventually, always, later, and_then}
use Rattle.ev_syntax.proofs.TypesRead.{begins, expect}
use Rattle.ev_syntax.proofs.Levels.{is_from, first_operator, token_operator, not_at, not_later}
pub use Rattle.ev_syntax.specs.inner.FormulaParser.{chain_levels, once_levels, Read, items, words, calls, param_at, at_name, collects, first_binder, in_braces, at_mark, prim, posts, climb, once, typed, after_operand, begins_special, overs, special, is_relation, call_only, related, behind_open, after_open, atom, connects, whole_of, quantifies, literal_at, connect, connected, implied, parse, Want, level, a_lit, a_conj, a_pred}

abbrev pub E : ℕ → List Token → Raw → List Token → Type 0
E k ts raw rest = Eventually (λ g. parse g (level k) ts) (raw, rest)

abbrev pub Prim : List Token → Raw → List Token → Type 0
Prim ts raw rest = Eventually (λ g. prim g (parse g (level 0)) (parse g a_pred) ts) (raw, rest)

-- what goes on with a post
abbrev pub goes_post : List Token → Bool
goes_post ts = begins inverse_sign ts || (begins open_paren ts || begins open_bracket ts)

-- nothing goes on after an expression of the level
pub record Stops (k : ℕ) (ts : List Token) : Type 0 where
  pub operator : is_from k (first_operator ts) ≡ false
  pub post : goes_post ts ≡ false
  pub type : (k == 0 && begins oftype_word ts) ≡ false

not_zero : (j : ℕ) → (suc j == 0) ≡ false
not_zero j = grind (arith, nat_tests)

pub stops_later : (k j : ℕ) (ts : List Token) → k ≤ j → Stops k ts → Stops j ts
stops_later k j ts le s = record {
  operator = not_later k j (first_operator ts) le s.operator;
  post = s.post;
  type = go k j (begins oftype_word ts) le s.type;
}
  where
    go : (k j : ℕ) (b : Bool) → k ≤ j → (k == 0 && b) ≡ false → (j == 0 && b) ≡ false
    go zero zero b le h = h
    go zero (suc j) b le h = rw (not_zero j)
    go (suc k) zero b le h = absurd (omega arith)
    go (suc k) (suc j) b le h = rw (not_zero j)

-- the parts of a test by or
pub or_false : (a b : Bool) → a || b ≡ false → (a ≡ false) × (b ≡ false)
or_false true b h = cc
or_false false b h = (refl, h)

pub no_inverse : (ts : List Token) → goes_post ts ≡ false → begins inverse_sign ts ≡ false
no_inverse ts h = (or_false (begins inverse_sign ts) _ h).0

pub no_open : (ts : List Token) → goes_post ts ≡ false → begins open_paren ts ≡ false
no_open ts h = (or_false (begins open_paren ts) _ (or_false (begins inverse_sign ts) _ h).1).0

pub no_bracket : (ts : List Token) → goes_post ts ≡ false → begins open_bracket ts ≡ false
no_bracket ts h = (or_false (begins open_paren ts) _ (or_false (begins inverse_sign ts) _ h).1).1

pub posts_stop : (n : ℕ) (read : Read) (a : Raw) (ts : List Token) → goes_post ts ≡ false → posts n read a ts ≡ Some (a, ts)
posts_stop zero read a ts h = refl
posts_stop (suc n) read a ts h = rw (no_inverse ts h, no_open ts h, no_bracket ts h)

pub climb_stops : (n : ℕ) (read : Read) (k : ℕ) (a : Raw) (ts : List Token) → is_from k (first_operator ts) ≡ false → climb n read k a ts ≡ Some (a, ts)
climb_stops zero read k a ts h = refl
climb_stops (suc n) read k a [] h = refl
climb_stops (suc n) read k a (t ∷ ts) h = rw (not_at k (token_operator t) h)

pub once_stops : (read : Read) (k : ℕ) (a : Raw) (ts : List Token) → is_from k (first_operator ts) ≡ false → once read k a ts ≡ Some (a, ts)
once_stops read k a [] h = refl
once_stops read k a (t ∷ ts) h = rw (not_at k (token_operator t) h)

pub operand_stops : (k f : ℕ) (read : Read) (a : Raw) (ts : List Token) → Stops k ts → after_operand k f read a ts ≡ Some (a, ts)
operand_stops k f read a ts s = go (k == 0) (is_among chain_levels k) (is_among once_levels k) s.type
  where
    go : (z b c : Bool) → (z && begins oftype_word ts) ≡ false
        → (if z then typed f a ts else (if b then climb f read k a ts else (if c then once read k a ts else Some (a, ts)))) ≡ Some (a, ts)
    go true b c h = rw h
    go false true c h = climb_stops f read k a ts s.operator
    go false false true h = once_stops read k a ts s.operator
    go false false false h = refl

pub is_false : (b : Bool) → (b ≡ true → ⊥) → b ≡ false
is_false true h = absurd (h refl)
is_false false h = refl

-- what the parser of the tightest level refuses no level reads, if no form of its own begins so
pub dead : (m : ℕ) → ((g : ℕ) (r w : Read) (ts : List Token) → prim g r w (mark m ∷ ts) ≡ None) → (low : ℕ)
    → ((k : ℕ) (ts : List Token) → low ≤ k → (k == 7 && begins minus_sign (mark m ∷ ts)) ≡ false)
    → ((k : ℕ) (ts : List Token) → low ≤ k → (k == 0 && begins_special (mark m ∷ ts)) ≡ false)
    → (g k : ℕ) (ts : List Token) → low ≤ k → parse g (level k) (mark m ∷ ts) ≡ None
dead m p low no_minus no_special zero k ts le = refl
dead m p low no_minus no_special (suc g) k ts le =
    go (nat_le 9 k) (dead m p low no_minus no_special g (suc k) ts (omega arith))
  where
    go : (b : Bool) → parse g (level (suc k)) (mark m ∷ ts) ≡ None
        → (if b then on_found (prim g (parse g (level 0)) (parse g a_pred) (mark m ∷ ts)) (posts g (parse g (level 0))) else
        (if k == 7 && begins minus_sign (mark m ∷ ts) then expect minus_sign (mark m ∷ ts) (λ us. on_found (parse g (level 8) us) (λ e vs. Some (unary minus_sign e, vs)))
        else (if k == 0 && begins_special (mark m ∷ ts) then special g (parse g (level 0)) (parse g a_pred) (mark m ∷ ts)
        else on_found (parse g (level (suc k)) (mark m ∷ ts)) (after_operand k g (parse g (level (suc k))))))) ≡ None
    go true e = rw (p g (parse g (level 0)) (parse g a_pred) ts)
    go false e = rw (no_minus k ts le, no_special k ts le, e)

zero_not : (k : ℕ) (c : Bool) → 1 ≤ k → (k == 0 && c) ≡ false
zero_not k c le = let no : (k == 0) ≡ false = not_0 k le in rw no
  where
    not_0 : (k : ℕ) → 1 ≤ k → (k == 0) ≡ false
    not_0 k le = grind (arith, nat_tests)

seven_not : (k : ℕ) (c : Bool) → 8 ≤ k → (k == 7 && c) ≡ false
seven_not k c le = let no : (k == 7) ≡ false = not_7 k le in rw no
  where
    not_7 : (k : ℕ) → 8 ≤ k → (k == 7) ≡ false
    not_7 k le = grind (arith, nat_tests)

pub and_no : (b : Bool) → b && false ≡ false
and_no true = refl
and_no false = refl

some_none : (o : Option (Found Raw)) (x : Found Raw) → o ≡ None → o ≡ Some x → ⊥
some_none o x e d = cc

-- what is read does not begin with a mark that no level reads
pub not_dead : (m k : ℕ) → ((g : ℕ) (ts : List Token) → parse g (level k) (mark m ∷ ts) ≡ None) → (ts : List Token) (x : Found Raw)
    → Eventually (λ g. parse g (level k) ts) x → begins m ts ≡ false
not_dead m k h [] x p = refl
not_dead m k h (name n ∷ ts) x p = refl
not_dead m k h (number n ∷ ts) x p = refl
not_dead m k h (mark i ∷ ts) x p = is_false (i == m) (λ t. some_none (parse p.0 (level k) (mark i ∷ ts)) x
    (ap (λ j. parse p.0 (level k) (mark j ∷ ts)) (eqb-true i m t) ∙ h p.0 ts) (p.1 p.0 (omega arith)))

pub below : (k : ℕ) → k < 9 → nat_le 9 k ≡ false
below k h = grind (arith, nat_tests)

dead_minus : (g : ℕ) (ts : List Token) → parse g (level 8) (mark minus_sign ∷ ts) ≡ None
dead_minus g ts = dead minus_sign (λ g r w ts. refl) 8 (λ k ts le. seven_not k true le) (λ k ts le. and_no (k == 0)) g 8 ts (omega arith)

dead_lambda : (g : ℕ) (ts : List Token) → parse g (level 1) (mark lambda_sign ∷ ts) ≡ None
dead_lambda g ts = dead lambda_sign (λ g r w ts. refl) 1 (λ k ts le. and_no (k == 7)) (λ k ts le. zero_not k true le) g 1 ts (omega arith)

dead_union : (g : ℕ) (ts : List Token) → parse g (level 1) (mark union_over_word ∷ ts) ≡ None
dead_union g ts = dead union_over_word (λ g r w ts. refl) 1 (λ k ts le. and_no (k == 7)) (λ k ts le. zero_not k true le) g 1 ts (omega arith)

dead_inter : (g : ℕ) (ts : List Token) → parse g (level 1) (mark inter_over_word ∷ ts) ≡ None
dead_inter g ts = dead inter_over_word (λ g r w ts. refl) 1 (λ k ts le. and_no (k == 7)) (λ k ts le. zero_not k true le) g 1 ts (omega arith)

-- at a level's own beginning
pub no_sign : (k : ℕ) (ts : List Token) (x : Found Raw) → Eventually (λ g. parse g (level (suc k)) ts) x → (k == 7 && begins minus_sign ts) ≡ false
no_sign k ts x p = go (k == 7) refl
  where
    go : (b : Bool) → (k == 7) ≡ b → (b && begins minus_sign ts) ≡ false
    go false e = refl
    go true e = not_dead minus_sign 8 dead_minus ts x (subst (λ i. Eventually (λ g. parse g (level (suc i)) ts) x) (eqb-true k 7 e) p)

pub plain : (k : ℕ) (ts : List Token) (x : Found Raw) → Eventually (λ g. parse g (level (suc k)) ts) x → (k == 0 && begins_special ts) ≡ false
plain k ts x p = go (k == 0) refl
  where
    go : (b : Bool) → (k == 0) ≡ b → (b && begins_special ts) ≡ false
    go false e = refl
    go true e = let q : Eventually (λ g. parse g (level 1) ts) x = subst (λ i. Eventually (λ g. parse g (level (suc i)) ts) x) (eqb-true k 0 e) p in
        rw (not_dead lambda_sign 1 dead_lambda ts x q, not_dead union_over_word 1 dead_union ts x q, not_dead inter_over_word 1 dead_inter ts x q)

pub lift : (k : ℕ) (ts : List Token) (raw : Raw) (rest : List Token) → k < 9 → E (suc k) ts raw rest → Stops k rest → E k ts raw rest
lift k ts raw rest low p stops =
    later (λ g. parse g (level k) ts) (λ g. on_found (parse g (level (suc k)) ts) (after_operand k g (parse g (level (suc k))))) (raw, rest)
    (λ g. rw (below k low, no_sign k ts (raw, rest) p, plain k ts (raw, rest) p) refl)
    (and_then (λ g. parse g (level (suc k)) ts) (λ g. after_operand k g (parse g (level (suc k)))) raw rest (raw, rest) p
    (always _ _ (λ g. operand_stops k g (parse g (level (suc k))) raw rest stops)))

pub down : (d k j : ℕ) (ts : List Token) (raw : Raw) (rest : List Token) → d + k ≡ j → j ≤ 9 → E j ts raw rest → Stops k rest → E k ts raw rest
down zero k j ts raw rest e le p stops = let same : j ≡ k = omega arith in subst (λ i. E i ts raw rest) same p
down (suc d) k j ts raw rest e le p stops =
    lift k ts raw rest (omega arith) (down d (suc k) j ts raw rest (omega arith) le p (stops_later k (suc k) rest (omega arith) stops)) stops

pub from_above : (k j : ℕ) (ts : List Token) (raw : Raw) (rest : List Token) → k ≤ j → j ≤ 9 → E j ts raw rest → Stops k rest → E k ts raw rest
from_above k j ts raw rest le low p stops = down (j - k) k j ts raw rest (omega arith) low p stops
