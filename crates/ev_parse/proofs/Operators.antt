-- The table of levels is that of the operators.
use Rattle.std.proofs.Common.{◌≡◌, ℕ, zero, suc, ◌+◌, ◌<◌, ◌≤◌, Bool, true, false, List, [], ◌∷◌, refl, ap, subst, ◌∙◌, arith}
use Rattle.std.specs.Prelude.{Option, Some, None, slice_index, ◌==◌, ◌&&◌, nat_lt, find, cond}
use Rattle.std.specs.List.{list_all}
use Rattle.std.proofs.lemmas.Bool.{eqb-true}
use Rattle.std.proofs.lemmas.Bool.Decides.{nat_tests}
use Rattle.ev_syntax.specs.Parts.{Operator, operators}
use Rattle.ev_syntax.specs.inner.Lookahead.{operator_of}
use Rattle.ev_parse.specs.inner.Levels.{level_of, operator_level}
use Rattle.ev_syntax.proofs.Levels.{found_good}
use Rattle.ev_parse.specs.declared.marks.TheConstants.{LEVELS}

-- the rows from one on, so many, are right
abbrev right_from : ℕ → ℕ → Bool
right_from zero i = true
right_from (suc n) i = (slice_index LEVELS i == operator_level i) && right_from n (suc i)

all_right : right_from 103 0 ≡ true
all_right = refl

both : (a b : Bool) → a && b ≡ true → (a ≡ true) × (b ≡ true)
both true b h = (refl, h)
both false b h = cc

right_at : (n i k : ℕ) → right_from n i ≡ true → i ≤ k → k < n + i → slice_index LEVELS k ≡ operator_level k
right_at zero i k h le lt = absurd (omega arith)
right_at (suc n) i k h le lt = go (nat_lt i k) refl (both (slice_index LEVELS i == operator_level i) (right_from n (suc i)) h) (λ r below. right_at n (suc i) k r below (omega arith))
  where
    less : nat_lt i k ≡ true → i < k
    less e = grind (arith, nat_tests)

    same : nat_lt i k ≡ false → i ≡ k
    same e = grind (arith, nat_tests)

    go : (b : Bool) → nat_lt i k ≡ b → ((slice_index LEVELS i == operator_level i) ≡ true) × (right_from n (suc i) ≡ true)
        → (right_from n (suc i) ≡ true → suc i ≤ k → slice_index LEVELS k ≡ operator_level k) → slice_index LEVELS k ≡ operator_level k
    go true e p again = let below : i < k = less e in again p.1 (omega arith)
    go false e p again = subst (λ j. slice_index LEVELS j ≡ operator_level j) (same e) (eqb-true (slice_index LEVELS i) (operator_level i) p.0)

pub in_table : (m : ℕ) → m < 103 → slice_index LEVELS m ≡ operator_level m
in_table m lt = right_at 103 0 m all_right (omega arith) (omega arith)

abbrev is_small : Operator → Bool
is_small o = nat_lt o.sign 103

all_small : list_all is_small operators ≡ true
all_small = refl

large : (a b : ℕ) → nat_lt a 103 ≡ true → 103 ≤ b → (a == b) ≡ false
large a b h le = grind (arith, nat_tests)

no_large : (os : List Operator) (m : ℕ) → list_all is_small os ≡ true → 103 ≤ m → find (λ o. o.sign == m) os ≡ None
no_large [] m h le = refl
no_large (o ∷ os) m h le = let p = both (is_small o) (list_all is_small os) h in
    ap (λ b. cond b (Some o) (find (λ x. x.sign == m) os)) (large o.sign m p.0 le) ∙ no_large os m p.1 le

pub past_table : (m : ℕ) → 103 ≤ m → operator_level m ≡ 0
past_table m le = ap level_of (no_large operators m all_small le)

-- no level is above 8
abbrev is_few : Operator → Bool
is_few o = nat_lt o.level 9

all_few : list_all is_few operators ≡ true
all_few = refl

pub few_levels : (m : ℕ) → operator_level m ≤ 8
few_levels m = go (operator_of m) refl
  where
    low : (l : ℕ) → nat_lt l 9 ≡ true → l ≤ 8
    low l h = grind (arith, nat_tests)

    go : (o : Option Operator) → operator_of m ≡ o → level_of o ≤ 8
    go None e = omega arith
    go (Some o) e = low o.level (found_good (λ x. x.sign == m) is_few operators o all_few e).1

pub ruleset operator_rows = (in_table, past_table, few_levels)
