-- What begins a predicate, and what comes behind a literal.
use Rattle.std.proofs.Common.{◌≡◌, ℕ, zero, suc, ◌<◌, ◌≤◌, true, false, List, [], ◌∷◌, ◌++◌, refl, ap, subst, sym, ◌∙◌, arith, append-nil, append_assoc}
use Rattle.std.specs.Prelude.{Option, Some, None, ◌==◌, ◌||◌, nat_le}
use Rattle.std.proofs.lemmas.Bool.Decides.{nat_tests}
use Rattle.ev_syntax.specs.Marks.{not_word, for_all_sign, for_some_sign, true_word, false_word, open_paren, dot, finite_word, and_sign, or_word, implies_sign, iff_sign}
use Rattle.ev_syntax.specs.Tokens.{Token, mark}
use Rattle.ev_syntax.specs.Raw.{Raw, Binder, quantified, binary}
use Rattle.ev_syntax.specs.Parts.{Operator}
use Rattle.ev_syntax.specs.inner.Lookahead.{after_close, goes_on, operator_of, is_from}
use Rattle.ev_parse.specs.inner.Levels.{level_of, operator_level}
use Rattle.ev_syntax.specs.inner.Finding.{Found, on_found, Comes}
use Rattle.ev_syntax.specs.inner.TypeParser.{begins, expect}
use Rattle.ev_syntax.specs.inner.BinderParser.{parse_binders}
use Rattle.ev_syntax.specs.inner.FormulaParser.{level, a_lit, a_conj, a_pred, parse, Read, is_relation, behind_open, whole_of, connect, implied}
use Rattle.ev_syntax.specs.inner.Resuming.{Settles, Behind, Reach, FromCall}
use Rattle.ev_parse.specs.inner.Frames.{stage_at, level_at, literal_part, quantifying, literal_behind, chain_behind, implied_behind, stage_rest, stage_tail, paren_behind, quantified_behind, related_behind, binary_behind, connective_behind}
use Rattle.ev_parse.specs.declared.states.Stage.{Stage}
use Rattle.ev_parse.specs.declared.states.Stage.TheVariants.{Lit, Conj, Pred}
use Rattle.ev_syntax.proofs.Resumes.{settles_like, settles_turn, settles_bind, comes_like, comes_after, comes_bind, below, at_once, call_inside, soon_inside, found_inside, moves_inside, work_inside, nothing_inside}
use Rattle.std.proofs.lemmas.Bool.{eq-eqb}
use Rattle.ev_syntax.proofs.TypeMoves.{expect_no}
use Rattle.ev_parse.proofs.OperandMoves.{positive}

module _ (whole : ℕ → Option (Found Raw)) (bs : List (Behind Raw)) where
  -- a predicate begins with a literal
  pub to_literal : (s : Stage) (ts : List Token) → FromCall whole bs (stage_at s ts) → FromCall whole (bs ++ stage_tail s) (literal_part ts)
  to_literal Lit ts h x c = subst (λ xs. Reach whole xs x) (sym (append-nil bs)) (h x (comes_after (stage_at Lit ts) (literal_part ts) x (λ g. refl) c))
  to_literal Conj ts h x c = below whole bs literal_behind x (λ z s.
      h z (comes_after (stage_at Conj ts) (λ g. on_found (parse g a_lit ts) (literal_behind g g)) z (λ g. refl)
      (comes_bind (stage_at Lit ts) literal_behind x z (comes_after (stage_at Lit ts) (literal_part ts) x (λ g. refl) c) s)))
  to_literal Pred ts h x c = subst (λ xs. Reach whole xs x) (append_assoc bs (implied_behind ∷ []) (literal_behind ∷ []))
      (below whole (bs ++ implied_behind ∷ []) literal_behind x (λ y s. below whole bs implied_behind y (λ z t.
      h z (comes_after (stage_at Pred ts) (λ g. on_found (parse g a_conj ts) (implied_behind g g)) z (λ g. refl)
      (comes_bind (stage_at Conj ts) implied_behind y z
      (comes_after (stage_at Conj ts) (λ g. on_found (parse g a_lit ts) (literal_behind g g)) y (λ g. refl)
      (comes_bind (stage_at Lit ts) literal_behind x y (comes_after (stage_at Lit ts) (literal_part ts) x (λ g. refl) c) s)) t)))))

  abbrev pub FoundBy : List (Behind Raw) → Raw → List Token → Type 0
  FoundBy cs r ts = Reach whole (bs ++ cs) (Some (r, ts))

  abbrev pub Called : List (Behind Raw) → List Token → Type 0
  Called cs ts = FromCall whole (bs ++ cs) (level_at 0 ts)

  pub bare_found : (a : Raw) (ts : List Token) → FoundBy [] a ts → Reach whole bs (Some (a, ts))
  bare_found a ts h = subst (λ xs. Reach whole xs (Some (a, ts))) (append-nil bs) h

  -- the parts of a literal
  pub part_found : (s : Stage) (ts us : List Token) (o : Option (Found Raw)) → ts ≡ us → FromCall whole (bs ++ stage_tail s) (literal_part ts) → ((g : ℕ) → literal_part us g ≡ o) → Reach whole (bs ++ stage_tail s) o
  part_found s ts us o e h d = at_once whole (bs ++ stage_tail s) (literal_part ts) o h (subst (λ xs. (g : ℕ) → literal_part xs g ≡ o) (sym e) d)

  pub part_none : (s : Stage) (ts us : List Token) → ts ≡ us → FromCall whole (bs ++ stage_tail s) (literal_part ts) → ((g : ℕ) → literal_part us g ≡ None) → Reach whole bs None
  part_none s ts us e h d = nothing_inside whole bs (stage_tail s) (part_found s ts us None e h d)

  pub part_inner : (s : Stage) (b : Behind Raw) (inner : ℕ → Option (Found Raw)) (ts us : List Token) → ts ≡ us → FromCall whole (bs ++ stage_tail s) (literal_part ts)
      → ((g : ℕ) → literal_part us g ≡ on_found (inner g) (b g g)) → FromCall whole (bs ++ (stage_tail s ++ b ∷ [])) inner
  part_inner s b inner ts us e h d = call_inside whole bs (stage_tail s) b (literal_part ts) inner h (subst (λ xs. (g : ℕ) → literal_part xs g ≡ on_found (inner g) (b g g)) (sym e) d)

  pub part_same : (s : Stage) (part : ℕ → Option (Found Raw)) (ts us : List Token) → ts ≡ us → FromCall whole (bs ++ stage_tail s) (literal_part ts) → ((g : ℕ) → literal_part us g ≡ part g)
      → FromCall whole (bs ++ stage_tail s) part
  part_same s part ts us e h d x c = h x (comes_like (literal_part ts) part x (subst (λ xs. (g : ℕ) → literal_part xs g ≡ part g) (sym e) d) c)

  -- a relation begins
  pub part_before : (s : Stage) (ts us : List Token) → ts ≡ us → FromCall whole (bs ++ stage_tail s) (literal_part ts) → ((g : ℕ) → literal_part us g ≡ on_found (parse g (level 0) us) (related_behind g g))
      → Called (stage_tail s ++ related_behind ∷ []) ts
  part_before s ts us e h d = subst (λ xs. Called (stage_tail s ++ related_behind ∷ []) xs) (sym e) (part_inner s related_behind (level_at 0 us) ts us e h d)

  -- bound names, then a dot
  abbrev quantified_rest : ℕ → ℕ → Option (Found (List Binder)) → Option (Found Raw)
  quantified_rest m g o = on_found o (λ xs us. expect dot us (λ vs. on_found (parse g a_pred vs) (λ p rest. whole_of (quantified m xs p) rest)))

  pub no_binders : (s : Stage) (m : ℕ) (ts : List Token) → FromCall whole (bs ++ stage_tail s) (quantifying m ts) → Comes (λ g. parse_binders g ts) None → Reach whole bs None
  no_binders s m ts h c = nothing_inside whole bs (stage_tail s) (h None (c.0, λ g le. ap (quantified_rest m g) (c.1 g le)))

  pub no_dot : (s : Stage) (m : ℕ) (ts us : List Token) (xs : List Binder) → FromCall whole (bs ++ stage_tail s) (quantifying m ts) → Comes (λ g. parse_binders g ts) (Some (xs, us)) → begins dot us ≡ false → Reach whole bs None
  no_dot s m ts us xs h c d = nothing_inside whole bs (stage_tail s) (h None (c.0, λ g le. ap (quantified_rest m g) (c.1 g le) ∙ expect_no dot us _ d))

  pub body_part : (s : Stage) (m : ℕ) (ts us vs : List Token) (xs : List Binder) → FromCall whole (bs ++ stage_tail s) (quantifying m ts) → Comes (λ g. parse_binders g ts) (Some (xs, us)) → us ≡ mark dot ∷ vs
      → FromCall whole (bs ++ (stage_tail s ++ quantified_behind m xs ∷ [])) (stage_at Pred vs)
  body_part s m ts us vs xs h c d = soon_inside whole bs (stage_tail s) (quantified_behind m xs) (quantifying m ts) (stage_at Pred vs) c.0 h (λ g le.
      ap (quantified_rest m g) (c.1 g le) ∙ ap (λ ys. quantified_rest m g (Some (xs, ys))) d)

  -- behind a literal
  pub only_literal : (r : Raw) (ts : List Token) → FoundBy (stage_tail Lit) r ts → Reach whole bs (Some (r, ts))
  only_literal r ts h = bare_found r ts h

  split_tail : (s : Stage) → (s ≡ Lit → ⊥) → stage_tail s ≡ stage_rest s ++ literal_behind ∷ []
  split_tail Lit h = absurd (h refl)
  split_tail Conj h = refl
  split_tail Pred h = refl

  pub and_chain : (s : Stage) (r : Raw) (ts : List Token) → (s ≡ Lit → ⊥) → begins and_sign ts ≡ true → FoundBy (stage_tail s) r ts → FoundBy (stage_rest s ++ chain_behind and_sign ∷ []) r ts
  and_chain s r ts p e h = moves_inside whole bs (stage_rest s) literal_behind (chain_behind and_sign) r r ts ts (subst (λ xs. FoundBy xs r ts) (split_tail s p) h)
      (λ z t. settles_like (λ n g. literal_behind n g r ts) (λ n g. chain_behind and_sign n g r ts) z (λ n g. rw e refl) t)

  pub or_chain : (s : Stage) (r : Raw) (ts : List Token) → (s ≡ Lit → ⊥) → begins and_sign ts ≡ false → begins or_word ts ≡ true → FoundBy (stage_tail s) r ts → FoundBy (stage_rest s ++ chain_behind or_word ∷ []) r ts
  or_chain s r ts p a e h = moves_inside whole bs (stage_rest s) literal_behind (chain_behind or_word) r r ts ts (subst (λ xs. FoundBy xs r ts) (split_tail s p) h)
      (λ z t. settles_like (λ n g. literal_behind n g r ts) (λ n g. chain_behind or_word n g r ts) z (λ n g. rw (a, e) refl) t)

  pub no_chain : (s : Stage) (r : Raw) (ts : List Token) → (s ≡ Lit → ⊥) → begins and_sign ts ≡ false → begins or_word ts ≡ false → FoundBy (stage_tail s) r ts → FoundBy (stage_rest s) r ts
  no_chain s r ts p a b h = found_inside whole bs (stage_rest s) literal_behind r ts (Some (r, ts)) (subst (λ xs. FoundBy xs r ts) (split_tail s p) h) (λ n g. rw (a, b) refl)

  -- chains
  connect_turn : (m n : ℕ) (lit : Read) (r : Raw) (us : List Token) → connect (suc n) lit m r (mark m ∷ us) ≡ on_found (lit us) (λ b rest. connect n lit m (binary m r b) rest)
  connect_turn m n lit r us = rw (eq-eqb m m refl) refl

  pub another : (s : Stage) (m : ℕ) (r : Raw) (ts us : List Token) → ts ≡ mark m ∷ us → FoundBy (stage_rest s ++ chain_behind m ∷ []) r ts → FromCall whole (bs ++ (stage_rest s ++ connective_behind m r ∷ [])) (stage_at Lit us)
  another s m r ts us e h = work_inside whole bs (stage_rest s) (chain_behind m) (connective_behind m r) r ts (stage_at Lit us) h (λ x z c t.
      subst (λ xs. Settles (λ n g. chain_behind m n g r xs) z) (sym e)
      (settles_turn (λ n g. chain_behind m n g r (mark m ∷ us)) (λ n g. on_found (parse g a_lit us) (connective_behind m r n g)) z (λ n g. connect_turn m n (parse g a_lit) r us)
      (settles_bind (stage_at Lit us) (λ n g. connective_behind m r n g) x z c t)))

  connect_ends : (n : ℕ) (lit : Read) (m : ℕ) (r : Raw) (ts : List Token) → begins m ts ≡ false → connect n lit m r ts ≡ Some (r, ts)
  connect_ends zero lit m r ts e = refl
  connect_ends (suc n) lit m r ts e = rw e

  pub no_other : (s : Stage) (m : ℕ) (r : Raw) (ts : List Token) → begins m ts ≡ false → FoundBy (stage_rest s ++ chain_behind m ∷ []) r ts → FoundBy (stage_rest s) r ts
  no_other s m r ts e h = found_inside whole bs (stage_rest s) (chain_behind m) r ts (Some (r, ts)) h (λ n g. connect_ends n (parse g a_lit) m r ts e)

  -- implications
  pub implication : (m : ℕ) (r : Raw) (ts us : List Token) → ts ≡ mark m ∷ us → ((g : ℕ) → implied (parse g a_conj) r (mark m ∷ us) ≡ on_found (parse g a_conj us) (λ b rest. Some (binary m r b, rest)))
      → FoundBy (implied_behind ∷ []) r ts → FromCall whole (bs ++ binary_behind m r ∷ []) (stage_at Conj us)
  implication m r ts us e d h = work_inside whole bs [] implied_behind (binary_behind m r) r ts (stage_at Conj us) h (λ x z c t.
      subst (λ xs. Settles (λ n g. implied_behind n g r xs) z) (sym e)
      (settles_like (λ n g. implied_behind n g r (mark m ∷ us)) (λ n g. on_found (parse g a_conj us) (binary_behind m r n g)) z (λ n g. d g)
      (settles_bind (stage_at Conj us) (λ n g. binary_behind m r n g) x z c t)))

  pub no_implication : (r : Raw) (ts : List Token) → begins implies_sign ts ≡ false → begins iff_sign ts ≡ false → FoundBy (implied_behind ∷ []) r ts → Reach whole bs (Some (r, ts))
  no_implication r ts a b h = bare_found r ts (found_inside whole bs [] implied_behind r ts (Some (r, ts)) h (λ n g. rw (a, b) refl))

pub other_literal : (m : ℕ) (us : List Token) (g : ℕ) → (m == not_word) ≡ false → (m == for_all_sign) ≡ false → (m == for_some_sign) ≡ false → (m == true_word) ≡ false → (m == false_word) ≡ false
    → (m == finite_word) ≡ false → (m == open_paren) ≡ false → literal_part (mark m ∷ us) g ≡ on_found (parse g (level 0) (mark m ∷ us)) (related_behind g g)
other_literal m us g a b c d e f h = rw (a, b, c, d, e, f, h) refl

-- parentheses
abbrev pub opened : List Token → ℕ → Option (List Token) → Option (Found Raw)
opened ts g o = behind_open (parse g (level 0)) (parse g a_pred) ts o

pub open_none : (us : List Token) (g : ℕ) → after_close 0 us ≡ None → literal_part (mark open_paren ∷ us) g ≡ None
open_none us g e = ap (opened (mark open_paren ∷ us) g) e

pub open_expression : (us rest : List Token) (g : ℕ) → after_close 0 us ≡ Some rest → (goes_on rest || is_relation rest) ≡ true
    → literal_part (mark open_paren ∷ us) g ≡ on_found (parse g (level 0) (mark open_paren ∷ us)) (related_behind g g)
open_expression us rest g e h = ap (opened (mark open_paren ∷ us) g) e ∙ rw h refl

pub open_predicate : (us rest : List Token) (g : ℕ) → after_close 0 us ≡ Some rest → (goes_on rest || is_relation rest) ≡ false
    → literal_part (mark open_paren ∷ us) g ≡ on_found (parse g a_pred us) (paren_behind g g)
open_predicate us rest g e h = ap (opened (mark open_paren ∷ us) g) e ∙ rw h refl

pub no_finite : (us : List Token) (g : ℕ) → begins open_paren us ≡ false → literal_part (mark finite_word ∷ us) g ≡ None
no_finite us g h = expect_no open_paren us _ h

-- signs that come first
pub from_positive : (m : ℕ) → 0 < operator_level m → is_from 0 (operator_of m) ≡ true
from_positive m lt = go (operator_of m) refl lt
  where
    least : (n : ℕ) → nat_le 0 n ≡ true
    least n = grind (arith, nat_tests)

    go : (o : Option Operator) → operator_of m ≡ o → 0 < level_of o → is_from 0 o ≡ true
    go None e lt = absurd (omega arith)
    go (Some o) e lt = least o.level

pub from_zero : (m : ℕ) → operator_level m ≤ 0 → is_from 0 (operator_of m) ≡ false
from_zero m le = go (operator_of m) refl le
  where
    go : (o : Option Operator) → operator_of m ≡ o → level_of o ≤ 0 → is_from 0 o ≡ false
    go None e le = refl
    go (Some o) e le = let p = positive m o e in absurd (omega arith)

pub ruleset first_signs = (from_positive, from_zero)
