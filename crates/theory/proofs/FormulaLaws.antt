-- One formula at most stands at the front of some marks and goes on as far as it can.
use Rattle.std.proofs.Common.{◌≡◌, ◌≢◌, List, ◌∷◌, refl, ap, subst, sym, ◌∙◌, ◌⊎◌, inl, inr}
use Rattle.ev_terms.specs.Term.{Term}
use Rattle.ev_forms.specs.Forms.{neg}
use Rattle.ev_forms.specs.Connectives.{joined}
use Rattle.ev_forms.specs.declared.connectives.Connective.{Connective}
use Rattle.ev_forms.specs.declared.connectives.Connective.TheVariants as connective
use Rattle.theory.specs.declared.marks.Mark.{Mark}
use Rattle.theory.specs.declared.marks.Mark.TheVariants.{True, False, Close}
use Rattle.theory.specs.Formulas.{mark_of, IsChained, IsSingle, Literal, Chain, Conjunction, Predicate, is_true, is_false, is_negation, in_parens, ends, goes_on, chained, alone, is_joined}
use Rattle.theory.specs.inner.Parsing.{StopsBefore, EndsConjunction, EndsPredicate}

close_is_none : (c : Connective) → mark_of c ≢ Close
close_is_none connective.And e = cc
close_is_none connective.Or e = cc
close_is_none connective.Implies e = cc
close_is_none connective.Iff e = cc

pub ends_at_close : (rest : List Mark) → EndsPredicate (Close ∷ rest)
ends_at_close rest c us e = close_is_none c (let f : mark_of c ≡ Close = cc in f)

pub mark_of_one : (c d : Connective) → mark_of c ≡ mark_of d → c ≡ d
mark_of_one connective.And connective.And e = refl
mark_of_one connective.And connective.Or e = cc
mark_of_one connective.And connective.Implies e = cc
mark_of_one connective.And connective.Iff e = cc
mark_of_one connective.Or connective.And e = cc
mark_of_one connective.Or connective.Or e = refl
mark_of_one connective.Or connective.Implies e = cc
mark_of_one connective.Or connective.Iff e = cc
mark_of_one connective.Implies connective.And e = cc
mark_of_one connective.Implies connective.Or e = cc
mark_of_one connective.Implies connective.Implies e = refl
mark_of_one connective.Implies connective.Iff e = cc
mark_of_one connective.Iff connective.And e = cc
mark_of_one connective.Iff connective.Or e = cc
mark_of_one connective.Iff connective.Implies e = cc
mark_of_one connective.Iff connective.Iff e = refl

pub same_connective : (c d : Connective) (ts us vs : List Mark) → ts ≡ mark_of c ∷ us → ts ≡ mark_of d ∷ vs → c ≡ d
same_connective c d ts us vs e f = mark_of_one c d (let g : mark_of c ≡ mark_of d = cc in g)

-- `&` and `or` are neither `=>` nor `<=>`
chained_or_single : (c d : Connective) → IsChained c → IsSingle d → c ≢ d
chained_or_single c d (inl p) (inl q) e = cc
chained_or_single c d (inl p) (inr q) e = cc
chained_or_single c d (inr p) (inl q) e = cc
chained_or_single c d (inr p) (inr q) e = cc

pub ends_at_single : (c : Connective) (us ts : List Mark) → IsSingle c → ts ≡ mark_of c ∷ us → EndsConjunction ts
ends_at_single c us ts single e d is vs f = chained_or_single d c is single (same_connective d c ts vs us f e)

ends_both : (rest : List Mark) → EndsPredicate rest → EndsConjunction rest
ends_both rest e c is = e c

-- two chains from one literal go by one connective, or both end at once
pub same_chain : (c c' : Connective) (P R R' : Term) (us rest rest' : List Mark) → Chain c P us R rest → Chain c' P us R' rest' → StopsBefore c' rest → StopsBefore c rest'
    → (c ≡ c') ⊎ ((R ≡ R') × (rest ≡ rest'))
same_chain c c' P R R' us rest rest' (ends _ _ _ _ _ e f) (ends _ _ _ _ _ e' f') n n' = inr (e ∙ sym e', f ∙ sym f')
same_chain c c' P R R' us rest rest' (ends _ _ _ _ _ e f) (goes_on _ _ Q _ _ vs ws _ g l k) n n' = absurd (n vs (f ∙ g))
same_chain c c' P R R' us rest rest' (goes_on _ _ Q _ _ vs ws _ g l k) (ends _ _ _ _ _ e f) n n' = absurd (n' vs (f ∙ g))
same_chain c c' P R R' us rest rest' (goes_on _ _ Q _ _ vs ws _ g l k) (goes_on _ _ Q' _ _ vs' ws' _ g' l' k') n n' = inl (same_connective c c' us vs vs' g g')

mutual
  pub literal_unique : (P P' : Term) (ts rest rest' : List Mark) → Literal P ts rest → Literal P' ts rest' → (P ≡ P') × (rest ≡ rest')
  literal_unique P P' ts rest rest' (is_true _ _ _ e f) (is_true _ _ _ e' f') = (f ∙ sym f', let g : True ∷ rest ≡ True ∷ rest' = sym e ∙ e' in cc)
  literal_unique P P' ts rest rest' (is_true _ _ _ e f) (is_false _ _ _ e' f') = absurd (cc)
  literal_unique P P' ts rest rest' (is_true _ _ _ e f) (is_negation _ Q' _ us' _ e' l' f') = absurd (cc)
  literal_unique P P' ts rest rest' (is_true _ _ _ e f) (in_parens _ _ us' _ e' l') = absurd (cc)
  literal_unique P P' ts rest rest' (is_false _ _ _ e f) (is_true _ _ _ e' f') = absurd (cc)
  literal_unique P P' ts rest rest' (is_false _ _ _ e f) (is_false _ _ _ e' f') = (f ∙ sym f', let g : False ∷ rest ≡ False ∷ rest' = sym e ∙ e' in cc)
  literal_unique P P' ts rest rest' (is_false _ _ _ e f) (is_negation _ Q' _ us' _ e' l' f') = absurd (cc)
  literal_unique P P' ts rest rest' (is_false _ _ _ e f) (in_parens _ _ us' _ e' l') = absurd (cc)
  literal_unique P P' ts rest rest' (is_negation _ Q _ us _ e l f) (is_true _ _ _ e' f') = absurd (cc)
  literal_unique P P' ts rest rest' (is_negation _ Q _ us _ e l f) (is_false _ _ _ e' f') = absurd (cc)
  literal_unique P P' ts rest rest' (is_negation _ Q _ us _ e l f) (is_negation _ Q' _ us' _ e' l' f') =
      let g : us' ≡ us = cc in
      let ih = literal_unique Q Q' us rest rest' l (subst (λ xs. Literal Q' xs rest') g l') in
      (f ∙ ap neg ih.0 ∙ sym f', ih.1)
  literal_unique P P' ts rest rest' (is_negation _ Q _ us _ e l f) (in_parens _ _ us' _ e' l') = absurd (cc)
  literal_unique P P' ts rest rest' (in_parens _ _ us _ e l) (is_true _ _ _ e' f') = absurd (cc)
  literal_unique P P' ts rest rest' (in_parens _ _ us _ e l) (is_false _ _ _ e' f') = absurd (cc)
  literal_unique P P' ts rest rest' (in_parens _ _ us _ e l) (is_negation _ Q' _ us' _ e' l' f') = absurd (cc)
  literal_unique P P' ts rest rest' (in_parens _ _ us _ e l) (in_parens _ _ us' _ e' l') =
      let g : us' ≡ us = cc in
      let ih = predicate_unique P P' us (Close ∷ rest) (Close ∷ rest') l (subst (λ xs. Predicate P' xs (Close ∷ rest')) g l') (ends_at_close rest) (ends_at_close rest') in
      (ih.0, let h = ih.1 in cc)

  pub chain_unique : (c : Connective) (P R R' : Term) (us rest rest' : List Mark) → Chain c P us R rest → Chain c P us R' rest' → StopsBefore c rest → StopsBefore c rest' → (R ≡ R') × (rest ≡ rest')
  chain_unique c P R R' us rest rest' (ends _ _ _ _ _ e f) (ends _ _ _ _ _ e' f') n n' = (e ∙ sym e', f ∙ sym f')
  chain_unique c P R R' us rest rest' (ends _ _ _ _ _ e f) (goes_on _ _ Q' _ _ vs' ws' _ g' l' k') n n' = absurd (n vs' (f ∙ g'))
  chain_unique c P R R' us rest rest' (goes_on _ _ Q _ _ vs ws _ g l k) (ends _ _ _ _ _ e' f') n n' = absurd (n' vs (f' ∙ g))
  chain_unique c P R R' us rest rest' (goes_on _ _ Q _ _ vs ws _ g l k) (goes_on _ _ Q' _ _ vs' ws' _ g' l' k') n n' =
      let h : vs' ≡ vs = cc in
      let ih = literal_unique Q Q' vs ws ws' l (subst (λ xs. Literal Q' xs ws') h l') in
      chain_unique c (joined c P Q) R R' ws rest rest' k
      (subst (λ A. Chain c (joined c P A) ws R' rest') (sym ih.0) (subst (λ xs. Chain c (joined c P Q') xs R' rest') (sym ih.1) k')) n n'

  pub conjunction_unique : (R R' : Term) (ts rest rest' : List Mark) → Conjunction R ts rest → Conjunction R' ts rest' → EndsConjunction rest → EndsConjunction rest' → (R ≡ R') × (rest ≡ rest')
  conjunction_unique R R' ts rest rest' (chained c P _ _ us _ is l k) (chained c' P' _ _ us' _ is' l' k') n n' =
      let ih = literal_unique P P' ts us us' l l' in
      let same : Chain c' P us R' rest' = subst (λ A. Chain c' A us R' rest') (sym ih.0) (subst (λ xs. Chain c' P' xs R' rest') (sym ih.1) k') in
      elim (same_chain c c' P R R' us rest rest' k same (n c' is') (n' c is)) [
        | inl e ↦ chain_unique c P R R' us rest rest' k (subst (λ d. Chain d P us R' rest') (sym e) same) (n c is) (n' c is)
        | inr e ↦ e
      ]

  pub predicate_unique : (R R' : Term) (ts rest rest' : List Mark) → Predicate R ts rest → Predicate R' ts rest' → EndsPredicate rest → EndsPredicate rest' → (R ≡ R') × (rest ≡ rest')
  predicate_unique R R' ts rest rest' (alone _ _ _ l) (alone _ _ _ l') n n' = conjunction_unique R R' ts rest rest' l l' (ends_both rest n) (ends_both rest' n')
  predicate_unique R R' ts rest rest' (alone _ _ _ l) (is_joined c' P' Q' _ _ us' vs' _ is' l' e' m' f') n n' =
      let ih = conjunction_unique R P' ts rest us' l l' (ends_both rest n) (ends_at_single c' vs' us' is' e') in
      absurd (n c' vs' (ih.1 ∙ e'))
  predicate_unique R R' ts rest rest' (is_joined c P Q _ _ us vs _ is l e m f) (alone _ _ _ l') n n' =
      let ih = conjunction_unique P R' ts us rest' l l' (ends_at_single c vs us is e) (ends_both rest' n') in
      absurd (n' c vs (sym ih.1 ∙ e))
  predicate_unique R R' ts rest rest' (is_joined c P Q _ _ us vs _ is l e m f) (is_joined c' P' Q' _ _ us' vs' _ is' l' e' m' f') n n' =
      let ih = conjunction_unique P P' ts us us' l l' (ends_at_single c vs us is e) (ends_at_single c' vs' us' is' e') in
      let d : c ≡ c' = same_connective c c' us vs vs' e (ih.1 ∙ e') in
      let h : vs' ≡ vs = let g = ih.1 in cc in
      let ih' = conjunction_unique Q Q' vs rest rest' m (subst (λ xs. Conjunction Q' xs rest') h m') (ends_both rest n) (ends_both rest' n') in
      (f ∙ ap (λ x. joined x P Q) d ∙ ap (λ A. joined c' A Q) ih.0 ∙ ap (joined c' P') ih'.0 ∙ sym f', ih'.1)
