-- What the steps of the formula reader rest on.
use Rattle.std.proofs.Common.{◌≡◌, ◌≢◌, ◌+◌, ◌-◌, ◌<◌, ◌≤◌, ℕ, zero, suc, List, ◌∷◌, refl, ap, subst, sym, ◌∙◌, inl, inr, arith, drop, length, max, Option, Some, None}
use Rattle.std.specs.Prelude.{IfSome, IfNone, Bool, true, false, is_some}
use Rattle.ev_terms.specs.Term.{Term, var, lit, node}
use Rattle.ev_terms.specs.Measures.{depth}
use Rattle.ev_forms.specs.Forms.{neg}
use Rattle.ev_forms.specs.Connectives.{joined}
use Rattle.ev_forms.specs.declared.connectives.Connective.{Connective}
use Rattle.ev_forms.specs.declared.connectives.Connective.TheVariants as connective
use Rattle.theory.specs.declared.marks.Mark.{Mark}
use Rattle.theory.specs.declared.marks.Mark.TheVariants.{True, False, Not, Open, Close}
use Rattle.theory.specs.declared.formulas.Want.{Want}
use Rattle.theory.specs.declared.formulas.Want.TheVariants as want
use Rattle.theory.specs.declared.formulas.Found.{Found}
use Rattle.theory.specs.Formulas.{mark_of, IsChained, IsSingle, Literal, Chain, Conjunction, Predicate, is_true, is_false, is_negation, in_parens, ends, goes_on, chained, alone, is_joined}
use Rattle.theory.specs.inner.Parsing.{StopsBefore, EndsConjunction, EndsPredicate, Reads, ExtendsToConjunction, ExtendsByOne, ExtendsToPredicate, Extends, Gives}
use Rattle.theory.proofs.FormulaLaws.{same_connective, same_chain, ends_at_close, ends_at_single, literal_unique, chain_unique, conjunction_unique, predicate_unique}

-- Depths.
pub depth-joined : (c : Connective) (P Q : Term) → depth (joined c P Q) ≡ 1 + max (depth P) (depth Q)
depth-joined connective.And P Q = omega arith
depth-joined connective.Or P Q = omega arith
depth-joined connective.Implies P Q = omega arith
depth-joined connective.Iff P Q = omega arith

pub depth-neg : (P : Term) → depth (neg P) ≡ 1 + depth P
depth-neg P = omega arith

depth_chain : (c : Connective) (P R : Term) (ts rest : List Mark) → Chain c P ts R rest → depth P ≤ depth R
depth_chain c P R ts rest (ends _ _ _ _ _ e f) = omega (arith, ap depth e)
depth_chain c P R ts rest (goes_on _ _ Q _ _ us vs _ e l k) = omega (arith, depth_chain c (joined c P Q) R vs rest k, depth-joined c P Q)

-- no literal, no formula of a kind, nests less
abbrev pub NoLiteral : ℕ → List Mark → Type 0
NoLiteral levels ts = (R : Term) (rest : List Mark) → Literal R ts rest → levels < depth R

first_literal : (R : Term) (ts rest : List Mark) → Conjunction R ts rest → (P : Term) × (us : List Mark) × Literal P ts us × (depth P ≤ depth R)
first_literal R ts rest (chained c P _ _ us _ is l k) = (P, us, l, depth_chain c P R us rest k)

first_literal_of : (R : Term) (ts rest : List Mark) → Predicate R ts rest → (P : Term) × (us : List Mark) × Literal P ts us × (depth P ≤ depth R)
first_literal_of R ts rest (alone _ _ _ k) = first_literal R ts rest k
first_literal_of R ts rest (is_joined c P Q _ _ us vs _ is k e m f) =
    let h = first_literal P ts us k in (h.0, h.1, h.2, omega (arith, h.3, depth-joined c P Q, ap depth f))

no_conjunction : (levels : ℕ) (ts : List Mark) → NoLiteral levels ts → (R : Term) (rest : List Mark) → Conjunction R ts rest → levels < depth R
no_conjunction levels ts none R rest k = let h = first_literal R ts rest k in omega (arith, none h.0 h.1 h.2, h.3)

no_predicate : (levels : ℕ) (ts : List Mark) → NoLiteral levels ts → (R : Term) (rest : List Mark) → Predicate R ts rest → levels < depth R
no_predicate levels ts none R rest k = let h = first_literal_of R ts rest k in omega (arith, none h.0 h.1 h.2, h.3)

pub no_literal_no_more : (levels : ℕ) (w : Want) (ts : List Mark) → NoLiteral levels ts → (R : Term) (rest : List Mark) → Reads w R ts rest → levels < depth R
no_literal_no_more levels want.Literal ts none R rest h = none R rest h
no_literal_no_more levels want.Conjunction ts none R rest h = no_conjunction levels ts none R rest h.0
no_literal_no_more levels want.Predicate ts none R rest h = no_predicate levels ts none R rest h.0

-- a literal that begins with `(` is a predicate in parentheses
opened : (R : Term) (ts us rest : List Mark) → ts ≡ Open ∷ us → Literal R ts rest → Predicate R us (Close ∷ rest)
opened R ts us rest e (is_true _ _ _ f g) = absurd (cc)
opened R ts us rest e (is_false _ _ _ f g) = absurd (cc)
opened R ts us rest e (is_negation _ Q _ us' _ f l g) = absurd (cc)
opened R ts us rest e (in_parens _ _ us' _ f l) = let h : us' ≡ us = cc in subst (λ xs. Predicate R xs (Close ∷ rest)) h l

-- where no predicate that ends stands behind `(`, no literal stands at it
pub nothing_inside : (levels : ℕ) (ts us : List Mark) → ts ≡ Open ∷ us → ((R : Term) (rest : List Mark) → Predicate R us rest → EndsPredicate rest → levels < depth R) → NoLiteral levels ts
nothing_inside levels ts us e none R rest l = none R (Close ∷ rest) (opened R ts us rest e l) (ends_at_close rest)

pub no_literal_inside : (levels : ℕ) (ts us : List Mark) → ts ≡ Open ∷ us → NoLiteral levels us → NoLiteral levels ts
no_literal_inside levels ts us e none = nothing_inside levels ts us e (λ R rest p n. no_predicate levels us none R rest p)

pub no_literal_under : (levels n : ℕ) (from : ℕ) (marks : List Mark) → ((k : ℕ) → k < n → drop (from + k) marks ≡ Open ∷ drop (from + k + 1) marks)
    → NoLiteral levels (drop (from + n) marks) → NoLiteral levels (drop from marks)
no_literal_under levels zero from marks opens none = let e : from + 0 ≡ from = omega arith in subst (λ i. NoLiteral levels (drop i marks)) e none
no_literal_under levels (suc n) from marks opens none =
    let e : from + suc n ≡ from + n + 1 = omega arith in
    no_literal_under levels n from marks (λ k lt. opens k (omega arith))
    (no_literal_inside levels (drop (from + n) marks) (drop (from + n + 1) marks) (opens n (omega arith)) (subst (λ i. NoLiteral levels (drop i marks)) e none))

-- what begins with a literal extends it
extends_conjunction : (P R : Term) (ts us rest : List Mark) → Literal P ts us → Conjunction R ts rest → EndsConjunction rest → ExtendsToConjunction P us R rest
extends_conjunction P R ts us rest l (chained c P' _ _ us' _ is l' k) n =
    let q = literal_unique P' P ts us' us l' l in
    (c, is, subst (λ A. Chain c A us R rest) q.0 (subst (λ xs. Chain c P' xs R rest) q.1 k), n)

extends_predicate : (P R : Term) (ts us rest : List Mark) → Literal P ts us → Predicate R ts rest → EndsPredicate rest → ExtendsToPredicate P us R rest
extends_predicate P R ts us rest l (alone _ _ _ k) n = (R, rest, extends_conjunction P R ts us rest l k (λ c is. n c), inl (refl, refl), n)
extends_predicate P R ts us rest l (is_joined c A Q _ _ vs ws _ is k e m f) n =
    (A, vs, extends_conjunction P A ts us vs l k (ends_at_single c ws vs is e), inr (c, Q, ws, is, e, m, f), n)

pub reads_extends : (w : Want) (P R : Term) (ts us rest : List Mark) → Literal P ts us → Reads w R ts rest → Extends w P us R rest
reads_extends want.Literal P R ts us rest l h = let q = literal_unique R P ts rest us h l in (q.0, q.1)
reads_extends want.Conjunction P R ts us rest l h = extends_conjunction P R ts us rest l h.0 h.1
reads_extends want.Predicate P R ts us rest l h = extends_predicate P R ts us rest l h.0 h.1

-- and the other way round
extended_conjunction : (P R : Term) (ts us rest : List Mark) → Literal P ts us → ExtendsToConjunction P us R rest → Conjunction R ts rest
extended_conjunction P R ts us rest l h = chained h.0 P R ts us rest h.1 l h.2

extended_by_one : (A R : Term) (ts vs rest : List Mark) → Conjunction A ts vs → ExtendsByOne A vs R rest → Predicate R ts rest
extended_by_one A R ts vs rest k (inl h) = subst (λ B. Predicate B ts rest) (sym h.0) (alone A ts rest (subst (λ xs. Conjunction A ts xs) (sym h.1) k))
extended_by_one A R ts vs rest k (inr (c, Q, ws, is, e, m, f)) = is_joined c A Q R ts vs ws rest is k e m f

pub extends_reads : (w : Want) (P R : Term) (ts us rest : List Mark) → Literal P ts us → Extends w P us R rest → Reads w R ts rest
extends_reads want.Literal P R ts us rest l h = subst (λ A. Literal A ts rest) (sym h.0) (subst (λ xs. Literal P ts xs) (sym h.1) l)
extends_reads want.Conjunction P R ts us rest l h = (extended_conjunction P R ts us rest l h, h.3)
extends_reads want.Predicate P R ts us rest l (A, vs, k, one, n) = (extended_by_one A R ts vs rest (extended_conjunction P A ts us vs l k) one, n)

-- every chain from P that ends goes through A
pub record Climbs (c : Connective) (P : Term) (ts : List Mark) (A : Term) (us : List Mark) : Type 0 where
  pub makes : (R : Term) (rest : List Mark) → Chain c A us R rest → Chain c P ts R rest
  pub only : (R : Term) (rest : List Mark) → Chain c P ts R rest → StopsBefore c rest → Chain c A us R rest

pub climbs_first : (c : Connective) (P : Term) (ts : List Mark) → Climbs c P ts P ts
climbs_first c P ts = record { makes = λ R rest k. k; only = λ R rest k n. k }

-- the next literal of a chain that ends
next_literal : (c : Connective) (A R : Term) (us vs rest : List Mark) → us ≡ mark_of c ∷ vs → Chain c A us R rest → StopsBefore c rest
    → (Q : Term) × (ws : List Mark) × Literal Q vs ws × Chain c (joined c A Q) ws R rest
next_literal c A R us vs rest e (ends _ _ _ _ _ f g) n = absurd (n vs (g ∙ e))
next_literal c A R us vs rest e (goes_on _ _ Q _ _ vs' ws _ f l k) n =
    let h : vs' ≡ vs = cc in (Q, ws, subst (λ xs. Literal Q xs ws) h l, k)

pub climbs_on : (c : Connective) (P : Term) (ts : List Mark) (A Q : Term) (us vs ws : List Mark) → Climbs c P ts A us → us ≡ mark_of c ∷ vs → Literal Q vs ws
    → Climbs c P ts (joined c A Q) ws
climbs_on c P ts A Q us vs ws climbs e l = record {
  makes = λ R rest k. climbs.makes R rest (goes_on c A Q R us vs ws rest e l k);
  only = λ R rest k n.
      let h = next_literal c A R us vs rest e (climbs.only R rest k n) n in
      let q = literal_unique h.0 Q vs h.1 ws h.2 l in
      subst (λ B. Chain c (joined c A B) ws R rest) q.0 (subst (λ xs. Chain c (joined c A h.0) xs R rest) q.1 h.3);
}

pub climbs_end : (c : Connective) (P : Term) (ts : List Mark) (A : Term) (us : List Mark) → Climbs c P ts A us → Chain c P ts A us
climbs_end c P ts A us climbs = climbs.makes A us (ends c A A us us refl refl)

pub climbs_no_literal : (levels : ℕ) (c : Connective) (P : Term) (ts : List Mark) (A : Term) (us vs : List Mark) → Climbs c P ts A us → us ≡ mark_of c ∷ vs → 1 ≤ levels
    → NoLiteral (levels - 1) vs → (R : Term) (rest : List Mark) → Chain c P ts R rest × StopsBefore c rest → levels < depth R
climbs_no_literal levels c P ts A us vs climbs e one none R rest h =
    let q = next_literal c A R us vs rest e (climbs.only R rest h.0 h.1) h.1 in
    omega (arith, none q.0 q.1 q.2, depth-joined c A q.0, depth_chain c (joined c A q.0) R q.1 rest q.3)

pub climbs_too_deep : (levels : ℕ) (c : Connective) (P : Term) (ts : List Mark) (A Q : Term) (us vs ws : List Mark) → Climbs c P ts A us → us ≡ mark_of c ∷ vs → Literal Q vs ws
    → levels < depth (joined c A Q) → (R : Term) (rest : List Mark) → Chain c P ts R rest × StopsBefore c rest → levels < depth R
climbs_too_deep levels c P ts A Q us vs ws climbs e l deep R rest h =
    let k = (climbs_on c P ts A Q us vs ws climbs e l).only R rest h.0 h.1 in
    omega (arith, deep, depth_chain c (joined c A Q) R ws rest k)

-- The chains of a literal: by the connective that comes next, or none.
pub alone_extends : (P : Term) (us : List Mark) → EndsConjunction us → ExtendsToConjunction P us P us
alone_extends P us n = (connective.And, inl refl, ends connective.And P P us us refl refl, n)

-- whatever conjunction or disjunction the literal begins goes by the connective that comes next
by_next : (c : Connective) (P R : Term) (us vs rest : List Mark) → IsChained c → us ≡ mark_of c ∷ vs → ExtendsToConjunction P us R rest → Chain c P us R rest
by_next c P R us vs rest is e (d, is', k, n) = at d is' k
  where
    at : (d : Connective) → IsChained d → Chain d P us R rest → Chain c P us R rest
    at d is' (ends _ _ _ _ _ f g) = absurd (n c is vs (g ∙ e))
    at d is' (goes_on _ _ Q _ _ xs ws _ f l k) =
        let same : d ≡ c = same_connective d c us xs vs f e in subst (λ b. Chain b P us R rest) same (goes_on d P Q R us xs ws rest f l k)

pub chain_extends : (c : Connective) (P R : Term) (us rest : List Mark) → IsChained c → Chain c P us R rest → EndsConjunction rest → ExtendsToConjunction P us R rest
chain_extends c P R us rest is k n = (c, is, k, n)

pub no_chain : (levels : ℕ) (c : Connective) (P : Term) (us vs : List Mark) → IsChained c → us ≡ mark_of c ∷ vs
    → ((R : Term) (rest : List Mark) → Chain c P us R rest × StopsBefore c rest → levels < depth R)
    → (R : Term) (rest : List Mark) → ExtendsToConjunction P us R rest → levels < depth R
no_chain levels c P us vs is e none R rest h = none R rest (by_next c P R us vs rest is e h, h.3 c is)

-- a chain before another connective is no conjunction
pub mixed : (levels : ℕ) (c d : Connective) (P A : Term) (us vs ws xs : List Mark) → IsChained c → us ≡ mark_of c ∷ vs → Chain c P us A ws → StopsBefore c ws
    → IsChained d → ws ≡ mark_of d ∷ xs → (R : Term) (rest : List Mark) → ExtendsToConjunction P us R rest → levels < depth R
mixed levels c d P A us vs ws xs is e k n is' f R rest h =
    let q = chain_unique c P A R us ws rest k (by_next c P R us vs rest is e h) n (h.3 c is) in
    absurd (h.3 d is' xs (sym q.1 ∙ f))

-- a literal begins one conjunction or disjunction at most
extends_unique : (P A A' : Term) (us vs vs' : List Mark) → ExtendsToConjunction P us A vs → ExtendsToConjunction P us A' vs' → (A ≡ A') × (vs ≡ vs')
extends_unique P A A' us vs vs' (c, is, k, n) (c', is', k', n') =
    elim (same_chain c c' P A A' us vs vs' k k' (n c' is') (n' c is)) [
      | inl e ↦ chain_unique c P A A' us vs vs' k (subst (λ d. Chain d P us A' vs') (sym e) k') (n c is) (n' c is)
      | inr e ↦ e
    ]

depth_by_one : (A R : Term) (vs rest : List Mark) → ExtendsByOne A vs R rest → depth A ≤ depth R
depth_by_one A R vs rest (inl h) = omega (arith, ap depth h.0)
depth_by_one A R vs rest (inr (c, Q, ws, is, e, m, f)) = omega (arith, ap depth f, depth-joined c A Q)

pub no_conjunction_no_predicate : (levels : ℕ) (P : Term) (us : List Mark) → ((A : Term) (vs : List Mark) → ExtendsToConjunction P us A vs → levels < depth A)
    → (R : Term) (rest : List Mark) → ExtendsToPredicate P us R rest → levels < depth R
no_conjunction_no_predicate levels P us none R rest (A, vs, k, one, n) = omega (arith, none A vs k, depth_by_one A R vs rest one)

pub conjunction_alone : (P A : Term) (us vs : List Mark) → ExtendsToConjunction P us A vs → EndsPredicate vs → ExtendsToPredicate P us A vs
conjunction_alone P A us vs k n = (A, vs, k, inl (refl, refl), n)

-- where a connective comes next, a predicate goes on behind it
one_here : (P A R : Term) (c : Connective) (us vs ws rest : List Mark) → ExtendsToConjunction P us A vs → vs ≡ mark_of c ∷ ws → ExtendsToPredicate P us R rest
    → (Q : Term) × Conjunction Q ws rest × (R ≡ joined c A Q) × EndsPredicate rest
one_here P A R c us vs ws rest k e (A', vs', k', inl h, n) = let q = extends_unique P A A' us vs vs' k k' in absurd (n c ws (h.1 ∙ sym q.1 ∙ e))
one_here P A R c us vs ws rest k e (A', vs', k', inr (c', Q, ws', is, e', m, f), n) =
    let q = extends_unique P A A' us vs vs' k k' in
    let d : c' ≡ c = same_connective c' c vs ws' ws (q.1 ∙ e') e in
    let g : ws' ≡ ws = let p = q.1 in cc in
    (Q, subst (λ xs. Conjunction Q xs rest) g m, f ∙ ap (λ b. joined b A' Q) d ∙ ap (λ B. joined c B Q) (sym q.0), n)

pub no_right : (levels : ℕ) (P A : Term) (c : Connective) (us vs ws : List Mark) → ExtendsToConjunction P us A vs → vs ≡ mark_of c ∷ ws → 1 ≤ levels
    → ((Q : Term) (rest : List Mark) → Reads want.Conjunction Q ws rest → levels - 1 < depth Q)
    → (R : Term) (rest : List Mark) → ExtendsToPredicate P us R rest → levels < depth R
no_right levels P A c us vs ws k e one none R rest h =
    let q = one_here P A R c us vs ws rest k e h in
    omega (arith, none q.0 rest (q.1, λ d is. q.3 d), ap depth q.2, depth-joined c A q.0)

pub goes_further : (levels : ℕ) (P A Q : Term) (c d : Connective) (us vs ws xs ys : List Mark) → ExtendsToConjunction P us A vs → vs ≡ mark_of c ∷ ws
    → Reads want.Conjunction Q ws xs → xs ≡ mark_of d ∷ ys
    → (R : Term) (rest : List Mark) → ExtendsToPredicate P us R rest → levels < depth R
goes_further levels P A Q c d us vs ws xs ys k e m f R rest h =
    let q = one_here P A R c us vs ws rest k e h in
    let s = conjunction_unique q.0 Q ws rest xs q.1 m.0 (λ b is. q.3 b) m.1 in
    absurd (q.3 d ys (s.1 ∙ f))

pub joined_too_deep : (levels : ℕ) (P A Q : Term) (c : Connective) (us vs ws xs : List Mark) → ExtendsToConjunction P us A vs → vs ≡ mark_of c ∷ ws
    → Reads want.Conjunction Q ws xs → levels < depth (joined c A Q)
    → (R : Term) (rest : List Mark) → ExtendsToPredicate P us R rest → levels < depth R
joined_too_deep levels P A Q c us vs ws xs k e m deep R rest h =
    let q = one_here P A R c us vs ws rest k e h in
    let s = conjunction_unique q.0 Q ws rest xs q.1 m.0 (λ b is. q.3 b) m.1 in
    omega (arith, deep, ap depth q.2, ap (λ B. depth (joined c A B)) s.0)

single_here : (c : Connective) (vs ws : List Mark) → EndsConjunction vs → vs ≡ mark_of c ∷ ws → IsSingle c
single_here connective.And vs ws n e = absurd (n connective.And (inl refl) ws e)
single_here connective.Or vs ws n e = absurd (n connective.Or (inr refl) ws e)
single_here connective.Implies vs ws n e = inl refl
single_here connective.Iff vs ws n e = inr refl

pub predicate_joined : (P A Q R : Term) (c : Connective) (us vs ws rest : List Mark) → ExtendsToConjunction P us A vs → vs ≡ mark_of c ∷ ws
    → Reads want.Conjunction Q ws rest → EndsPredicate rest → R ≡ joined c A Q → ExtendsToPredicate P us R rest
predicate_joined P A Q R c us vs ws rest k e m n f = (A, vs, k, inr (c, Q, ws, single_here c vs ws k.3 e, e, m.0, f), n)

-- Parentheses.
depth_positive : (R : Term) → 1 ≤ depth R
depth_positive (var i) = omega arith
depth_positive (lit n) = omega arith
depth_positive (node s a ts) = omega arith

pub nothing_without_levels : (w : Want) (ts : List Mark) (R : Term) (rest : List Mark) → Reads w R ts rest → 0 < depth R
nothing_without_levels w ts R rest h = omega (arith, depth_positive R)

pub nothing_within : (levels : ℕ) (ts us vs : List Mark) (P : Term) → ts ≡ Open ∷ us → Literal P us vs
    → ((R : Term) (rest : List Mark) → ExtendsToPredicate P vs R rest → levels < depth R) → NoLiteral levels ts
nothing_within levels ts us vs P e l none = nothing_inside levels ts us e (λ R rest p n. none R rest (extends_predicate P R us vs rest l p n))

pub not_closed : (levels : ℕ) (ts us vs ws : List Mark) (P A : Term) → ts ≡ Open ∷ us → Literal P us vs → ExtendsToPredicate P vs A ws
    → ((xs : List Mark) → ws ≢ Close ∷ xs) → NoLiteral levels ts
not_closed levels ts us vs ws P A e l k unclosed R rest h =
    let p = extends_reads want.Predicate P A us vs ws l k in
    let q = predicate_unique R A us (Close ∷ rest) ws (opened R ts us rest e h) p.0 (ends_at_close rest) p.1 in
    absurd (unclosed rest (sym q.1))

pub closed : (ts us vs ws xs : List Mark) (P A : Term) → ts ≡ Open ∷ us → Literal P us vs → ExtendsToPredicate P vs A ws → ws ≡ Close ∷ xs → Literal A ts xs
closed ts us vs ws xs P A e l k f =
    let p = extends_reads want.Predicate P A us vs ws l k in
    in_parens A ts us xs e (subst (λ ys. Predicate A us ys) f p.0)

-- `not`
pub no_negation : (levels : ℕ) (ts us : List Mark) → ts ≡ Not ∷ us → 1 ≤ levels → NoLiteral (levels - 1) us → NoLiteral levels ts
no_negation levels ts us e one none R rest (is_true _ _ _ f g) = absurd (cc)
no_negation levels ts us e one none R rest (is_false _ _ _ f g) = absurd (cc)
no_negation levels ts us e one none R rest (is_negation _ Q _ us' _ f l g) =
    let h : us' ≡ us = cc in omega (arith, none Q rest (subst (λ xs. Literal Q xs rest) h l), ap depth g, depth-neg Q)
no_negation levels ts us e one none R rest (in_parens _ _ us' _ f l) = absurd (cc)

-- no literal begins otherwise
pub no_other : (levels : ℕ) (ts : List Mark) → ((us : List Mark) → ts ≢ True ∷ us) → ((us : List Mark) → ts ≢ False ∷ us) → ((us : List Mark) → ts ≢ Not ∷ us)
    → ((us : List Mark) → ts ≢ Open ∷ us) → NoLiteral levels ts
no_other levels ts t f n o R rest (is_true _ _ _ e g) = absurd (t rest e)
no_other levels ts t f n o R rest (is_false _ _ _ e g) = absurd (f rest e)
no_other levels ts t f n o R rest (is_negation _ Q _ us' _ e l g) = absurd (n us' e)
no_other levels ts t f n o R rest (in_parens _ _ us' _ e l) = absurd (o us' e)

-- What a reader gives where it found something, and where it did not.
pub gives_none : (fits : Term → List Mark → Type 0) (levels : ℕ) (marks : List Mark) (o : Option Found) → Gives fits levels marks o → ((x : Found) → o ≡ Some x → ⊥)
    → (R : Term) (rest : List Mark) → fits R rest → levels < depth R
gives_none fits levels marks None h n = h
gives_none fits levels marks (Some x) h n = absurd (n x refl)

pub gives_some : (fits : Term → List Mark → Type 0) (levels : ℕ) (marks : List Mark) (o : Option Found) (x : Found) → Gives fits levels marks o → o ≡ Some x
    → (x.end ≤ length marks) × fits x.term (drop x.end marks) × (depth x.term ≤ levels)
gives_some fits levels marks o x h e = subst (Gives fits levels marks) e h

pub gives_other : (fits fits' : Term → List Mark → Type 0) (levels : ℕ) (marks : List Mark) (o : Option Found) → ((R : Term) (rest : List Mark) → fits R rest → fits' R rest)
    → ((R : Term) (rest : List Mark) → fits' R rest → fits R rest) → Gives fits levels marks o → Gives fits' levels marks o
gives_other fits fits' levels marks None to back h = λ R rest k. h R rest (back R rest k)
gives_other fits fits' levels marks (Some x) to back h = (h.0, to x.term (drop x.end marks) h.1, h.2)

pub none_holds : {X : Type 0} (P : Type 0) (o : Option X) → IfNone o P → ((x : X) → o ≡ Some x → ⊥) → P
none_holds P None h n = h
none_holds P (Some x) h n = absurd (n x refl)

pub some_holds : {X : Type 0} (P : X → Type 0) (o : Option X) (x : X) → IfSome o P → o ≡ Some x → P x
some_holds P o x h e = subst (λ q. IfSome q P) e h

-- Whole outcomes, from what the reader's parts give.
pub chain_step : (levels : ℕ) (c : Connective) (P A Q R : Term) (ts us vs ws : List Mark) → Climbs c P ts A us → us ≡ mark_of c ∷ vs → Literal Q vs ws
    → (R ≡ joined c A Q) × (depth R ≤ levels) → Climbs c P ts R ws × (depth R ≤ levels)
chain_step levels c P A Q R ts us vs ws climbs e l h = (subst (λ B. Climbs c P ts B ws) (sym h.0) (climbs_on c P ts A Q us vs ws climbs e l), h.1)

pub a_value : {X : Type 0} (o : Option X) (b : Bool) → b ≡ is_some o → b ≡ true → (x : X) × (o ≡ Some x)
a_value None b e f = absurd (cc)
a_value (Some x) b e f = (x, refl)

pub no_value : {X : Type 0} (o : Option X) (b : Bool) → b ≡ is_some o → b ≡ false → (x : X) → o ≡ Some x → ⊥
no_value None b e f x g = cc
no_value (Some y) b e f x g = cc

pub paren_at : (marks : List Mark) (from n : ℕ) → 0 < n → drop (from + (n - 1)) marks ≡ Open ∷ drop (from + (n - 1) + 1) marks → drop (from + (n - 1)) marks ≡ Open ∷ drop (from + n) marks
paren_at marks from n lt e = let f : from + (n - 1) + 1 ≡ from + n = omega arith in e ∙ ap (λ i. Open ∷ drop i marks) f
