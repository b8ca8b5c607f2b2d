-- What the walk over a term needs.
use Rattle.std.proofs.Common.{◌≡◌, ◌≢◌, ℕ, ◌+◌, ◌*◌, List, [], ◌∷◌, ◌++◌, length, drop, get_or, ◌<◌, ap, sym, ◌∙◌, subst, refl}
use Rattle.std.proofs.lemmas.List.Sums.{fold-append}
use Rattle.ev_terms.specs.declared.types.Tys.{Tys}
use Rattle.ev_terms.specs.declared.types.Sym.{Sym}
use Rattle.ev_terms.specs.Term.{Term, Terms, var, lit, node, terms, term_list-terms}
use Rattle.ev_terms.specs.Substitution.{type_at}
use Rattle.ev_terms.specs.Measures.{depth, depths}
use Rattle.ev_terms.proofs.Children as children
use Rattle.ev_typing.specs.Env.{Env}
use Rattle.ev_forms.specs.Forms.{truth}
use Rattle.ev_wd.specs.Limits.{IsSmall}
use Rattle.ev_wd.specs.Makers.{make_and, make_imp, make_or, make_all, joined_after, joined}
use Rattle.ev_wd.specs.WellDefined.{wd, wds, wd_node, guarded, closed_over}
use Rattle.ev_wd.proofs.Making.{and_left, and_right, imp_right, or_right, all_body, after_first, truth_small}

-- The measures by which the walk falls.
abbrev pub rank : Term → ℕ
rank t = 6 * depth t

abbrev pub rank_children : ℕ → List Term → ℕ
rank_children k ts = 6 * depths (terms ts) + k

-- A term by its form.
pub at_leaf : (env : Env) (t : Term) → ((s : Sym) (As : Tys) (ts : Terms) → t ≢ node s As ts) → truth ≡ wd env t
at_leaf env (var i) h = refl
at_leaf env (lit n) h = refl
at_leaf env (node s As ts) h = absurd (h s As ts refl)

pub at_node : (env : Env) (t : Term) (s : Sym) (As : Tys) (ts : List Term) → t ≡ node s As (terms ts) → wd_node env s As ts (wds env (terms ts)) ≡ wd env t
at_node env t s As ts e = sym (ap (wd env) e ∙ ap (λ us. wd_node env s As us (wds env (terms ts))) (term_list-terms ts))

-- The conditions of the children, and further ones behind them.
pub joined-parts : (Ds ps qs : List Term) (D : Term) → D ≡ joined Ds → qs ≡ ps → joined_after D qs ≡ joined (Ds ++ ps)
joined-parts Ds ps qs D e f = ap (λ P. joined_after P qs) e ∙ ap (joined_after (joined Ds)) f ∙ sym (fold-append make_and truth Ds ps)

-- a refusal of the parts is one of the whole
pub parts_refused : (Ds ps : List Term) → ((P : Term) → ¬ IsSmall (joined_after P ps)) → ¬ IsSmall (joined (Ds ++ ps))
parts_refused Ds ps h g = h (joined Ds) (subst IsSmall (fold-append make_and truth Ds ps) g)

pub joined_part : (Ds ps : List Term) → IsSmall (joined (Ds ++ ps)) → IsSmall (joined Ds)
joined_part Ds ps h = after_first (joined Ds) ps (subst IsSmall (fold-append make_and truth Ds ps) h)

-- Two children, of which the first guards the second.
pub guarded_two : (env : Env) (make : Term → Term → Term) (ts : List Term) (P Q D E : Term) → ts ≡ P ∷ Q ∷ [] → D ≡ wd env P → E ≡ make P (wd env Q) →
    make_and D E ≡ guarded make ts (wds env (terms ts))
guarded_two env make ts P Q D E e p q =
    ap (λ x. make_and x E) p ∙ ap (make_and (wd env P)) q ∙ sym (ap (λ us. guarded make us (wds env (terms us))) e)

pub guarded_others : (env : Env) (make : Term → Term → Term) (ts : List Term) → ((P Q : Term) → ts ≢ P ∷ Q ∷ []) →
    joined (wds env (terms ts)) ≡ guarded make ts (wds env (terms ts))
guarded_others env make [] h = refl
guarded_others env make (P ∷ []) h = refl
guarded_others env make (P ∷ Q ∷ []) h = absurd (h P Q refl)
guarded_others env make (P ∷ Q ∷ R ∷ ts) h = refl

pub guarded_true : (env : Env) (ts : List Term) (P Q : Term) → ts ≡ P ∷ Q ∷ [] → P ≡ truth → truth ≡ guarded make_or ts (wds env (terms ts))
guarded_true env ts P Q e p = sym (ap (λ us. guarded make_or us (wds env (terms us))) (e ∙ ap (λ x. x ∷ Q ∷ []) p))

pub guarded_first : (env : Env) (make : Term → Term → Term) (ts : List Term) (P Q : Term) → ts ≡ P ∷ Q ∷ [] → IsSmall (guarded make ts (wds env (terms ts))) →
    IsSmall (wd env P)
guarded_first env make ts P Q e h = and_left (wd env P) (make P (wd env Q)) (subst IsSmall (ap (λ us. guarded make us (wds env (terms us))) e) h)

pub guarded_second : (env : Env) (make : Term → Term → Term) (ts : List Term) (P Q E : Term) → ts ≡ P ∷ Q ∷ [] → E ≡ wd env Q → IsSmall (guarded make ts (wds env (terms ts))) →
    IsSmall (make P E)
guarded_second env make ts P Q E e q h =
    subst (λ x. IsSmall (make P x)) (sym q) (and_right (wd env P) (make P (wd env Q)) (subst IsSmall (ap (λ us. guarded make us (wds env (terms us))) e) h))

pub guarded_imp : (env : Env) (ts : List Term) (P Q : Term) → ts ≡ P ∷ Q ∷ [] → IsSmall (guarded make_imp ts (wds env (terms ts))) → IsSmall (wd env Q)
guarded_imp env ts P Q e h = imp_right P (wd env Q) (guarded_second env make_imp ts P Q (wd env Q) e refl h)

pub guarded_or : (env : Env) (ts : List Term) (P Q : Term) → ts ≡ P ∷ Q ∷ [] → P ≢ truth → IsSmall (guarded make_or ts (wds env (terms ts))) → IsSmall (wd env Q)
guarded_or env ts P Q e ne h = or_right P (wd env Q) ne (guarded_second env make_or ts P Q (wd env Q) e refl h)

-- One child under a variable.
pub over_one : (env : Env) (As : Tys) (ts : List Term) (P D : Term) → ts ≡ P ∷ [] → D ≡ wd env P → make_all (type_at As 0) D ≡ closed_over As (wds env (terms ts))
over_one env As ts P D e p = ap (make_all (type_at As 0)) p ∙ sym (ap (λ us. closed_over As (wds env (terms us))) e)

pub over_others : (env : Env) (As : Tys) (ts : List Term) → ((P : Term) → ts ≢ P ∷ []) → joined (wds env (terms ts)) ≡ closed_over As (wds env (terms ts))
over_others env As [] h = refl
over_others env As (P ∷ []) h = absurd (h P refl)
over_others env As (P ∷ Q ∷ ts) h = refl

pub over_body : (env : Env) (As : Tys) (ts : List Term) (P : Term) → ts ≡ P ∷ [] → IsSmall (closed_over As (wds env (terms ts))) → IsSmall (wd env P)
over_body env As ts P e h = all_body (type_at As 0) (wd env P) (subst IsSmall (ap (λ us. closed_over As (wds env (terms us))) e) h)

-- All children.
pub one_more : (env : Env) (ts : List Term) (i : ℕ) (t D E J : Term) → t ≡ get_or ts i t → i < length ts → E ≡ make_and D (wd env t) →
    joined_after D (wds env (terms (drop i ts))) ≡ J → joined_after E (wds env (terms (drop (i + 1) ts))) ≡ J
one_more env ts i t D E J p h e q =
    ap (λ x. joined_after x (wds env (terms (drop (i + 1) ts)))) e
    ∙ sym (ap (λ us. joined_after D (wds env (terms us))) (children.drop_at ts i t p h)) ∙ q

pub next_small : (env : Env) (ts : List Term) (i : ℕ) (t D J : Term) → t ≡ get_or ts i t → i < length ts → joined_after D (wds env (terms (drop i ts))) ≡ J → IsSmall J →
    IsSmall (make_and D (wd env t))
next_small env ts i t D J p h q g =
    after_first (make_and D (wd env t)) (wds env (terms (drop (i + 1) ts)))
    (subst IsSmall (sym q ∙ ap (λ us. joined_after D (wds env (terms us))) (children.drop_at ts i t p h)) g)

pub next_part : (env : Env) (ts : List Term) (i : ℕ) (t D J : Term) → t ≡ get_or ts i t → i < length ts → joined_after D (wds env (terms (drop i ts))) ≡ J → IsSmall J →
    IsSmall (wd env t)
next_part env ts i t D J p h q g = and_right D (wd env t) (next_small env ts i t D J p h q g)

pub all_done : (env : Env) (ts : List Term) (i : ℕ) (D J : Term) → drop i ts ≡ [] → joined_after D (wds env (terms (drop i ts))) ≡ J → D ≡ J
all_done env ts i D J e q = sym (ap (λ us. joined_after D (wds env (terms us))) e) ∙ q

pub ruleset walk = (children.walk, at_leaf, at_node, joined-parts, parts_refused, joined_part, guarded_two, guarded_others, guarded_true, guarded_first, guarded_second, guarded_imp, guarded_or, over_one, over_others, over_body, one_more, next_small, next_part, all_done, truth_small)
