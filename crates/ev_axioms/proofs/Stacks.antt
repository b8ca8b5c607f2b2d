-- The stack of the steps.
use Rattle.std.proofs.Common.{◌≡◌, ℕ, ◌+◌, ◌≤◌, ◌<◌, Bool as Boolean, true, false, List, [], ◌∷◌, ◌++◌, length, take, drop, reverse, get_or, Option, Some, None, ap, sym, ◌∙◌, refl, arith}
use Rattle.std.specs.Option.{option_and_then, option_to_list}
use Rattle.std.proofs.lemmas.List.{reverse-append}
use Rattle.ev_terms.specs.declared.types.Sym.TheVariants.{Base}
use Rattle.ev_terms.specs.Types.{Pow-pow, Prod-prod, More-more}
use Rattle.ev_terms.specs.Term.{Term, node, nil, cons, terms}
use Rattle.ev_typing.proofs.Names.{drop_at, drop_all}
use Rattle.ev_axioms.specs.declared.steps.Step.{Step}
use Rattle.ev_axioms.specs.declared.steps.Step.TheVariants as step
use Rattle.ev_axioms.specs.declared.steps.Args.{Args}
use Rattle.ev_axioms.specs.inner.Building.{types_of, stepped, only, built}

pub ruleset type_forms = (Pow-pow, Prod-prod, More-more)

-- the last one put on the stack is its first
pub pushed : (ts new : List Term) (t : Term) → new ≡ ts ++ t ∷ [] → reverse new ≡ t ∷ reverse ts
pushed ts new t e = ap reverse e ∙ reverse-append ts (t ∷ [])

nothing_left : (ts rest : List Term) (o : Option Term) → ts ≡ rest ++ option_to_list o → o ≡ None → ts ≡ rest
nothing_left ts rest o e p = e ∙ ap (λ x. rest ++ option_to_list x) p ∙ append_nil rest
  where
    append_nil : (us : List Term) → us ++ [] ≡ us
    append_nil [] = refl
    append_nil (u ∷ us) = ap (λ vs. u ∷ vs) (append_nil us)

pub popped : (ts rest : List Term) (o : Option Term) (t : Term) → ts ≡ rest ++ option_to_list o → o ≡ Some t → reverse ts ≡ t ∷ reverse rest
popped ts rest o t e p = pushed rest ts t (e ∙ ap (λ x. rest ++ option_to_list x) p)

no_items : (ts : List Term) → length ts ≡ 0 → ts ≡ []
no_items [] e = refl
no_items (t ∷ ts) e = absurd (omega (arith, e))

pub one_made : (row : ℕ) (a : Args) (ts rest new : List Term) (t u : Term) (cs : List Term) → reverse ts ≡ t ∷ reverse rest → cs ≡ t ∷ [] → u ≡ node (Base row) (types_of a) (terms cs) → new ≡ rest ++ u ∷ [] →
    stepped (step.One row a) (reverse ts) ≡ Some (reverse new)
one_made row a ts rest new t u cs e c p q =
    ap (stepped (step.One row a)) e ∙ ap (λ v. Some (v ∷ reverse rest)) (sym (p ∙ ap (λ ds. node (Base row) (types_of a) (terms ds)) c)) ∙ ap (λ vs. Some vs) (sym (pushed rest new u q))

pub one_lacks : (row : ℕ) (a : Args) (ts : List Term) → length ts ≡ 0 → stepped (step.One row a) (reverse ts) ≡ None
one_lacks row a ts e = ap (λ us. stepped (step.One row a) (reverse us)) (no_items ts e)

pub two_made : (row : ℕ) (a : Args) (ts mid rest new : List Term) (t u v : Term) (cs : List Term) → reverse ts ≡ u ∷ reverse mid → reverse mid ≡ t ∷ reverse rest → cs ≡ t ∷ u ∷ [] →
    v ≡ node (Base row) (types_of a) (terms cs) → new ≡ rest ++ v ∷ [] → stepped (step.Two row a) (reverse ts) ≡ Some (reverse new)
two_made row a ts mid rest new t u v cs e f c p q =
    ap (stepped (step.Two row a)) (e ∙ ap (λ us. u ∷ us) f) ∙ ap (λ w. Some (w ∷ reverse rest)) (sym (p ∙ ap (λ ds. node (Base row) (types_of a) (terms ds)) c))
    ∙ ap (λ ws. Some ws) (sym (pushed rest new v q))

pub two_lacks : (row : ℕ) (a : Args) (ts : List Term) → length ts ≡ 0 → stepped (step.Two row a) (reverse ts) ≡ None
two_lacks row a ts e = ap (λ us. stepped (step.Two row a) (reverse us)) (no_items ts e)

pub two_lacks_one : (row : ℕ) (a : Args) (ts mid : List Term) (u : Term) → reverse ts ≡ u ∷ reverse mid → length mid ≡ 0 → stepped (step.Two row a) (reverse ts) ≡ None
two_lacks_one row a ts mid u e h = ap (stepped (step.Two row a)) (e ∙ ap (λ us. u ∷ reverse us) (no_items mid h))

-- The loop over the steps.
pub goes_on : (ss : List Step) (i : ℕ) (s : Step) (ts new : List Term) (o : Option Term) → s ≡ get_or ss i s → i < length ss → stepped s ts ≡ Some new → built (drop i ss) ts ≡ o → built (drop (i + 1) ss) new ≡ o
goes_on ss i s ts new o d h e k = sym (ap (λ us. built us ts) (drop_at ss i s d h) ∙ ap (option_and_then (built (drop (i + 1) ss))) e) ∙ k

pub stops : (ss : List Step) (i : ℕ) (s : Step) (ts : List Term) (o : Option Term) → s ≡ get_or ss i s → i < length ss → stepped s ts ≡ None → built (drop i ss) ts ≡ o → None ≡ o
stops ss i s ts o d h e k = sym (ap (λ us. built us ts) (drop_at ss i s d h) ∙ ap (option_and_then (built (drop (i + 1) ss))) e) ∙ k

pub ends : (ss : List Step) (i : ℕ) (ts : List Term) (o : Option Term) → length ss ≤ i → built (drop i ss) ts ≡ o → only ts ≡ o
ends ss i ts o h k = sym (ap (λ us. built us ts) (drop_all ss i h)) ∙ k
