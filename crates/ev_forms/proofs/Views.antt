-- What a term is, from its views.
use Rattle.std.proofs.Common.{◌≡◌, ◌≢◌, ℕ, Bool, IsTrue, length, ◌==◌, List, [], ◌∷◌, Option, Some, None, ap, sym, ◌∙◌, arith}
use Rattle.std.proofs.lemmas.Bool.Decides.{nat_tests}
use Rattle.std.specs.Prelude.{IfNone}
use Rattle.ev_terms.specs.declared.types.Tys.{Tys, Empty}
use Rattle.ev_terms.specs.declared.types.Sym.{Sym}
use Rattle.ev_terms.specs.declared.types.Sym.TheVariants.{Base}
use Rattle.ev_terms.specs.Term.{Term, Terms, var, lit, node, nil, cons, terms, term_list, sym_of, types_of, children, terms-term_list, term_list-terms}

pub node_by_views : (t : Term) (s : Sym) (a : Tys) (ts : List Term) → sym_of t ≡ Some s → types_of t ≡ Some a → ts ≡ children t → t ≡ node s a (terms ts)
node_by_views (var i) s a ts p q r = cc
node_by_views (lit n) s a ts p q r = cc
node_by_views (node s' a' us) s a ts p q r =
    let e : terms ts ≡ us = ap terms r ∙ terms-term_list us in cc

pub ruleset base_node = (node_by_views)

pub leaf_true : (t : Term) (row : ℕ) (ts : List Term) (b : Bool) → t ≡ node (Base row) Empty (terms ts) → b ≡ (length ts == 0) → IsTrue b → t ≡ node (Base row) Empty nil
leaf_true t row [] b e h y = e
leaf_true t row (u ∷ ts) b e h y = absurd (grind (arith, nat_tests))

pub leaf_only : (t : Term) (row : ℕ) (ts : List Term) (b : Bool) → t ≡ node (Base row) Empty (terms ts) → b ≡ (length ts == 0) → t ≡ node (Base row) Empty nil → IsTrue b
leaf_only t row [] b e h y = h
leaf_only t row (u ∷ ts) b e h y = cc

pub other_row : (t : Term) (row k : ℕ) (us vs : Terms) → t ≡ node (Base row) Empty us → row ≢ k → t ≡ node (Base k) Empty vs → ⊥
other_row t row k us vs e ne f = ne (cc)

pub ruleset leaves = (leaf_true, leaf_only, other_row)

-- a node with other children than two is joined by no connective
pub not_two : (t : Term) (row : ℕ) (ts : List Term) → t ≡ node (Base row) Empty (terms ts) → ((P Q : Term) → ts ≢ P ∷ Q ∷ []) → (P Q : Term) → t ≢ node (Base row) Empty (cons P (cons Q nil))
not_two t row ts e none P Q f =
    none P Q (sym (term_list-terms ts) ∙ ap term_list (let g : terms ts ≡ cons P (cons Q nil) = cc in g))

-- nor one at another symbol
pub other_joined : (t : Term) (row k : ℕ) (us : Terms) (joins : Term → Term → Term) → t ≡ node (Base row) Empty us → row ≢ k
    → ((P Q : Term) → node (Base k) Empty (cons P (cons Q nil)) ≡ joins P Q) → (P Q : Term) → t ≢ joins P Q
other_joined t row k us joins e ne is P Q f = other_row t row k us (cons P (cons Q nil)) e ne (f ∙ sym (is P Q))

pub ruleset pairs = (not_two, other_joined)

pub none_weaker : {T P Q : Type 0} (o : Option T) → (P → Q) → IfNone o P → IfNone o Q
none_weaker None f h = f h
none_weaker (Some x) f h = h
