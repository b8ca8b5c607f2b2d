-- What a shift is undone to, from what it is undone to of the parts.
use Rattle.std.proofs.Common.{◌≡◌, ℕ, zero, suc, ◌+◌, ◌-◌, ◌<◌, ◌≤◌, List, [], ◌∷◌, ◌++◌, length, take, get_or, Some, None, sym, ap, ◌∙◌, arith}
use Rattle.std.proofs.lemmas.Bool.Decides.{nat_tests}
use Rattle.std.proofs.lemmas.Option.{same_Some}
use Rattle.ev_terms.specs.declared.types.Sym.{Sym}
use Rattle.ev_terms.specs.declared.types.Tys.{Tys}
use Rattle.ev_terms.specs.Term.{Term, Terms, var, lit, node, nil, cons, terms, var_of, sym_of, term_list, terms-term_list}
use Rattle.ev_terms.specs.Symbols.{binds}
use Rattle.ev_terms.specs.Measures.{loose}
use Rattle.ev_terms.specs.Substitution.{shift_var, shift, shifts}
use Rattle.ev_terms.proofs.ListLaws.{shift_closed}
use Rattle.ev_terms.proofs.Laws.{shift-zero}
use Rattle.ev_rewrite.specs.inner.Lowered.{IsLowered, AreLowered}

-- a part that no binder is taken from
pub lowered_zero : (t u : Term) → u ≡ t → IsLowered 0 0 t (Some u)
lowered_zero t u e = shift-zero u 0 ∙ e

pub lowered_closed : (t u : Term) (from by : ℕ) → u ≡ t → loose t ≤ from → IsLowered from by t (Some u)
lowered_closed t u from by e h = ap (λ v. shift v from by) e ∙ shift_closed t from by h

pub lowered_leaf : (t u : Term) (from by : ℕ) → u ≡ t → None ≡ var_of t → None ≡ sym_of t → IsLowered from by t (Some u)
lowered_leaf (var i) u from by e p q = cc
lowered_leaf (lit n) u from by e p q = ap (λ v. shift v from by) e
lowered_leaf (node s As ts) u from by e p q = cc

-- a variable
pub lowered_var : (i from by : ℕ) (u : Term) → from ≤ i → by ≤ i - from → u ≡ var (i - by) → IsLowered from by (var i) (Some u)
lowered_var i from by u h k e =
    let q : shift_var from by (i - by) ≡ i = grind (arith, nat_tests) in
    ap (λ v. shift v from by) e ∙ ap var q

pub not_lowered_var : (i from by : ℕ) → from ≤ i → i - from < by → IsLowered from by (var i) None
not_lowered_var i from by h k = each
  where
    raised : (j : ℕ) → shift_var from by j ≡ i → ⊥
    raised j e = grind (arith, nat_tests)

    each : (u : Term) → ¬ (shift u from by ≡ var i)
    each (var j) e = let q : shift_var from by j ≡ i = cc in raised j q
    each (lit n) e = cc
    each (node s As ts) e = cc

-- a symbol
abbrev node_children : Term → Terms
node_children (node s As ts) = ts
node_children t = nil

pub lowered_node : (s s' : Sym) (As As' : Tys) (ts us : List Term) (from under by : ℕ) (u : Term) → under ≡ from + binds s → s' ≡ s → As' ≡ As →
    shifts (terms us) under by ≡ terms ts → u ≡ node s' As' (terms us) → IsLowered from by (node s As (terms ts)) (Some u)
lowered_node s s' As As' ts us from under by u e p q h k =
    let a : u ≡ node s As (terms us) = k ∙ ap (λ r. node r As' (terms us)) p ∙ ap (λ r. node s r (terms us)) q in
    ap (λ v. shift v from by) a ∙ ap (node s As) (ap (λ n. shifts (terms us) n by) (sym e) ∙ h)

pub not_lowered_node : (s : Sym) (As : Tys) (ts : List Term) (from under by : ℕ) → under ≡ from + binds s →
    ((us : List Term) → ¬ (shifts (terms us) under by ≡ terms ts)) → IsLowered from by (node s As (terms ts)) None
not_lowered_node s As ts from under by e never = each
  where
    each : (u : Term) → ¬ (shift u from by ≡ node s As (terms ts))
    each (var j) h = cc
    each (lit n) h = cc
    each (node s' As' us) h =
        let p : s' ≡ s = same_Some s' s (ap sym_of h) in
        let k : shifts us (from + binds s') by ≡ terms ts = ap node_children h in
        let n : from + binds s' ≡ under = ap (λ r. from + binds r) p ∙ sym e in
        never (term_list us) (ap (λ r. shifts r under by) (terms-term_list us) ∙ ap (λ m. shifts us m by) (sym n) ∙ k)

-- children
abbrev first_of : Terms → Term
first_of (cons t ts) = t
first_of nil = lit 0

abbrev rest_of : Terms → Terms
rest_of (cons t ts) = ts
rest_of nil = nil

shifts_more : (us ts : List Term) (u t : Term) (from by : ℕ) → shifts (terms us) from by ≡ terms ts → shift u from by ≡ t →
    shifts (terms (us ++ u ∷ [])) from by ≡ terms (ts ++ t ∷ [])
shifts_more [] [] u t from by h e = ap (λ v. cons v nil) e
shifts_more [] (t' ∷ ts) u t from by h e = cc
shifts_more (u' ∷ us) [] u t from by h e = cc
shifts_more (u' ∷ us) (t' ∷ ts) u t from by h e =
    ap (λ v. cons v (shifts (terms (us ++ u ∷ [])) from by)) (ap first_of h) ∙ ap (cons t') (shifts_more us ts u t from by (ap rest_of h) e)

take_next : (ts : List Term) (i : ℕ) (t : Term) → t ≡ get_or ts i t → i < length ts → take (i + 1) ts ≡ take i ts ++ t ∷ []
take_next [] i t e h = let no : ⊥ = omega (arith, h) in absurd no
take_next (u ∷ us) zero t e h = ap (λ v. v ∷ []) (sym e)
take_next (u ∷ us) (suc i) t e h =
    let q : suc i + 1 ≡ suc (i + 1) = omega arith in
    ap (λ n. take n (u ∷ us)) q ∙ ap (λ vs. u ∷ vs) (take_next us i t e (omega (arith, h)))

pub more_lowered : (trees us us' : List Term) (i : ℕ) (t u : Term) (from by : ℕ) → t ≡ get_or trees i t → i < length trees →
    shifts (terms us) from by ≡ terms (take i trees) → shift u from by ≡ t → us' ≡ us ++ u ∷ [] → shifts (terms us') from by ≡ terms (take (i + 1) trees)
more_lowered trees us us' i t u from by e h k l m =
    ap (λ vs. shifts (terms vs) from by) m ∙ shifts_more us (take i trees) u t from by k l ∙ ap terms (sym (take_next trees i t e h))

child_from : (us ts : List Term) (i : ℕ) (t : Term) (from by : ℕ) → shifts (terms us) from by ≡ terms ts → i < length ts → t ≡ get_or ts i t →
    (u : Term) × (shift u from by ≡ t)
child_from us [] i t from by h k e = let no : ⊥ = omega (arith, k) in absurd no
child_from [] (t' ∷ ts) i t from by h k e = cc
child_from (u ∷ us) (t' ∷ ts) zero t from by h k e = (u, ap first_of h ∙ sym e)
child_from (u ∷ us) (t' ∷ ts) (suc i) t from by h k e = child_from us ts i t from by (ap rest_of h) (omega (arith, k)) e

pub not_lowered_at : (trees : List Term) (i : ℕ) (t : Term) (from by : ℕ) → t ≡ get_or trees i t → i < length trees → ((u : Term) → ¬ (shift u from by ≡ t)) →
    AreLowered from by trees None
not_lowered_at trees i t from by e h never = λ us k. let p : (u : Term) × (shift u from by ≡ t) = child_from us trees i t from by k h e in never p.0 p.1
