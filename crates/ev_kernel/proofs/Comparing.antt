-- What the walks that compare a term with a shift or a substitution of another need.
use Rattle.std.specs.Prelude.{◌≡◌, ◌≢◌, ◌↔◌, ◌==◌, ◌+◌, ◌-◌, ◌<◌, ◌≤◌, ℕ, Bool as Boolean, false, List, Some, None, length, map, reverse, get_or, IsTrue, refl}
use Rattle.std.proofs.Common.{ap, sym, ◌∙◌, subst as transport, true≢false, arith}
use Rattle.std.proofs.lemmas.Bool.{eqb-true, eq-eqb}
use Rattle.std.proofs.lemmas.List.{get_or-reverse, length-reverse}
use Rattle.ev_terms.specs.declared.types.Tys.{Tys}
use Rattle.ev_terms.specs.declared.types.Sym.{Sym}
use Rattle.ev_terms.specs.Term.{Term, Terms, var, lit, node, terms, terms_one, sym_of, var_of}
use Rattle.ev_terms.specs.Symbols.{binds}
use Rattle.ev_terms.specs.Measures.{loose, depth, depths}
use Rattle.ev_terms.specs.Substitution.{shift, inst, lifts, entry}
use Rattle.ev_terms.proofs.Children.{depth_at}
use Rattle.ev_terms.proofs.Laws.{lifts-past, entry-get, entry-past}
use Rattle.ev_terms.proofs.ListLaws.{shift_closed, inst_closed}
use Rattle.ev_terms.proofs.Shifts.{shift_var_past, shifts-terms, substitute_walk}

-- the children of a node are less deep
pub node_depth : (t : Term) (s : Sym) (As : Tys) (ts : List Term) → t ≡ node s As (terms ts) → depths (terms ts) < depth t
node_depth t s As ts e = let p : depth t ≡ depth (node s As (terms ts)) = ap depth e in omega (arith, p)

pub ruleset walk = (node_depth, depth_at, shift_closed, inst_closed)

-- A node is compared with one that has these parts.
pub same_node : (u w : Term) (s s' : Sym) (As As' : Tys) (us vs : List Term) (b : Boolean) → w ≡ node s As (terms vs) → u ≡ node s' As' (terms us) → s' ≡ s → As' ≡ As →
    (IsTrue b ↔ (us ≡ vs)) → IsTrue b ↔ (u ≡ w)
same_node u w s s' As As' us vs b e f g h d = (
  λ y. f ∙ ap (λ x. node x As' (terms us)) g ∙ ap (λ x. node s x (terms us)) h ∙ ap (λ x. node s As (terms x)) (d.0 y) ∙ sym e,
  λ y. d.1 (terms_one us vs (let k : node s' As' (terms us) ≡ node s As (terms vs) = sym f ∙ y ∙ e in cc)),
)

pub other_symbol : (u w : Term) (s s' : Sym) (As As' : Tys) (us vs : List Term) → w ≡ node s As (terms vs) → u ≡ node s' As' (terms us) → ¬ (s' ≡ s) →
    IsTrue false ↔ (u ≡ w)
other_symbol u w s s' As As' us vs e f ne = (
  λ y. absurd (true≢false (sym y)),
  λ y. absurd (ne (let k : node s' As' (terms us) ≡ node s As (terms vs) = sym f ∙ y ∙ e in cc)),
)

pub other_types : (u w : Term) (s s' : Sym) (As As' : Tys) (us vs : List Term) → w ≡ node s As (terms vs) → u ≡ node s' As' (terms us) → ¬ (As' ≡ As) →
    IsTrue false ↔ (u ≡ w)
other_types u w s s' As As' us vs e f ne = (
  λ y. absurd (true≢false (sym y)),
  λ y. absurd (ne (let k : node s' As' (terms us) ≡ node s As (terms vs) = sym f ∙ y ∙ e in cc)),
)

pub no_node : (u w : Term) (s : Sym) (As : Tys) (vs : List Term) → w ≡ node s As (terms vs) → ((x : Sym) (Bs : Tys) (us : Terms) → u ≢ node x Bs us) → IsTrue false ↔ (u ≡ w)
no_node u w s As vs e none = (λ y. absurd (true≢false (sym y)), λ y. absurd (none s As (terms vs) (y ∙ e)))

-- the shift and the substitution of a node
pub shift_node : (t : Term) (from by n : ℕ) (s : Sym) (As : Tys) (ts : List Term) → t ≡ node s As (terms ts) → n ≡ binds s →
    shift t from by ≡ node s As (terms (map (λ u. shift u (from + n) by) ts))
shift_node t from by n s As ts e h =
    ap (λ u. shift u from by) e ∙ ap (node s As) (shifts-terms ts (from + binds s) by)
    ∙ ap (λ k. node s As (terms (map (λ u. shift u (from + k) by) ts))) (sym h)

pub inst_node : (t : Term) (d n : ℕ) (σ : ℕ → Term) (s : Sym) (As : Tys) (ts : List Term) → t ≡ node s As (terms ts) → n ≡ binds s →
    inst (lifts d σ) t ≡ node s As (terms (map (inst (lifts (d + n) σ)) ts))
inst_node t d n σ s As ts e h =
    ap (inst (lifts d σ)) e ∙ substitute_walk d σ s As ts ∙ ap (λ k. node s As (terms (map (inst (lifts (d + k) σ)) ts))) (sym h)

-- Variables.
variable : (t : Term) (i : ℕ) → Some i ≡ var_of t → t ≡ var i
variable (var j) i h = let e : j ≡ i = cc in ap var e
variable (lit n) i h = cc
variable (node s As ts) i h = cc

pub leaf_variable : (t : Term) (k : ℕ) → sym_of t ≡ None → k < loose t → None ≡ var_of t → ⊥
leaf_variable (var j) k h l e = cc
leaf_variable (lit n) k h l e = absurd (omega (arith, l))
leaf_variable (node s As ts) k h l e = cc

raised : (t : Term) (i from by : ℕ) → t ≡ var i → from < loose t → shift t from by ≡ var (i + by)
raised t i from by e h =
    let l : from < loose (var i) = transport (λ u. from < loose u) e h in
    ap (λ u. shift u from by) e ∙ ap var (shift_var_past from by i (omega (arith, l)))

pub raised_variable : (u t : Term) (i k from by : ℕ) (b : Boolean) → Some i ≡ var_of t → Some k ≡ var_of u → from < loose t → b ≡ (k == i + by) → IsTrue b ↔ (u ≡ shift t from by)
raised_variable u t i k from by b e f h c =
    let r = raised t i from by (variable t i e) h in
    let v = variable u k f in (
      λ y. v ∙ ap var (eqb-true k (i + by) (sym c ∙ y)) ∙ sym r,
      λ y. c ∙ eq-eqb k (i + by) (let g : var k ≡ var (i + by) = sym v ∙ y ∙ r in cc),
    )

pub raised_other : (u t : Term) (i from by : ℕ) → Some i ≡ var_of t → None ≡ var_of u → from < loose t → IsTrue false ↔ (u ≡ shift t from by)
raised_other u t i from by e f h =
    let r = raised t i from by (variable t i e) h in
    (λ y. absurd (true≢false (sym y)), λ y. absurd (let g : u ≡ var (i + by) = y ∙ r in let k : None ≡ Some (i + by) = f ∙ ap var_of g in cc))

pub ruleset leaves = (leaf_variable)

-- what stands for a variable past the binders
put_is : (t : Term) (i d : ℕ) (us : List Term) → Some i ≡ var_of t → d ≤ i → inst (lifts d (entry us)) t ≡ shift (entry us (i - d)) 0 d
put_is t i d us e h = ap (inst (lifts d (entry us))) (variable t i e) ∙ lifts-past d (entry us) i h

outer : (t : Term) (i d : ℕ) → Some i ≡ var_of t → d < loose t → d ≤ i
outer t i d e h = let l : d < loose (var i) = transport (λ u. d < loose u) (variable t i e) h in omega (arith, l)

pub put_argument : (t a : Term) (i d at : ℕ) (us : List Term) → Some i ≡ var_of t → d < loose t → at ≡ i - d → at < length us → a ≡ get_or us (length us - 1 - at) a →
    inst (lifts d (entry (reverse us))) t ≡ shift a 0 d
put_argument t a i d at us e h p l q =
    let k : at < length (reverse us) = rw length-reverse l in
    put_is t i d (reverse us) e (outer t i d e h)
    ∙ ap (λ u. shift u 0 d) (ap (entry (reverse us)) (sym p) ∙ entry-get (reverse us) at a (q ∙ sym (get_or-reverse us at a l)) k)

pub put_outside : (t : Term) (i d at : ℕ) (us : List Term) → Some i ≡ var_of t → d < loose t → at ≡ i - d → length us ≤ at →
    inst (lifts d (entry (reverse us))) t ≡ var (i - length us)
put_outside t i d at us e h p l =
    let o = outer t i d e h in
    let k : length (reverse us) ≤ at = rw length-reverse l in
    let n : at - length (reverse us) ≡ at - length us = rw length-reverse refl in
    let r : at - length us + d ≡ i - length us = omega (arith, p, o, l) in
    put_is t i d (reverse us) e o
    ∙ ap (λ u. shift u 0 d) (ap (entry (reverse us)) (sym p) ∙ entry-past (reverse us) at k ∙ ap var n)
    ∙ ap var (shift_var_past 0 d (at - length us) (omega arith) ∙ r)

pub same_as : (u v w : Term) (b : Boolean) → w ≡ v → (IsTrue b ↔ (u ≡ v)) → IsTrue b ↔ (u ≡ w)
same_as u v w b e d = (λ y. d.0 y ∙ sym e, λ y. d.1 (y ∙ e))
