-- What the walk over the children of two terms with one symbol needs.
use Rattle.std.specs.Prelude.{◌≡◌, ◌≢◌, ◌↔◌, ◌+◌, ◌<◌, ◌≤◌, ℕ, zero, suc, Bool as Boolean, true, false, List, [], ◌∷◌, ◌++◌, Option, Some, None, length, drop, get_or, map, take, IsTrue, refl}
use Rattle.std.specs.List.{AllByRecursion}
use Rattle.std.proofs.Common.{ap, sym, ◌∙◌, subst as transport, arith}
use Rattle.ev_terms.specs.declared.types.Ty.{Ty}
use Rattle.ev_terms.specs.declared.types.Tys.{Tys}
use Rattle.ev_terms.specs.declared.types.Sym.{Sym}
use Rattle.ev_terms.specs.Types.{type_list}
use Rattle.ev_terms.specs.Term.{Term, Terms, node, terms, term_list, term_list-terms}
use Rattle.ev_terms.specs.Symbols.{binds}
use Rattle.ev_terms.specs.Substitution.{shift}
use Rattle.ev_terms.proofs.Laws.{shift-zero}
use Rattle.ev_typing.specs.declared.typing.Sequent.{Sequent}
use Rattle.ev_typing.specs.TypeLists.{types}
use Rattle.ev_forms.specs.Forms.{equation}
use Rattle.ev_typing.specs.Sequents.{◌⊢◌}
use Rattle.ev_typing.specs.BaseSequents.{widened}
use Rattle.ev_typing.proofs.Laws.{types-type_list}
use Rattle.ev_typing.proofs.Names.{drop_at, drop_all}
use Rattle.ev_kernel.specs.inner.Contexts.{optional}
use Rattle.ev_kernel.specs.Row.{AreEquated, AreCongruent, at_children}
use Rattle.ev_kernel.specs.Derivable.{numbered, named}
use Rattle.ev_kernel.proofs.Rows.{named_more}
use Rattle.ev_kernel.proofs.Equations.{refused, same_sides}

-- With no further variable a sequent stays as it is.
append_nothing : (As : List Ty) → As ++ [] ≡ As
append_nothing [] = refl
append_nothing (A ∷ As) = ap (λ Bs. A ∷ Bs) (append_nothing As)

shifted_by_zero : (ts : List Term) → map (λ P. shift P 0 0) ts ≡ ts
shifted_by_zero [] = refl
shifted_by_zero (t ∷ ts) = ap (λ u. u ∷ map (λ P. shift P 0 0) ts) (shift-zero t 0) ∙ ap (λ us. t ∷ us) (shifted_by_zero ts)

pub widened_by_none : (S : Sequent) (G : Term) → (widened S [] ⊢ G) ≡ (S ⊢ G)
widened_by_none S G =
    let c : types (type_list S.context ++ []) ≡ S.context = ap types (append_nothing (type_list S.context)) ∙ types-type_list S.context in
    ap (λ C. record { context = C; hyps = map (λ P. shift P 0 0) S.hyps; goal = G }) c
    ∙ ap (λ H. record { context = S.context; hyps = H; goal = G }) (shifted_by_zero S.hyps)

-- One premise.
pub equates_right : (p W : Sequent) (A : Ty) (l r s t : Term) (b : Boolean) → p ≡ (W ⊢ p.goal) → p.goal ≡ equation A s t → s ≡ l → (IsTrue b ↔ (t ≡ r)) →
    IsTrue b ↔ ((B : Ty) × (p ≡ (W ⊢ equation B l r)))
equates_right p W A l r s t b k e x d = (
  λ y. (A, k ∙ ap (λ G. W ⊢ G) (e ∙ ap (λ z. equation A z t) x ∙ ap (equation A l) (d.0 y))),
  λ f. d.1 (same_sides A f.0 s t l r (sym e ∙ ap (λ (z : Sequent). z.goal) f.1)).1,
)

pub equates_other : (p W : Sequent) (A : Ty) (l r s t : Term) → p.goal ≡ equation A s t → ¬ (s ≡ l) → IsTrue false ↔ ((B : Ty) × (p ≡ (W ⊢ equation B l r)))
equates_other p W A l r s t e n = refused (λ f. n (same_sides A f.0 s t l r (sym e ∙ ap (λ (z : Sequent). z.goal) f.1)).0)

pub equates_nothing : (p W : Sequent) (l r : Term) → ((A : Ty) (s t : Term) → p.goal ≢ equation A s t) → IsTrue false ↔ ((B : Ty) × (p ≡ (W ⊢ equation B l r)))
equates_nothing p W l r n = refused (λ f. n f.0 l r (ap (λ (z : Sequent). z.goal) f.1))

pub equates_elsewhere : (p W : Sequent) (l r : Term) → ¬ (p ≡ (W ⊢ p.goal)) → IsTrue false ↔ ((B : Ty) × (p ≡ (W ⊢ equation B l r)))
equates_elsewhere p W l r n = refused (λ f. n (f.1 ∙ ap (λ G. W ⊢ G) (sym (ap (λ (z : Sequent). z.goal) f.1))))

-- All premises, one after the other.
pub named_next : (Ss : List Sequent) (n : ℕ) (ns : List ℕ) (p : Sequent) → numbered Ss n ≡ Some p → named Ss (n ∷ ns) ≡ p ∷ named Ss ns
named_next Ss n ns p e = rw e refl

abbrev RestEquated : Sequent → List Term → List Term → List Sequent → List ℕ → ℕ → Type 0
RestEquated W ls rs Ss ns i = AreEquated W (drop i ls) (drop i rs) (named Ss (drop i ns))

rest_is : (W : Sequent) (ls rs : List Term) (Ss : List Sequent) (ns : List ℕ) (i : ℕ) (l r : Term) (n : ℕ) (p : Sequent) → l ≡ get_or ls i l → r ≡ get_or rs i r → n ≡ get_or ns i n →
    i < length ns → length ls ≡ length ns → length rs ≡ length ns → numbered Ss n ≡ Some p →
    RestEquated W ls rs Ss ns i ≡ AreEquated W (l ∷ drop (i + 1) ls) (r ∷ drop (i + 1) rs) (p ∷ named Ss (drop (i + 1) ns))
rest_is W ls rs Ss ns i l r n p e f g h a b q =
    let x = drop_at ls i l e (omega (arith, h, a)) in
    let y = drop_at rs i r f (omega (arith, h, b)) in
    let z = ap (named Ss) (drop_at ns i n g h) ∙ named_next Ss n (drop (i + 1) ns) p q in
    ap (λ us. AreEquated W us (drop i rs) (named Ss (drop i ns))) x
    ∙ ap (λ us. AreEquated W (l ∷ drop (i + 1) ls) us (named Ss (drop i ns))) y
    ∙ ap (λ us. AreEquated W (l ∷ drop (i + 1) ls) (r ∷ drop (i + 1) rs) us) z

pub equated_step : (W : Sequent) (ls rs : List Term) (Ss : List Sequent) (ns : List ℕ) (i : ℕ) (l r : Term) (n : ℕ) (p : Sequent) (X : Type 0) → l ≡ get_or ls i l → r ≡ get_or rs i r →
    n ≡ get_or ns i n → i < length ns → length ls ≡ length ns → length rs ≡ length ns → numbered Ss n ≡ Some p → ((A : Ty) × (p ≡ (W ⊢ equation A l r))) →
    (RestEquated W ls rs Ss ns i ↔ X) → RestEquated W ls rs Ss ns (i + 1) ↔ X
equated_step W ls rs Ss ns i l r n p X e f g h a b q k d =
    let s = rest_is W ls rs Ss ns i l r n p e f g h a b q in
    (λ y. d.0 (transport (λ T. T) (sym s) (k, y)), λ y. (transport (λ T. T) s (d.1 y)).1)

pub equated_fails : (W : Sequent) (ls rs : List Term) (Ss : List Sequent) (ns : List ℕ) (i : ℕ) (l r : Term) (n : ℕ) (p : Sequent) (X : Type 0) → l ≡ get_or ls i l → r ≡ get_or rs i r →
    n ≡ get_or ns i n → i < length ns → length ls ≡ length ns → length rs ≡ length ns → numbered Ss n ≡ Some p → ¬ ((A : Ty) × (p ≡ (W ⊢ equation A l r))) →
    (RestEquated W ls rs Ss ns i ↔ X) → IsTrue false ↔ X
equated_fails W ls rs Ss ns i l r n p X e f g h a b q k d =
    let s = rest_is W ls rs Ss ns i l r n p e f g h a b q in
    refused (λ y. k (transport (λ T. T) s (d.1 y)).0)

pub equated_ends : (W : Sequent) (ls rs : List Term) (Ss : List Sequent) (ns : List ℕ) (i : ℕ) (X : Type 0) → length ns ≤ i → length ls ≡ length ns → length rs ≡ length ns →
    (RestEquated W ls rs Ss ns i ↔ X) → IsTrue true ↔ X
equated_ends W ls rs Ss ns i X h a b d =
    let x = drop_all ls i (omega (arith, h, a)) in
    let y = drop_all rs i (omega (arith, h, b)) in
    let z = drop_all ns i h in
    let s : RestEquated W ls rs Ss ns i ≡ AreEquated W [] [] (named Ss []) =
    ap (λ us. AreEquated W us (drop i rs) (named Ss (drop i ns))) x
    ∙ ap (λ us. AreEquated W [] us (named Ss (drop i ns))) y
    ∙ ap (λ us. AreEquated W [] [] (named Ss us)) z in
    (λ e. d.0 (transport (λ T. T) (sym s) tt), λ e. refl)

equated_lengths : (W : Sequent) (ls rs : List Term) (ps : List Sequent) → AreEquated W ls rs ps → (length ls ≡ length ps) × (length rs ≡ length ps)
equated_lengths W [] [] [] h = (refl, refl)
equated_lengths W [] [] (p ∷ ps) h = absurd h
equated_lengths W [] (r ∷ rs) ps h = absurd h
equated_lengths W (l ∷ ls) [] ps h = absurd h
equated_lengths W (l ∷ ls) (r ∷ rs) [] h = absurd h
equated_lengths W (l ∷ ls) (r ∷ rs) (p ∷ ps) h = let k = equated_lengths W ls rs ps h.1 in (ap suc k.0, ap suc k.1)

pub named_length : (Ss : List Sequent) (ns : List ℕ) → AllByRecursion (λ n. (1 ≤ n) × (n ≤ length Ss)) ns → length (named Ss ns) ≡ length ns
named_length Ss [] h = refl
named_length Ss (n ∷ ns) h = let m = named_more Ss n ns h.0.0 h.0.1 in ap length m.1 ∙ ap suc (named_length Ss ns h.1)

pub fewer_lefts : (W : Sequent) (ls rs : List Term) (Ss : List Sequent) (ns : List ℕ) → AllByRecursion (λ n. (1 ≤ n) × (n ≤ length Ss)) ns → ¬ (length ls ≡ length ns) →
    IsTrue false ↔ AreEquated W ls rs (named Ss ns)
fewer_lefts W ls rs Ss ns h n = refused (λ y. n ((equated_lengths W ls rs (named Ss ns) y).0 ∙ named_length Ss ns h))

pub fewer_rights : (W : Sequent) (ls rs : List Term) (Ss : List Sequent) (ns : List ℕ) → AllByRecursion (λ n. (1 ≤ n) × (n ≤ length Ss)) ns → ¬ (length rs ≡ length ns) →
    IsTrue false ↔ AreEquated W ls rs (named Ss ns)
fewer_rights W ls rs Ss ns h n = refused (λ y. n ((equated_lengths W ls rs (named Ss ns) y).1 ∙ named_length Ss ns h))

-- Two nodes.
node_same : (s x : Sym) (As Bs : Tys) (ts us : Terms) → node s As ts ≡ node x Bs us → (s ≡ x) × (As ≡ Bs) × (ts ≡ us)
node_same s x As Bs ts us e = (cc, cc, cc)

pub congruent_nodes : (S : Sequent) (l r : Term) (s s' : Sym) (As As' : Tys) (ls rs : List Term) (Bs : List Ty) (ps : List Sequent) (b : Boolean) → l ≡ node s As (terms ls) → r ≡ node s' As' (terms rs) →
    s ≡ s' → As ≡ As' → Bs ≡ take (binds s) (type_list As) → (IsTrue b ↔ AreEquated (widened S Bs) ls rs ps) → IsTrue b ↔ AreCongruent S l r ps
congruent_nodes S l r s s' As As' ls rs Bs ps b e f g h k d =
    let w : AreEquated (widened S Bs) ls rs ps ≡ AreEquated (at_children S s As) (term_list (terms ls)) (term_list (terms rs)) ps =
    ap (λ Cs. AreEquated (widened S Cs) ls rs ps) k
    ∙ ap (λ us. AreEquated (at_children S s As) us rs ps) (sym (term_list-terms ls))
    ∙ ap (λ us. AreEquated (at_children S s As) (term_list (terms ls)) us ps) (sym (term_list-terms rs)) in (
      λ y. (s, As, terms ls, terms rs, e, f ∙ ap (λ x. node x As' (terms rs)) (sym g) ∙ ap (λ x. node s x (terms rs)) (sym h), transport (λ T. T) w (d.0 y)),
      λ q.
          let x = node_same s q.0 As q.1 (terms ls) q.2 (sym e ∙ q.4) in
          let z = node_same s' q.0 As' q.1 (terms rs) q.3 (sym f ∙ q.5) in
          let v : AreEquated (at_children S q.0 q.1) (term_list q.2) (term_list q.3) ps ≡ AreEquated (at_children S s As) (term_list (terms ls)) (term_list (terms rs)) ps =
          ap (λ y. AreEquated (at_children S y q.1) (term_list q.2) (term_list q.3) ps) (sym x.0)
          ∙ ap (λ y. AreEquated (at_children S s y) (term_list q.2) (term_list q.3) ps) (sym x.1)
          ∙ ap (λ y. AreEquated (at_children S s As) (term_list y) (term_list q.3) ps) (sym x.2)
          ∙ ap (λ y. AreEquated (at_children S s As) (term_list (terms ls)) (term_list y) ps) (sym z.2) in
          d.1 (transport (λ T. T) (sym w) (transport (λ T. T) v q.6)),
    )

pub other_node_symbol : (S : Sequent) (l r : Term) (s s' : Sym) (As As' : Tys) (ls rs : List Term) (ps : List Sequent) → l ≡ node s As (terms ls) → r ≡ node s' As' (terms rs) → ¬ (s ≡ s') →
    IsTrue false ↔ AreCongruent S l r ps
other_node_symbol S l r s s' As As' ls rs ps e f n =
    refused (λ q. n ((node_same s q.0 As q.1 (terms ls) q.2 (sym e ∙ q.4)).0 ∙ sym (node_same s' q.0 As' q.1 (terms rs) q.3 (sym f ∙ q.5)).0))

pub other_node_types : (S : Sequent) (l r : Term) (s s' : Sym) (As As' : Tys) (ls rs : List Term) (ps : List Sequent) → l ≡ node s As (terms ls) → r ≡ node s' As' (terms rs) → ¬ (As ≡ As') →
    IsTrue false ↔ AreCongruent S l r ps
other_node_types S l r s s' As As' ls rs ps e f n =
    refused (λ q. n ((node_same s q.0 As q.1 (terms ls) q.2 (sym e ∙ q.4)).1 ∙ sym (node_same s' q.0 As' q.1 (terms rs) q.3 (sym f ∙ q.5)).1))

-- The parts of a sequent with its own goal.
pub under_parts : (S W : Sequent) (b : Boolean) → S.context ≡ W.context → (IsTrue b ↔ (S.hyps ≡ W.hyps)) → IsTrue b ↔ (S ≡ (W ⊢ S.goal))
under_parts S W b e d = (
  λ y. ap (λ C. record { context = C; hyps = S.hyps; goal = S.goal }) e ∙ ap (λ H. record { context = W.context; hyps = H; goal = S.goal }) (d.0 y),
  λ y. d.1 (ap (λ (x : Sequent). x.hyps) y),
)

pub beside_inside : (S W : Sequent) (o : Option Ty) (b : Boolean) → o ≡ None → (IsTrue b ↔ (S ≡ (W ⊢ S.goal))) → IsTrue b ↔ (S ≡ (widened W (optional o) ⊢ S.goal))
beside_inside S W o b e d =
    let w : (widened W (optional o) ⊢ S.goal) ≡ (W ⊢ S.goal) = ap (λ x. widened W (optional x) ⊢ S.goal) e ∙ widened_by_none W S.goal in
    (λ y. d.0 y ∙ sym w, λ y. d.1 (y ∙ w))

-- an item that is there is read alike whatever stands for one that is not
pub read_any : (ns : List ℕ) (i d : ℕ) → i < length ns → get_or ns i d ≡ get_or ns i (get_or ns i d)
read_any [] i d h = absurd (omega arith)
read_any (n ∷ ns) zero d h = refl
read_any (n ∷ ns) (suc i) d h = by (get_or ns i d) (read_any ns i d (omega arith))
  where
    by : (x : ℕ) → x ≡ get_or ns i x → x ≡ get_or (n ∷ ns) (suc i) x
    by x e = e
