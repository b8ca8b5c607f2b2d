-- There is at most one first cycle, and none where there is no cycle.
use Rattle.std.proofs.Common.{◌≡◌, ℕ, List, [], ◌∷◌, length, refl, sym, ap, ◌∙◌, subst, arith}
use Rattle.std.proofs.lemmas.List.{length-append}
use Rattle.ev_imports.specs.Walks.{IsWalk, HasNoCycle}
use Rattle.ev_imports.specs.Cycles.{IsFirstCycle}
use Rattle.ev_imports.proofs.Lexicographic.{Parting, first, second, same, longer, shorter, parting}
use Rattle.ev_imports.proofs.Deployed.{same_import}

one_walk : (graph : List (List ℕ)) (is : List ℕ) (t u w : ℕ) (vs ws : List ℕ) → IsWalk graph t is vs u → IsWalk graph t is ws w → vs ≡ ws
one_walk graph [] t u w [] [] a b = refl
one_walk graph [] t u w [] (x ∷ ws) a b = absurd b
one_walk graph [] t u w (v ∷ vs) ws a b = absurd a
one_walk graph (i ∷ is) t u w [] ws a b = absurd a
one_walk graph (i ∷ is) t u w (v ∷ vs) [] a b = absurd b
one_walk graph (i ∷ is) t u w (v ∷ vs) (x ∷ ws) a b =
    let e = same_import graph t i v x a.0 b.0 in
    let rest = one_walk graph is x u w vs ws (subst (λ (y : ℕ). IsWalk graph y is vs u) e a.1) b.1 in
    cc (e, rest)

pub first_cycle_is_one : (graph : List (List ℕ)) (t : ℕ) (v w : List ℕ) → IsFirstCycle graph t v → IsFirstCycle graph t w → v ≡ w
first_cycle_is_one graph t v w a b = parted (parting a.positions b.positions)
  where
    len : length a.positions ≡ length b.positions
    len = omega (arith, a.shortest b.positions b.later b.is_cycle, b.shortest a.positions a.later a.is_cycle)

    parted : Parting a.positions b.positions → v ≡ w
    parted (first c) = absurd (b.first a.positions a.later a.is_cycle len c)
    parted (second c) = absurd (a.first b.positions b.later b.is_cycle (sym len) c)
    parted (same e) =
        let moved = subst (λ (is : List ℕ). IsWalk graph t is a.later t) e a.is_cycle.1 in
        a.walk_is ∙ ap (λ (vs : List ℕ). t ∷ vs) (one_walk graph b.positions t t t a.later b.later moved b.is_cycle.1) ∙ sym b.walk_is
    parted (longer i s e) = absurd (omega (arith, len, ap length e, length-append b.positions (i ∷ s)))
    parted (shorter i s e) = absurd (omega (arith, len, ap length e, length-append a.positions (i ∷ s)))

pub no_first_cycle : (graph : List (List ℕ)) (t : ℕ) (v : List ℕ) → HasNoCycle graph t → IsFirstCycle graph t v → ⊥
no_first_cycle graph t v n a = n a.positions a.later a.is_cycle
