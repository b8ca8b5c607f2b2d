-- A graph whose numbers import smaller ones only has all imports in range and no cycle.
use Rattle.std.proofs.Common.{◌≡◌, ℕ, zero, suc, ◌<◌, ◌≤◌, List, [], ◌∷◌, ◌++◌, length, get_or, refl, sym, subst, inl, inr, arith}
use Rattle.std.proofs.lemmas.List.{get_or_append_left, get_or_push, get_or_past, get_or_default, length_push}
use Rattle.std.proofs.lemmas.Option.{slice_get_within, get_or_from_slice_get}
use Rattle.std.proofs.lemmas.Bool.{cases_lt}
use Rattle.ev_imports.specs.Walks.{imports_of, Imports, IsWalk, InRange, AreBelow, HasNoCycle}
use Rattle.cases_theories.specs.Ordered.{IsOrdered}

pub ordered_none : IsOrdered []
ordered_none u k d h = absurd (omega arith)

pub ordered_push : (graph : List (List ℕ)) (row : List ℕ) → IsOrdered graph → AreBelow (length graph) row → IsOrdered (graph ++ row ∷ [])
ordered_push graph row o b u =
    elim (cases_lt u (length graph)) [
      | inl l ↦ subst (AreBelow u) (sym (get_or_append_left graph (row ∷ []) [] u l)) (o u)
      | inr l ↦ elim (cases_lt (length graph) u) [
        | inl m ↦ subst (AreBelow u) (sym (get_or_past (graph ++ row ∷ []) u [] (omega (arith, length_push graph row)))) (λ k d h. absurd (omega arith))
        | inr m ↦
            let e : length graph ≡ u = omega arith in
            subst (AreBelow u) (sym (get_or_push graph row [] u e)) (subst (λ (n : ℕ). AreBelow n row) e b)
      ]
    ]

pub ordered_in_range : (graph : List (List ℕ)) → IsOrdered graph → InRange graph
ordered_in_range graph o k d h j e l =
    let row = get_or_default graph k d [] h in
    let inside : j < length (imports_of graph k) = subst (λ (x : List ℕ). j < length x) row l in
    let small = o k j e inside in
    subst (λ (x : List ℕ). get_or x j e < length graph) (sym row) (omega (arith, small))

import_down : (graph : List (List ℕ)) → IsOrdered graph → (u i v : ℕ) → Imports graph u i v → v < u
import_down graph o u i v p =
    subst (λ (x : ℕ). x < u) (get_or_from_slice_get (imports_of graph u) i v 0 p) (o u i 0 (slice_get_within (imports_of graph u) i v p))

walk_down : (graph : List (List ℕ)) → IsOrdered graph → (t : ℕ) (is vs : List ℕ) (u : ℕ) → IsWalk graph t is vs u → u ≤ t
walk_down graph o t [] [] u p = omega (arith, p)
walk_down graph o t [] (v ∷ vs) u p = absurd p
walk_down graph o t (i ∷ is) [] u p = absurd p
walk_down graph o t (i ∷ is) (v ∷ vs) u p = omega (arith, import_down graph o t i v p.0, walk_down graph o v is vs u p.1)

pub ordered_acyclic : (graph : List (List ℕ)) → IsOrdered graph → (t : ℕ) → HasNoCycle graph t
ordered_acyclic graph o t [] vs c = c.0 refl
ordered_acyclic graph o t (i ∷ is) [] c = c.1
ordered_acyclic graph o t (i ∷ is) (v ∷ vs) c = omega (arith, import_down graph o t i v c.1.0, walk_down graph o v is vs t c.1.1)

pub ruleset ordered = (ordered_none, ordered_push, ordered_in_range, ordered_acyclic)
