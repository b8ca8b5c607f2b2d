-- A chain of numbers, each importing the next: without a cycle no number stands twice in it, so it is no longer than the graph.
use Rattle.std.proofs.Common.{◌≡◌, ◌||◌, ℕ, ◌<◌, ◌≤◌, Bool, true, false, eqb, List, [], ◌∷◌, ◌++◌, length, refl, sym, ap, ◌∙◌, subst, inl, inr, arith}
use Rattle.std.specs.List.{AllByRecursion, IsDistinct, list_any}
use Rattle.std.proofs.lemmas.List.{length_push}
use Rattle.std.proofs.lemmas.Bool.Decides.{eqb_tells}
use Rattle.std.proofs.lemmas.Map.Steps.{length-le_from_distinct_below}
use Rattle.ev_imports.specs.Walks.{Imports, IsWalk, HasNoCycle}
use Rattle.ev_imports.proofs.Backward.{walk_push}

-- u imports the first of these, if there is one
abbrev pub ImportsFirst : List (List ℕ) → ℕ → List ℕ → Type 0
ImportsFirst graph u [] = Unit {0}
ImportsFirst graph u (v ∷ us) = (i : ℕ) × Imports graph u i v

abbrev pub IsChain : List (List ℕ) → List ℕ → Type 0
IsChain graph [] = Unit {0}
IsChain graph (u ∷ us) = (u < length graph) × ImportsFirst graph u us × IsChain graph us

pub chain_pop : (graph : List (List ℕ)) (us : List ℕ) (u : ℕ) → IsChain graph (us ++ u ∷ []) → IsChain graph us
chain_pop graph [] u c = tt
chain_pop graph (w ∷ []) u c = (c.0, tt, tt)
chain_pop graph (w ∷ (v ∷ us)) u c = (c.0, c.1, chain_pop graph (v ∷ us) u c.2)

pub chain_push : (graph : List (List ℕ)) (us : List ℕ) (u i v : ℕ) → IsChain graph (us ++ u ∷ []) → Imports graph u i v → v < length graph
    → IsChain graph ((us ++ u ∷ []) ++ v ∷ [])
chain_push graph [] u i v c p h = (c.0, (i, p), (h, tt, tt))
chain_push graph (w ∷ []) u i v c p h = (c.0, c.1, chain_push graph [] u i v c.2 p h)
chain_push graph (w ∷ (x ∷ us)) u i v c p h = (c.0, c.1, chain_push graph (x ∷ us) u i v c.2 p h)

pub chain_last : (graph : List (List ℕ)) (us : List ℕ) (u : ℕ) → IsChain graph (us ++ u ∷ []) → u < length graph
chain_last graph [] u c = c.0
chain_last graph (w ∷ us) u c = chain_last graph us u c.2

unlike_later : (graph : List (List ℕ)) (t u : ℕ) (is vs : List ℕ) → HasNoCycle graph t → IsWalk graph t is vs u → (us : List ℕ) → ImportsFirst graph u us → IsChain graph us
    → AllByRecursion (λ y. eqb t y ≡ false) us
unlike_later graph t u is vs n w [] f c = tt
unlike_later graph t u is vs n w (v ∷ us) f c =
    let longer = walk_push graph t u v is vs f.0 w f.1 in
    elim (eqb_tells t v) [
      | inl e ↦
          let len = length_push is f.0 in
          absurd (n (is ++ f.0 ∷ []) (vs ++ v ∷ [])
          (λ (q : is ++ f.0 ∷ [] ≡ []). let l = ap length q in omega (arith, l, len), subst (IsWalk graph t (is ++ f.0 ∷ []) (vs ++ v ∷ [])) (sym e.1) longer))
      | inr e ↦ (e.0, unlike_later graph t v (is ++ f.0 ∷ []) (vs ++ v ∷ []) n longer us c.1 c.2)
    ]

chain_distinct : (graph : List (List ℕ)) → ((t : ℕ) → HasNoCycle graph t) → (us : List ℕ) → IsChain graph us → IsDistinct eqb us
unfolding IsDistinct
chain_distinct graph n [] c = tt
chain_distinct graph n (u ∷ us) c = (unlike_later graph u u [] [] (n u) refl us c.1 c.2, chain_distinct graph n us c.2)

chain_below : (graph : List (List ℕ)) (us : List ℕ) → IsChain graph us → (q : ℕ) → list_any (eqb q) us ≡ true → q < length graph
chain_below graph [] c q p = cc
chain_below graph (u ∷ us) c q p =
    elim (eqb_tells q u) [
      | inl e ↦ subst (λ (x : ℕ). x < length graph) (sym e.1) c.0
      | inr e ↦ chain_below graph us c.2 q (sym (ap (λ (b : Bool). b || list_any (eqb q) us) e.0) ∙ p)
    ]

pub chain_short : (graph : List (List ℕ)) → ((t : ℕ) → HasNoCycle graph t) → (us : List ℕ) → IsChain graph us → length us ≤ length graph
chain_short graph n us c = length-le_from_distinct_below us (length graph) (chain_distinct graph n us c) (chain_below graph us c)
