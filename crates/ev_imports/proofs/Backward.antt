-- Walks by their positions, last first.
use Rattle.std.proofs.Common.{◌≡◌, ℕ, List, [], ◌∷◌, ◌++◌, reverse, refl, sym, ap, ◌∙◌, subst}
use Rattle.std.proofs.lemmas.Grind.{reverse_onto}
use mathlib.Core.List.{reverse_aux}
use Rattle.ev_imports.specs.Walks.{Imports, IsWalk}

-- a walk from t to u along these positions
abbrev pub Arrives : List (List ℕ) → ℕ → ℕ → List ℕ → Type 0
Arrives graph t u [] = t ≡ u
Arrives graph t u (a ∷ r) = (w : ℕ) × Arrives graph t w r × Imports graph w a u

-- such a walk with its numbers, the last one first, and t at the end
abbrev pub Leads : List (List ℕ) → ℕ → List ℕ → List ℕ → Type 0
Leads graph t [] (v ∷ []) = t ≡ v
Leads graph t (a ∷ r) (v ∷ (w ∷ vs)) = Imports graph w a v × Leads graph t r (w ∷ vs)
Leads graph t _ _ = ⊥

arrives_onto : (graph : List (List ℕ)) (t w u : ℕ) (is vs r : List ℕ) → Arrives graph t w r → IsWalk graph w is vs u → Arrives graph t u (reverse_aux is r)
arrives_onto graph t w u [] [] r p q = subst (λ (x : ℕ). Arrives graph t x r) q p
arrives_onto graph t w u [] (v ∷ vs) r p q = absurd q
arrives_onto graph t w u (i ∷ is) [] r p q = absurd q
arrives_onto graph t w u (i ∷ is) (v ∷ vs) r p q = arrives_onto graph t v u is vs (i ∷ r) (w, p, q.0) q.1

pub arrives_from_walk : (graph : List (List ℕ)) (t u : ℕ) (is vs : List ℕ) → IsWalk graph t is vs u → Arrives graph t u (reverse is)
arrives_from_walk graph t u is vs q = arrives_onto graph t t u is vs [] refl q

pub walk_push : (graph : List (List ℕ)) (t w u : ℕ) (is vs : List ℕ) (a : ℕ) → IsWalk graph t is vs w → Imports graph w a u → IsWalk graph t (is ++ a ∷ []) (vs ++ u ∷ []) u
walk_push graph t w u [] [] a p q = (subst (λ (x : ℕ). Imports graph x a u) (sym p) q, refl)
walk_push graph t w u [] (v ∷ vs) a p q = absurd p
walk_push graph t w u (i ∷ is) [] a p q = absurd p
walk_push graph t w u (i ∷ is) (v ∷ vs) a p q = (p.0, walk_push graph v w u is vs a p.1 q)

pub record WalkOf (graph : List (List ℕ)) (t : ℕ) (r : List ℕ) (v : ℕ) (vs : List ℕ) : Type 0 where
  pub later : List ℕ
  pub same : reverse (v ∷ vs) ≡ t ∷ later
  pub is_walk : IsWalk graph t (reverse r) later v

pub walk_from_leads : (graph : List (List ℕ)) (t : ℕ) (r : List ℕ) (v : ℕ) (vs : List ℕ) → Leads graph t r (v ∷ vs) → WalkOf graph t r v vs
walk_from_leads graph t [] v [] p = record { later = []; same = ap (λ x. x ∷ []) (sym p); is_walk = p }
walk_from_leads graph t [] v (w ∷ vs) p = absurd p
walk_from_leads graph t (a ∷ r) v [] p = absurd p
walk_from_leads graph t (a ∷ r) v (w ∷ vs) p =
    let before = walk_from_leads graph t r w vs p.1 in
    record {
      later = before.later ++ v ∷ [];
      same = reverse_onto (w ∷ vs) v [] ∙ ap (λ (xs : List ℕ). xs ++ v ∷ []) before.same;
      is_walk =
          subst (λ (xs : List ℕ). IsWalk graph t xs (before.later ++ v ∷ []) v) (sym (reverse_onto r a []))
          (walk_push graph t w v (reverse r) before.later a before.is_walk p.0);
    }
