-- Walks over deployed numbers.
use Rattle.std.proofs.Common.{◌≡◌, ℕ, suc, ◌<◌, Bool, true, List, [], ◌∷◌, ◌++◌, length, refl, sym, ap, subst, arith}
use Rattle.std.proofs.lemmas.Option.{slice_get_within, get_or_from_slice_get}
use Rattle.ev_imports.specs.Walks.{imports_of, Imports, IsWalk, HasNoCycle, InRange}
use Rattle.ev_imports.specs.Reached.{is_deployed}
use Rattle.ev_imports.specs.inner.Listing.{IsDeployedWalk}
use Rattle.ev_imports.proofs.Chain.{IsChain, chain_short}

pub same_import : (graph : List (List ℕ)) (u i v w : ℕ) → Imports graph u i v → Imports graph u i w → v ≡ w
same_import graph u i v w p q = cc (p, q)

module _ (graph : List (List ℕ)) (deployed : List Bool) where
  pub walk_on : (p : List ℕ) (t v : ℕ) (q : List ℕ) (u : ℕ) → IsDeployedWalk graph deployed t p v → IsDeployedWalk graph deployed v q u → IsDeployedWalk graph deployed t (p ++ q) u
  walk_on [] t v q u a b = subst (λ (x : ℕ). IsDeployedWalk graph deployed x q u) (sym a) b
  walk_on (i ∷ p) t v q u a b = (a.0, a.1, a.2, walk_on p a.0 v q u a.3 b)

  -- a walk after the first positions of which another walk leads to v
  pub walk_rest : (p : List ℕ) (t v : ℕ) (q : List ℕ) (u : ℕ) → IsDeployedWalk graph deployed t p v → IsDeployedWalk graph deployed t (p ++ q) u → IsDeployedWalk graph deployed v q u
  walk_rest [] t v q u a b = subst (λ (x : ℕ). IsDeployedWalk graph deployed x q u) a b
  walk_rest (i ∷ p) t v q u a b =
      walk_rest p a.0 v q u a.3 (subst (λ (x : ℕ). IsDeployedWalk graph deployed x (p ++ q) u) (same_import graph t i b.0 a.0 b.1 a.1) b.3)

  pub walk_import : (p : List ℕ) (t v i u : ℕ) → IsDeployedWalk graph deployed t p v → Imports graph v i u → is_deployed deployed u ≡ true
      → IsDeployedWalk graph deployed t (p ++ i ∷ []) u
  walk_import p t v i u a b d = walk_on p t v (i ∷ []) u a (u, b, d, refl)

  numbers_of : (p : List ℕ) (t u : ℕ) → IsDeployedWalk graph deployed t p u → (vs : List ℕ) × IsWalk graph t p vs u × (length vs ≡ length p)
  numbers_of [] t u a = ([], a, refl)
  numbers_of (i ∷ p) t u a = let b = numbers_of p a.0 u a.3 in (a.0 ∷ b.0, (a.1, b.1), ap suc b.2)

  pub no_return : ((t : ℕ) → HasNoCycle graph t) → (u i : ℕ) (p : List ℕ) → IsDeployedWalk graph deployed u (i ∷ p) u → ⊥
  no_return n u i p a =
      let b = numbers_of (i ∷ p) u u a in
      n u (i ∷ p) b.0 (λ (e : i ∷ p ≡ []). cc, b.1)

  walk_chain : InRange graph → (is : List ℕ) (t : ℕ) (vs : List ℕ) (u : ℕ) → t < length graph → IsWalk graph t is vs u → IsChain graph (t ∷ vs)
  walk_chain r [] t [] u h a = (h, tt, tt)
  walk_chain r [] t (v ∷ vs) u h a = absurd a
  walk_chain r (i ∷ is) t [] u h a = absurd a
  walk_chain r (i ∷ is) t (v ∷ vs) u h a =
      let inside = slice_get_within (imports_of graph t) i v a.0 in
      let below = subst (λ (x : ℕ). x < length graph) (get_or_from_slice_get (imports_of graph t) i v 0 a.0) (r t [] h i 0 inside) in
      (h, (i, a.0), walk_chain r is v vs u below a.1)

  pub walk_short : InRange graph → ((t : ℕ) → HasNoCycle graph t) → (p : List ℕ) (t u : ℕ) → t < length graph → IsDeployedWalk graph deployed t p u → length p < length graph
  walk_short r n p t u h a =
      let b = numbers_of p t u a in
      let short = chain_short graph n (t ∷ b.0) (walk_chain r p t b.0 u h b.1) in
      omega (arith, short, b.2)
