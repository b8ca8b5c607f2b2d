-- The theories that a theory reaches, in order.
use Rattle.std.specs.Prelude.{◌≡◌, ◌≢◌, ◌<◌, ◌≤◌, ℕ, Bool as Boolean, true, List, [], ◌∷◌, length, bytes_eq, get_or, refl}
use Rattle.std.proofs.Common.{inl, inr, sym, subst, arith}
use Rattle.std.proofs.lemmas.Bool.{cases_Bool}
use Rattle.std.proofs.lemmas.Option.{slice_get_within, get_or_from_slice_get}
use Rattle.ev_typing.specs.Env.{Name}
use Rattle.ev_imports.specs.Walks.{imports_of, InRange, HasNoCycle}
use Rattle.ev_imports.specs.Reached.{is_deployed, reached}
use Rattle.ev_imports.specs.inner.Listing.{IsDeployedWalk, ListsReached}
use Rattle.ev_imports.proofs.Deployed.{no_return}
use Rattle.ev_imports.proofs.Listing.{lists_reached}
use Rattle.ev_project.specs.Texts.{is_among}
use Rattle.ev_project.proofs.GraphLaws.{place, at_some, among_at}

-- a place of a name among some
pub among_place : (ns : List Name) (n : Name) → is_among ns n ≡ true → (k : ℕ) × (k < length ns) × (get_or ns k [] ≡ n)
among_place ns n h = let at = at_some ns n h in (at.0, slice_get_within ns at.0 n at.1, get_or_from_slice_get ns at.0 n [] at.1)

pub place_among : (ns : List Name) (k : ℕ) (n : Name) → k < length ns → get_or ns k [] ≡ n → is_among ns n ≡ true
place_among ns k n h e = subst (λ m. is_among ns m ≡ true) e (among_at ns k h)

pub place_short : (ns : List Name) (n : Name) → place ns n ≤ length ns
place_short [] n = omega arith
place_short (m ∷ ms) n = elim (cases_Bool (bytes_eq m n)) [
  | inl y ↦ rw y (omega arith)
  | inr y ↦ let rest = place_short ms n in rw y (omega (arith, rest))
]

module _ (g : List (List ℕ)) (deployed : List Boolean) (in_range : InRange g) (acyclic : (t : ℕ) → HasNoCycle g t) where
  -- a walk from a number in range ends at one
  walk_within : (t : ℕ) (is : List ℕ) (u : ℕ) → t < length g → IsDeployedWalk g deployed t is u → u < length g
  walk_within t [] u h w = subst (λ x. x < length g) w h
  walk_within t (i ∷ is) u h w =
      let inside = slice_get_within (imports_of g t) i w.0 w.1 in
      walk_within w.0 is u (subst (λ x. x < length g) (get_or_from_slice_get (imports_of g t) i w.0 0 w.1) (in_range t [] h i 0 inside)) w.3

  walk_deployed : (t : ℕ) (is : List ℕ) (u : ℕ) → is ≢ [] → IsDeployedWalk g deployed t is u → is_deployed deployed u ≡ true
  walk_deployed t [] u some w = absurd (some refl)
  walk_deployed t (i ∷ []) u some w = subst (λ x. is_deployed deployed x ≡ true) w.3 w.2
  walk_deployed t (i ∷ (j ∷ is)) u some w = walk_deployed w.0 (j ∷ is) u (λ e. cc e) w.3

  module _ (t : ℕ) (below : t < length g) where
    abbrev listed : List ℕ
    listed = reached g deployed t

    pub lists : ListsReached g deployed t listed
    lists = lists_reached g deployed t in_range acyclic below

    -- what a listed number leads to stands no later
    leads_back : (is : List ℕ) (k w : ℕ) → k < length listed → IsDeployedWalk g deployed (get_or listed k 0) is w
        → (j : ℕ) × (j ≤ k) × (get_or listed j 0 ≡ w)
    leads_back [] k w h walk = (k, omega arith, walk)
    leads_back (i ∷ is) k w h walk =
        let first = lists.imports_first k i walk.0 h walk.1 walk.2 in
        let rest = leads_back is first.0 w (omega (arith, h, first.1)) (subst (λ x. IsDeployedWalk g deployed x is w) (sym first.2) walk.3) in
        (rest.0, omega (arith, rest.1, first.1), rest.2)

    leads_earlier : (is : List ℕ) (k w : ℕ) → is ≢ [] → k < length listed → IsDeployedWalk g deployed (get_or listed k 0) is w
        → (j : ℕ) × (j < k) × (get_or listed j 0 ≡ w)
    leads_earlier [] k w some h walk = absurd (some refl)
    leads_earlier (i ∷ is) k w some h walk =
        let first = lists.imports_first k i walk.0 h walk.1 walk.2 in
        let rest = leads_back is first.0 w (omega (arith, h, first.1)) (subst (λ x. IsDeployedWalk g deployed x is w) (sym first.2) walk.3) in
        (rest.0, omega (arith, rest.1, first.1), rest.2)

    pub listed_within : (k : ℕ) → k < length listed → get_or listed k 0 < length g
    listed_within k h = let first = lists.first_walks k h in walk_within t _ (get_or listed k 0) below first.is_walk

    pub listed_deployed : (k : ℕ) → k < length listed → is_deployed deployed (get_or listed k 0) ≡ true
    listed_deployed k h = let first = lists.first_walks k h in walk_deployed t _ (get_or listed k 0) first.some first.is_walk

    pub not_itself : (k : ℕ) → k < length listed → get_or listed k 0 ≢ t
    not_itself k h e = let first = lists.first_walks k h in by _ first.some (subst (IsDeployedWalk g deployed t _) e first.is_walk)
      where
        by : (is : List ℕ) → is ≢ [] → IsDeployedWalk g deployed t is t → ⊥
        by [] some w = some refl
        by (i ∷ is) some w = no_return g deployed acyclic t i is w

  -- what a listed number reaches stands before it
  pub reaches_earlier : (t : ℕ) → t < length g → (k : ℕ) → k < length (reached g deployed t)
      → (j : ℕ) → j < length (reached g deployed (get_or (reached g deployed t) k 0))
      → (i : ℕ) × (i < k) × (get_or (reached g deployed t) i 0 ≡ get_or (reached g deployed (get_or (reached g deployed t) k 0)) j 0)
  reaches_earlier t below k h j l =
      let u : ℕ = get_or (reached g deployed t) k 0 in
      let other = lists u (listed_within t below k h) in
      let first = other.first_walks j l in
      leads_earlier t below _ k (get_or (reached g deployed u) j 0) first.some h first.is_walk
