-- The walk back from what was found, as it is collected.
use Rattle.std.proofs.Common.{◌≡◌, ℕ, zero, suc, ◌<◌, List, [], ◌∷◌, ◌++◌, length, reverse, refl, sym, ap, subst, arith}
use Rattle.std.proofs.lemmas.List.{append_assoc}
use Rattle.ev_imports.specs.declared.cycle.Found.{Found}
use Rattle.ev_imports.specs.inner.Found.{number_at, parent_at, ParentsFall, IsTrail}

pub record TrailSoFar (found : List Found) (from last place : ℕ) (walk : List ℕ) : Type 0 where
  pub taken : List ℕ
  pub walk_is : walk ≡ last ∷ taken
  pub within : place < length found
  pub to_rest : (rest : List ℕ) → IsTrail found place rest → IsTrail found from (taken ++ rest)

pub trail_start : (found : List Found) (from last : ℕ) → from < length found → TrailSoFar found from last from (last ∷ [])
trail_start found from last h = record { taken = []; walk_is = refl; within = h; to_rest = λ rest p. p }

by_way : (found : List Found) (place : ℕ) (rest : List ℕ) → 0 < place → IsTrail found (parent_at found place) rest → IsTrail found place (number_at found place ∷ rest)
by_way found zero rest h p = absurd (omega arith)
by_way found (suc place) rest h p = (refl, p)

pub trail_more : (found : List Found) (from last place : ℕ) (walk : List ℕ) → ParentsFall found → TrailSoFar found from last place walk → 0 < place
    → TrailSoFar found from last (parent_at found place) (walk ++ number_at found place ∷ [])
trail_more found from last place walk falls t h =
    let down = falls place h t.within in
    let within = t.within in
    record {
      taken = t.taken ++ number_at found place ∷ [];
      walk_is = ap (λ (x : List ℕ). x ++ number_at found place ∷ []) t.walk_is;
      within = omega arith;
      to_rest = λ rest p.
          subst (IsTrail found from) (sym (append_assoc t.taken (number_at found place ∷ []) rest))
          (t.to_rest (number_at found place ∷ rest) (by_way found place rest h p));
    }

pub trail_end : (found : List Found) (from last : ℕ) (walk : List ℕ) → TrailSoFar found from last 0 walk
    → (trail : List ℕ) × IsTrail found from trail × (reverse (walk ++ number_at found 0 ∷ []) ≡ reverse (last ∷ trail))
trail_end found from last walk t =
    (t.taken ++ number_at found 0 ∷ [], t.to_rest (number_at found 0 ∷ []) (refl, refl), ap (λ (x : List ℕ). reverse (x ++ number_at found 0 ∷ [])) t.walk_is)
