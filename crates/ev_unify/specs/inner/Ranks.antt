-- A walk over the classes into the depth. M has a mark for each part, the path the classes that the walk is in.
use Rattle.std.specs.Prelude.{◌≡◌, ◌≢◌, ℕ, ◌+◌, ◌-◌, ◌*◌, ◌<◌, ◌≤◌, ◌⊎◌, ⊤, List, [], ◌∷◌, length, slice_index, slice_index_or}
use Rattle.ev_terms.specs.declared.types.Ty.{Ty}
use Rattle.ev_unify.specs.declared.patterns.Pat.{Pat}
use Rattle.ev_unify.specs.declared.ranks.Mark.{Mark}
use Rattle.ev_unify.specs.declared.ranks.Mark.TheVariants.{New, Open, Done}
use Rattle.ev_unify.specs.declared.ranks.Visit.{Visit}
use Rattle.ev_unify.specs.inner.Parts.{children_of}
use Rattle.ev_unify.specs.inner.Numbered.{part, type_of}
use Rattle.ev_unify.specs.inner.Links.{Linked}

abbrev pub mark : List Mark → ℕ → Mark
mark M i = slice_index_or M i New

abbrev pub IsDone : List Mark → ℕ → Type 0
IsDone M i = mark M i ≡ Done

-- the classes that are done have ranks, which fall to those of their children
pub record IsRankedSoFar (P : List Pat) (F R : List ℕ) (M : List Mark) : Type 0 where
  pub rank : ℕ → ℕ
  pub most : ℕ
  pub bounded : (i : ℕ) → rank i ≤ most
  pub done : (i k : ℕ) → IsDone M i → k < length (children_of (part P i)) → IsDone M (slice_index R (slice_index F i + k))
  pub falls : (i k : ℕ) → IsDone M i → k < length (children_of (part P i)) → rank (slice_index R (slice_index F i + k)) < rank i

-- no class is a part of itself
pub record IsRanked (P : List Pat) (F R : List ℕ) : Type 0 where
  pub rank : ℕ → ℕ
  pub most : ℕ
  pub bounded : (i : ℕ) → rank i ≤ most
  pub falls : (i k : ℕ) → i < length P → k < length (children_of (part P (slice_index R i))) → rank (slice_index R (slice_index F (slice_index R i) + k)) < rank (slice_index R i)

-- the children of the part before the next one are done
pub record IsVisit (P : List Pat) (F R : List ℕ) (M : List Mark) (v : Visit) : Type 0 where
  pub within : v.part < length P
  pub begun : slice_index F v.part ≤ v.next
  pub ended : v.next ≤ slice_index F (v.part + 1)
  pub seen : (s : ℕ) → slice_index F v.part ≤ s → s < v.next → IsDone M (slice_index R s)

-- the next child of the part is in the class that comes next on the path
abbrev pub StepsTo : List ℕ → List ℕ → Visit → List Visit → Type 0
StepsTo F R v [] = ⊤
StepsTo F R v (w ∷ ws) = (v.next < slice_index F (v.part + 1)) × (slice_index R v.next ≡ w.part)

abbrev pub IsPath : List Pat → List ℕ → List ℕ → List Mark → List Visit → Type 0
IsPath P F R M [] = ⊤
IsPath P F R M (v ∷ vs) = IsVisit P F R M v × (StepsTo F R v vs × IsPath P F R M vs)

-- the path has a visit of this part
abbrev pub IsOn : ℕ → List Visit → Type 0
IsOn x [] = ⊥
IsOn x (v ∷ vs) = (v.part ≡ x) ⊎ IsOn x vs

pub record IsWalking (P : List Pat) (F R : List ℕ) (M : List Mark) (visits : List Visit) : Type 0 where
  pub count : length M ≡ length P
  pub ranked : IsRankedSoFar P F R M
  pub path : IsPath P F R M visits
  pub opened : (x : ℕ) → mark M x ≡ Open → IsOn x visits

-- between two walks
abbrev pub IsResting : List Pat → List ℕ → List ℕ → List Mark → Type 0
IsResting P F R M = IsWalking P F R M []

-- what is done stays done, and what is begun stays begun
pub record GoesOn (M M' : List Mark) : Type 0 where
  pub done : (x : ℕ) → IsDone M x → IsDone M' x
  pub begun : (x : ℕ) → mark M x ≢ New → mark M' x ≢ New

abbrev pub count_new : List Mark → ℕ
count_new [] = 0
count_new (New ∷ ms) = 1 + count_new ms
count_new (Open ∷ ms) = count_new ms
count_new (Done ∷ ms) = count_new ms

abbrev pub left_on : List ℕ → List Visit → ℕ
left_on F [] = 0
left_on F (v ∷ vs) = (slice_index F (v.part + 1) - v.next) + 1 + left_on F vs

-- what is left to do: fewer classes are new, or fewer children are left on the path
abbrev pub labor : List Pat → List ℕ → List Mark → List Visit → ℕ
labor P F M path = count_new M * (length P + 2) + left_on F path

-- no types make all parts of each class one type
abbrev pub NeverRanked : List Pat → List ℕ → Type 0
NeverRanked P R = (σ : ℕ → Ty) → Linked (type_of σ P) R → ⊥

pub record AreNew (count : ℕ) (M : List Mark) : Type 0 where
  pub length_is : length M ≡ count
  pub marks : (i : ℕ) → mark M i ≡ New
