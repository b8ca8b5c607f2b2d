-- All parts of some patterns by number: P has the parts, F where the children of each begin, H the first place of each unknown.
use Rattle.std.specs.Prelude.{◌≡◌, ℕ, ◌+◌, ◌<◌, ◌≤◌, ⊤, false, List, [], ◌∷◌, length, slice_index, slice_index_or, Option, Some, unwrap_or, if◌then◌else◌}
use Rattle.ev_terms.specs.declared.types.Ty.{Ty}
use Rattle.ev_unify.specs.declared.patterns.Pat.{Pat, Int, Unknown}
use Rattle.ev_unify.specs.declared.cells.Couple.{Couple}
use Rattle.ev_unify.specs.Patterns.{value}
use Rattle.ev_unify.specs.inner.Parts.{children_of, is_unknown, is_at}

abbrev pub part : List Pat → ℕ → Pat
part P i = slice_index_or P i Int

-- the type that part i is
abbrev pub type_of : (ℕ → Ty) → List Pat → ℕ → Ty
type_of σ P i = value σ (part P i)

-- the first m parts have their children side by side, in order, and nothing stands behind the last of these
pub record HasChildren (P : List Pat) (F : List ℕ) (m : ℕ) : Type 0 where
  pub count : length F ≡ m + 1
  pub last : slice_index F m ≡ length P
  pub ends : (i : ℕ) → i < m → slice_index F (i + 1) ≡ slice_index F i + length (children_of (part P i))
  pub within : (i : ℕ) → i < m → slice_index F (i + 1) ≤ length P
  pub parts : (i k : ℕ) → i < m → k < length (children_of (part P i)) → part P (slice_index F i + k) ≡ slice_index_or (children_of (part P i)) k Int

-- every part has its children
abbrev pub IsFlat : List Pat → List ℕ → Type 0
IsFlat P F = HasChildren P F (length P)

-- the first places of the unknowns are known, by a look-up, for the first parts
pub record HasPlaces (place : ℕ → Option ℕ) (P : List Pat) (H : List ℕ) : Type 0 where
  pub found : (u j : ℕ) → place u ≡ Some j → (j < length H) × (part P j ≡ Unknown u) × (slice_index H j ≡ j)
  pub kept : (i u : ℕ) → i < length H → part P i ≡ Unknown u → place u ≡ Some (slice_index H i)
  pub own : (i : ℕ) → i < length H → is_unknown (part P i) ≡ false → slice_index H i ≡ i
  pub below : (i : ℕ) → i < length H → slice_index H i ≤ i

-- each unknown's places have its first place, and other parts their own
pub record HasHomes (P : List Pat) (H : List ℕ) : Type 0 where
  pub count : length H ≡ length P
  pub own : (i : ℕ) → i < length H → is_unknown (part P i) ≡ false → slice_index H i ≡ i
  pub below : (i : ℕ) → i < length H → slice_index H i ≤ i
  pub home : (i u : ℕ) → i < length H → part P i ≡ Unknown u → part P (slice_index H i) ≡ Unknown u
  pub fixed : (i : ℕ) → i < length H → slice_index H (slice_index H i) ≡ slice_index H i
  pub alike : (i j u : ℕ) → i < length H → j < length H → part P i ≡ Unknown u → part P j ≡ Unknown u → slice_index H i ≡ slice_index H j

-- where the pattern at this place stands first
abbrev pub home_of : (ℕ → Option ℕ) → Pat → ℕ → ℕ
home_of place (Unknown u) i = unwrap_or (place u) i
home_of place _ i = i

-- the look-up once the pattern at a place is known, whose home is h
abbrev pub place_with : (ℕ → Option ℕ) → Pat → ℕ → ℕ → Option ℕ
place_with place p h u = if is_at u p then Some h else place u

-- both parts of each couple are the same under f
abbrev pub Joined : (ℕ → Ty) → List Couple → Type 0
Joined f [] = ⊤
Joined f (c ∷ cs) = (f c.left ≡ f c.right) × Joined f cs

abbrev pub AllBelow : ℕ → List Couple → Type 0
AllBelow n [] = ⊤
AllBelow n (c ∷ cs) = ((c.left < n) × (c.right < n)) × AllBelow n cs
