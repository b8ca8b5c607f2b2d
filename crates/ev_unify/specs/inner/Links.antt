-- Links between parts that are one type. L has for each part the part that it is linked to; a root is linked to itself.
use Rattle.std.specs.Prelude.{◌≡◌, ◌≢◌, ℕ, zero, suc, ◌+◌, ◌*◌, ◌<◌, ◌≤◌, false, List, [], ◌∷◌, ◌++◌, length, slice_index, if◌then◌else◌}
use Rattle.ev_terms.specs.declared.types.Ty.{Ty}
use Rattle.ev_unify.specs.declared.patterns.Pat.{Pat}
use Rattle.ev_unify.specs.declared.cells.Couple.{Couple}
use Rattle.ev_unify.specs.inner.Parts.{head, children_of, is_unknown}
use Rattle.ev_unify.specs.inner.Numbered.{part, type_of, Joined, AllBelow}

-- links fall: from unknowns to other parts, and from later parts to earlier ones
abbrev pub height : List Pat → ℕ → ℕ
height P i = if is_unknown (part P i) then length P + i else i

abbrev pub total_height : List Pat → List ℕ → ℕ
total_height P [] = 0
total_height P (j ∷ js) = height P j + total_height P js

-- f is the same at both ends of each link
abbrev pub Linked : (ℕ → Ty) → List ℕ → Type 0
Linked f L = (i : ℕ) → i < length L → f i ≡ f (slice_index L i)

-- the links end at roots, and `top` is the root above each part
pub record IsForest (P : List Pat) (L : List ℕ) : Type 0 where
  pub count : length L ≡ length P
  pub within : (i : ℕ) → i < length L → slice_index L i < length L
  pub falls : (i : ℕ) → i < length L → slice_index L i ≢ i → height P (slice_index L i) < height P i
  pub top : ℕ → ℕ
  pub top_link : (i : ℕ) → i < length L → top i ≡ top (slice_index L i)
  pub top_root : (i : ℕ) → i < length L → slice_index L i ≡ i → top i ≡ i

-- two parts have one head, and f is the same at their children
pub record SameChildren (f : ℕ → Ty) (P : List Pat) (F : List ℕ) (i j : ℕ) : Type 0 where
  pub heads : head (part P i) ≡ head (part P j)
  pub counts : length (children_of (part P i)) ≡ length (children_of (part P j))
  pub children : (k : ℕ) → k < length (children_of (part P i)) → f (slice_index F i + k) ≡ f (slice_index F j + k)

abbrev pub Agrees : (ℕ → Ty) → List Pat → List ℕ → List ℕ → Type 0
Agrees f P F L = (i : ℕ) → i < length L → is_unknown (part P i) ≡ false → SameChildren f P F i (slice_index L i)

-- L' says what L says, by shorter ways
pub record Shortens (P : List Pat) (F L L' : List ℕ) : Type 0 where
  pub forest : IsForest P L'
  pub count : length L' ≡ length L
  pub kept : (f : ℕ → Ty) → Linked f L → Linked f L'
  pub back : (f : ℕ → Ty) → Linked f L' → Linked f L
  pub agrees : (f : ℕ → Ty) → Linked f L' → Agrees f P F L → Agrees f P F L'
  pub roots : (i : ℕ) → i < length L → slice_index L i ≡ i → slice_index L' i ≡ i
  pub total : total_height P L' ≤ total_height P L

pub record IsRootOf (L : List ℕ) (i r : ℕ) : Type 0 where
  pub within : r < length L
  pub root : slice_index L r ≡ r
  pub same : (f : ℕ → Ty) → Linked f L → f i ≡ f r

abbrev pub IsRoot : List ℕ → ℕ → Type 0
IsRoot L i = (i < length L) × (slice_index L i ≡ i)

-- the couples of n parts from a with n parts from b
abbrev pub paired : ℕ → ℕ → ℕ → List Couple
paired a b zero = []
paired a b (suc n) = paired a b n ++ record { left = a + n; right = b + n } ∷ []

-- what is left to do: fewer links can fall, or fewer couples are left
abbrev pub effort : List Pat → List ℕ → List Couple → ℕ
effort P L work = total_height P L * (length P + 1) + length work

-- L' and work' say what L and work say and that a and b are one type
pub record Joins (P : List Pat) (F L : List ℕ) (work : List Couple) (L' : List ℕ) (work' : List Couple) (a b : ℕ) : Type 0 where
  pub forest : IsForest P L'
  pub count : length L' ≡ length L
  pub below : AllBelow (length P) work → AllBelow (length P) work'
  pub back : (f : ℕ → Ty) → Linked f L' → Joined f work' → (Linked f L × Joined f work × (f a ≡ f b))
  pub kept : (σ : ℕ → Ty) → Linked (type_of σ P) L → Joined (type_of σ P) work → type_of σ P a ≡ type_of σ P b → (Linked (type_of σ P) L' × Joined (type_of σ P) work')
  pub agrees : (f : ℕ → Ty) → Linked f L' → Joined f work' → Agrees f P F L → Agrees f P F L'
  pub falls : effort P L' work' ≤ effort P L work

-- no types make the two parts one type
abbrev pub NeverSame : List Pat → ℕ → ℕ → Type 0
NeverSame P a b = (σ : ℕ → Ty) → type_of σ P a ≢ type_of σ P b

-- no types that the links allow make the two parts one type
abbrev pub NeverLinked : List Pat → List ℕ → ℕ → ℕ → Type 0
NeverLinked P L a b = (σ : ℕ → Ty) → Linked (type_of σ P) L → type_of σ P a ≢ type_of σ P b

-- what L and work say is what L0 and work0 said, and the links of parts that are no unknowns lead to like parts
pub record IsMerging (P : List Pat) (F L0 : List ℕ) (work0 : List Couple) (L : List ℕ) (work : List Couple) : Type 0 where
  pub forest : IsForest P L
  pub count : length L ≡ length L0
  pub below : AllBelow (length P) work
  pub back : (f : ℕ → Ty) → Linked f L → Joined f work → (Linked f L0 × Joined f work0)
  pub kept : (σ : ℕ → Ty) → Linked (type_of σ P) L0 → Joined (type_of σ P) work0 → (Linked (type_of σ P) L × Joined (type_of σ P) work)
  pub agrees : (f : ℕ → Ty) → Linked f L → Joined f work → Agrees f P F L

abbrev pub IsMerged : List Pat → List ℕ → List ℕ → List Couple → List ℕ → Type 0
IsMerged P F L0 work0 L = IsMerging P F L0 work0 L []

abbrev pub NeverJoined : List Pat → List ℕ → List Couple → Type 0
NeverJoined P L work = (σ : ℕ → Ty) → Linked (type_of σ P) L → Joined (type_of σ P) work → ⊥

-- R has the roots of the first n parts, on shorter ways than L had
pub record RootsAre (P : List Pat) (F L L' R : List ℕ) (n : ℕ) : Type 0 where
  pub shortens : Shortens P F L L'
  pub count : length R ≡ n
  pub roots : (i : ℕ) → i < n → IsRootOf L' i (slice_index R i)

-- R has for each part the one that stands for its class; the classes are what the couples make one type
pub record IsPartition (P : List Pat) (F H : List ℕ) (couples : List Couple) (R : List ℕ) : Type 0 where
  pub count : length R ≡ length P
  pub within : (i : ℕ) → i < length P → slice_index R i < length P
  pub fixed : (i : ℕ) → i < length P → slice_index R (slice_index R i) ≡ slice_index R i
  pub heads : (i : ℕ) → i < length P → is_unknown (part P i) ≡ false → head (part P i) ≡ head (part P (slice_index R i))
  pub counts : (i : ℕ) → i < length P → is_unknown (part P i) ≡ false → length (children_of (part P i)) ≡ length (children_of (part P (slice_index R i)))
  pub children : (i k : ℕ) → i < length P → is_unknown (part P i) ≡ false → k < length (children_of (part P i)) → slice_index R (slice_index F i + k) ≡ slice_index R (slice_index F (slice_index R i) + k)
  pub homes : (i : ℕ) → i < length P → slice_index R i ≡ slice_index R (slice_index H i)
  pub joined : (σ : ℕ → Ty) → Linked (type_of σ P) R → Joined (type_of σ P) couples
  pub linked : (σ : ℕ → Ty) → Joined (type_of σ P) couples → Linked (type_of σ P) R

-- what a walk over the classes needs to know of them
pub record IsClosed (P : List Pat) (R : List ℕ) : Type 0 where
  pub count : length R ≡ length P
  pub within : (i : ℕ) → i < length P → slice_index R i < length P

-- R leads to parts, alike from all places of an unknown
pub record AreClasses (P : List Pat) (H R : List ℕ) : Type 0 where
  pub count : length R ≡ length P
  pub within : (i : ℕ) → i < length P → slice_index R i < length P
  pub homes : (i : ℕ) → i < length P → slice_index R i ≡ slice_index R (slice_index H i)
