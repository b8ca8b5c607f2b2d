-- The unknowns of a solution, followed to their ends.
use Rattle.std.specs.Prelude.{◌≡◌, ◌≢◌, ℕ, ◌<◌, ◌+◌, ◌⊎◌, ⊤, Bool as Boolean, true, false, List, [], ◌∷◌, length, Some, None, slice_get, slice_index_or}
use Rattle.ev_terms.specs.declared.extents.Extent.{Extent}
use Rattle.ev_terms.specs.declared.types.Ty.{Ty, Int}
use Rattle.ev_unify.specs.declared.patterns.Pat.{Pat}
use Rattle.ev_unify.specs.declared.patterns.Bind.{Bind}
use Rattle.ev_unify.specs.declared.patterns.Pats.{Pats}
use Rattle.ev_unify.specs.Patterns.{value, has_unknown, have_unknown}
use Rattle.ev_unify.specs.declared.patterns.PatPair.{PatPair}
use Rattle.ev_unify.specs.Solutions.{Solves, IsTriangular, bound_to, of_bound}
use Rattle.ev_infer.specs.declared.bulks.Bulk.{Bulk}
use Rattle.ev_infer.specs.declared.solving.Mark.{Mark}
use Rattle.ev_infer.specs.declared.solving.Mark.TheVariants.{Free, Bound, Open, Done}
use Rattle.ev_infer.specs.declared.solving.Visit.{Visit}
use Rattle.ev_infer.specs.declared.solving.Scan.{Scan}
use Rattle.ev_infer.specs.declared.solving.Scan.TheVariants as scan
use Rattle.ev_infer.specs.Inference.{is_open}
use Rattle.ev_infer.specs.inner.Bulks.{type_bulk, bulk_at, type_at_unknown, IsWithin}

-- one more step changes nothing
abbrev pub IsEnded : List Bind → (ℕ → Pat) → Type 0
IsEnded S μ = (u : ℕ) → μ u ≡ of_bound μ u (bound_to S u)

-- the type of an unknown, INT put for what is left free
abbrev pub ended_type : (ℕ → Pat) → ℕ → Ty
ended_type μ u = value (λ v. Int) (μ u)

-- The unknown has no free unknown at its end, is so large, and is this type, unless that is too large.
pub record IsSolved (S : List Bind) (limit : Extent) (u : ℕ) (b : Bulk) (A : Ty) : Type 0 where
  pub closed : (μ : ℕ → Pat) → IsEnded S μ → is_open (μ u) ≡ false
  pub large : (μ : ℕ → Pat) → IsEnded S μ → b ≡ type_bulk (ended_type μ u)
  pub type : (μ : ℕ → Pat) → IsEnded S μ → IsWithin b limit → A ≡ ended_type μ u

-- a free unknown is left at its end
abbrev pub IsLeftFree : List Bind → ℕ → Type 0
IsLeftFree S u = (μ : ℕ → Pat) → IsEnded S μ → is_open (μ u) ≡ true

abbrev pub mark : List Mark → ℕ → Mark
mark M u = slice_index_or M u Free

-- the unknown is bound to the value of this bind
pub record IsBoundBy (S : List Bind) (u i : ℕ) : Type 0 where
  pub bind : Bind
  pub at : slice_get S i ≡ Some bind
  pub bound : bound_to S u ≡ Some bind.value

-- what is known of an unknown by its mark
abbrev pub IsMark : List Bind → Extent → ℕ → Mark → Bulk → Ty → Type 0
IsMark S limit u Free b A = bound_to S u ≡ None
IsMark S limit u (Bound i) b A = IsBoundBy S u i
IsMark S limit u Open b A = ⊤
IsMark S limit u Done b A = IsSolved S limit u b A

pub record AreMarks (S : List Bind) (limit : Extent) (count : ℕ) (M : List Mark) (bulks : List Bulk) (types : List Ty) : Type 0 where
  pub mark_count : length M ≡ count
  pub bulk_count : length bulks ≡ count
  pub type_count : length types ≡ count
  pub known : (u : ℕ) → u < count → IsMark S limit u (mark M u) (bulk_at bulks u) (type_at_unknown types u)

-- each unknown that is on the way is bound as said, and where it is left free, so is the start
abbrev pub AreVisits : List Bind → ℕ → ℕ → List Visit → Type 0
AreVisits S count start [] = ⊤
AreVisits S count start (v ∷ vs) = (v.unknown < count) × IsBoundBy S v.unknown v.bind × (IsLeftFree S v.unknown → IsLeftFree S start) × AreVisits S count start vs

-- the number of unknowns that no walk has come to
abbrev pub count_bound : List Mark → ℕ
count_bound [] = 0
count_bound (Free ∷ ms) = count_bound ms
count_bound (Bound i ∷ ms) = 1 + count_bound ms
count_bound (Open ∷ ms) = count_bound ms
count_bound (Done ∷ ms) = count_bound ms

abbrev pub labor : List Mark → List Visit → ℕ
labor M path = count_bound M + count_bound M + length path

-- a walk is in the unknown, or its type is known
abbrev pub IsVisited : Mark → Type 0
IsVisited Free = ⊥
IsVisited (Bound i) = ⊥
IsVisited Open = ⊤
IsVisited Done = ⊤

-- Of the unknowns of a table that stand somewhere: a free one, or one that no walk has come to, or walks have come to all.
abbrev pub IsScanOf : (ℕ → Boolean) → List Mark → Scan → Type 0
IsScanOf stands M scan.Free = (w : ℕ) × (stands w ≡ true) × (w < length M) × (mark M w ≡ Free)
IsScanOf stands M (scan.Next v) = (stands v.unknown ≡ true) × (v.unknown < length M) × (mark M v.unknown ≡ Bound v.bind)
IsScanOf stands M scan.Visited = (w : ℕ) → stands w ≡ true → w < length M → IsVisited (mark M w)

abbrev pub IsScan : Pat → List Mark → Scan → Type 0
IsScan p M s = IsScanOf (λ w. has_unknown w p) M s

abbrev pub IsScanAll : Pats → List Mark → Scan → Type 0
IsScanAll ps M s = IsScanOf (λ w. have_unknown w ps) M s

-- the mark of an unknown before any walk, where these binds are looked at
abbrev pub IsFirstMark : List Bind → List Bind → ℕ → Mark → Type 0
IsFirstMark S R u Free = bound_to R u ≡ None
IsFirstMark S R u (Bound i) = (b : Bind) × (slice_get S i ≡ Some b) × (bound_to R u ≡ Some b.value)
IsFirstMark S R u Open = ⊥
IsFirstMark S R u Done = ⊥

-- all unknowns are solved
pub record AreSolved (S : List Bind) (limit : Extent) (count : ℕ) (bulks : List Bulk) (types : List Ty) : Type 0 where
  pub bulk_count : length bulks ≡ count
  pub type_count : length types ≡ count
  pub solved : (u : ℕ) → u < count → IsSolved S limit u (bulk_at bulks u) (type_at_unknown types u)

-- some unknown is left free
abbrev pub LeavesFree : List Bind → ℕ → Type 0
LeavesFree S count = (u : ℕ) × (u < count) × IsLeftFree S u

-- the unknown is bound to this pattern
abbrev pub IsBoundTo : List Bind → ℕ → Pat → Type 0
IsBoundTo S u p = bound_to S u ≡ Some p

-- the unknowns of the pattern are known
abbrev pub AreKnown : Pat → List Mark → Type 0
AreKnown p M = (w : ℕ) → has_unknown w p ≡ true → (w < length M) × (mark M w ≡ Done)

-- so many marks, all free
pub record AreFree (count : ℕ) (M : List Mark) : Type 0 where
  pub length_is : length M ≡ count
  pub marks : (u : ℕ) → mark M u ≡ Free

-- No unknown is followed back to itself, and all that are bound or stand in what is bound are below the number.
pub record AreOrdered (S : List Bind) (count : ℕ) : Type 0 where
  pub triangular : IsTriangular S
  pub bound : (u : ℕ) (p : Pat) → bound_to S u ≡ Some p → u < count
  pub inside : (u w : ℕ) (p : Pat) → bound_to S u ≡ Some p → has_unknown w p ≡ true → w < count

-- an unknown is on the way
abbrev pub IsOn : ℕ → List Visit → Type 0
IsOn u [] = ⊥
IsOn u (v ∷ vs) = (v.unknown ≡ u) ⊎ IsOn u vs

-- all on the way have lower ranks
abbrev pub AreLower : (ℕ → ℕ) → ℕ → List Visit → Type 0
AreLower rank k [] = ⊤
AreLower rank k (v ∷ vs) = (rank v.unknown < k) × AreLower rank k vs

-- the ranks fall along the way
abbrev pub Falls : (ℕ → ℕ) → List Visit → Type 0
Falls rank [] = ⊤
Falls rank (v ∷ vs) = AreLower rank (rank v.unknown) vs × Falls rank vs

-- the way has all unknowns that a walk is in, and their ranks fall
pub record IsWay (S : List Bind) (M : List Mark) (path : List Visit) : Type 0 where
  pub on : (u : ℕ) → mark M u ≡ Open → IsOn u path
  pub falls : (t : IsTriangular S) → Falls t.rank path

-- a walk is in no unknown
abbrev pub NoneOpen : List Mark → Type 0
NoneOpen M = (u : ℕ) → mark M u ≢ Open

-- what was visited stays so
abbrev pub AreKept : List Mark → List Mark → Type 0
AreKept M N = (u : ℕ) → IsVisited (mark M u) → IsVisited (mark N u)

-- a walk came to the unknown and is in none now
pub record IsWalked (M N : List Mark) (u : ℕ) : Type 0 where
  pub kept : AreKept M N
  pub visited : IsVisited (mark N u)
  pub ended : NoneOpen N

-- whatever types the unknowns from the number on are given, the pairs stay solved
abbrev pub UseBelow : ℕ → List PatPair → Type 0
UseBelow n pairs = (σ τ : ℕ → Ty) → ((i : ℕ) → i < n → σ i ≡ τ i) → Solves σ pairs → Solves τ pairs
