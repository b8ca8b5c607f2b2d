-- The code's steps build the rows of the table.
use Rattle.std.specs.Prelude.{◌≡◌, ◌↔◌, ◌<◌, ◌+◌, ◌-◌, ◌≤◌, ◌⊎◌, ℕ, zero, suc, List, [], ◌∷◌, Option, Some, None, length, slice_get, option_map, refl}
use Rattle.std.specs.List.{AllZip}
use Rattle.std.proofs.Common.{ap, sym, ◌∙◌, subst, arith, inl, inr}
use Rattle.ev_terms.specs.Term.{Term}
use Rattle.ev_axioms.specs.AxiomText.{Text, closed}
use Rattle.ev_axioms.specs.Axioms.{rows, axiom_row}
use Rattle.ev_axioms.specs.declared.steps.Step.{Step}
use Rattle.ev_axioms.specs.inner.Building.{built}
use Rattle.ev_axioms.specs.inner.Rows.{all_steps}

abbrev Builds : List Step → Text → Type 0
Builds ss r = built ss [] ≡ Some (closed r)

all_built : AllZip Builds all_steps rows
unfolding all_steps rows
all_built = (refl, (refl, (refl, (refl, (refl, (refl, (refl, (refl, (refl, (refl, (refl, (refl, (refl, (refl, (refl, (refl, (refl, (refl, (refl, (refl, (refl, (refl, (refl, (refl, (refl, (refl, (refl, (refl, (refl, (refl, (refl, (refl, (refl, (refl, (refl, (refl, (refl, (refl, (refl, (refl, (refl, (refl, (refl, (refl, (refl, (refl, (refl, (refl, (refl, (refl, (refl, (refl, (refl, (refl, (refl, (refl, (refl, (refl, (refl, (refl, (refl, (refl, (refl, (refl, (refl, (refl, (refl, (refl, (refl, (refl, (refl, (refl, tt))))))))))))))))))))))))))))))))))))))))))))))))))))))))))))))))))))))))

row_count : length rows ≡ 72
unfolding rows
row_count = refl

found_in : (xs : List (List Step)) (rs : List Text) → AllZip Builds xs rs → (i : ℕ) (ss : List Step) → slice_get xs i ≡ Some ss → built ss [] ≡ option_map closed (slice_get rs i)
found_in [] rs h i ss e = cc
found_in (x ∷ xs) [] h i ss e = absurd h
found_in (x ∷ xs) (r ∷ rs) h zero ss e = let q : x ≡ ss = cc in ap (λ y. built y []) (sym q) ∙ h.0
found_in (x ∷ xs) (r ∷ rs) h (suc i) ss e = found_in xs rs h.1 i ss e

some_in : (xs : List (List Step)) (rs : List Text) → AllZip Builds xs rs → (i : ℕ) (ss : List Step) → slice_get xs i ≡ Some ss → i < length rs
some_in [] rs h i ss e = cc
some_in (x ∷ xs) [] h i ss e = absurd h
some_in (x ∷ xs) (r ∷ rs) h zero ss e = omega arith
some_in (x ∷ xs) (r ∷ rs) h (suc i) ss e = omega (arith, some_in xs rs h.1 i ss e)

none_in : (xs : List (List Step)) (rs : List Text) → AllZip Builds xs rs → (i : ℕ) → slice_get xs i ≡ None → length rs ≤ i
none_in [] [] h i e = omega arith
none_in [] (r ∷ rs) h i e = absurd h
none_in (x ∷ xs) [] h i e = absurd h
none_in (x ∷ xs) (r ∷ rs) h zero e = cc
none_in (x ∷ xs) (r ∷ rs) h (suc i) e = omega (arith, none_in xs rs h.1 i e)

-- a row by its number from 1
row_of : (k : ℕ) → (k ≡ 0 → ⊥) → axiom_row k ≡ option_map closed (slice_get rows (k - 1))
row_of zero h = absurd (h refl)
row_of (suc i) h = let e : suc i - 1 ≡ i = omega arith in ap (λ j. option_map closed (slice_get rows j)) (sym e)

pub found_row : (k : ℕ) (ss : List Step) (o : Option Term) → (k ≡ 0 → ⊥) → Some ss ≡ slice_get all_steps (k - 1) → o ≡ built ss [] → o ≡ axiom_row k
found_row k ss o h e q = q ∙ found_in all_steps rows all_built (k - 1) ss (sym e) ∙ sym (row_of k h)

pub within : (k : ℕ) (ss : List Step) → Some ss ≡ slice_get all_steps (k - 1) → k ≤ 72
within k ss e = omega (arith, some_in all_steps rows all_built (k - 1) ss (sym e), row_count)

pub outside : (k : ℕ) → (k ≡ 0 → ⊥) → None ≡ slice_get all_steps (k - 1) → 72 < k
outside k h e = omega (arith, none_in all_steps rows all_built (k - 1) (sym e), row_count)

past : (rs : List Text) (i : ℕ) → length rs ≤ i → slice_get rs i ≡ None
past [] i h = refl
past (r ∷ rs) zero h = absurd (omega (arith, h))
past (r ∷ rs) (suc i) h = past rs i (omega (arith, h))

there : (rs : List Text) (i : ℕ) → i < length rs → slice_get rs i ≡ None → ⊥
there [] i h e = absurd (omega (arith, h))
there (r ∷ rs) zero h e = cc
there (r ∷ rs) (suc i) h e = there rs i (omega (arith, h)) e

map_none : (o : Option Text) → option_map closed o ≡ None → o ≡ None
map_none None e = refl
map_none (Some r) e = cc

-- there is no row 0, and none above 72
pub no_row : (k : ℕ) → (k ≡ 0) ⊎ (72 < k) → axiom_row k ≡ None
no_row zero h = refl
no_row (suc i) (inl e) = absurd (omega (arith, e))
no_row (suc i) (inr l) = ap (option_map closed) (past rows i (omega (arith, l, row_count)))

pub a_row : (k : ℕ) → (k ≡ 0 → ⊥) → k ≤ 72 → axiom_row k ≡ None → ⊥
a_row zero h l e = h refl
a_row (suc i) h l e = there rows i (omega (arith, l, row_count)) (map_none (slice_get rows i) e)

pub not_outside : (k : ℕ) → (k ≡ 0 → ⊥) → k ≤ 72 → (k ≡ 0) ⊎ (72 < k) → ⊥
not_outside k h l (inl e) = h e
not_outside k h l (inr g) = omega (arith, l, g)
