-- Types that a parameter occurs in tell what is put for it.
use Rattle.std.specs.Prelude.{◌≡◌, ℕ, zero, suc, ◌+◌, ◌<◌, ◌≤◌, Bool as Boolean, true, false, ◌||◌, ◌==◌, not, List, [], ◌∷◌, map, length, slice_get, unwrap_or, refl}
use Rattle.std.specs.List.{list_any, range_with_len}
use Rattle.std.proofs.Common.{ap, sym, ◌∙◌, arith, true≢false, subst as transport}
use Rattle.std.proofs.lemmas.Bool.{eqb-true, eqb-false}
use Rattle.ev_terms.specs.declared.types.Ty.{Ty, Int, Bool, Prop, Param, Data}
use Rattle.ev_terms.specs.declared.types.Tys.{Tys, Empty}
use Rattle.ev_terms.specs.Types.{pow, prod, more, type_list}
use Rattle.ev_terms.specs.Substitution.{type_inst, types_inst, type_at}
use Rattle.ev_typing.specs.Occurs.{has_param, have_param}
use Rattle.ev_typing.specs.TypeLists.{types}
use Rattle.ev_typing.proofs.Laws.{types-type_list}

-- the parts of types
abbrev pow_part : Ty → Ty
pow_part (pow a) = a
pow_part _ = Int

abbrev left_part : Ty → Ty
left_part (prod a b) = a
left_part _ = Int

abbrev right_part : Ty → Ty
right_part (prod a b) = b
right_part _ = Int

abbrev data_part : Ty → Tys
data_part (Data n As) = As
data_part _ = Empty

abbrev first_part : Tys → Ty
first_part (more a As) = a
first_part Empty = Int

abbrev rest_part : Tys → Tys
rest_part (more a As) = As
rest_part Empty = Empty

pub or_cases : {R : Type 0} (a b : Boolean) → (a || b) ≡ true → (a ≡ true → R) → (b ≡ true → R) → R
or_cases true b e f g = f refl
or_cases false b e f g = g e

mutual
  pub inst_tells : (A : Ty) (j : ℕ) (θ η : ℕ → Ty) → type_inst θ A ≡ type_inst η A → has_param j A ≡ true → θ j ≡ η j
  inst_tells Int j θ η e h = absurd (true≢false (sym h))
  inst_tells Bool j θ η e h = absurd (true≢false (sym h))
  inst_tells Prop j θ η e h = absurd (true≢false (sym h))
  inst_tells (Param i) j θ η e h = let same : i ≡ j = eqb-true i j h in transport (λ k. θ k ≡ η k) same e
  inst_tells (pow a) j θ η e h = inst_tells a j θ η (ap pow_part e) h
  inst_tells (prod a b) j θ η e h =
      or_cases (has_param j a) (has_param j b) h (inst_tells a j θ η (ap left_part e)) (inst_tells b j θ η (ap right_part e))
  inst_tells (Data n As) j θ η e h = insts_tell As j θ η (ap data_part e) h

  pub insts_tell : (As : Tys) (j : ℕ) (θ η : ℕ → Ty) → types_inst θ As ≡ types_inst η As → have_param j As ≡ true → θ j ≡ η j
  insts_tell Empty j θ η e h = absurd (true≢false (sym h))
  insts_tell (more a As) j θ η e h =
      or_cases (has_param j a) (have_param j As) h (inst_tells a j θ η (ap first_part e)) (insts_tell As j θ η (ap rest_part e))

abbrev head_or : List Ty → Ty
head_or [] = Int
head_or (A ∷ As) = A

abbrev tail_or : List Ty → List Ty
tail_or [] = []
tail_or (A ∷ As) = As

-- one of several types is enough
pub list_tells : (As : List Ty) (j : ℕ) (θ η : ℕ → Ty) → map (type_inst θ) As ≡ map (type_inst η) As → list_any (has_param j) As ≡ true → θ j ≡ η j
list_tells [] j θ η e h = absurd (true≢false (sym h))
list_tells (A ∷ As) j θ η e h =
    or_cases (has_param j A) (list_any (has_param j) As) h (inst_tells A j θ η (ap head_or e)) (list_tells As j θ η (ap tail_or e))

-- lists of one length that agree at each place are one list
lists_same : (xs ys : List Ty) (d : ℕ) → length xs ≡ length ys
    → ((i : ℕ) → i < length xs → unwrap_or (slice_get xs i) (Param (d + i)) ≡ unwrap_or (slice_get ys i) (Param (d + i))) → xs ≡ ys
lists_same [] [] d l h = refl
lists_same [] (y ∷ ys) d l h = absurd (omega (arith, l))
lists_same (x ∷ xs) [] d l h = absurd (omega (arith, l))
lists_same (x ∷ xs) (y ∷ ys) d l h =
    let first : x ≡ y = h 0 (omega arith) in
    let rest : xs ≡ ys = lists_same xs ys (d + 1) (omega (arith, l)) (λ i lt.
    transport (λ k. unwrap_or (slice_get xs i) (Param k) ≡ unwrap_or (slice_get ys i) (Param k)) (omega arith) (h (suc i) (omega (arith, lt)))) in
    ap (λ z. z ∷ xs) first ∙ ap (λ zs. y ∷ zs) rest

pub types_same : (As Bs : Tys) (n : ℕ) → length (type_list As) ≡ n → length (type_list Bs) ≡ n → ((i : ℕ) → i < n → type_at As i ≡ type_at Bs i) → As ≡ Bs
types_same As Bs n a b h =
    sym (types-type_list As)
    ∙ ap types (lists_same (type_list As) (type_list Bs) 0 (a ∙ sym b) (λ i lt.
    transport (λ k. unwrap_or (slice_get (type_list As) i) (Param k) ≡ unwrap_or (slice_get (type_list Bs) i) (Param k)) (omega arith) (h i (omega (arith, lt, a)))))
    ∙ types-type_list Bs

-- what holds of none in a range
pub none_of_range : (f : ℕ → Boolean) (from n j : ℕ) → list_any f (range_with_len from n) ≡ false → from ≤ j → j < from + n → f j ≡ false
none_of_range f from zero j e a b = absurd (omega (arith, a, b))
none_of_range f from (suc n) j e a b = by (f from) refl e (none_of_range f (from + 1) n j)
  where
    by : (x : Boolean) → f from ≡ x → (x || list_any f (range_with_len (from + 1) n)) ≡ false
        → (list_any f (range_with_len (from + 1) n) ≡ false → from + 1 ≤ j → j < from + 1 + n → f j ≡ false) → f j ≡ false
    by true g h k = absurd (true≢false h)
    by false g h k = here (from == j) refl
      where
        here : (y : Boolean) → (from == j) ≡ y → f j ≡ false
        here true q = ap f (sym (eqb-true from j q)) ∙ g
        here false q = k h (omega (arith, a, eqb-false from j q)) (omega (arith, b))
