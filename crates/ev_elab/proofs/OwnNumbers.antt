-- The numbers that an element gives to the theory's type parameters that occur in it.
use Rattle.std.specs.Prelude.{◌≡◌, ◌||◌, ◌<◌, ◌≤◌, ◌+◌, ◌==◌, ℕ, zero, suc, Bool as Boolean, true, false, cond, List, [], ◌∷◌, Some, map, length, max, filter, slice_get, option_map, ⊤, refl}
use Rattle.std.specs.Option.{unwrap_or}
use Rattle.std.specs.List.{list_any, range_with_len, position_from}
use Rattle.std.proofs.Common.{◌⊎◌, inl, inr, ap, sym, ◌∙◌, true≢false, arith}
use Rattle.std.proofs.lemmas.Bool.Decides.{nat_tests}
use Rattle.std.proofs.lemmas.Bool.{eqb-true, eq-eqb}
use Rattle.std.proofs.lemmas.Option.{slice_get-map}
use Rattle.std.proofs.lemmas.Iterator.Adapters.{position_from-zero}
use Rattle.ev_terms.specs.declared.types.Ty.{Ty, Int, Bool, Prop, Param, Data}
use Rattle.ev_terms.specs.declared.types.Tys.{Tys, Empty}
use Rattle.ev_terms.specs.Types.{pow, prod, more, type_list}
use Rattle.ev_terms.specs.Measures.{type_params, types_params}
use Rattle.ev_terms.specs.Substitution.{type_inst, types_inst, type_at}
use Rattle.ev_typing.specs.TypeLists.{types}
use Rattle.ev_typing.specs.Occurs.{has_param, have_param}
use Rattle.ev_typing.proofs.Laws.{type_list-types}
use Rattle.ev_rules.specs.Params.{occurs_in, params_of}
use Rattle.ev_elab.specs.Types.{own_number, own_list}
use Rattle.ev_elab.proofs.Gathering.{some_is}

-- Numbers in order, from one on.
abbrev IsRising : ℕ → List ℕ → Type 0
IsRising a [] = ⊤
IsRising a (i ∷ is) = (a ≤ i) × IsRising (i + 1) is

rising_from : (a b : ℕ) (is : List ℕ) → b ≤ a → IsRising a is → IsRising b is
rising_from a b [] l h = tt
rising_from a b (i ∷ is) l h = (omega (arith, l, h.0), h.1)

rising_filter : (p : ℕ → Boolean) (a n : ℕ) → IsRising a (filter p (range_with_len a n))
rising_filter p a zero = tt
rising_filter p a (suc n) = by (p a) (rising_filter p (a + 1) n)
  where
    by : (b : Boolean) → IsRising (a + 1) (filter p (range_with_len (a + 1) n)) → IsRising a (cond b (a ∷ filter p (range_with_len (a + 1) n)) (filter p (range_with_len (a + 1) n)))
    by true h = (omega arith, h)
    by false h = rising_from (a + 1) a _ (omega arith) h

rising_at : (a : ℕ) (is : List ℕ) (j i : ℕ) → IsRising a is → slice_get is j ≡ Some i → a ≤ i
rising_at a [] j i h e = cc
rising_at a (k ∷ is) zero i h e = let q : k ≡ i = some_is k i e in omega (arith, h.0, q)
rising_at a (k ∷ is) (suc j) i h e = let q = rising_at (k + 1) is j i h.1 e in omega (arith, h.0, q)

differ : (k i : ℕ) → k + 1 ≤ i → (k == i) ≡ false
differ k i h = grind (arith, nat_tests, h)

place_from : (a b : ℕ) (is : List ℕ) (j i : ℕ) → IsRising a is → slice_get is j ≡ Some i → position_from (λ k. k == i) b is ≡ Some (b + j)
place_from a b [] j i h e = cc
place_from a b (k ∷ is) zero i h e =
    let q : (k == i) ≡ true = eq-eqb k i (some_is k i e) in
    let z : b ≡ b + 0 = omega arith in
    ap (λ t. cond t (Some b) (position_from (λ m. m == i) (b + 1) is)) q ∙ ap Some z
place_from a b (k ∷ is) (suc j) i h e =
    let q : (k == i) ≡ false = differ k i (rising_at (k + 1) is j i h.1 e) in
    let z : (b + 1) + j ≡ b + suc j = omega arith in
    ap (λ t. cond t (Some b) (position_from (λ m. m == i) (b + 1) is)) q ∙ place_from (k + 1) (b + 1) is j i h.1 e ∙ ap Some z

-- One that is among them has a place.
found_from : (b : ℕ) (is : List ℕ) (i : ℕ) → list_any (λ k. k == i) is ≡ true → (j : ℕ) × (position_from (λ k. k == i) b is ≡ Some (b + j)) × (j < length is)
found_from b [] i e = absurd (true≢false (sym e))
found_from b (k ∷ is) i e = by (k == i) e (found_from (b + 1) is i)
  where
    by : (t : Boolean) → (t || list_any (λ m. m == i) is) ≡ true →
        (list_any (λ m. m == i) is ≡ true → (j : ℕ) × (position_from (λ m. m == i) (b + 1) is ≡ Some ((b + 1) + j)) × (j < length is)) →
        (j : ℕ) × (cond t (Some b) (position_from (λ m. m == i) (b + 1) is) ≡ Some (b + j)) × (j < length (k ∷ is))
    by true f g = (0, (let z : b ≡ b + 0 = omega arith in ap Some z), omega arith)
    by false f g =
        let (j, p, l) = g f in
        (suc j, p ∙ (let z : (b + 1) + j ≡ b + suc j = omega arith in ap Some z), omega (arith, l))

among_filter : (p : ℕ → Boolean) (a n i : ℕ) → p i ≡ true → a ≤ i → i < a + n → list_any (λ k. k == i) (filter p (range_with_len a n)) ≡ true
among_filter p a zero i e l h = absurd (omega (arith, l, h))
among_filter p a (suc n) i e l h = by (a == i) refl (p a) refl (among_filter p (a + 1) n i e)
  where
    later : (a == i) ≡ false → a + 1 ≤ i
    later f = grind (arith, nat_tests, f, l)

    by : (t : Boolean) → (a == i) ≡ t → (b : Boolean) → p a ≡ b → (a + 1 ≤ i → i < (a + 1) + n → list_any (λ k. k == i) (filter p (range_with_len (a + 1) n)) ≡ true) →
        list_any (λ k. k == i) (cond b (a ∷ filter p (range_with_len (a + 1) n)) (filter p (range_with_len (a + 1) n))) ≡ true
    by true f true g k = ap (λ t. t || list_any (λ m. m == i) (filter p (range_with_len (a + 1) n))) f
    by true f false g k = absurd (true≢false (sym (ap p (eqb-true a i f) ∙ e) ∙ g))
    by false f true g k = ap (λ t. t || list_any (λ m. m == i) (filter p (range_with_len (a + 1) n))) f ∙ k (later f) (omega (arith, h))
    by false f false g k = k (later f) (omega (arith, h))

filter_passes : (p : ℕ → Boolean) (xs : List ℕ) (j i : ℕ) → slice_get (filter p xs) j ≡ Some i → p i ≡ true
filter_passes p [] j i e = cc
filter_passes p (x ∷ xs) j i e = by (p x) refl j e (filter_passes p xs)
  where
    by : (b : Boolean) → p x ≡ b → (j : ℕ) → slice_get (cond b (x ∷ filter p xs) (filter p xs)) j ≡ Some i → ((k m : ℕ) → slice_get (filter p xs) k ≡ Some m → p m ≡ true) → p i ≡ true
    by true f zero g k = ap p (sym (some_is x i g)) ∙ f
    by true f (suc m) g k = k m i g
    by false f m g k = k m i g

-- Where a type parameter occurs.
or_split : (a b : Boolean) → (a || b) ≡ true → (a ≡ true) ⊎ (b ≡ true)
or_split true b e = inl refl
or_split false b e = inr e

or_left : (a b : Boolean) → a ≡ true → (a || b) ≡ true
or_left true b e = refl
or_left false b e = absurd (true≢false (sym e))

or_right : (a b : Boolean) → b ≡ true → (a || b) ≡ true
or_right true b e = refl
or_right false b e = e

either : (a b m n : ℕ) → (i : ℕ) → (i < m) ⊎ (i < n) → i < max m n
either a b m n i (inl h) = omega (arith, h)
either a b m n i (inr h) = omega (arith, h)

mutual
  pub has_below : (i : ℕ) (A : Ty) → has_param i A ≡ true → i < type_params A
  has_below i Int e = absurd (true≢false (sym e))
  has_below i Bool e = absurd (true≢false (sym e))
  has_below i Prop e = absurd (true≢false (sym e))
  has_below i (Param k) e = let q : k ≡ i = eqb-true k i e in omega (arith, q)
  has_below i (pow A) e = has_below i A e
  has_below i (prod A B) e = by (or_split (has_param i A) (has_param i B) e) (has_below i A) (has_below i B)
    where
      by : (has_param i A ≡ true) ⊎ (has_param i B ≡ true) → (has_param i A ≡ true → i < type_params A) → (has_param i B ≡ true → i < type_params B) → i < max (type_params A) (type_params B)
      by (inl h) f g = let q = f h in omega (arith, q)
      by (inr h) f g = let q = g h in omega (arith, q)
  has_below i (Data n As) e = have_below i As e

  pub have_below : (i : ℕ) (As : Tys) → have_param i As ≡ true → i < types_params As
  have_below i Empty e = absurd (true≢false (sym e))
  have_below i (more A As) e = by (or_split (has_param i A) (have_param i As) e) (has_below i A) (have_below i As)
    where
      by : (has_param i A ≡ true) ⊎ (have_param i As ≡ true) → (has_param i A ≡ true → i < type_params A) → (have_param i As ≡ true → i < types_params As) → i < max (type_params A) (types_params As)
      by (inl h) f g = let q = f h in omega (arith, q)
      by (inr h) f g = let q = g h in omega (arith, q)

-- The parameters of an instance, from those that occur.
mutual
  pub inst_params : (A : Ty) (m : ℕ) (θ : ℕ → Ty) → ((i : ℕ) → has_param i A ≡ true → type_params (θ i) ≤ m) → type_params (type_inst θ A) ≤ m
  inst_params Int m θ h = omega arith
  inst_params Bool m θ h = omega arith
  inst_params Prop m θ h = omega arith
  inst_params (Param i) m θ h = h i (eq-eqb i i refl)
  inst_params (pow A) m θ h = inst_params A m θ h
  inst_params (prod A B) m θ h =
      let p = inst_params A m θ (λ i e. h i (or_left (has_param i A) (has_param i B) e)) in
      let q = inst_params B m θ (λ i e. h i (or_right (has_param i A) (has_param i B) e)) in
      omega (arith, p, q)
  inst_params (Data n As) m θ h = insts_params As m θ h

  pub insts_params : (As : Tys) (m : ℕ) (θ : ℕ → Ty) → ((i : ℕ) → have_param i As ≡ true → type_params (θ i) ≤ m) → types_params (types_inst θ As) ≤ m
  insts_params Empty m θ h = omega arith
  insts_params (more A As) m θ h =
      let p = inst_params A m θ (λ i e. h i (or_left (has_param i A) (have_param i As) e)) in
      let q = insts_params As m θ (λ i e. h i (or_right (has_param i A) (have_param i As) e)) in
      omega (arith, p, q)

-- One that occurs occurs renumbered.
renumbered : (θ : ℕ → Ty) (k j : ℕ) → θ k ≡ Param j → has_param j (θ k) ≡ true
renumbered θ k j e = ap (has_param j) e ∙ eq-eqb j j refl

mutual
  pub inst_has : (A : Ty) (i j : ℕ) (θ : ℕ → Ty) → θ i ≡ Param j → has_param i A ≡ true → has_param j (type_inst θ A) ≡ true
  inst_has Int i j θ e h = absurd (true≢false (sym h))
  inst_has Bool i j θ e h = absurd (true≢false (sym h))
  inst_has Prop i j θ e h = absurd (true≢false (sym h))
  inst_has (Param k) i j θ e h = renumbered θ k j (ap θ (eqb-true k i h) ∙ e)
  inst_has (pow A) i j θ e h = inst_has A i j θ e h
  inst_has (prod A B) i j θ e h = by (or_split (has_param i A) (has_param i B) h) (inst_has A i j θ e) (inst_has B i j θ e)
    where
      by : (has_param i A ≡ true) ⊎ (has_param i B ≡ true) → (has_param i A ≡ true → has_param j (type_inst θ A) ≡ true) → (has_param i B ≡ true → has_param j (type_inst θ B) ≡ true) →
          (has_param j (type_inst θ A) || has_param j (type_inst θ B)) ≡ true
      by (inl p) f g = or_left (has_param j (type_inst θ A)) (has_param j (type_inst θ B)) (f p)
      by (inr p) f g = or_right (has_param j (type_inst θ A)) (has_param j (type_inst θ B)) (g p)
  inst_has (Data n As) i j θ e h = insts_have As i j θ e h

  pub insts_have : (As : Tys) (i j : ℕ) (θ : ℕ → Ty) → θ i ≡ Param j → have_param i As ≡ true → have_param j (types_inst θ As) ≡ true
  insts_have Empty i j θ e h = absurd (true≢false (sym h))
  insts_have (more A As) i j θ e h = by (or_split (has_param i A) (have_param i As) h) (inst_has A i j θ e) (insts_have As i j θ e)
    where
      by : (has_param i A ≡ true) ⊎ (have_param i As ≡ true) → (has_param i A ≡ true → has_param j (type_inst θ A) ≡ true) → (have_param i As ≡ true → have_param j (types_inst θ As) ≡ true) →
          (has_param j (type_inst θ A) || have_param j (types_inst θ As)) ≡ true
      by (inl p) f g = or_left (has_param j (type_inst θ A)) (have_param j (types_inst θ As)) (f p)
      by (inr p) f g = or_right (has_param j (type_inst θ A)) (have_param j (types_inst θ As)) (g p)

-- The parameters of types, and their places.
pub own_below : (As : Tys) (i : ℕ) → have_param i As ≡ true → own_number (params_of [] As) i < length (params_of [] As)
own_below As i e =
    let ids = params_of [] As in
    let (j, p, l) = found_from 0 ids i (among_filter (occurs_in [] As) 0 _ i e (omega arith) (let q = have_below i As e in omega (arith, q))) in
    let y : 0 + j ≡ j = omega arith in
    let z : own_number ids i ≡ j = ap (λ o. unwrap_or o (length ids + i)) (position_from-zero (λ k. k == i) ids ∙ p) ∙ y in
    omega (arith, z, l)

pub own_at_place : (As : Tys) (j i : ℕ) → slice_get (params_of [] As) j ≡ Some i → own_number (params_of [] As) i ≡ j
own_at_place As j i e =
    let ids = params_of [] As in
    ap (λ o. unwrap_or o (length ids + i)) (position_from-zero (λ k. k == i) ids ∙ place_from 0 0 ids j i (rising_filter (occurs_in [] As) 0 _) e)
    ∙ (let y : 0 + j ≡ j = omega arith in y)

pub own_occurs : (As : Tys) (j i : ℕ) → slice_get (params_of [] As) j ≡ Some i → have_param i As ≡ true
own_occurs As j i e = filter_passes (occurs_in [] As) (range_with_len 0 _) j i e

-- What stands for a parameter.
range_at : (a n i : ℕ) → i < n → slice_get (range_with_len a n) i ≡ Some (a + i)
range_at a zero i h = absurd (omega (arith, h))
range_at a (suc n) zero h = let z : a ≡ a + 0 = omega arith in ap Some z
range_at a (suc n) (suc i) h = range_at (a + 1) n i (omega (arith, h)) ∙ (let z : (a + 1) + i ≡ a + suc i = omega arith in ap Some z)

pub own_type : (count : ℕ) (ids : List ℕ) (i : ℕ) → i < count → type_at (own_list count ids) i ≡ Param (own_number ids i)
own_type count ids i h =
    ap (λ Bs. unwrap_or (slice_get Bs i) (Param i)) (type_list-types (map (λ k. Param (own_number ids k)) (range_with_len 0 count)))
    ∙ ap (λ o. unwrap_or o (Param i)) (slice_get-map (λ k. Param (own_number ids k)) (range_with_len 0 count) i ∙ ap (option_map (λ k. Param (own_number ids k))) (range_at 0 count i h))
    ∙ ap (λ k. Param (own_number ids k)) (let y : 0 + i ≡ i = omega arith in y)

is_param_at : (f : ℕ → ℕ) (ks : List ℕ) (i d : ℕ) → (j : ℕ) × (unwrap_or (slice_get (type_list (types (map (λ k. Param (f k)) ks))) i) (Param d) ≡ Param j)
is_param_at f [] i d = (d, refl)
is_param_at f (k ∷ ks) zero d = (f k, refl)
is_param_at f (k ∷ ks) (suc i) d = is_param_at f ks i d

pub own_is_param : (count : ℕ) (ids : List ℕ) (i : ℕ) → (j : ℕ) × (type_at (own_list count ids) i ≡ Param j)
own_is_param count ids i = is_param_at (own_number ids) (range_with_len 0 count) i i
