-- What a substitution does to the size and to the type parameters, and a type instance to all measures.
use Rattle.std.specs.Prelude.{◌*◌}
use Rattle.std.proofs.Common.{ℕ, zero, suc, ◌≡◌, ◌+◌, ◌-◌, ◌≤◌, ◌<◌, max, refl, ap, arith}
use Rattle.std.proofs.Math.Nat.{mul-le-mul_left}
use Rattle.ev_terms.specs.declared.types.Ty.{Ty, Int, Bool, Prop, Param, Data}
use Rattle.ev_terms.specs.declared.types.Tys.{Tys, Empty}
use Rattle.ev_terms.specs.Types.{pow, prod, more}
use Rattle.ev_terms.specs.Term.{Term, Terms, var, lit, node, nil, cons}
use Rattle.ev_terms.specs.Symbols.{binds}
use Rattle.ev_terms.specs.Measures.{type_size, types_size, type_depth, types_depth, type_params, types_params, size, sizes, depth, depths, loose, all_loose, highest, all_highest, params, all_params}
use Rattle.ev_terms.specs.Substitution.{lifts, inst, insts, type_inst, types_inst, retype, retypes}
use Rattle.ev_terms.proofs.ListLaws.{size-shift}
use Rattle.ev_terms.proofs.AnyLaws.{params-shift}

size_one_le : (t : Term) → 1 ≤ size t
size_one_le (var i) = omega arith
size_one_le (lit n) = omega arith
size_one_le (node s a ts) = omega arith

-- a number is not above a multiple of it
le_times : (k m : ℕ) → 1 ≤ m → k ≤ k * m
le_times k m h = let p : k * 1 ≤ k * m = mul-le-mul_left k h in omega (arith, p)

lifts_size : (n m : ℕ) (σ : ℕ → Term) → ((i : ℕ) → size (σ i) ≤ m) → (i : ℕ) → size (lifts n σ i) ≤ m
lifts_size zero m σ h i = h i
lifts_size (suc n) m σ h zero = omega (arith, size_one_le (lifts n σ 0), lifts_size n m σ h 0)
lifts_size (suc n) m σ h (suc i) = omega (arith, size-shift (lifts n σ i) 0 1, lifts_size n m σ h i)

mutual
  pub size_inst_le : (t : Term) (m : ℕ) (σ : ℕ → Term) → ((i : ℕ) → size (σ i) ≤ m) → size (inst σ t) ≤ size t * m
  size_inst_le (var i) m σ h = omega (arith, h i)
  size_inst_le (lit n) m σ h = omega (arith, size_one_le (σ 0), h 0)
  size_inst_le (node s a ts) m σ h =
      let one : 1 ≤ m = omega (arith, size_one_le (σ 0), h 0) in
      let own : types_size a ≤ types_size a * m = le_times (types_size a) m one in
      let rest : sizes (insts (lifts (binds s) σ) ts) ≤ sizes ts * m = sizes_insts_le ts m one (lifts (binds s) σ) (lifts_size (binds s) m σ h) in
      omega (arith, one, own, rest)

  pub sizes_insts_le : (ts : Terms) (m : ℕ) → 1 ≤ m → (σ : ℕ → Term) → ((i : ℕ) → size (σ i) ≤ m) → sizes (insts σ ts) ≤ sizes ts * m
  sizes_insts_le nil m one σ h = omega arith
  sizes_insts_le (cons t ts) m one σ h = omega (arith, size_inst_le t m σ h, sizes_insts_le ts m one σ h)

-- The type parameters of a substitution.
lifts_params : (n k m : ℕ) (σ : ℕ → Term) → ((i : ℕ) → i < k - n → params (σ i) ≤ m) → (i : ℕ) → i < k → params (lifts n σ i) ≤ m
lifts_params zero k m σ h i below = h i (omega arith)
lifts_params (suc n) k m σ h zero below = omega arith
lifts_params (suc n) k m σ h (suc i) below =
    omega (arith, params-shift (lifts n σ i) 0 1, lifts_params n (k - 1) m σ (λ j b. h j (omega arith)) i (omega arith))

mutual
  pub params_inst_le : (t : Term) (m : ℕ) (σ : ℕ → Term) → ((i : ℕ) → i < loose t → params (σ i) ≤ m) → params (inst σ t) ≤ max (params t) m
  params_inst_le (var i) m σ h = omega (arith, h i (omega arith))
  params_inst_le (lit n) m σ h = omega arith
  params_inst_le (node s a ts) m σ h = omega (arith, all_params_insts_le ts m (lifts (binds s) σ) (lifts_params (binds s) (all_loose ts) m σ h))

  pub all_params_insts_le : (ts : Terms) (m : ℕ) (σ : ℕ → Term) → ((i : ℕ) → i < all_loose ts → params (σ i) ≤ m) →
      all_params (insts σ ts) ≤ max (all_params ts) m
  all_params_insts_le nil m σ h = omega arith
  all_params_insts_le (cons t ts) m σ h =
      omega (arith, params_inst_le t m σ (λ i b. h i (omega arith)), all_params_insts_le ts m σ (λ i b. h i (omega arith)))

-- Type instances: sizes.
type_size_one_le : (a : Ty) → 1 ≤ type_size a
type_size_one_le Int = omega arith
type_size_one_le Bool = omega arith
type_size_one_le Prop = omega arith
type_size_one_le (Param i) = omega arith
type_size_one_le (pow a) = omega arith
type_size_one_le (prod a b) = omega arith
type_size_one_le (Data name ts) = omega arith

mutual
  pub type_size_inst_le : (a : Ty) (m : ℕ) (θ : ℕ → Ty) → 1 ≤ m → ((i : ℕ) → type_size (θ i) ≤ m) → type_size (type_inst θ a) ≤ type_size a * m
  type_size_inst_le Int m θ one h = omega (arith, one)
  type_size_inst_le Bool m θ one h = omega (arith, one)
  type_size_inst_le Prop m θ one h = omega (arith, one)
  type_size_inst_le (Param i) m θ one h = omega (arith, h i)
  type_size_inst_le (pow a) m θ one h = omega (arith, one, type_size_inst_le a m θ one h)
  type_size_inst_le (prod a b) m θ one h = omega (arith, one, type_size_inst_le a m θ one h, type_size_inst_le b m θ one h)
  type_size_inst_le (Data name ts) m θ one h = omega (arith, one, types_size_inst_le ts m θ one h)

  pub types_size_inst_le : (ts : Tys) (m : ℕ) (θ : ℕ → Ty) → 1 ≤ m → ((i : ℕ) → type_size (θ i) ≤ m) →
      types_size (types_inst θ ts) ≤ types_size ts * m
  types_size_inst_le Empty m θ one h = omega arith
  types_size_inst_le (more a ts) m θ one h = omega (arith, type_size_inst_le a m θ one h, types_size_inst_le ts m θ one h)

mutual
  pub size_retype_le : (t : Term) (m : ℕ) (θ : ℕ → Ty) → 1 ≤ m → ((i : ℕ) → type_size (θ i) ≤ m) → size (retype θ t) ≤ size t * m
  size_retype_le (var i) m θ one h = omega (arith, one)
  size_retype_le (lit n) m θ one h = omega (arith, one)
  size_retype_le (node s a ts) m θ one h = omega (arith, one, types_size_inst_le a m θ one h, sizes_retypes_le ts m θ one h)

  pub sizes_retypes_le : (ts : Terms) (m : ℕ) (θ : ℕ → Ty) → 1 ≤ m → ((i : ℕ) → type_size (θ i) ≤ m) → sizes (retypes θ ts) ≤ sizes ts * m
  sizes_retypes_le nil m θ one h = omega arith
  sizes_retypes_le (cons t ts) m θ one h = omega (arith, size_retype_le t m θ one h, sizes_retypes_le ts m θ one h)

pub type_size_of_inst : (a : Ty) (m : ℕ) (θ : ℕ → Ty) → ((i : ℕ) → type_size (θ i) ≤ m) → type_size (type_inst θ a) ≤ type_size a * m
type_size_of_inst a m θ h = type_size_inst_le a m θ (omega (arith, type_size_one_le (θ 0), h 0)) h

pub size_of_retype : (t : Term) (m : ℕ) (θ : ℕ → Ty) → ((i : ℕ) → type_size (θ i) ≤ m) → size (retype θ t) ≤ size t * m
size_of_retype t m θ h = size_retype_le t m θ (omega (arith, type_size_one_le (θ 0), h 0)) h

-- Type instances: depths.
mutual
  pub type_depth_inst_le : (a : Ty) (m : ℕ) (θ : ℕ → Ty) → ((i : ℕ) → type_depth (θ i) ≤ m + 1) → type_depth (type_inst θ a) ≤ type_depth a + m
  type_depth_inst_le Int m θ h = omega arith
  type_depth_inst_le Bool m θ h = omega arith
  type_depth_inst_le Prop m θ h = omega arith
  type_depth_inst_le (Param i) m θ h = omega (arith, h i)
  type_depth_inst_le (pow a) m θ h = omega (arith, type_depth_inst_le a m θ h)
  type_depth_inst_le (prod a b) m θ h = omega (arith, type_depth_inst_le a m θ h, type_depth_inst_le b m θ h)
  type_depth_inst_le (Data name ts) m θ h = omega (arith, types_depth_inst_le ts m θ h)

  pub types_depth_inst_le : (ts : Tys) (m : ℕ) (θ : ℕ → Ty) → ((i : ℕ) → type_depth (θ i) ≤ m + 1) → types_depth (types_inst θ ts) ≤ types_depth ts + m
  types_depth_inst_le Empty m θ h = omega arith
  types_depth_inst_le (more a ts) m θ h = omega (arith, type_depth_inst_le a m θ h, types_depth_inst_le ts m θ h)

mutual
  pub depth_retype_le : (t : Term) (m : ℕ) (θ : ℕ → Ty) → ((i : ℕ) → type_depth (θ i) ≤ m + 1) → depth (retype θ t) ≤ depth t + m
  depth_retype_le (var i) m θ h = omega arith
  depth_retype_le (lit n) m θ h = omega arith
  depth_retype_le (node s a ts) m θ h = omega (arith, types_depth_inst_le a m θ h, depths_retypes_le ts m θ h)

  pub depths_retypes_le : (ts : Terms) (m : ℕ) (θ : ℕ → Ty) → ((i : ℕ) → type_depth (θ i) ≤ m + 1) → depths (retypes θ ts) ≤ depths ts + m
  depths_retypes_le nil m θ h = omega arith
  depths_retypes_le (cons t ts) m θ h = omega (arith, depth_retype_le t m θ h, depths_retypes_le ts m θ h)

-- Type instances: variables and type parameters.
mutual
  pub loose-retype : (t : Term) (θ : ℕ → Ty) → loose (retype θ t) ≡ loose t
  loose-retype (var i) θ = refl
  loose-retype (lit n) θ = refl
  loose-retype (node s a ts) θ = ap (λ k. k - binds s) (all_loose-retypes ts θ)

  pub all_loose-retypes : (ts : Terms) (θ : ℕ → Ty) → all_loose (retypes θ ts) ≡ all_loose ts
  all_loose-retypes nil θ = refl
  all_loose-retypes (cons t ts) θ = let p = loose-retype t θ in let q = all_loose-retypes ts θ in omega arith

mutual
  pub highest-retype : (t : Term) (θ : ℕ → Ty) → highest (retype θ t) ≡ highest t
  highest-retype (var i) θ = refl
  highest-retype (lit n) θ = refl
  highest-retype (node s a ts) θ = all_highest-retypes ts θ

  pub all_highest-retypes : (ts : Terms) (θ : ℕ → Ty) → all_highest (retypes θ ts) ≡ all_highest ts
  all_highest-retypes nil θ = refl
  all_highest-retypes (cons t ts) θ = let p = highest-retype t θ in let q = all_highest-retypes ts θ in omega arith

mutual
  pub type_params_inst_le : (a : Ty) (m : ℕ) (θ : ℕ → Ty) → ((i : ℕ) → i < type_params a → type_params (θ i) ≤ m) → type_params (type_inst θ a) ≤ m
  type_params_inst_le Int m θ h = omega arith
  type_params_inst_le Bool m θ h = omega arith
  type_params_inst_le Prop m θ h = omega arith
  type_params_inst_le (Param i) m θ h = h i (omega arith)
  type_params_inst_le (pow a) m θ h = type_params_inst_le a m θ h
  type_params_inst_le (prod a b) m θ h =
      omega (arith, type_params_inst_le a m θ (λ i b. h i (omega arith)), type_params_inst_le b m θ (λ i b. h i (omega arith)))
  type_params_inst_le (Data name ts) m θ h = types_params_inst_le ts m θ h

  pub types_params_inst_le : (ts : Tys) (m : ℕ) (θ : ℕ → Ty) → ((i : ℕ) → i < types_params ts → type_params (θ i) ≤ m) →
      types_params (types_inst θ ts) ≤ m
  types_params_inst_le Empty m θ h = omega arith
  types_params_inst_le (more a ts) m θ h =
      omega (arith, type_params_inst_le a m θ (λ i b. h i (omega arith)), types_params_inst_le ts m θ (λ i b. h i (omega arith)))

mutual
  pub params_retype_le : (t : Term) (m : ℕ) (θ : ℕ → Ty) → ((i : ℕ) → i < params t → type_params (θ i) ≤ m) → params (retype θ t) ≤ m
  params_retype_le (var i) m θ h = omega arith
  params_retype_le (lit n) m θ h = omega arith
  params_retype_le (node s a ts) m θ h =
      omega (arith, types_params_inst_le a m θ (λ i b. h i (omega arith)), all_params_retypes_le ts m θ (λ i b. h i (omega arith)))

  pub all_params_retypes_le : (ts : Terms) (m : ℕ) (θ : ℕ → Ty) → ((i : ℕ) → i < all_params ts → type_params (θ i) ≤ m) →
      all_params (retypes θ ts) ≤ m
  all_params_retypes_le nil m θ h = omega arith
  all_params_retypes_le (cons t ts) m θ h =
      omega (arith, params_retype_le t m θ (λ i b. h i (omega arith)), all_params_retypes_le ts m θ (λ i b. h i (omega arith)))
