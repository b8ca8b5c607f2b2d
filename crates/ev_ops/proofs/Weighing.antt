-- The weight of a term is the sum of the weights of its leaves where they stand, so that a term that is put in for a variable weighs as
-- often as the variable stands there.
use Rattle.std.proofs.Common.{◌≡◌, ℕ, zero, suc, ◌+◌, ◌-◌, ◌≤◌, ◌<◌, List, max, reverse, refl, sym, ap, ◌∙◌, arith}
use Rattle.std.proofs.lemmas.Bool.Decides.{nat_tests}
use Rattle.ev_terms.specs.declared.types.Ty.{Ty, Int, Bool, Prop, Param, Data}
use Rattle.ev_terms.specs.declared.types.Tys.{Tys, Empty}
use Rattle.ev_terms.specs.Types.{pow, prod, more}
use Rattle.ev_terms.specs.Term.{Term, Terms, var, lit, node, nil, cons}
use Rattle.ev_terms.specs.Symbols.{binds}
use Rattle.ev_terms.specs.Measures.{size, sizes, depth, depths, type_size, types_size, type_depth, types_depth, loose, all_loose, params, all_params, type_params, types_params}
use Rattle.ev_terms.specs.Substitution.{shift_var, shift, shifts, lifts, inst, insts, entry, fill, retype, retypes, instance, type_inst, types_inst, type_at}
use Rattle.ev_terms.proofs.Laws.{lifts-below, lifts-past, lifts-lifts}
use Rattle.ev_ops.specs.declared.weights.Weight.{Weight}
use Rattle.ev_ops.specs.inner.Weights.{whole, child, beside, within, weigh_var, weigh, weigh_all, weigh_type, weigh_types}

-- A sum of four weights.
node_by : (a b c d : Weight) → a ≡ b → c ≡ d → beside whole (within child (beside a c)) ≡ beside whole (within child (beside b d))
node_by a b c d e f = ap (λ x. beside whole (within child (beside x c))) e ∙ ap (λ x. beside whole (within child (beside b x))) f

both_by : (a b c d : Weight) → a ≡ b → c ≡ d → beside a c ≡ beside b d
both_by a b c d e f = ap (λ x. beside x c) e ∙ ap (beside b) f

-- Types.
mutual
  pub weigh_type-inst : (τ : ℕ → Weight) (θ : ℕ → Ty) (a : Ty) → weigh_type τ (type_inst θ a) ≡ weigh_type (λ i. weigh_type τ (θ i)) a
  weigh_type-inst τ θ Int = refl
  weigh_type-inst τ θ Bool = refl
  weigh_type-inst τ θ Prop = refl
  weigh_type-inst τ θ (Param i) = refl
  weigh_type-inst τ θ (pow a) = ap (λ x. beside whole (within child x)) (weigh_type-inst τ θ a)
  weigh_type-inst τ θ (prod a b) = node_by _ _ _ _ (weigh_type-inst τ θ a) (weigh_type-inst τ θ b)
  weigh_type-inst τ θ (Data name ts) = ap (λ x. beside whole (within child x)) (weigh_types-inst τ θ ts)

  pub weigh_types-inst : (τ : ℕ → Weight) (θ : ℕ → Ty) (ts : Tys) → weigh_types τ (types_inst θ ts) ≡ weigh_types (λ i. weigh_type τ (θ i)) ts
  weigh_types-inst τ θ Empty = refl
  weigh_types-inst τ θ (more a ts) = both_by _ _ _ _ (weigh_type-inst τ θ a) (weigh_types-inst τ θ ts)

mutual
  weigh_type-reads : (τ σ : ℕ → Weight) (a : Ty) → ((i : ℕ) → i < type_params a → τ i ≡ σ i) → weigh_type τ a ≡ weigh_type σ a
  weigh_type-reads τ σ Int h = refl
  weigh_type-reads τ σ Bool h = refl
  weigh_type-reads τ σ Prop h = refl
  weigh_type-reads τ σ (Param i) h = h i (omega arith)
  weigh_type-reads τ σ (pow a) h = ap (λ x. beside whole (within child x)) (weigh_type-reads τ σ a h)
  weigh_type-reads τ σ (prod a b) h = node_by _ _ _ _ (weigh_type-reads τ σ a (λ i k. h i (omega (arith, k)))) (weigh_type-reads τ σ b (λ i k. h i (omega (arith, k))))
  weigh_type-reads τ σ (Data name ts) h = ap (λ x. beside whole (within child x)) (weigh_types-reads τ σ ts h)

  weigh_types-reads : (τ σ : ℕ → Weight) (ts : Tys) → ((i : ℕ) → i < types_params ts → τ i ≡ σ i) → weigh_types τ ts ≡ weigh_types σ ts
  weigh_types-reads τ σ Empty h = refl
  weigh_types-reads τ σ (more a ts) h = both_by _ _ _ _ (weigh_type-reads τ σ a (λ i k. h i (omega (arith, k)))) (weigh_types-reads τ σ ts (λ i k. h i (omega (arith, k))))

-- Variables.
below_var : (ω : ℕ → Weight) (n i : ℕ) → i < n → weigh_var ω n i ≡ whole
below_var ω n i h = grind (arith, nat_tests)

past_var : (ω : ℕ → Weight) (n i : ℕ) → n ≤ i → weigh_var ω n i ≡ ω (i - n)
past_var ω n i h = grind (arith, nat_tests)

by_place : (P : Type 0) (i n : ℕ) → (i < n → P) → (n ≤ i → P) → P
by_place P i zero f g = g (omega arith)
by_place P zero (suc n) f g = f (omega arith)
by_place P (suc i) (suc n) f g = by_place P i n (λ h. f (omega (arith, h))) (λ h. g (omega (arith, h)))

-- A term reads the weights of its loose variables and of its type parameters alone.
mutual
  pub weigh-reads : (τ σ ω υ : ℕ → Weight) (n : ℕ) (t : Term) → ((i : ℕ) → i < params t → τ i ≡ σ i) → ((i : ℕ) → i < loose t - n → ω i ≡ υ i) → weigh τ ω n t ≡ weigh σ υ n t
  weigh-reads τ σ ω υ n (var i) f g =
      by_place (weigh_var ω n i ≡ weigh_var υ n i) i n (λ h. below_var ω n i h ∙ sym (below_var υ n i h)) (λ h. past_var ω n i h ∙ g (i - n) (omega (arith, h)) ∙ sym (past_var υ n i h))
  weigh-reads τ σ ω υ n (lit k) f g = refl
  weigh-reads τ σ ω υ n (node s As ts) f g =
      node_by _ _ _ _ (weigh_types-reads τ σ As (λ i k. f i (omega (arith, k)))) (weigh_all-reads τ σ ω υ (n + binds s) ts (λ i k. f i (omega (arith, k))) (λ i k. g i (omega (arith, k))))

  pub weigh_all-reads : (τ σ ω υ : ℕ → Weight) (n : ℕ) (ts : Terms) → ((i : ℕ) → i < all_params ts → τ i ≡ σ i) → ((i : ℕ) → i < all_loose ts - n → ω i ≡ υ i) → weigh_all τ ω n ts ≡ weigh_all σ υ n ts
  weigh_all-reads τ σ ω υ n nil f g = refl
  weigh_all-reads τ σ ω υ n (cons t ts) f g =
      both_by _ _ _ _ (weigh-reads τ σ ω υ n t (λ i k. f i (omega (arith, k))) (λ i k. g i (omega (arith, k)))) (weigh_all-reads τ σ ω υ n ts (λ i k. f i (omega (arith, k))) (λ i k. g i (omega (arith, k))))

-- Shifts.
shifted_low : (from by i : ℕ) → i < from → shift_var from by i ≡ i
shifted_low from by i h = grind (arith, nat_tests)

shifted_high : (from by i : ℕ) → from ≤ i → shift_var from by i ≡ i + by
shifted_high from by i h = grind (arith, nat_tests)

weigh_var-shift : (ω : ℕ → Weight) (m k n i : ℕ) → weigh_var ω (k + (n + m)) (shift_var k n i) ≡ weigh_var ω (k + m) i
weigh_var-shift ω m k n i =
    by_place (weigh_var ω (k + (n + m)) (shift_var k n i) ≡ weigh_var ω (k + m) i) i k
    (λ h. ap (weigh_var ω (k + (n + m))) (shifted_low k n i h) ∙ below_var ω (k + (n + m)) i (omega (arith, h)) ∙ sym (below_var ω (k + m) i (omega (arith, h))))
    (λ h. ap (weigh_var ω (k + (n + m))) (shifted_high k n i h) ∙ by_place (weigh_var ω (k + (n + m)) (i + n) ≡ weigh_var ω (k + m) i) i (k + m)
    (λ l. below_var ω (k + (n + m)) (i + n) (omega (arith, l)) ∙ sym (below_var ω (k + m) i l))
    (λ l. let e : (i + n) - (k + (n + m)) ≡ i - (k + m) = omega (arith, l) in past_var ω (k + (n + m)) (i + n) (omega (arith, l)) ∙ ap ω e ∙ sym (past_var ω (k + m) i l)))

mutual
  pub weigh-shift : (τ ω : ℕ → Weight) (m k n : ℕ) (t : Term) → weigh τ ω (k + (n + m)) (shift t k n) ≡ weigh τ ω (k + m) t
  weigh-shift τ ω m k n (var i) = weigh_var-shift ω m k n i
  weigh-shift τ ω m k n (lit l) = refl
  weigh-shift τ ω m k n (node s As ts) =
      let p : (k + (n + m)) + binds s ≡ (k + binds s) + (n + m) = omega arith in
      let q : (k + binds s) + m ≡ (k + m) + binds s = omega arith in
      node_by (weigh_types τ As) (weigh_types τ As) _ _ refl
      (ap (λ j. weigh_all τ ω j (shifts ts (k + binds s) n)) p ∙ weigh_all-shift τ ω m (k + binds s) n ts ∙ ap (λ j. weigh_all τ ω j ts) q)

  pub weigh_all-shift : (τ ω : ℕ → Weight) (m k n : ℕ) (ts : Terms) → weigh_all τ ω (k + (n + m)) (shifts ts k n) ≡ weigh_all τ ω (k + m) ts
  weigh_all-shift τ ω m k n nil = refl
  weigh_all-shift τ ω m k n (cons t ts) = both_by _ _ _ _ (weigh-shift τ ω m k n t) (weigh_all-shift τ ω m k n ts)

-- Substitutions: what is put in for a variable weighs where the variable stands.
mutual
  pub weigh-inst : (τ ω : ℕ → Weight) (σ : ℕ → Term) (m n : ℕ) (t : Term) → weigh τ ω (n + m) (inst (lifts n σ) t) ≡ weigh τ (λ i. weigh τ ω m (σ i)) n t
  weigh-inst τ ω σ m n (var i) =
      by_place (weigh τ ω (n + m) (lifts n σ i) ≡ weigh_var (λ j. weigh τ ω m (σ j)) n i) i n
      (λ h. ap (weigh τ ω (n + m)) (lifts-below n σ i h) ∙ below_var ω (n + m) i (omega (arith, h)) ∙ sym (below_var (λ j. weigh τ ω m (σ j)) n i h))
      (λ h. ap (weigh τ ω (n + m)) (lifts-past n σ i h) ∙ shift_off (σ (i - n)) ∙ sym (past_var (λ j. weigh τ ω m (σ j)) n i h))
    where
      shift_off : (u : Term) → weigh τ ω (n + m) (shift u 0 n) ≡ weigh τ ω m u
      shift_off u =
          let p : n + m ≡ 0 + (n + m) = omega arith in
          let q : 0 + m ≡ m = omega arith in
          ap (λ j. weigh τ ω j (shift u 0 n)) p ∙ weigh-shift τ ω m 0 n u ∙ ap (λ j. weigh τ ω j u) q
  weigh-inst τ ω σ m n (lit l) = refl
  weigh-inst τ ω σ m n (node s As ts) =
      let p : (n + m) + binds s ≡ (n + binds s) + m = omega arith in
      node_by (weigh_types τ As) (weigh_types τ As) _ _ refl
      (ap (λ υ. weigh_all τ ω ((n + m) + binds s) (insts υ ts)) (lifts-lifts (binds s) n σ) ∙ ap (λ j. weigh_all τ ω j (insts (lifts (n + binds s) σ) ts)) p
      ∙ weigh_all-inst τ ω σ m (n + binds s) ts)

  pub weigh_all-inst : (τ ω : ℕ → Weight) (σ : ℕ → Term) (m n : ℕ) (ts : Terms) → weigh_all τ ω (n + m) (insts (lifts n σ) ts) ≡ weigh_all τ (λ i. weigh τ ω m (σ i)) n ts
  weigh_all-inst τ ω σ m n nil = refl
  weigh_all-inst τ ω σ m n (cons t ts) = both_by _ _ _ _ (weigh-inst τ ω σ m n t) (weigh_all-inst τ ω σ m n ts)

-- Type instances.
mutual
  pub weigh-retype : (τ ω : ℕ → Weight) (θ : ℕ → Ty) (n : ℕ) (t : Term) → weigh τ ω n (retype θ t) ≡ weigh (λ i. weigh_type τ (θ i)) ω n t
  weigh-retype τ ω θ n (var i) = refl
  weigh-retype τ ω θ n (lit k) = refl
  weigh-retype τ ω θ n (node s As ts) = node_by _ _ _ _ (weigh_types-inst τ θ As) (weigh_all-retype τ ω θ (n + binds s) ts)

  pub weigh_all-retype : (τ ω : ℕ → Weight) (θ : ℕ → Ty) (n : ℕ) (ts : Terms) → weigh_all τ ω n (retypes θ ts) ≡ weigh_all (λ i. weigh_type τ (θ i)) ω n ts
  weigh_all-retype τ ω θ n nil = refl
  weigh_all-retype τ ω θ n (cons t ts) = both_by _ _ _ _ (weigh-retype τ ω θ n t) (weigh_all-retype τ ω θ n ts)

-- a body with types and arguments put in
pub weigh-filled : (τ ω : ℕ → Weight) (n : ℕ) (B : Term) (As : Tys) (us : List Term) →
    weigh τ ω n (fill (instance B As) us) ≡ weigh (λ j. weigh_type τ (type_at As j)) (λ i. weigh τ ω n (entry (reverse us) i)) 0 B
weigh-filled τ ω n B As us =
    let p : n ≡ 0 + n = omega arith in
    ap (λ j. weigh τ ω j (fill (instance B As) us)) p ∙ weigh-inst τ ω (entry (reverse us)) n 0 (instance B As)
    ∙ weigh-retype τ (λ i. weigh τ ω n (entry (reverse us) i)) (type_at As) 0 B

-- Where each leaf is one node, weights are size and depth.
weight_of : ℕ → ℕ → Weight
weight_of m n = record { often = m; deep = n }

same_weight : (m n k l : ℕ) → m ≡ k → n ≡ l → weight_of m n ≡ weight_of k l
same_weight m n k l p q = ap (λ x. weight_of x n) p ∙ ap (weight_of k) q

above : (m n : ℕ) → beside whole (within child (weight_of m n)) ≡ weight_of (1 + m) (1 + n)
unfolding weight_of
above m zero = same_weight _ _ _ _ (omega arith) refl
above m (suc n) = same_weight _ _ _ _ (omega arith) (omega arith)

node_of : (x : Weight) (m n : ℕ) → x ≡ weight_of m n → beside whole (within child x) ≡ weight_of (1 + m) (1 + n)
node_of x m n e = ap (λ y. beside whole (within child y)) e ∙ above m n

beside_of : (x y : Weight) (m n k l : ℕ) → x ≡ weight_of m n → y ≡ weight_of k l → beside x y ≡ weight_of (m + k) (max n l)
unfolding weight_of
beside_of x y m n k l e f = both_by _ _ _ _ e f

abbrev pub ones : ℕ → Weight
ones i = whole

mutual
  unfolding weight_of

  weigh_type-ones : (a : Ty) → weigh_type ones a ≡ weight_of (type_size a) (type_depth a)
  weigh_type-ones Int = refl
  weigh_type-ones Bool = refl
  weigh_type-ones Prop = refl
  weigh_type-ones (Param i) = refl
  weigh_type-ones (pow a) = node_of _ _ _ (weigh_type-ones a)
  weigh_type-ones (prod a b) = node_of _ _ _ (beside_of _ _ _ _ _ _ (weigh_type-ones a) (weigh_type-ones b))
  weigh_type-ones (Data name ts) = node_of _ _ _ (weigh_types-ones ts)

  weigh_types-ones : (ts : Tys) → weigh_types ones ts ≡ weight_of (types_size ts) (types_depth ts)
  weigh_types-ones Empty = refl
  weigh_types-ones (more a ts) = beside_of _ _ _ _ _ _ (weigh_type-ones a) (weigh_types-ones ts)

mutual
  unfolding weight_of

  weigh-ones : (n : ℕ) (t : Term) → weigh ones ones n t ≡ weight_of (size t) (depth t)
  weigh-ones n (var i) = by_place (weigh_var ones n i ≡ whole) i n (below_var ones n i) (past_var ones n i)
  weigh-ones n (lit k) = refl
  weigh-ones n (node s As ts) = node_of _ _ _ (beside_of _ _ _ _ _ _ (weigh_types-ones As) (weigh_all-ones (n + binds s) ts))

  weigh_all-ones : (n : ℕ) (ts : Terms) → weigh_all ones ones n ts ≡ weight_of (sizes ts) (depths ts)
  weigh_all-ones n nil = refl
  weigh_all-ones n (cons t ts) = beside_of _ _ _ _ _ _ (weigh-ones n t) (weigh_all-ones n ts)

pub weigh_size : (n : ℕ) (t : Term) → (weigh ones ones n t).often ≡ size t
unfolding weight_of
weigh_size n t = ap (λ x. x.often) (weigh-ones n t)

pub weigh_depth : (n : ℕ) (t : Term) → (weigh ones ones n t).deep ≡ depth t
unfolding weight_of
weigh_depth n t = ap (λ x. x.deep) (weigh-ones n t)
