-- Weights of parts of parts, and what is added to the weights of a term.
use Rattle.std.proofs.Common.{◌≡◌, ℕ, zero, suc, ◌+◌, ◌-◌, ◌≤◌, ◌<◌, List, [], ◌∷◌, ◌++◌, length, add-one, drop-cons, get_or, drop, slice_set, map, max, refl, sym, ap, ◌∙◌, subst as transport, arith}
use Rattle.std.specs.Prelude.{◌*◌}
use Rattle.std.proofs.lemmas.Bool.Decides.{nat_tests}
use Rattle.std.proofs.lemmas.List.{length-append}
use Rattle.ev_terms.specs.Measures.{capped}
use Rattle.ev_terms.specs.declared.types.Ty.{Ty, Data}
use Rattle.ev_terms.specs.declared.types.Ty.TheVariants.{Pow, Prod}
use Rattle.ev_terms.specs.declared.types.Tys.{Tys, Empty}
use Rattle.ev_terms.specs.declared.types.Tys.TheVariants.{More}
use Rattle.ev_terms.specs.Types.{more, type_list, Pow-pow, Prod-prod}
use Rattle.ev_terms.proofs.TypeSteps.{before_rest}
use Rattle.ev_terms.proofs.Children as children
use Rattle.ev_typing.specs.Env.{Name}
use Rattle.ev_ops.specs.declared.weights.Weight.{Weight}
use Rattle.ev_ops.specs.declared.weights.Weights.{Weights}
use Rattle.ev_ops.specs.inner.Weights.{IsAlike, nothing, whole, child, beside, deep_within, within, filled_with, total, zipped, weigh_var, weigh_type, weigh_types, IsOwnFrom, ArePlaces, IsAdded}

-- The longest path to a part of a part.
deep_some : (a b : ℕ) → 0 < a → 0 < b → deep_within a b + 1 ≡ a + b
deep_some zero b h k = absurd (omega (arith, h))
deep_some (suc a) zero h k = absurd (omega (arith, k))
deep_some (suc a) (suc b) h k = omega arith

deep_none : (a : ℕ) → deep_within a 0 ≡ 0
deep_none zero = refl
deep_none (suc a) = refl

deep_of_max : (a b c : ℕ) → deep_within a (max b c) ≡ max (deep_within a b) (deep_within a c)
deep_of_max zero b c = refl
deep_of_max (suc a) zero c = let z : max 0 c ≡ c = omega arith in ap (deep_within (suc a)) z ∙ (let k : deep_within (suc a) c ≡ max 0 (deep_within (suc a) c) = omega arith in k)
deep_of_max (suc a) (suc b) zero = let p = deep_some (suc a) (max (suc b) 0) (omega arith) (omega arith) in omega (arith, p)
deep_of_max (suc a) (suc b) (suc c) = let p = deep_some (suc a) (max (suc b) (suc c)) (omega arith) (omega arith) in omega (arith, p)

max_deep : (a b c : ℕ) → deep_within (max a b) c ≡ max (deep_within a c) (deep_within b c)
max_deep a b zero = deep_none (max a b) ∙ (let p = deep_none a in let q = deep_none b in omega (arith, p, q))
max_deep zero b (suc c) = let z : max 0 b ≡ b = omega arith in ap (λ x. deep_within x (suc c)) z ∙ (let k : deep_within b (suc c) ≡ max 0 (deep_within b (suc c)) = omega arith in k)
max_deep (suc a) zero (suc c) = let p = deep_some (max (suc a) 0) (suc c) (omega arith) (omega arith) in omega (arith, p)
max_deep (suc a) (suc b) (suc c) = let p = deep_some (max (suc a) (suc b)) (suc c) (omega arith) (omega arith) in omega (arith, p)

deep_deep : (a b c : ℕ) → deep_within (deep_within a b) c ≡ deep_within a (deep_within b c)
deep_deep zero b c = refl
deep_deep (suc a) zero c = refl
deep_deep (suc a) (suc b) zero = refl
deep_deep (suc a) (suc b) (suc c) = omega arith

pub deep_whole : (a : ℕ) → deep_within a 1 ≡ a
deep_whole zero = refl
deep_whole (suc a) = omega arith

whole_deep : (a : ℕ) → deep_within 1 a ≡ a
whole_deep zero = refl
whole_deep (suc a) = omega arith

deep_alike_right : (a b c : ℕ) → capped b ≡ capped c → capped (deep_within a b) ≡ capped (deep_within a c)
deep_alike_right zero b c e = refl
deep_alike_right (suc a) zero zero e = refl
deep_alike_right (suc a) zero (suc c) e = absurd (omega (arith, e))
deep_alike_right (suc a) (suc b) zero e = absurd (omega (arith, e))
deep_alike_right (suc a) (suc b) (suc c) e = omega (arith, e)

deep_alike_left : (a b c : ℕ) → capped a ≡ capped b → capped (deep_within a c) ≡ capped (deep_within b c)
deep_alike_left zero zero c e = refl
deep_alike_left zero (suc b) c e = absurd (omega (arith, e))
deep_alike_left (suc a) zero c e = absurd (omega (arith, e))
deep_alike_left (suc a) (suc b) zero e = refl
deep_alike_left (suc a) (suc b) (suc c) e = omega (arith, e)

-- How often.
often_alike_right : (a b c : ℕ) → capped b ≡ capped c → capped (a * b) ≡ capped (a * c)
often_alike_right zero b c e = omega arith
often_alike_right (suc a) b c e = let h = often_alike_right a b c e in omega (arith, h, e)

often_alike_left : (a b c : ℕ) → capped a ≡ capped b → capped (a * c) ≡ capped (b * c)
often_alike_left a b zero e = omega arith
often_alike_left a b (suc c) e = let h = often_alike_left a b c e in omega (arith, h, e)

-- Weights.
weight_by : (m n m' n' : ℕ) → m ≡ m' → n ≡ n' → ◌≡◌ {A = Weight} (record { often = m; deep = n }) (record { often = m'; deep = n' })
weight_by m n m' n' p q = cc

pub within_beside : (a b c : Weight) → within a (beside b c) ≡ beside (within a b) (within a c)
within_beside a b c = weight_by _ _ _ _ (omega arith) (deep_of_max a.deep b.deep c.deep)

pub beside_within : (a b c : Weight) → within (beside a b) c ≡ beside (within a c) (within b c)
beside_within a b c = weight_by _ _ _ _ (omega arith) (max_deep a.deep b.deep c.deep)

pub within_within : (a b c : Weight) → within (within a b) c ≡ within a (within b c)
within_within a b c = weight_by _ _ _ _ (omega arith) (deep_deep a.deep b.deep c.deep)

pub within_whole : (a : Weight) → within a whole ≡ a
within_whole a = weight_by _ _ _ _ (omega arith) (deep_whole a.deep)

pub whole_within : (a : Weight) → within whole a ≡ a
whole_within a = weight_by _ _ _ _ (omega arith) (whole_deep a.deep)

pub within_nothing : (a : Weight) → within a nothing ≡ nothing
within_nothing a = weight_by _ _ _ _ (omega arith) (deep_none a.deep)

pub nothing_within : (a : Weight) → within nothing a ≡ nothing
nothing_within a = weight_by _ _ _ _ (omega arith) refl

pub beside_nothing : (a : Weight) → beside a nothing ≡ a
beside_nothing a = weight_by _ _ _ _ (omega arith) (omega arith)

pub nothing_beside : (a : Weight) → beside nothing a ≡ a
nothing_beside a = weight_by _ _ _ _ (omega arith) (omega arith)

pub beside_beside : (a b c : Weight) → beside (beside a b) c ≡ beside a (beside b c)
beside_beside a b c = weight_by _ _ _ _ (omega arith) (omega arith)

-- Equal as far as the numbers go.
pub alike : (a b : Weight) → a ≡ b → IsAlike a b
alike a b e = record { often = ap (λ x. capped x.often) e; deep = ap (λ x. capped x.deep) e }

pub alike_back : (a b : Weight) → IsAlike a b → IsAlike b a
alike_back a b h = record { often = sym h.often; deep = sym h.deep }

pub alike_then : (a b c : Weight) → IsAlike a b → IsAlike b c → IsAlike a c
alike_then a b c h k = record { often = h.often ∙ k.often; deep = h.deep ∙ k.deep }

pub beside_alike : (a b c d : Weight) → IsAlike a b → IsAlike c d → IsAlike (beside a c) (beside b d)
beside_alike a b c d h k =
    let p = h.often in let q = k.often in let r = h.deep in let s = k.deep in
    record { often = omega (arith, p, q); deep = omega (arith, r, s) }

pub within_alike : (a b c d : Weight) → IsAlike a b → IsAlike c d → IsAlike (within a c) (within b d)
within_alike a b c d h k = record {
  often = often_alike_left a.often b.often c.often h.often ∙ often_alike_right b.often c.often d.often k.often;
  deep = deep_alike_left a.deep b.deep c.deep h.deep ∙ deep_alike_right b.deep c.deep d.deep k.deep;
}

-- What is added to the weights of a term.
own_from : (n m : ℕ) (ω : ℕ → Weight) → m ≡ n → IsOwnFrom n ω → IsOwnFrom m ω
own_from n m ω e h = transport (λ k. IsOwnFrom k ω) (sym e) h

pub added_nothing : (S : Weights) (at : Weight) → IsAdded S S at (λ τ ω. nothing)
added_nothing S at = record {
  variables = refl;
  types = refl;
  comes_to = λ τ ω h k. alike (total τ ω S) (beside (total τ ω S) (within at nothing)) (sym (ap (beside (total τ ω S)) (within_nothing at) ∙ beside_nothing (total τ ω S)));
}

module _ (S S' : Weights) (at : Weight) (V W : (ℕ → Weight) → (ℕ → Weight) → Weight) where
  pub added_same : ((τ ω : ℕ → Weight) → IsAlike (V τ ω) (W τ ω)) → IsAdded S S' at V → IsAdded S S' at W
  added_same e h = record {
    variables = h.variables;
    types = h.types;
    comes_to = λ τ ω f g.
        alike_then (total τ ω S') (beside (total τ ω S) (within at (V τ ω))) (beside (total τ ω S) (within at (W τ ω))) (h.comes_to τ ω f g)
        (beside_alike (total τ ω S) (total τ ω S) (within at (V τ ω)) (within at (W τ ω)) (alike (total τ ω S) (total τ ω S) refl)
        (within_alike at at (V τ ω) (W τ ω) (alike at at refl) (e τ ω)));
  }

pub added_then : (S S' S'' : Weights) (at : Weight) (V W : (ℕ → Weight) → (ℕ → Weight) → Weight) → IsAdded S S' at V → IsAdded S' S'' at W → IsAdded S S'' at (λ τ ω. beside (V τ ω) (W τ ω))
added_then S S' S'' at V W h k = record {
  variables = k.variables ∙ h.variables;
  types = k.types ∙ h.types;
  comes_to = λ τ ω f g.
      alike_then (total τ ω S'') (beside (total τ ω S') (within at (W τ ω))) (beside (total τ ω S) (within at (beside (V τ ω) (W τ ω))))
      (k.comes_to τ ω (own_from (length S.types.items) (length S'.types.items) τ h.types f) (own_from (length S.variables.items) (length S'.variables.items) ω h.variables g))
      (alike_then (beside (total τ ω S') (within at (W τ ω))) (beside (beside (total τ ω S) (within at (V τ ω))) (within at (W τ ω))) (beside (total τ ω S) (within at (beside (V τ ω) (W τ ω))))
      (beside_alike (total τ ω S') (beside (total τ ω S) (within at (V τ ω))) (within at (W τ ω)) (within at (W τ ω)) (h.comes_to τ ω f g) (alike (within at (W τ ω)) (within at (W τ ω)) refl))
      (alike _ _ (beside_beside (total τ ω S) (within at (V τ ω)) (within at (W τ ω)) ∙ ap (beside (total τ ω S)) (sym (within_beside at (V τ ω) (W τ ω))))));
}

pub added_within : (S S' : Weights) (at place w : Weight) (W : (ℕ → Weight) → (ℕ → Weight) → Weight) → IsAlike place (within at w) → IsAdded S S' place W → IsAdded S S' at (λ τ ω. within w (W τ ω))
added_within S S' at place w W e h = record {
  variables = h.variables;
  types = h.types;
  comes_to = λ τ ω f g.
      alike_then (total τ ω S') (beside (total τ ω S) (within place (W τ ω))) (beside (total τ ω S) (within at (within w (W τ ω)))) (h.comes_to τ ω f g)
      (beside_alike (total τ ω S) (total τ ω S) (within place (W τ ω)) (within at (within w (W τ ω))) (alike (total τ ω S) (total τ ω S) refl)
      (alike_then (within place (W τ ω)) (within (within at w) (W τ ω)) (within at (within w (W τ ω)))
      (within_alike place (within at w) (W τ ω) (W τ ω) e (alike (W τ ω) (W τ ω) refl))
      (alike _ _ (within_within at w (W τ ω)))));
}

-- a node with what stands below it
pub added_node : (S S' S'' : Weights) (at place : Weight) (W : (ℕ → Weight) → (ℕ → Weight) → Weight) → IsAdded S S' at (λ τ ω. whole) → IsAlike place (within at child) →
    IsAdded S' S'' place W → IsAdded S S'' at (λ τ ω. beside whole (within child (W τ ω)))
added_node S S' S'' at place W h e k = added_then S S' S'' at (λ τ ω. whole) (λ τ ω. within child (W τ ω)) h (added_within S' S'' at place child W e k)

-- a place of a variable or of a type parameter
swapped : (a b r : Weight) → beside (beside a b) r ≡ beside (beside a r) b
swapped a b r = weight_by _ _ _ _ (omega arith) (omega arith)

filled_set : (ws : List Weight) (ω : ℕ → Weight) (i : ℕ) (old new at : Weight) → i < length ws → old ≡ get_or ws i old → IsAlike new (beside old at) →
    IsAlike (filled_with (slice_set ws i new) ω) (beside (filled_with ws ω) (within at (ω i)))
filled_set [] ω i old new at h o e = absurd (omega (arith, h))
filled_set (w ∷ ws) ω zero old new at h o e =
    alike_then (beside (within new (ω 0)) (filled_with ws (λ j. ω (suc j)))) (beside (within (beside old at) (ω 0)) (filled_with ws (λ j. ω (suc j)))) _
    (beside_alike _ _ _ _ (within_alike new (beside old at) (ω 0) (ω 0) e (alike (ω 0) (ω 0) refl)) (alike (filled_with ws (λ j. ω (suc j))) _ refl))
    (alike _ _ (ap (λ x. beside x (filled_with ws (λ j. ω (suc j)))) (ap (λ x. within (beside x at) (ω 0)) o ∙ beside_within w at (ω 0))
    ∙ swapped (within w (ω 0)) (within at (ω 0)) (filled_with ws (λ j. ω (suc j)))))
filled_set (w ∷ ws) ω (suc i) old new at h o e =
    alike_then (beside (within w (ω 0)) (filled_with (slice_set ws i new) (λ j. ω (suc j)))) (beside (within w (ω 0)) (beside (filled_with ws (λ j. ω (suc j))) (within at (ω (suc i))))) _
    (beside_alike _ _ _ _ (alike (within w (ω 0)) _ refl) (filled_set ws (λ j. ω (suc j)) i old new at (omega (arith, h)) o e))
    (alike _ _ (sym (beside_beside (within w (ω 0)) (filled_with ws (λ j. ω (suc j))) (within at (ω (suc i))))))

last_up : (a t v x : Weight) → beside a (beside t (beside v x)) ≡ beside (beside a (beside t v)) x
last_up a t v x = weight_by _ _ _ _ (omega arith) (omega arith)

middle_up : (a t v x : Weight) → beside a (beside (beside t x) v) ≡ beside (beside a (beside t v)) x
middle_up a t v x = weight_by _ _ _ _ (omega arith) (omega arith)

set_length : (ws : List Weight) (i : ℕ) (w : Weight) → length (slice_set ws i w) ≡ length ws
set_length [] i w = refl
set_length (x ∷ ws) zero w = refl
set_length (x ∷ ws) (suc i) w = ap suc (set_length ws i w)

pub variable_added : (S S' : Weights) (i : ℕ) (old new at : Weight) → S'.own ≡ S.own → S'.types.items ≡ S.types.items → S'.variables.items ≡ slice_set S.variables.items i new →
    i < length S.variables.items → old ≡ get_or S.variables.items i old → IsAlike new (beside old at) → IsAdded S S' at (λ τ ω. ω i)
variable_added S S' i old new at o t v h g e = record {
  variables = ap length v ∙ set_length S.variables.items i new;
  types = ap length t;
  comes_to = λ τ ω f k.
      alike_then (total τ ω S') (beside S.own (beside (filled_with S.types.items τ) (beside (filled_with S.variables.items ω) (within at (ω i))))) _
      (beside_alike S'.own S.own _ _ (alike S'.own S.own o) (beside_alike (filled_with S'.types.items τ) (filled_with S.types.items τ) _ _ (alike _ _ (ap (λ ws. filled_with ws τ) t))
      (alike_then (filled_with S'.variables.items ω) (filled_with (slice_set S.variables.items i new) ω) _ (alike _ _ (ap (λ ws. filled_with ws ω) v)) (filled_set S.variables.items ω i old new at h g e))))
      (alike _ _ (last_up S.own (filled_with S.types.items τ) (filled_with S.variables.items ω) (within at (ω i))));
}

pub param_added : (S S' : Weights) (i : ℕ) (old new at : Weight) → S'.own ≡ S.own → S'.variables.items ≡ S.variables.items → S'.types.items ≡ slice_set S.types.items i new →
    i < length S.types.items → old ≡ get_or S.types.items i old → IsAlike new (beside old at) → IsAdded S S' at (λ τ ω. τ i)
param_added S S' i old new at o v t h g e = record {
  variables = ap length v;
  types = ap length t ∙ set_length S.types.items i new;
  comes_to = λ τ ω f k.
      alike_then (total τ ω S') (beside S.own (beside (beside (filled_with S.types.items τ) (within at (τ i))) (filled_with S.variables.items ω))) _
      (beside_alike S'.own S.own _ _ (alike S'.own S.own o)
      (beside_alike (filled_with S'.types.items τ) (beside (filled_with S.types.items τ) (within at (τ i))) _ _
      (alike_then (filled_with S'.types.items τ) (filled_with (slice_set S.types.items i new) τ) _ (alike _ _ (ap (λ ws. filled_with ws τ) t)) (filled_set S.types.items τ i old new at h g e))
      (alike (filled_with S'.variables.items ω) (filled_with S.variables.items ω) (ap (λ ws. filled_with ws ω) v))))
      (alike _ _ (middle_up S.own (filled_with S.types.items τ) (filled_with S.variables.items ω) (within at (τ i))));
}

-- Types.
pub pow_added : (S S' S'' : Weights) (ty a a' : Ty) (at place : Weight) → ty ≡ Pow a → a' ≡ a → IsAdded S S' at (λ τ ω. whole) → IsAlike place (within at child) →
    IsAdded S' S'' place (λ τ ω. weigh_type τ a') → IsAdded S S'' at (λ τ ω. weigh_type τ ty)
pow_added S S' S'' ty a a' at place e g h p k =
    transport (λ x. IsAdded S S'' at (λ τ ω. weigh_type τ x)) (sym (e ∙ ap Pow (sym g) ∙ Pow-pow a')) (added_node S S' S'' at place (λ τ ω. weigh_type τ a') h p k)

pub prod_added : (S S' T S'' : Weights) (ty a b a' b' : Ty) (at place : Weight) → ty ≡ Prod a b → a' ≡ a → b' ≡ b → IsAdded S S' at (λ τ ω. whole) → IsAlike place (within at child) →
    IsAdded S' T place (λ τ ω. weigh_type τ a') → IsAdded T S'' place (λ τ ω. weigh_type τ b') → IsAdded S S'' at (λ τ ω. weigh_type τ ty)
prod_added S S' T S'' ty a b a' b' at place e f g h p k l =
    transport (λ x. IsAdded S S'' at (λ τ ω. weigh_type τ x)) (sym (e ∙ ap (λ x. Prod x b) (sym f) ∙ ap (Prod a') (sym g) ∙ Prod-prod a' b'))
    (added_node S S' S'' at place (λ τ ω. beside (weigh_type τ a') (weigh_type τ b')) h p (added_then S' T S'' place (λ τ ω. weigh_type τ a') (λ τ ω. weigh_type τ b') k l))

pub data_added : (S S' S'' : Weights) (ty : Ty) (n : Name) (ts : Tys) (at place : Weight) → ty ≡ Data n ts → IsAdded S S' at (λ τ ω. whole) → IsAlike place (within at child) →
    IsAdded S' S'' place (λ τ ω. weigh_types τ ts) → IsAdded S S'' at (λ τ ω. weigh_type τ ty)
data_added S S' S'' ty n ts at place e h p k =
    transport (λ x. IsAdded S S'' at (λ τ ω. weigh_type τ x)) (sym e) (added_node S S' S'' at place (λ τ ω. weigh_types τ ts) h p k)

-- a step along a list of types
pub types_step : (S S' final : Weights) (left rest got : Tys) (a x : Ty) (at : Weight) → left ≡ More a rest → got ≡ rest → x ≡ a → IsAdded S S' at (λ τ ω. weigh_type τ x) →
    IsAdded S' final at (λ τ ω. weigh_types τ got) → IsAdded S final at (λ τ ω. weigh_types τ left)
types_step S S' final left rest got a x at l g e h k =
    transport (λ ts. IsAdded S final at (λ τ ω. weigh_types τ ts)) (sym (before_rest left rest got a l g ∙ ap (λ b. more b got) (sym e)))
    (added_then S S' final at (λ τ ω. weigh_type τ x) (λ τ ω. weigh_types τ got) h k)

pub types_end : (S : Weights) (left : Tys) (at : Weight) → left ≡ Empty → IsAdded S S at (λ τ ω. weigh_types τ left)
types_end S left at e = transport (λ ts. IsAdded S S at (λ τ ω. weigh_types τ ts)) (sym e) (added_nothing S at)

pub ruleset types_walk = (children.types_walk, types_end)

-- Places.
filled_push : (ws : List Weight) (ω : ℕ → Weight) → ((υ : ℕ → Weight) → filled_with ws υ ≡ nothing) → filled_with (ws ++ nothing ∷ []) ω ≡ nothing
filled_push ws ω h = joined ws ω ∙ h ω
  where
    joined : (xs : List Weight) (υ : ℕ → Weight) → filled_with (xs ++ nothing ∷ []) υ ≡ filled_with xs υ
    joined [] υ = beside_nothing (within nothing (υ 0)) ∙ nothing_within (υ 0)
    joined (x ∷ xs) υ = ap (beside (within x (υ 0))) (joined xs (λ i. υ (suc i)))

pub place_pushed : (n m : ℕ) (ws new : List Weight) → new ≡ ws ++ nothing ∷ [] → m ≡ n + 1 → ArePlaces n ws → ArePlaces m new
place_pushed n m ws new e f h = let c = h.count in record {
  count = ap length e ∙ (let l = length-append ws (nothing ∷ []) in omega (arith, l, c, f));
  empty = λ ω. ap (λ xs. filled_with xs ω) e ∙ filled_push ws ω h.empty;
}

pub no_places : ArePlaces 0 []
no_places = record { count = refl; empty = λ ω. refl }

pub places_step : (ws new : List Weight) (n : ℕ) (left rest got : Tys) (a : Ty) → left ≡ More a rest → got ≡ rest → new ≡ ws ++ nothing ∷ [] → length ws + length (type_list left) ≡ n →
    ((ω : ℕ → Weight) → filled_with ws ω ≡ nothing) → (length new + length (type_list got) ≡ n) × ((ω : ℕ → Weight) → filled_with new ω ≡ nothing)
places_step ws new n left rest got a l g e c h =
    let p : length (type_list left) ≡ suc (length (type_list got)) = ap (λ ts. length (type_list ts)) (before_rest left rest got a l g) in
    let q : length new ≡ length ws + 1 = ap length e ∙ length-append ws (nothing ∷ []) in
    (omega (arith, p, q, c), λ ω. ap (λ xs. filled_with xs ω) e ∙ filled_push ws ω h)

pub places_end : (ws : List Weight) (n : ℕ) (left : Tys) → left ≡ Empty → length ws + length (type_list left) ≡ n → ((ω : ℕ → Weight) → filled_with ws ω ≡ nothing) → ArePlaces n ws
places_end ws n left e c h = let p : length (type_list left) ≡ 0 = ap (λ ts. length (type_list ts)) e in record { count = omega (arith, p, c); empty = h }

pub ruleset placing = (place_pushed, no_places)

-- A variable, and types by weights.
pub bound_added : (S S' : Weights) (at : Weight) (ω_of : ℕ) (n under : ℕ) → under ≡ capped n → ω_of < under → ω_of < 4294967296 → IsAdded S S' at (λ τ ω. whole) → IsAdded S S' at (λ τ ω. weigh_var ω n ω_of)
bound_added S S' at i n under e h k p =
    added_same S S' at (λ τ ω. whole) (λ τ ω. weigh_var ω n i) (λ τ ω. alike whole (weigh_var ω n i) (let l : i < n = omega (arith, e, h) in below ω l)) p
  where
    below : (ω : ℕ → Weight) → i < n → whole ≡ weigh_var ω n i
    below ω l = grind (arith, nat_tests)

pub free_added : (S S' : Weights) (at : Weight) (i n under j : ℕ) → under ≡ capped n → under ≤ i → i < 4294967296 → j ≡ i - under → IsAdded S S' at (λ τ ω. ω j) → IsAdded S S' at (λ τ ω. weigh_var ω n i)
free_added S S' at i n under j e h k f p =
    added_same S S' at (λ τ ω. ω j) (λ τ ω. weigh_var ω n i) (λ τ ω. alike (ω j) (weigh_var ω n i) (let l : n ≤ i = omega (arith, e, h, k) in let m : j ≡ i - n = omega (arith, e, f, h, k) in ap ω m ∙ past ω l)) p
  where
    past : (ω : ℕ → Weight) → n ≤ i → ω (i - n) ≡ weigh_var ω n i
    past ω l = grind (arith, nat_tests)

zipped_none : (ws : List Weight) → zipped ws [] ≡ nothing
zipped_none [] = refl
zipped_none (w ∷ ws) = refl

pub zipped_end : (S : Weights) (at : Weight) (ws : List Weight) (xs : (ℕ → Weight) → (ℕ → Weight) → List Weight) → ((τ ω : ℕ → Weight) → xs τ ω ≡ []) → IsAdded S S at (λ τ ω. zipped ws (xs τ ω))
zipped_end S at ws xs e =
    added_same S S at (λ τ ω. nothing) (λ τ ω. zipped ws (xs τ ω)) (λ τ ω. alike nothing (zipped ws (xs τ ω)) (sym (ap (zipped ws) (e τ ω) ∙ zipped_none ws))) (added_nothing S at)

pub zipped_done : (S : Weights) (at : Weight) (ws : List Weight) (i : ℕ) (xs : (ℕ → Weight) → (ℕ → Weight) → List Weight) → length ws ≤ i → IsAdded S S at (λ τ ω. zipped (drop i ws) (xs τ ω))
zipped_done S at ws i xs h = transport (λ us. IsAdded S S at (λ τ ω. zipped us (xs τ ω))) (sym (dropped ws i h)) (added_nothing S at)
  where
    dropped : (us : List Weight) (j : ℕ) → length us ≤ j → drop j us ≡ []
    dropped [] zero k = refl
    dropped [] (suc j) k = refl
    dropped (u ∷ us) zero k = absurd (omega (arith, k))
    dropped (u ∷ us) (suc j) k = dropped us j (omega (arith, k))

pub zipped_step : (S S' new : Weights) (at place d : Weight) (ws : List Weight) (i : ℕ) (x : (ℕ → Weight) → (ℕ → Weight) → Weight) (xs ys : (ℕ → Weight) → (ℕ → Weight) → List Weight) →
    i < length ws → ((τ ω : ℕ → Weight) → ys τ ω ≡ x τ ω ∷ xs τ ω) → IsAlike place (within at (get_or ws i d)) → IsAdded S S' place x →
    IsAdded S' new at (λ τ ω. zipped (drop (i + 1) ws) (xs τ ω)) → IsAdded S new at (λ τ ω. zipped (drop i ws) (ys τ ω))
zipped_step S S' new at place d ws i x xs ys h f p a b =
    added_same S new at (λ τ ω. beside (within (get_or ws i d) (x τ ω)) (zipped (drop (i + 1) ws) (xs τ ω))) (λ τ ω. zipped (drop i ws) (ys τ ω))
    (λ τ ω. alike _ _ (sym (ap (zipped (drop i ws)) (f τ ω) ∙ ap (λ us. zipped us (x τ ω ∷ xs τ ω)) dropped)))
    (added_then S S' new at (λ τ ω. within (get_or ws i d) (x τ ω)) (λ τ ω. zipped (drop (i + 1) ws) (xs τ ω)) (added_within S S' at place (get_or ws i d) x p a) b)
  where
    dropped : drop i ws ≡ get_or ws i d ∷ drop (i + 1) ws
    dropped = drop-cons ws i d h ∙ ap (λ m. get_or ws i d ∷ drop m ws) (sym (add-one i))

pub types_by_step : (left rest got : Tys) (a x : Ty) (τ : ℕ → Weight) → left ≡ More a rest → got ≡ rest → x ≡ a → map (weigh_type τ) (type_list left) ≡ weigh_type τ x ∷ map (weigh_type τ) (type_list got)
types_by_step left rest got a x τ l g e = ap (λ ts. map (weigh_type τ) (type_list ts)) (before_rest left rest got a l g) ∙ ap (λ y. weigh_type τ y ∷ map (weigh_type τ) (type_list got)) (sym e)
