-- Terms put into a typed body are alike.
use Rattle.std.specs.Prelude.{◌≡◌, ◌+◌, ◌≤◌, ◌++◌, ◌^◌, ℕ, zero, suc, List, [], ◌∷◌, max, length, reverse}
use Rattle.std.specs.List.{AllByRecursion}
use Rattle.std.proofs.Common.{arith}
use Rattle.std.proofs.lemmas.List.{length-append}
use Rattle.ev_terms.specs.declared.types.Ty.{Ty}
use Rattle.ev_terms.specs.Term.{Term, Terms, var, lit, node, nil, cons, terms}
use Rattle.ev_terms.specs.Symbols.{binds}
use Rattle.ev_terms.specs.Measures.{loose, all_loose, depth, depths, highest}
use Rattle.ev_terms.specs.Substitution.{lift, lifts, inst, insts, entry, fill}
use Rattle.ev_terms.proofs.Fits.{highest_subst_le}
use Rattle.ev_typing.specs.Env.{Env}
use Rattle.ev_typing.specs.Typing.{Typed, AreTyped}
use Rattle.ev_typing.specs.Occurs.{IsPlain, ArePlain}
use Rattle.ev_typing.proofs.Keeps.{fill_typed}
use Rattle.ev_typing.proofs.BaseSequents.{plain_all}
use Rattle.ev_congruence.specs.Settings.{FilledAreAlike}
use Rattle.ev_congruence.proofs.Terms.{shift_plain, typed_loose, all_reverse}

-- No direct operator is put in.
lift_plain : (env : Env) (σ : ℕ → Term) → ((i : ℕ) → IsPlain env (σ i)) → (i : ℕ) → IsPlain env (lift σ i)
lift_plain env σ h zero = tt
lift_plain env σ h (suc i) = shift_plain env (σ i) 0 1 (h i)

lifts_plain : (env : Env) (n : ℕ) (σ : ℕ → Term) → ((i : ℕ) → IsPlain env (σ i)) → (i : ℕ) → IsPlain env (lifts n σ i)
lifts_plain env zero σ h i = h i
lifts_plain env (suc n) σ h i = lift_plain env (lifts n σ) (lifts_plain env n σ h) i

mutual
  pub inst_plain : (env : Env) (σ : ℕ → Term) (t : Term) → ((i : ℕ) → IsPlain env (σ i)) → IsPlain env t → IsPlain env (inst σ t)
  inst_plain env σ (var i) h p = h i
  inst_plain env σ (lit n) h p = tt
  inst_plain env σ (node s As ts) h p = (p.0, insts_plain env (lifts (binds s) σ) ts (lifts_plain env (binds s) σ h) p.1)

  pub insts_plain : (env : Env) (σ : ℕ → Term) (ts : Terms) → ((i : ℕ) → IsPlain env (σ i)) → ArePlain env ts → ArePlain env (insts σ ts)
  insts_plain env σ nil h p = tt
  insts_plain env σ (cons t ts) h p = (inst_plain env σ t h p.0, insts_plain env σ ts h p.1)

entry_plain : (env : Env) (ts : List Term) → AllByRecursion (IsPlain env) ts → (i : ℕ) → IsPlain env (entry ts i)
entry_plain env [] h i = tt
entry_plain env (t ∷ ts) h zero = h.0
entry_plain env (t ∷ ts) h (suc i) = entry_plain env ts h.1 i

pub fill_plain : (env : Env) (t : Term) (ts : List Term) → IsPlain env t → ArePlain env (terms ts) → IsPlain env (fill t ts)
fill_plain env t ts p q = inst_plain env (entry (reverse ts)) t (entry_plain env (reverse ts) (all_reverse (IsPlain env) ts (plain_all env ts q))) p

-- Numbers of variables.
typed_below : (env : Env) (C : List Ty) (ts : List Term) (As : List Ty) → AreTyped env C (terms ts) As → AllByRecursion (λ t. loose t ≤ length C) ts
typed_below env C [] As h = tt
typed_below env C (t ∷ ts) [] h = absurd h
typed_below env C (t ∷ ts) (A ∷ As) h = (typed_loose env C t A h.0, typed_below env C ts As h.1)

loose_below : (n : ℕ) (ts : List Term) → AllByRecursion (λ t. loose t ≤ n) ts → all_loose (terms ts) ≤ n
loose_below n [] h = omega arith
loose_below n (t ∷ ts) h = omega (arith, h.0, loose_below n ts h.1)

depths_each : (d : ℕ) (ts : List Term) → depths (terms ts) ≤ d → AllByRecursion (λ t. depth t ≤ d) ts
depths_each d [] h = tt
depths_each d (t ∷ ts) h = (omega arith, depths_each d ts (omega arith))

depths_below : (d : ℕ) (ts : List Term) → AllByRecursion (λ t. depth t ≤ d) ts → depths (terms ts) ≤ d
depths_below d [] h = omega arith
depths_below d (t ∷ ts) h = omega (arith, h.0, depths_below d ts h.1)

fill_low : (env : Env) (C As : List Ty) (body : Term) (A : Ty) (ts : List Term) (d : ℕ) → Typed env (C ++ As) body A → AreTyped env C (terms ts) As → depths (terms ts) ≤ d →
    (length C + length As) + (depth body + d) ≤ 2 ^ 32 → highest (fill body ts) ≤ 2 ^ 32
fill_low env C As body A ts d h g k l =
    let p : highest (fill body ts) ≤ max (loose body) (all_loose (terms (reverse ts))) + (depth body + depths (terms (reverse ts))) = highest_subst_le body (reverse ts) in
    let q : loose body ≤ length (C ++ As) = typed_loose env (C ++ As) body A h in
    let r : all_loose (terms (reverse ts)) ≤ length C = loose_below (length C) (reverse ts) (all_reverse (λ t. loose t ≤ length C) ts (typed_below env C ts As g)) in
    let m : depths (terms (reverse ts)) ≤ d = depths_below d (reverse ts) (all_reverse (λ t. depth t ≤ d) ts (depths_each d ts k)) in
    let n : length (C ++ As) ≡ length C + length As = length-append C As in
    omega (arith, p, q, r, m, n, l)

pub filled_alike : FilledAreAlike
filled_alike env C As body A ls rs d h f g p q r k l m = record {
  ty = A;
  left = fill_typed env C As ls f body A h;
  right = fill_typed env C As rs g body A h;
  left_plain = fill_plain env body ls p q;
  right_plain = fill_plain env body rs p r;
  left_low = fill_low env C As body A ls d h f k m;
  right_low = fill_low env C As body A rs d h g l m;
}
