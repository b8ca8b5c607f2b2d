-- The direct operators may be declared one after the other.
use Rattle.std.specs.Prelude.{◌≡◌, ◌<◌, ℕ, zero, suc, [], ◌∷◌, refl}
use Rattle.std.specs.List.{IsDistinct}
use Rattle.std.proofs.Common.{arith, subst, sym}
use Rattle.ev_terms.specs.Symbols.{binds}
use Rattle.ev_typing.specs.declared.typing.Entry.{Entry}
use Rattle.ev_typing.specs.Env.{Env}
use Rattle.ev_typing.specs.WellFormed.{IsParamOf, HasNewNames, IsGoodEntry}
use Rattle.cases_ops.specs.Samples.{double_entry, quad_entry, swap_signature, swap_entry, alleq_signature, alleq_entry, only_lists, with_double, with_quad, with_swap}

double_new : HasNewNames only_lists double_entry
unfolding IsDistinct
double_new = record { new = (refl, tt); different = (tt, tt) }

double_good : IsGoodEntry only_lists double_entry
unfolding binds
double_good = record {
  signature = record {
    count = omega arith;
    args = (tt, tt);
    result = tt;
    args_parameters = omega arith;
    result_parameters = omega arith;
    used = λ j h. absurd (omega (arith, h));
  };
  condition_good = tt;
  bodies = record {
    typed = record { count = refl; proper = tt; children = (refl, (refl, tt)); result = refl };
    parameters = omega arith;
    shallow = omega arith;
  };
}

quad_new : HasNewNames with_double quad_entry
unfolding IsDistinct
quad_new = record { new = (refl, tt); different = (tt, tt) }

quad_good : IsGoodEntry with_double quad_entry
unfolding binds
quad_good = record {
  signature = record {
    count = omega arith;
    args = (tt, tt);
    result = tt;
    args_parameters = omega arith;
    result_parameters = omega arith;
    used = λ j h. absurd (omega (arith, h));
  };
  condition_good = tt;
  bodies = record {
    typed = record {
      count = refl;
      proper = tt;
      children = (record { count = refl; proper = tt; children = (refl, tt); result = refl }, tt);
      result = refl;
    };
    parameters = omega arith;
    shallow = omega arith;
  };
}

swap_new : HasNewNames with_quad swap_entry
unfolding IsDistinct
swap_new = record { new = (refl, tt); different = (tt, tt) }

swap_used : (j : ℕ) → j < 2 → IsParamOf swap_signature j
swap_used zero h = refl
swap_used (suc zero) h = refl
swap_used (suc (suc j)) h = absurd (omega (arith, h))

swap_good : IsGoodEntry with_quad swap_entry
unfolding binds
swap_good = record {
  signature = record {
    count = omega arith;
    args = (tt, (tt, tt));
    result = (tt, tt);
    args_parameters = omega arith;
    result_parameters = omega arith;
    used = swap_used;
  };
  condition_good = tt;
  bodies = record {
    typed = record { count = refl; proper = (tt, (tt, tt)); children = (refl, (refl, tt)); result = refl };
    parameters = omega arith;
    shallow = omega arith;
  };
}

alleq_new : HasNewNames with_swap alleq_entry
unfolding IsDistinct
alleq_new = record { new = (refl, tt); different = (tt, tt) }

alleq_used : (j : ℕ) → j < 1 → IsParamOf alleq_signature j
alleq_used zero h = refl
alleq_used (suc j) h = absurd (omega (arith, h))

alleq_good : IsGoodEntry with_swap alleq_entry
unfolding binds
alleq_good = record {
  signature = record {
    count = omega arith;
    args = (tt, tt);
    result = tt;
    args_parameters = omega arith;
    result_parameters = omega arith;
    used = alleq_used;
  };
  condition_good = tt;
  bodies = record {
    typed = record {
      count = refl;
      proper = (tt, tt);
      children = (record { count = refl; proper = (tt, tt); children = (refl, (refl, tt)); result = refl }, tt);
      result = refl;
    };
    parameters = omega arith;
    shallow = omega arith;
  };
}

-- what may be declared over an environment may be so over an equal one
new_at : (f : Env) (x : Entry) → HasNewNames f x → (env : Env) (e : Entry) → env ≡ f → e ≡ x → HasNewNames env e
new_at f x h env e p q = subst (λ g. HasNewNames g e) (sym p) (subst (HasNewNames f) (sym q) h)

good_at : (f : Env) (x : Entry) → IsGoodEntry f x → (env : Env) (e : Entry) → env ≡ f → e ≡ x → IsGoodEntry env e
good_at f x h env e p q = subst (λ g. IsGoodEntry g e) (sym p) (subst (IsGoodEntry f) (sym q) h)

pub double_is_new : (env : Env) (e : Entry) → env ≡ only_lists → e ≡ double_entry → HasNewNames env e
double_is_new = new_at only_lists double_entry double_new

pub double_is_good : (env : Env) (e : Entry) → env ≡ only_lists → e ≡ double_entry → IsGoodEntry env e
double_is_good = good_at only_lists double_entry double_good

pub quad_is_new : (env : Env) (e : Entry) → env ≡ with_double → e ≡ quad_entry → HasNewNames env e
quad_is_new = new_at with_double quad_entry quad_new

pub quad_is_good : (env : Env) (e : Entry) → env ≡ with_double → e ≡ quad_entry → IsGoodEntry env e
quad_is_good = good_at with_double quad_entry quad_good

pub swap_is_new : (env : Env) (e : Entry) → env ≡ with_quad → e ≡ swap_entry → HasNewNames env e
swap_is_new = new_at with_quad swap_entry swap_new

pub swap_is_good : (env : Env) (e : Entry) → env ≡ with_quad → e ≡ swap_entry → IsGoodEntry env e
swap_is_good = good_at with_quad swap_entry swap_good

pub alleq_is_new : (env : Env) (e : Entry) → env ≡ with_swap → e ≡ alleq_entry → HasNewNames env e
alleq_is_new = new_at with_swap alleq_entry alleq_new

pub alleq_is_good : (env : Env) (e : Entry) → env ≡ with_swap → e ≡ alleq_entry → IsGoodEntry env e
alleq_is_good = good_at with_swap alleq_entry alleq_good
