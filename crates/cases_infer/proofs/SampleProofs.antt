-- The samples may be declared one after the other.
use Rattle.std.specs.Prelude.{◌≡◌, ◌<◌, ℕ, zero, suc, [], ◌∷◌, None, codes, refl}
use Rattle.std.specs.List.{IsDistinct}
use Rattle.std.proofs.Common.{arith, subst, sym, ap, ◌∙◌}
use Rattle.ev_typing.specs.declared.typing.DataDecl.{DataDecl}
use Rattle.ev_typing.specs.declared.typing.Entry.{Entry}
use Rattle.ev_typing.specs.declared.typing.Entry.TheVariants.{Data}
use Rattle.ev_typing.specs.Env.{Env}
use Rattle.ev_typing.specs.WellFormed.{HasNewNames, IsGoodEntry, IsParamOf}
use Rattle.cases_infer.specs.Samples.{list_decl, pick_signature, top_entry, pick_entry, even_entry, succ_entry}

list_new : HasNewNames [] (Data list_decl)
unfolding IsDistinct
list_new = record {
  new = (refl, (refl, (refl, (refl, (refl, tt)))));
  different = ((refl, (refl, (refl, (refl, tt)))), ((refl, (refl, (refl, tt))), ((refl, (refl, tt)), ((refl, tt), (tt, tt)))));
}

list_good : IsGoodEntry [] (Data list_decl)
list_good = (
  record { count = omega arith; proper = tt; parameters = tt },
  (record { count = omega arith; proper = (tt, ((refl, (tt, tt)), tt)); parameters = (omega arith, (omega arith, tt)) }, tt),
)

top_new : HasNewNames [] top_entry
unfolding IsDistinct
top_new = record { new = (refl, tt); different = (tt, tt) }

top_good : IsGoodEntry [] top_entry
top_good = record {
  signature = record {
    count = omega arith;
    args = tt;
    result = tt;
    args_parameters = omega arith;
    result_parameters = omega arith;
    used = λ j h. absurd (omega (arith, h));
  };
  condition_good = tt;
  bodies = record {
    typed = record { count = refl; proper = tt; children = tt; result = refl };
    parameters = omega arith;
    shallow = omega arith;
  };
}

pick_new : HasNewNames (top_entry ∷ []) pick_entry
unfolding IsDistinct
pick_new = record { new = (refl, tt); different = (tt, tt) }

used : (j : ℕ) → j < 1 → IsParamOf pick_signature j
used zero h = refl
used (suc j) h = absurd (omega (arith, h))

pick_good : IsGoodEntry (top_entry ∷ []) pick_entry
pick_good = record {
  signature = record {
    count = omega arith;
    args = (tt, tt);
    result = tt;
    args_parameters = omega arith;
    result_parameters = omega arith;
    used = used;
  };
  condition_good = tt;
  bodies = tt;
}

even_new : HasNewNames (top_entry ∷ (pick_entry ∷ [])) even_entry
unfolding IsDistinct
even_new = record { new = (refl, tt); different = (tt, tt) }

even_good : IsGoodEntry (top_entry ∷ (pick_entry ∷ [])) even_entry
even_good = record {
  signature = record {
    count = omega arith;
    args = (tt, tt);
    result = tt;
    args_parameters = omega arith;
    result_parameters = omega arith;
    used = λ j h. absurd (omega (arith, h));
  };
  condition_good = tt;
  bodies = tt;
}

succ_new : HasNewNames (top_entry ∷ (pick_entry ∷ (even_entry ∷ []))) succ_entry
unfolding IsDistinct
succ_new = record { new = (refl, tt); different = (tt, tt) }

succ_good : IsGoodEntry (top_entry ∷ (pick_entry ∷ (even_entry ∷ []))) succ_entry
succ_good = record {
  signature = record {
    count = omega arith;
    args = tt;
    result = (tt, tt);
    args_parameters = omega arith;
    result_parameters = omega arith;
    used = λ j h. absurd (omega (arith, h));
  };
  condition_good = tt;
  bodies = tt;
}

-- what may be declared over an environment may be so over an equal one
new_at : (f : Env) (x : Entry) → HasNewNames f x → (env : Env) (e : Entry) → env ≡ f → e ≡ x → HasNewNames env e
new_at f x h env e p q = subst (λ g. HasNewNames g e) (sym p) (subst (HasNewNames f) (sym q) h)

good_at : (f : Env) (x : Entry) → IsGoodEntry f x → (env : Env) (e : Entry) → env ≡ f → e ≡ x → IsGoodEntry env e
good_at f x h env e p q = subst (λ g. IsGoodEntry g e) (sym p) (subst (IsGoodEntry f) (sym q) h)

pub list_is_new : (env : Env) (d : DataDecl) → env ≡ [] → d ≡ list_decl → HasNewNames env (Data d)
list_is_new env d p q = new_at [] (Data list_decl) list_new env (Data d) p (ap Data q)

pub list_is_good : (env : Env) (d : DataDecl) → env ≡ [] → d ≡ list_decl → IsGoodEntry env (Data d)
list_is_good env d p q = good_at [] (Data list_decl) list_good env (Data d) p (ap Data q)

pub top_is_new : (env : Env) (e : Entry) → env ≡ [] → e ≡ top_entry → HasNewNames env e
top_is_new = new_at [] top_entry top_new

pub top_is_good : (env : Env) (e : Entry) → env ≡ [] → e ≡ top_entry → IsGoodEntry env e
top_is_good = good_at [] top_entry top_good

pub pick_is_new : (env : Env) (e : Entry) → env ≡ top_entry ∷ [] → e ≡ pick_entry → HasNewNames env e
pick_is_new = new_at (top_entry ∷ []) pick_entry pick_new

pub pick_is_good : (env : Env) (e : Entry) → env ≡ top_entry ∷ [] → e ≡ pick_entry → IsGoodEntry env e
pick_is_good = good_at (top_entry ∷ []) pick_entry pick_good

pub even_is_new : (env : Env) (e : Entry) → env ≡ top_entry ∷ (pick_entry ∷ []) → e ≡ even_entry → HasNewNames env e
even_is_new = new_at (top_entry ∷ (pick_entry ∷ [])) even_entry even_new

pub even_is_good : (env : Env) (e : Entry) → env ≡ top_entry ∷ (pick_entry ∷ []) → e ≡ even_entry → IsGoodEntry env e
even_is_good = good_at (top_entry ∷ (pick_entry ∷ [])) even_entry even_good

pub succ_is_new : (env : Env) (e : Entry) → env ≡ top_entry ∷ (pick_entry ∷ (even_entry ∷ [])) → e ≡ succ_entry → HasNewNames env e
succ_is_new = new_at (top_entry ∷ (pick_entry ∷ (even_entry ∷ []))) succ_entry succ_new

pub succ_is_good : (env : Env) (e : Entry) → env ≡ top_entry ∷ (pick_entry ∷ (even_entry ∷ [])) → e ≡ succ_entry → IsGoodEntry env e
succ_is_good = good_at (top_entry ∷ (pick_entry ∷ (even_entry ∷ []))) succ_entry succ_good
