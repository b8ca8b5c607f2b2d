-- The samples may be declared.
use Rattle.std.specs.Prelude.{◌≡◌, ◌<◌, ℕ, zero, suc, [], ◌∷◌, refl}
use Rattle.std.specs.List.{IsDistinct}
use Rattle.std.proofs.Common.{arith, subst, sym}
use Rattle.ev_terms.specs.declared.types.Ty.{Prop, Param}
use Rattle.ev_terms.specs.Types.{pow}
use Rattle.ev_terms.specs.Term.{var}
use Rattle.ev_terms.specs.Symbols.{binds}
use Rattle.ev_terms.specs.Types.{Pow-pow, Prod-prod, More-more}
use Rattle.ev_typing.specs.declared.typing.DataDecl.{DataDecl}
use Rattle.ev_typing.specs.declared.typing.Entry.{Entry}
use Rattle.ev_typing.specs.declared.typing.Entry.TheVariants.{Data}
use Rattle.ev_typing.specs.Env.{Env}
use Rattle.ev_typing.specs.Typing.{Typed}
use Rattle.ev_typing.specs.WellFormed.{HasNewNames, IsGoodEntry, IsParamOf}
use Rattle.ev_forms.specs.Forms.{eq, empty}
use Rattle.ev_wd.specs.Demands.{is_not_empty}
use Rattle.cases_wd.specs.Samples.{list_decl, pick_signature, pick_entry}

pick_new : HasNewNames [] pick_entry
unfolding IsDistinct
pick_new = record { new = (refl, tt); different = (tt, tt) }

condition_typed : Typed [] (pow (Param 0) ∷ []) (is_not_empty (Param 0) (var 0)) Prop
unfolding binds
condition_typed =
    let nothing : Typed [] (pow (Param 0) ∷ []) (empty (Param 0)) (pow (Param 0)) = record { count = refl; proper = (tt, tt); children = tt; result = refl } in
    let equal : Typed [] (pow (Param 0) ∷ []) (eq (pow (Param 0)) (var 0) (empty (Param 0))) Prop =
    record { count = refl; proper = (tt, tt); children = (refl, (nothing, tt)); result = refl } in
    record { count = refl; proper = tt; children = (equal, tt); result = refl }

used : (j : ℕ) → j < 1 → IsParamOf pick_signature j
used zero h = refl
used (suc j) h = absurd (omega (arith, h))

pick_good : IsGoodEntry [] pick_entry
pick_good = record {
  signature = record {
    count = omega arith;
    args = (tt, tt);
    result = tt;
    args_parameters = omega arith;
    result_parameters = omega arith;
    used = used;
  };
  condition_good = record { typed = condition_typed; parameters = omega arith; shallow = omega arith };
  bodies = tt;
}

pub pick_to_empty : (env : Env) (e : Entry) → env ≡ [] → e ≡ pick_entry → HasNewNames env e
pick_to_empty env e p q = subst (λ f. HasNewNames f e) (sym p) (subst (HasNewNames []) (sym q) pick_new)

pub pick_over_empty : (env : Env) (e : Entry) → env ≡ [] → e ≡ pick_entry → IsGoodEntry env e
pick_over_empty env e p q = subst (λ f. IsGoodEntry f e) (sym p) (subst (IsGoodEntry []) (sym q) pick_good)

list_new : HasNewNames [] (Data list_decl)
unfolding IsDistinct
list_new = record {
  new = (refl, (refl, (refl, (refl, (refl, tt)))));
  different = ((refl, (refl, (refl, (refl, tt)))), ((refl, (refl, (refl, tt))), ((refl, (refl, tt)), ((refl, tt), (tt, tt)))));
}

list_good : IsGoodEntry [] (Data list_decl)
list_good = (
  record { count = omega arith; proper = tt; parameters = tt },
  (record { count = omega arith; proper = (tt, ((refl, (tt, tt)), tt)); parameters = (omega arith, (omega arith, tt)) }, tt),
)

pub new_to_empty : (env : Env) (d : DataDecl) → env ≡ [] → d ≡ list_decl → HasNewNames env (Data d)
new_to_empty env d e p = subst (λ f. HasNewNames f (Data d)) (sym e) (subst (λ x. HasNewNames [] (Data x)) (sym p) list_new)

pub good_over_empty : (env : Env) (d : DataDecl) → env ≡ [] → d ≡ list_decl → IsGoodEntry env (Data d)
good_over_empty env d e p = subst (λ f. IsGoodEntry f (Data d)) (sym e) (subst (λ x. IsGoodEntry [] (Data x)) (sym p) list_good)

pub ruleset types = (Pow-pow, Prod-prod, More-more)
