-- The datatype of lists may be declared, and so may the direct operator.
use Rattle.std.specs.Prelude.{◌≡◌, [], None, codes, refl}
use Rattle.std.specs.List.{IsDistinct}
use Rattle.std.proofs.Common.{arith, subst, sym, ap, ◌∙◌}
use Rattle.ev_terms.specs.declared.types.Ty.{Prop}
use Rattle.ev_terms.specs.declared.types.Tys.{Empty}
use Rattle.ev_terms.specs.Term.{Term}
use Rattle.ev_typing.specs.declared.typing.DataDecl.{DataDecl}
use Rattle.ev_typing.specs.declared.typing.Entry.TheVariants.{Data, Direct}
use Rattle.ev_typing.specs.Env.{Env, Name}
use Rattle.ev_typing.specs.WellFormed.{HasNewNames, IsGoodEntry}
use Rattle.ev_typing.specs.declared.typing.Entry.{Entry}
use Rattle.cases_typing.specs.Samples.{list_decl, truth, top_signature, top_entry}

list_new : HasNewNames [] (Data list_decl)
unfolding IsDistinct
list_new = record {
  new = (refl, (refl, (refl, (refl, (refl, tt)))));
  different = ((refl, (refl, (refl, (refl, tt)))), ((refl, (refl, (refl, tt))), ((refl, (refl, tt)), ((refl, tt), (tt, tt)))));
}

list_good : IsGoodEntry [] (Data list_decl)
list_good = (
  record { count = omega arith; proper = tt; parameters = tt },
  (record { count = omega arith; proper = (tt, ((refl, (tt, tt)), tt)); parameters = (omega arith, (omega arith, tt)) }, tt),
)

pub new_to_empty : (env : Env) (d : DataDecl) → env ≡ [] → d ≡ list_decl → HasNewNames env (Data d)
new_to_empty env d e p = subst (λ f. HasNewNames f (Data d)) (sym e) (subst (λ x. HasNewNames [] (Data x)) (sym p) list_new)

pub good_over_empty : (env : Env) (d : DataDecl) → env ≡ [] → d ≡ list_decl → IsGoodEntry env (Data d)
good_over_empty env d e p = subst (λ f. IsGoodEntry f (Data d)) (sym e) (subst (λ x. IsGoodEntry [] (Data x)) (sym p) list_good)

pub ruleset samples = (new_to_empty, good_over_empty)

top_new : HasNewNames [] top_entry
unfolding IsDistinct
top_new = record { new = (refl, tt); different = (tt, tt) }

top_good : IsGoodEntry [] top_entry
top_good = record {
  signature = record {
    count = omega arith;
    args = tt;
    result = tt;
    args_parameters = omega arith;
    result_parameters = omega arith;
    used = λ j h. absurd (omega (arith, h));
  };
  condition_good = tt;
  bodies = record {
    typed = record { count = refl; proper = tt; children = tt; result = refl };
    parameters = omega arith;
    shallow = omega arith;
  };
}

pub top_to_empty : (env : Env) (e : Entry) → env ≡ [] → e ≡ top_entry → HasNewNames env e
top_to_empty env e p q = subst (λ f. HasNewNames f e) (sym p) (subst (HasNewNames []) (sym q) top_new)

pub top_over_empty : (env : Env) (e : Entry) → env ≡ [] → e ≡ top_entry → IsGoodEntry env e
top_over_empty env e p q = subst (λ f. IsGoodEntry f e) (sym p) (subst (IsGoodEntry []) (sym q) top_good)

pub ruleset tops = (top_to_empty, top_over_empty)

pub top_made : (n : Name) (t : Term) → n ≡ codes "top" → t ≡ truth → Direct (record { name = n; params = 0; args = Empty; result = Prop }) None t ≡ top_entry
top_made n t e f = ap (λ m. Direct (record { name = m; params = 0; args = Empty; result = Prop }) None t) e ∙ ap (Direct top_signature None) f
