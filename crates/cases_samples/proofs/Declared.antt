-- The entries of the samples may be declared one after the other.
use Rattle.std.specs.Prelude.{◌≡◌, ◌<◌, ◌++◌, ℕ, zero, suc, [], ◌∷◌, refl}
use Rattle.std.specs.List.{IsDistinct}
use Rattle.std.proofs.Common.{◌∙◌, ap, arith, subst, sym}
use Rattle.ev_terms.specs.Symbols.{binds}
use Rattle.ev_typing.specs.declared.typing.DataDecl.{DataDecl}
use Rattle.ev_typing.specs.declared.typing.Entry.{Entry}
use Rattle.ev_typing.specs.declared.typing.Entry.TheVariants.{Data}
use Rattle.ev_typing.specs.Env.{Env}
use Rattle.ev_typing.specs.WellFormed.{IsParamOf, HasNewNames, IsGoodEntry}
use Rattle.cases_samples.specs.Samples.{list_decl, tree_decl, len_signature, len_entry}

list_new : HasNewNames [] (Data list_decl)
unfolding IsDistinct
list_new = record {
  new = (refl, (refl, (refl, (refl, (refl, tt)))));
  different = ((refl, (refl, (refl, (refl, tt)))), ((refl, (refl, (refl, tt))), ((refl, (refl, tt)), ((refl, tt), (tt, tt)))));
}

list_good : IsGoodEntry [] (Data list_decl)
list_good = (
  record { count = omega arith; proper = tt; parameters = tt },
  (record { count = omega arith; proper = (tt, ((refl, (tt, tt)), tt)); parameters = (omega arith, (omega arith, tt)) }, tt),
)

tree_new : HasNewNames (Data list_decl ∷ []) (Data tree_decl)
unfolding IsDistinct
tree_new = record {
  new = (refl, (refl, (refl, (refl, (refl, (refl, tt))))));
  different = ((refl, (refl, (refl, (refl, (refl, tt))))), ((refl, (refl, (refl, (refl, tt)))), ((refl, (refl, (refl, tt))), ((refl, (refl, tt)), ((refl, tt), (tt, tt))))));
}

tree_good : IsGoodEntry (Data list_decl ∷ []) (Data tree_decl)
tree_good = (
  record { count = omega arith; proper = tt; parameters = tt },
  (record { count = omega arith; proper = ((refl, (tt, tt)), (tt, ((refl, (tt, tt)), tt))); parameters = (omega arith, (omega arith, (omega arith, tt))) }, tt),
)

len_new : HasNewNames (Data list_decl ∷ Data tree_decl ∷ []) len_entry
unfolding IsDistinct
len_new = record { new = (refl, tt); different = (tt, tt) }

len_good : IsGoodEntry (Data list_decl ∷ Data tree_decl ∷ []) len_entry
unfolding binds
len_good = record {
  signature = record {
    count = omega arith;
    args = ((refl, (tt, tt)), tt);
    result = tt;
    args_parameters = omega arith;
    result_parameters = omega arith;
    used = used;
  };
  condition_good = tt;
  bodies = (
    record { term = record { typed = (omega arith, refl); parameters = omega arith; shallow = omega arith }; plain = tt },
    (
      record {
        term = record {
          typed = record {
            count = refl;
            proper = tt;
            children = ((omega arith, refl), (record { count = refl; proper = (tt, tt); children = (refl, tt); result = refl }, tt));
            result = refl;
          };
          parameters = omega arith;
          shallow = omega arith;
        };
        plain = (refl, (tt, ((refl, (tt, tt)), tt)));
      },
      tt,
    ),
  );
}
  where
    used : (j : ℕ) → j < 1 → IsParamOf len_signature j
    used zero h = refl
    used (suc j) h = absurd (omega (arith, h))

pub first_new : (env : Env) (d : DataDecl) → env ≡ [] → d ≡ list_decl → HasNewNames env (Data d)
first_new env d p q = subst (λ f. HasNewNames f (Data d)) (sym p) (subst (λ f. HasNewNames [] (Data f)) (sym q) list_new)

pub first_good : (env : Env) (d : DataDecl) → env ≡ [] → d ≡ list_decl → IsGoodEntry env (Data d)
first_good env d p q = subst (λ f. IsGoodEntry f (Data d)) (sym p) (subst (λ f. IsGoodEntry [] (Data f)) (sym q) list_good)

pub first_added : (env after : Env) (d : DataDecl) → env ≡ [] → d ≡ list_decl → after ≡ env ++ Data d ∷ [] → after ≡ Data list_decl ∷ []
first_added env after d p q r = r ∙ (ap (λ f. f ++ Data d ∷ []) p ∙ ap (λ f. Data f ∷ []) q)

pub second_new : (env : Env) (d : DataDecl) → env ≡ Data list_decl ∷ [] → d ≡ tree_decl → HasNewNames env (Data d)
second_new env d p q = subst (λ f. HasNewNames f (Data d)) (sym p) (subst (λ f. HasNewNames (Data list_decl ∷ []) (Data f)) (sym q) tree_new)

pub second_good : (env : Env) (d : DataDecl) → env ≡ Data list_decl ∷ [] → d ≡ tree_decl → IsGoodEntry env (Data d)
second_good env d p q = subst (λ f. IsGoodEntry f (Data d)) (sym p) (subst (λ f. IsGoodEntry (Data list_decl ∷ []) (Data f)) (sym q) tree_good)

pub second_added : (env after : Env) (d : DataDecl) → env ≡ Data list_decl ∷ [] → d ≡ tree_decl → after ≡ env ++ Data d ∷ [] → after ≡ Data list_decl ∷ Data tree_decl ∷ []
second_added env after d p q r = r ∙ (ap (λ f. f ++ Data d ∷ []) p ∙ ap (λ f. Data list_decl ∷ Data f ∷ []) q)

pub third_new : (env : Env) (e : Entry) → env ≡ Data list_decl ∷ Data tree_decl ∷ [] → e ≡ len_entry → HasNewNames env e
third_new env e p q = subst (λ f. HasNewNames f e) (sym p) (subst (HasNewNames (Data list_decl ∷ Data tree_decl ∷ [])) (sym q) len_new)

pub third_good : (env : Env) (e : Entry) → env ≡ Data list_decl ∷ Data tree_decl ∷ [] → e ≡ len_entry → IsGoodEntry env e
third_good env e p q = subst (λ f. IsGoodEntry f e) (sym p) (subst (IsGoodEntry (Data list_decl ∷ Data tree_decl ∷ [])) (sym q) len_good)
