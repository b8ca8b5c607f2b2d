-- What is read as a formula is typed, and within the limits.
use Rattle.std.specs.Prelude.{◌≡◌, ℕ, zero, suc, List, [], ◌∷◌, Option, Some, None, reverse, slice_get, IsSomeAnd, refl}
use Rattle.std.specs.List.{AllByRecursion}
use Rattle.std.proofs.Common.{inl, inr, sym, subst as transport}
use Rattle.ev_terms.specs.declared.types.Ty.{Ty, Int, Bool, Prop, Param, Data}
use Rattle.ev_terms.specs.declared.types.Tys.{Tys}
use Rattle.ev_terms.specs.Types.{pow, prod}
use Rattle.ev_terms.specs.Term.{Term, var, lit, node}
use Rattle.ev_syntax.specs.Raw.{Raw}
use Rattle.ev_typing.specs.declared.typing.Var.{Var}
use Rattle.ev_typing.specs.Profiles.{Profile}
use Rattle.ev_typing.specs.Env.{Env, Name, profile}
use Rattle.ev_typing.specs.Typing.{IsProper, Typed, IsTypedNode, type_in}
use Rattle.ev_typing.specs.Proper.{IsResult, HasProperSignatures}
use Rattle.ev_typing.proofs.Proper.{result_from_proper, result_inst}
use Rattle.ev_typing.proofs.Laws.{Typed-type_in}
use Rattle.ev_wd.specs.Limits.{IsSmall}
use Rattle.ev_resolve.specs.Reading.{context_type}
use Rattle.ev_infer.specs.Annotates.{variables_context}
use Rattle.ev_infer.specs.Answers.{variables}
use Rattle.ev_ops.specs.Formulas.{IsFormula, IsOptional}
use Rattle.ev_ops.proofs.Basics.{all_reverse}
use Rattle.ev_elab.specs.Types.{var_types}
use Rattle.ev_elab.specs.Formulas.{IsPast, IsRead, formula_at}
use Rattle.ev_elab.specs.Readings.{ReadsOptional}
use Rattle.ev_elab.proofs.Gathering.{not_less}

-- The variables are typed as the context says.
proper_variable : (env : Env) (A : Ty) → IsProper env A → context_type A ≡ A
proper_variable env Int p = refl
proper_variable env Bool p = refl
proper_variable env Prop p = absurd p
proper_variable env (Param i) p = refl
proper_variable env (pow A) p = refl
proper_variable env (prod A B) p = refl
proper_variable env (Data n As) p = refl

pub variables_typed : (env : Env) (vars : List Var) → AllByRecursion (IsProper env) (var_types vars) → variables_context (variables vars) ≡ var_types vars
variables_typed env [] p = refl
variables_typed env (v ∷ vars) p = let q = proper_variable env v.ty p.0 in let r = variables_typed env vars p.1 in cc

-- Formulas.
within : (params : List Name) (t : Term) → ¬ IsPast params t → IsSmall t
within params t h = record { size_fits = not_less 65536 _ (λ k. h (inl k)); depth_fits = not_less 512 _ (λ k. h (inr k)) }

pub formula_read : (params : List Name) (env : Env) (vars : List Var) (A : Ty) (raw : Raw) (t : Term) → AllByRecursion (IsProper env) (var_types vars) → IsRead params (formula_at env vars (Some A) raw) t → IsFormula env (var_types vars) A t
formula_read params env vars A raw t p r = record {
  typed = transport (λ C. Typed env C t A) (variables_typed env vars p) r.only.0.has_expected;
  small = within params t r.small;
}

-- one at whatever type it has
pub any_read : (params : List Name) (env : Env) (vars : List Var) (raw : Raw) (t : Term) → AllByRecursion (IsProper env) (var_types vars) → IsRead params (formula_at env vars None raw) t →
    IsFormula env (var_types vars) (type_in env (var_types vars) t) t
any_read params env vars raw t p r =
    let h : Typed env (var_types vars) t r.only.0.annotates.type = transport (λ C. Typed env C t r.only.0.annotates.type) (variables_typed env vars p) r.only.0.annotates.typed in
    record {
      typed = transport (Typed env (var_types vars) t) (Typed-type_in env (var_types vars) t r.only.0.annotates.type h) h;
      small = within params t r.small;
    }

pub optional_read : (params : List Name) (env : Env) (vars : List Var) (o : Option Raw) (C : Option Term) → AllByRecursion (IsProper env) (var_types vars) → ReadsOptional params env vars o C → IsOptional env (var_types vars) C
optional_read params env vars None None p r = tt
optional_read params env vars None (Some t) p r = absurd r
optional_read params env vars (Some raw) None p r = absurd r
optional_read params env vars (Some raw) (Some t) p r = formula_read params env vars Prop raw t p r

-- The type of a typed term is proper, or that of predicates.
pub all_get : {X : Type 0} (P : X → Type 0) (xs : List X) (i : ℕ) (x : X) → AllByRecursion P xs → slice_get xs i ≡ Some x → P x
all_get P [] i x h e = cc
all_get P (y ∷ xs) zero x h e = let q : y ≡ x = cc in transport P q h.0
all_get P (y ∷ xs) (suc i) x h e = all_get P xs i x h.1 e

node_result : (env : Env) (As : Tys) (A : Ty) (Children : Profile → Type 0) (o : Option Profile) → ((p : Profile) → o ≡ Some p → IsResult env p.result) →
    IsSomeAnd o (λ p. IsTypedNode env As p A (Children p)) → IsResult env A
node_result env As A Children None k h = absurd h
node_result env As A Children (Some p) k h = transport (IsResult env) (sym h.result) (result_inst env As p.result h.proper (k p refl))

pub typed_result : (env : Env) → HasProperSignatures env → (C : List Ty) → AllByRecursion (IsProper env) C → (t : Term) (A : Ty) → Typed env C t A → IsResult env A
typed_result env w C p (var i) A h = result_from_proper env A (all_get (IsProper env) (reverse C) i A (all_reverse (IsProper env) C p) h)
typed_result env w C p (lit n) A h = transport (IsResult env) (sym h.1) tt
typed_result env w C p (node s As ts) A h = node_result env As A _ (profile env s) (λ q e. (w s q e).1) h
