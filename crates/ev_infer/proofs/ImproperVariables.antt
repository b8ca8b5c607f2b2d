-- Contexts with INT in place of the types that are none of the environment.
use Rattle.std.specs.Prelude.{◌≡◌, ℕ, zero, suc, Bool as Boolean, true, false, not, List, [], ◌∷◌, map, reverse, slice_get, Option, Some, if◌then◌else◌, refl}
use Rattle.std.proofs.Common.{ap, sym, ◌∙◌, subst as transport}
use Rattle.std.proofs.lemmas.List.{reverse-reverse}
use Rattle.ev_terms.specs.declared.types.Ty.{Ty, Int, Bool, Prop, Param, Data}
use Rattle.ev_terms.specs.Types.{pow, prod}
use Rattle.ev_typing.specs.declared.typing.Var.{Var}
use Rattle.ev_typing.specs.Env.{Env}
use Rattle.ev_typing.specs.Typing.{var_type}
use Rattle.ev_typing.specs.Proper.{IsResult, is_result}
use Rattle.ev_typing.proofs.Proper.{result_from_test, test_from_result}
use Rattle.ev_resolve.specs.Reading.{Variable, context_type, context_of}
use Rattle.ev_resolve.specs.Resolve.{forget_type, forget}
use Rattle.ev_infer.specs.Inference.{HaveProperTypes}
use Rattle.ev_infer.proofs.Values.{map-reverse}
use Rattle.ev_infer.specs.Answers.{variable, variables}
use Rattle.ev_infer.specs.inner.Marked.{is_marked}
use Rattle.ev_infer.specs.inner.Improper.{marked, type_or_int, with_type_or_int}
use Rattle.ev_infer.proofs.Both.{AreAlike}
use Rattle.ev_infer.proofs.Retyped.{Keeps, Apart}

unmarked_result : (b : Boolean) → not b ≡ false → b ≡ true
unmarked_result true e = refl
unmarked_result false e = cc

marked_result : (b : Boolean) → not b ≡ true → b ≡ false
marked_result true e = cc
marked_result false e = refl

kept_type : (env : Env) (A : Ty) → is_result env A ≡ true → type_or_int env A ≡ A
kept_type env A e = ap (λ b. if b then A else Int) e

int_type : (env : Env) (A : Ty) → is_result env A ≡ false → type_or_int env A ≡ Int
int_type env A e = ap (λ b. if b then A else Int) e

result_or_int : (env : Env) (A : Ty) → IsResult env (type_or_int env A)
result_or_int env A = go (is_result env A) refl
  where
    go : (b : Boolean) → is_result env A ≡ b → IsResult env (type_or_int env A)
    go true e = transport (IsResult env) (sym (kept_type env A e)) (result_from_test env A e)
    go false e = transport (IsResult env) (sym (int_type env A e)) tt

pub proper_or_int : (env : Env) (vars : List Var) → HaveProperTypes env (variables (map (with_type_or_int env) vars))
proper_or_int env [] = tt
proper_or_int env (v ∷ vars) = (result_or_int env v.ty, proper_or_int env vars)

either_int : (b : Boolean) (A : Ty) → forget_type A ≡ Int → forget_type (if b then A else Int) ≡ Int
either_int true A e = e
either_int false A e = refl

forget_or_int : (env : Env) (A : Ty) → forget_type A ≡ forget_type (type_or_int env A)
forget_or_int env Int = refl
forget_or_int env Bool = refl
forget_or_int env Prop = refl
forget_or_int env (Param i) = refl
forget_or_int env (pow A) = sym (either_int (is_result env (pow A)) (pow A) refl)
forget_or_int env (prod A B) = sym (either_int (is_result env (prod A B)) (prod A B) refl)
forget_or_int env (Data n As) = sym (either_int (is_result env (Data n As)) (Data n As) refl)

variable_by : (n m : Option (List ℕ)) (A B : Ty) → n ≡ m → A ≡ B → ◌≡◌ {A = Variable} (record { name = n; type = A }) (record { name = m; type = B })
variable_by n m A B e f = cc

forgotten : (env : Env) (vars : List Var) → map forget (variables vars) ≡ map forget (variables (map (with_type_or_int env) vars))
forgotten env [] = refl
forgotten env (v ∷ vars) =
    ap (λ x. x ∷ map forget (variables vars)) (variable_by (Some v.name) (Some v.name) (forget_type v.ty) (forget_type (type_or_int env v.ty)) refl (forget_or_int env v.ty))
    ∙ ap (λ l. forget (variable (with_type_or_int env v)) ∷ l) (forgotten env vars)

-- names are looked up in the same way
pub alike : (env : Env) (vars : List Var) → AreAlike (reverse (variables vars)) (reverse (variables (map (with_type_or_int env) vars)))
alike env vars = map-reverse forget (variables vars) ∙ ap reverse (forgotten env vars) ∙ sym (map-reverse forget (variables (map (with_type_or_int env) vars)))

-- a type in a context is proper where it was before, or `Prop`
context_result : (env : Env) (A : Ty) → is_result env (context_type A) ≡ true → is_result env A ≡ true
context_result env Int e = refl
context_result env Bool e = refl
context_result env Prop e = refl
context_result env (Param i) e = refl
context_result env (pow A) e = e
context_result env (prod A B) e = e
context_result env (Data n As) e = e

abbrev type_of : Var → Ty
type_of v = context_type v.ty

abbrev type_or_int_of : Env → Var → Ty
type_or_int_of env v = context_type (type_or_int env v.ty)

kept_at : (env : Env) (l : List Var) (i : ℕ) (A : Ty) → slice_get (map type_of l) i ≡ Some A → IsResult env A → slice_get (map (type_or_int_of env) l) i ≡ Some A
kept_at env [] i A e r = cc
kept_at env (v ∷ l) zero A e r =
    let q : type_of v ≡ A = cc in
    let p : is_result env v.ty ≡ true = context_result env v.ty (ap (is_result env) q ∙ test_from_result env A r) in
    ap (λ B. Some (context_type B)) (kept_type env v.ty p) ∙ e
kept_at env (v ∷ l) (suc i) A e r = kept_at env l i A e r

same_at : (env : Env) (l : List Var) (i : ℕ) (A : Ty) → is_marked (map (marked env) l) i ≡ false → slice_get (map (type_or_int_of env) l) i ≡ Some A → slice_get (map type_of l) i ≡ Some A
same_at env [] i A m e = cc
same_at env (v ∷ l) zero A m e = ap (λ B. Some (context_type B)) (sym (kept_type env v.ty (unmarked_result (is_result env v.ty) m))) ∙ e
same_at env (v ∷ l) (suc i) A m e = same_at env l i A m e

back_at : (env : Env) (l : List Var) (i : ℕ) (A : Ty) → is_marked (map (marked env) l) i ≡ false → slice_get (map type_of l) i ≡ Some A → slice_get (map (type_or_int_of env) l) i ≡ Some A
back_at env [] i A m e = cc
back_at env (v ∷ l) zero A m e = ap (λ B. Some (context_type B)) (kept_type env v.ty (unmarked_result (is_result env v.ty) m)) ∙ e
back_at env (v ∷ l) (suc i) A m e = back_at env l i A m e

differ_at : (env : Env) (l : List Var) (i : ℕ) (A : Ty) → is_marked (map (marked env) l) i ≡ true → slice_get (map type_of l) i ≡ Some A → slice_get (map (type_or_int_of env) l) i ≡ Some A → ⊥
differ_at env [] i A m e f = cc
differ_at env (v ∷ l) zero A m e f =
    let n : is_result env v.ty ≡ false = marked_result (is_result env v.ty) m in
    let q : type_of v ≡ A = cc in
    let p : type_or_int_of env v ≡ A = cc in
    let int : A ≡ Int = sym p ∙ ap context_type (int_type env v.ty n) in
    let y : is_result env v.ty ≡ true = context_result env v.ty (ap (is_result env) (q ∙ int)) in
    not_both (is_result env v.ty) y n
  where
    not_both : (b : Boolean) → b ≡ true → b ≡ false → ⊥
    not_both b x z = cc
differ_at env (v ∷ l) (suc i) A m e f = differ_at env l i A m e f

map_map : (f : Variable → Ty) (g : Var → Variable) (l : List Var) → map f (map g l) ≡ map (λ v. f (g v)) l
map_map f g [] = refl
map_map f g (v ∷ l) = ap (λ x. f (g v) ∷ x) (map_map f g l)

var_map : (g : Var → Var) (h : Var → Ty) (l : List Var) → map h (map g l) ≡ map (λ v. h (g v)) l
var_map g h [] = refl
var_map g h (v ∷ l) = ap (λ x. h (g v) ∷ x) (var_map g h l)

-- the context of variables, the innermost first
inner_types : (vars : List Var) → reverse (context_of (reverse (variables vars))) ≡ map type_of (reverse vars)
inner_types vars =
    reverse-reverse (map (λ (v : Variable). context_type v.type) (reverse (variables vars)))
    ∙ ap (map (λ (v : Variable). context_type v.type)) (sym (map-reverse variable vars))
    ∙ map_map (λ (v : Variable). context_type v.type) variable (reverse vars)

types_or_int : (env : Env) (vars : List Var) → reverse (context_of (reverse (variables (map (with_type_or_int env) vars)))) ≡ map (type_or_int_of env) (reverse vars)
types_or_int env vars =
    inner_types (map (with_type_or_int env) vars)
    ∙ ap (map type_of) (sym (map-reverse (with_type_or_int env) vars))
    ∙ var_map (with_type_or_int env) type_of (reverse vars)

module _ (env : Env) (vars : List Var) where
  abbrev C : List Ty
  C = context_of (reverse (variables vars))

  abbrev D : List Ty
  D = context_of (reverse (variables (map (with_type_or_int env) vars)))

  pub keeps : Keeps env C D
  keeps i A e r =
      transport (λ l. slice_get l i ≡ Some A) (sym (types_or_int env vars))
      (kept_at env (reverse vars) i A (transport (λ l. slice_get l i ≡ Some A) (inner_types vars) e) r)

  abbrev pub marks : List Boolean
  marks = map (marked env) (reverse vars)

  pub apart : Apart C D marks
  apart = record {
    same = λ i A m e. transport (λ l. slice_get l i ≡ Some A) (sym (inner_types vars)) (same_at env (reverse vars) i A m (transport (λ l. slice_get l i ≡ Some A) (types_or_int env vars) e));
    differ = λ i A m e f. differ_at env (reverse vars) i A m (transport (λ l. slice_get l i ≡ Some A) (inner_types vars) e) (transport (λ l. slice_get l i ≡ Some A) (types_or_int env vars) f);
  }

  pub back : (i : ℕ) (A : Ty) → is_marked marks i ≡ false → var_type C i ≡ Some A → var_type D i ≡ Some A
  back i A m e = transport (λ l. slice_get l i ≡ Some A) (sym (types_or_int env vars)) (back_at env (reverse vars) i A m (transport (λ l. slice_get l i ≡ Some A) (inner_types vars) e))
