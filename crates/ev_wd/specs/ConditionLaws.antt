-- The laws of well-definedness conditions.
use Rattle.std.specs.Prelude.{◌≡◌, ◌++◌, ℕ, List, reverse}
use Rattle.std.specs.List.{AllByRecursion}
use Rattle.ev_terms.specs.declared.types.Ty.{Ty, Prop}
use Rattle.ev_terms.specs.declared.types.Tys.{Tys}
use Rattle.ev_terms.specs.Term.{Term, terms}
use Rattle.ev_terms.specs.Substitution.{shift, substitute, instance}
use Rattle.ev_typing.specs.Env.{Env}
use Rattle.ev_typing.specs.Typing.{Typed, AreTyped}
use Rattle.ev_typing.specs.WellFormed.{IsWellFormed}
use Rattle.ev_typing.specs.Parts.{IsPartOf, HasDistinctNames}
use Rattle.ev_forms.specs.Forms.{truth}
use Rattle.ev_wd.specs.WellDefined.{wd}

-- the condition of a typed term is a predicate in the same context
abbrev pub ConditionIsTyped : Type 0
ConditionIsTyped = (env : Env) → IsWellFormed env → (C : List Ty) (t : Term) (A : Ty) → Typed env C t A → Typed env C (wd env t) Prop

-- the condition of a shifted term is the shifted condition
abbrev pub ConditionOfShift : Type 0
ConditionOfShift = (env : Env) → IsWellFormed env → (C : List Ty) (t : Term) (A : Ty) → Typed env C t A → (from by : ℕ) →
    wd env (shift t from by) ≡ shift (wd env t) from by

-- always defined, and not `true` itself
abbrev pub IsDefined : Env → Term → Type 0
IsDefined env t = (wd env t ≡ truth) × (t ≡ truth → ⊥)

-- a substitution of such terms goes into the condition
abbrev pub ConditionOfSubstitution : Type 0
ConditionOfSubstitution = (env : Env) → IsWellFormed env → (C As : List Ty) (ts : List Term) → AreTyped env C (terms ts) As → AllByRecursion (IsDefined env) ts →
    (t : Term) (A : Ty) → Typed env (C ++ reverse As) t A → wd env (substitute t ts) ≡ substitute (wd env t) ts

-- and so do types
abbrev pub ConditionOfInstance : Type 0
ConditionOfInstance = (env : Env) → IsWellFormed env → (C : List Ty) (t : Term) (A : Ty) → Typed env C t A → (As : Tys) →
    wd env (instance t As) ≡ instance (wd env t) As

-- over an environment of which that of the term is a part, the condition is the same
abbrev pub ConditionOverWhole : Type 0
ConditionOverWhole = (e f : Env) → IsPartOf e f → HasDistinctNames f → (C : List Ty) (t : Term) (A : Ty) → Typed e C t A → wd f t ≡ wd e t
