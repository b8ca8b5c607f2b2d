-- The laws of typing.
use Rattle.std.specs.Prelude.{◌≡◌, ◌++◌, ℕ, List, Some, map, reverse, length}
use Rattle.ev_terms.specs.declared.types.Ty.{Ty}
use Rattle.ev_terms.specs.declared.types.Tys.{Tys}
use Rattle.ev_terms.specs.Term.{Term, terms}
use Rattle.ev_terms.specs.Substitution.{shift, inst, substitute, fill, type_inst, type_at, instance}
use Rattle.ev_typing.specs.Env.{Env}
use Rattle.ev_typing.specs.Typing.{IsProper, AreProper, Typed, AreTyped, var_type}
use Rattle.ev_typing.specs.Proper.{HasProperSignatures}
use Rattle.ev_typing.specs.WellFormed.{IsWellFormed}
use Rattle.ev_typing.specs.Parts.{IsPartOf, HasDistinctNames}

-- a term has at most one type
abbrev pub TypeIsUnique : Type 0
TypeIsUnique = (env : Env) (C : List Ty) (t : Term) (A B : Ty) → Typed env C t A → Typed env C t B → A ≡ B

-- new variables among those of the context, with the term shifted past them
abbrev pub ShiftKeepsTypes : Type 0
ShiftKeepsTypes = (env : Env) (C E D : List Ty) (t : Term) (A : Ty) →
    Typed env (C ++ D) t A → Typed env ((C ++ E) ++ D) (shift t (length D) (length E)) A

-- each variable of the one context becomes a term of its type in the other
abbrev pub Puts : Env → (ℕ → Term) → List Ty → List Ty → Type 0
Puts env σ C D = (i : ℕ) (A : Ty) → var_type C i ≡ Some A → Typed env D (σ i) A

abbrev pub InstKeepsTypes : Type 0
InstKeepsTypes = (env : Env) (σ : ℕ → Term) (C D : List Ty) → Puts env σ C D → (t : Term) (A : Ty) → Typed env C t A → Typed env D (inst σ t) A

-- terms for the innermost variables, the first one for the innermost
abbrev pub SubstitutionKeepsTypes : Type 0
SubstitutionKeepsTypes = (env : Env) (C As : List Ty) (ts : List Term) → AreTyped env C (terms ts) As → (t : Term) (A : Ty) →
    Typed env (C ++ reverse As) t A → Typed env C (substitute t ts) A

-- the same for arguments, of which the first stands for the outermost variable
abbrev pub FillKeepsTypes : Type 0
FillKeepsTypes = (env : Env) (C As : List Ty) (ts : List Term) → AreTyped env C (terms ts) As → (t : Term) (A : Ty) →
    Typed env (C ++ As) t A → Typed env C (fill t ts) A

-- proper types for type parameters
abbrev pub InstanceKeepsTypes : Type 0
InstanceKeepsTypes = (env : Env) → IsWellFormed env → (As : Tys) → AreProper env As → (C : List Ty) (t : Term) (A : Ty) →
    Typed env C t A → Typed env (map (type_inst (type_at As)) C) (instance t As) (type_inst (type_at As) A)

-- what is typed over a part of an environment is typed over the whole
abbrev pub WholeKeepsTypes : Type 0
WholeKeepsTypes = (e f : Env) → IsPartOf e f → HasDistinctNames f → (C : List Ty) (t : Term) (A : Ty) → Typed e C t A → Typed f C t A

-- and a proper type of the part is one of the whole
abbrev pub WholeKeepsProper : Type 0
WholeKeepsProper = (e f : Env) → IsPartOf e f → HasDistinctNames f → (A : Ty) → IsProper e A → IsProper f A

-- the types of each signature are proper, but for `Prop` as the type of a child or of the whole
abbrev pub SignaturesAreProper : Type 0
SignaturesAreProper = (env : Env) → IsWellFormed env → HasProperSignatures env
