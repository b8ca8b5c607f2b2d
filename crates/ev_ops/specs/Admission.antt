-- Which operators are admitted: the faults of admission, in their order. That an operator recurs on one argument, and only on what a
-- constructor was made of, is this project's own.
use Rattle.std.specs.Prelude.{◌≡◌, ◌≤◌, ◌<◌, ◌⊎◌, ℕ, List, [], ◌∷◌, Option, Some, None, bytes_eq, IsSomeAnd, count_by, Contains, Result, Ok, Err}
use Rattle.ev_terms.specs.declared.types.Tys.{Tys}
use Rattle.ev_terms.specs.Term.{Term}
use Rattle.ev_terms.specs.Measures.{params}
use Rattle.ev_typing.specs.declared.typing.Signature.{Signature}
use Rattle.ev_typing.specs.declared.typing.DataDecl.{DataDecl}
use Rattle.ev_typing.specs.declared.typing.Con.{Con}
use Rattle.ev_typing.specs.Env.{Env}
use Rattle.ev_typing.specs.WellFormed.{inductive_data}
use Rattle.ev_data.specs.Guarded.{IsGuardedBody}
use Rattle.ev_ops.specs.declared.cases.Case.{Case}
use Rattle.ev_ops.specs.declared.faults.OpFault.{OpFault}
use Rattle.ev_ops.specs.declared.faults.OpFault.TheVariants.{ExtraTypeParameter, Unguarded, MissingCase, RepeatedCase}

-- the term mentions a parameter that is not one of the first n
abbrev pub MentionsExtra : ℕ → Term → Type 0
MentionsExtra n t = n < params t

-- so does a condition that is there
abbrev pub ConditionMentionsExtra : ℕ → Option Term → Type 0
ConditionMentionsExtra n None = ⊥
ConditionMentionsExtra n (Some P) = MentionsExtra n P

-- the condition or a body mentions a parameter that is not the operator's
abbrev pub HasExtraParam : Signature → Option Term → List Term → Type 0
HasExtraParam sig condition bodies = ConditionMentionsExtra sig.params condition ⊎ ((t : Term) × Contains bodies t × MentionsExtra sig.params t)

-- how many cases name the constructor
abbrev pub case_count : List Case → Con → ℕ
case_count cases c = count_by (λ (k : Case). bytes_eq k.con c.name) cases

-- the bodies of cases
abbrev pub case_bodies : List Case → List Term
case_bodies [] = []
case_bodies (k ∷ cases) = k.body ∷ case_bodies cases

-- a case's body is not guarded
abbrev pub IsUnguarded : Signature → ℕ → DataDecl → Tys → List Case → Type 0
IsUnguarded sig place d As cases =
    (c : Con) × (k : Case) × Contains d.cons c × Contains cases k × (k.con ≡ c.name) × ¬ IsGuardedBody sig place d As c k.body

-- a constructor has no case
abbrev pub MissesCase : DataDecl → List Case → Type 0
MissesCase d cases = (c : Con) × Contains d.cons c × (case_count cases c ≡ 0)

-- a constructor has two
abbrev pub RepeatsCase : DataDecl → List Case → Type 0
RepeatsCase d cases = (c : Con) × Contains d.cons c × (2 ≤ case_count cases c)

-- what admission of a direct operator answers
abbrev pub IsDirectAdmission : Signature → Option Term → Term → Result (Unit {0}) OpFault → Type 0
IsDirectAdmission sig condition body (Ok u) = ¬ HasExtraParam sig condition (body ∷ [])
IsDirectAdmission sig condition body (Err ExtraTypeParameter) = HasExtraParam sig condition (body ∷ [])
IsDirectAdmission sig condition body (Err _) = ⊥

-- of a recursive operator over the datatype at types: the first fault that holds
abbrev pub IsCaseAdmission : Signature → Option Term → ℕ → List Case → DataDecl → Tys → Result (Unit {0}) OpFault → Type 0
IsCaseAdmission sig condition place cases d As (Ok u) =
    ¬ HasExtraParam sig condition (case_bodies cases) × ¬ IsUnguarded sig place d As cases × ¬ MissesCase d cases × ¬ RepeatsCase d cases
IsCaseAdmission sig condition place cases d As (Err ExtraTypeParameter) = HasExtraParam sig condition (case_bodies cases)
IsCaseAdmission sig condition place cases d As (Err Unguarded) = ¬ HasExtraParam sig condition (case_bodies cases) × IsUnguarded sig place d As cases
IsCaseAdmission sig condition place cases d As (Err MissingCase) =
    ¬ HasExtraParam sig condition (case_bodies cases) × ¬ IsUnguarded sig place d As cases × MissesCase d cases
IsCaseAdmission sig condition place cases d As (Err RepeatedCase) =
    ¬ HasExtraParam sig condition (case_bodies cases) × ¬ IsUnguarded sig place d As cases × ¬ MissesCase d cases × RepeatsCase d cases

abbrev pub IsRecursiveAdmission : Env → Signature → Option Term → ℕ → List Case → Result (Unit {0}) OpFault → Type 0
IsRecursiveAdmission env sig condition place cases r =
    IsSomeAnd (inductive_data env sig place) (λ p. IsCaseAdmission sig condition place cases p.0 p.1 r)
