-- The faults of admission as the code tests them.
use Rattle.std.specs.Prelude.{◌≡◌, ◌≤◌, ◌<◌, ◌+◌, ◌==◌, ◌||◌, ℕ, nat_lt, Bool as Boolean, false, List, Option, Some, None, length, drop, slice_get, Contains, Result, Ok, Err}
use Rattle.ev_terms.specs.declared.types.Ty.{Ty, Data as DataType}
use Rattle.ev_terms.specs.declared.types.Tys.{Tys}
use Rattle.ev_terms.specs.Types.{type_list}
use Rattle.ev_terms.specs.Term.{Term, Terms, var, lit, node, nil, cons}
use Rattle.ev_terms.specs.Measures.{params}
use Rattle.ev_typing.specs.declared.typing.Signature.{Signature}
use Rattle.ev_typing.specs.declared.typing.DataDecl.{DataDecl}
use Rattle.ev_typing.specs.declared.typing.Con.{Con}
use Rattle.ev_typing.specs.TypeLists.{own_types}
use Rattle.ev_typing.specs.Env.{Name}
use Rattle.ev_typing.specs.Typing.{var_type}
use Rattle.ev_typing.specs.WellFormed.{case_context}
use Rattle.ev_data.specs.Guarded.{is_named, IsVarOf, IsGuarded, AreGuarded, seen_under}
use Rattle.ev_ops.specs.Admission.{IsUnguarded, MissesCase, RepeatsCase, case_count}
use Rattle.ev_ops.specs.declared.faults.OpFault.{OpFault}
use Rattle.ev_ops.specs.declared.faults.OpFault.TheVariants.{ExtraTypeParameter, Unguarded, MissingCase, RepeatedCase}
use Rattle.ev_ops.specs.declared.cases.Case.{Case}

-- how many arguments stand behind the inductive place
abbrev pub behind : Signature → ℕ → ℕ
behind sig place = length (drop (place + 1) (type_list sig.args))

-- the variable is one of the constructor's, and has the type
abbrev pub IsOwnVar : Signature → ℕ → Ty → Tys → Con → ℕ → Type 0
IsOwnVar sig place own As c i =
    (behind sig place ≤ i) × (i < behind sig place + length c.fields) × (var_type (case_context sig place As c) i ≡ Some own)

-- and so from under more binders
abbrev pub IsSeenVar : Signature → ℕ → Ty → Tys → Con → ℕ → ℕ → Type 0
IsSeenVar sig place own As c depth = seen_under depth (IsOwnVar sig place own As c)

-- a call at types and on arguments is at the operator's own parameters, and on such a variable
abbrev pub IsSeen : Signature → ℕ → Ty → Tys → Con → ℕ → Tys → List Term → Type 0
IsSeen sig place own As c depth Bs ts = (Bs ≡ own_types sig.params) × IsVarOf (IsSeenVar sig place own As c depth) (slice_get ts place)

-- under so many binders every call of the operator is so
abbrev pub IsGuardedUnder : Signature → ℕ → Ty → Tys → Con → ℕ → Term → Type 0
IsGuardedUnder sig place own As c depth t = IsGuarded sig place (IsSeenVar sig place own As c depth) t

abbrev pub AreGuardedUnder : Signature → ℕ → Ty → Tys → Con → ℕ → Terms → Type 0
AreGuardedUnder sig place own As c depth ts = AreGuarded sig place (IsSeenVar sig place own As c depth) ts

abbrev mutual
  -- the operator of the name is called in the term
  pub calls : Name → Term → Boolean
  calls n (var i) = false
  calls n (lit k) = false
  calls n (node s As ts) = is_named n s || some_call n ts

  pub some_call : Name → Terms → Boolean
  some_call n nil = false
  some_call n (cons t ts) = calls n t || some_call n ts

-- a case of the constructor that is not guarded
abbrev pub IsUnguardedCase : Signature → ℕ → Ty → Tys → Con → Case → Type 0
IsUnguardedCase sig place own As c k = (k.con ≡ c.name) × ¬ IsGuardedUnder sig place own As c 0 k.body

-- one of some cases is such
abbrev pub HasUnguarded : Signature → ℕ → Ty → Tys → Con → List Case → Type 0
HasUnguarded sig place own As c cases = (k : Case) × Contains cases k × IsUnguardedCase sig place own As c k

-- for one of some constructors
abbrev pub AnyUnguarded : Signature → ℕ → Ty → Tys → List Case → List Con → Type 0
AnyUnguarded sig place own As cases cs = (c : Con) × Contains cs c × HasUnguarded sig place own As c cases

-- the type at the inductive place is the datatype at the types
abbrev pub IsInductiveAt : Signature → ℕ → DataDecl → Tys → Type 0
IsInductiveAt sig place d As = slice_get (type_list sig.args) place ≡ Some (DataType d.name As)

-- a condition or a case mentions a parameter that is not one of the first n
abbrev pub condition_exceeds : ℕ → Option Term → Boolean
condition_exceeds n None = false
condition_exceeds n (Some P) = nat_lt n (params P)

abbrev pub case_exceeds : ℕ → Case → Boolean
case_exceeds n k = nat_lt n (params k.body)

-- what the cases answer, where no parameter is extra
abbrev pub IsCaseAnswer : Signature → ℕ → List Case → DataDecl → Tys → Result (Unit {0}) OpFault → Type 0
IsCaseAnswer sig place cases d As (Ok u) = ¬ IsUnguarded sig place d As cases × ¬ MissesCase d cases × ¬ RepeatsCase d cases
IsCaseAnswer sig place cases d As (Err ExtraTypeParameter) = ⊥
IsCaseAnswer sig place cases d As (Err Unguarded) = IsUnguarded sig place d As cases
IsCaseAnswer sig place cases d As (Err MissingCase) = ¬ IsUnguarded sig place d As cases × MissesCase d cases
IsCaseAnswer sig place cases d As (Err RepeatedCase) = ¬ IsUnguarded sig place d As cases × ¬ MissesCase d cases × RepeatsCase d cases

-- a constructor has no case, and two
abbrev pub misses : List Case → Con → Boolean
misses cases c = case_count cases c == 0

abbrev pub repeats : List Case → Con → Boolean
repeats cases c = nat_lt 1 (case_count cases c)
