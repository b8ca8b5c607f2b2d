-- When inference answers what.
use Rattle.std.specs.Prelude.{◌≡◌, ℕ, false, List, map, reverse, Option, Some, Result, Ok, Err, ⊤}
use Rattle.ev_terms.specs.declared.extents.Extent.{Extent}
use Rattle.ev_terms.specs.declared.types.Ty.{Ty}
use Rattle.ev_terms.specs.Term.{Term}
use Rattle.ev_syntax.specs.Raw.{Raw}
use Rattle.ev_typing.specs.declared.typing.Var.{Var}
use Rattle.ev_typing.specs.Env.{Env}
use Rattle.ev_typing.specs.Typing.{Typed}
use Rattle.ev_infer.specs.declared.faults.InferFault.{InferFault}
use Rattle.ev_infer.specs.declared.faults.InferFault.TheVariants.{Unknown, Taken, IllTyped, Ambiguous, TooLarge, NoMemory}
use Rattle.ev_resolve.specs.Reading.{Variable}
use Rattle.ev_infer.specs.Annotates as annotates
use Rattle.ev_resolve.specs.Resolve.{known_of, forget, resolve}
use Rattle.ev_resolve.specs.Bare.{Bare}
use Rattle.ev_resolve.specs.TakenNames.{takes_name}
use Rattle.ev_infer.specs.Inference.{HasNoAnnotation, HasTwoAnnotations, IsOnlyAnnotation}

-- a variable whose name a text can use
abbrev pub variable : Var → Variable
variable v = record { name = Some v.name; type = v.ty }

abbrev pub variables : List Var → List Variable
variables vars = map variable vars

-- Where these variables stand, the outermost first, at the type that is asked, where one is.
module _ (env : Env) (params : List (List ℕ)) (vars : List Var) (raw : Raw) where
  -- a name is not in scope
  abbrev pub IsUnknown : Type 0
  IsUnknown = annotates.IsUnknown params (known_of env) (Typed env) (variables vars) raw

  -- a binder has a formula name
  abbrev pub IsTaken : Type 0
  IsTaken = annotates.IsTaken params (known_of env) (Typed env) (variables vars) raw

  module _ (expected : Option Ty) where
    -- no annotation exists
    abbrev pub IsIllTyped : Type 0
    IsIllTyped = annotates.IsIllTyped params (known_of env) (Typed env) (variables vars) raw expected

    -- two exist
    abbrev pub IsAmbiguous : Type 0
    IsAmbiguous = annotates.IsAmbiguous params (known_of env) (Typed env) (variables vars) raw expected

    -- the only one has a size or a depth above the limit
    abbrev pub IsTooLarge : Extent → Type 0
    IsTooLarge limit = (t : Term) × annotates.IsTooLarge params (known_of env) (Typed env) (variables vars) raw expected limit.size limit.depth t

    -- the only one, within the limit
    abbrev pub IsAnnotated : Extent → Term → Type 0
    IsAnnotated limit t = annotates.IsAnswer params (known_of env) (Typed env) (variables vars) raw expected limit.size limit.depth t

    -- what is answered of the annotations alone, where no name is unknown and none is taken
    abbrev pub IsFound : Extent → Result Term InferFault → Type 0
    IsFound limit (Ok t) = IsOnlyAnnotation env params (variables vars) raw expected t × ¬ annotates.IsPast limit.size limit.depth t
    IsFound limit (Err Unknown) = ⊥
    IsFound limit (Err Taken) = ⊥
    IsFound limit (Err IllTyped) = HasNoAnnotation env params (variables vars) raw expected
    IsFound limit (Err Ambiguous) = HasTwoAnnotations env params (variables vars) raw expected
    IsFound limit (Err TooLarge) = (t : Term) × IsOnlyAnnotation env params (variables vars) raw expected t × annotates.IsPast limit.size limit.depth t
    IsFound limit (Err NoMemory) = ⊤

    -- the answer is so
    abbrev pub IsAnswer : Extent → Result Term InferFault → Type 0
    IsAnswer limit (Ok t) = IsAnnotated limit t
    IsAnswer limit (Err Unknown) = IsUnknown
    IsAnswer limit (Err Taken) = IsTaken
    IsAnswer limit (Err IllTyped) = IsIllTyped
    IsAnswer limit (Err Ambiguous) = IsAmbiguous
    IsAnswer limit (Err TooLarge) = IsTooLarge limit
    IsAnswer limit (Err NoMemory) = ⊤

-- the same of what a bare term gives, in whatever type parameters it is that of the raw tree
abbrev pub IsFoundOf : Env → List Var → Raw → Bare → Option Ty → Extent → Result Term InferFault → Type 0
IsFoundOf env vars raw b expected limit r =
    (params : List (List ℕ)) → takes_name env params raw ≡ false → resolve params (known_of env) raw (map forget (reverse (variables vars))) ≡ Some b → IsFound env params vars raw expected limit r
