-- When an event is refused, and why: the first cause that holds.
use Rattle.std.specs.Prelude.{Ok, Err, ◌&&◌, Bool as Boolean, true, not, List, [], ◌∷◌, Option, Some, None, find, bytes_eq, if◌then◌else◌, is_some}
use Rattle.ev_typing.specs.Env.{Name}
use Rattle.ev_script.specs.declared.events.Event.{Event}
use Rattle.ev_script.specs.declared.events.Event.TheVariants.{Put, Remove, Proof, Deploy, Withdraw, Status as StatusEvent, Show}
use Rattle.ev_project.specs.declared.replies.Cause.{Cause}
use Rattle.ev_project.specs.declared.replies.Cause.TheVariants as cause
use Rattle.ev_project.specs.declared.projects.TheoryText.{TheoryText}
use Rattle.ev_project.specs.Projects.{Project, has_text, is_marked}
use Rattle.ev_project.specs.Texts.{is_among}
use Rattle.ev_project.specs.Contents.{Elaboration, Contents, imports}
use Rattle.ev_project.specs.Scopes.{find_sequent}

-- the first of some causes
abbrev pub first_cause : List (Option Cause) → Option Cause
first_cause [] = None
first_cause (Some c ∷ cs) = Some c
first_cause (None ∷ cs) = first_cause cs

-- the cause, where the test holds
abbrev pub caused : Boolean → Cause → Option Cause
caused b c = if b then Some c else None

-- the fault of a theory
abbrev pub fault_cause : Elaboration → Option Cause
fault_cause (Err fault) = Some (cause.Faulty fault.0 fault.1)
fault_cause (Ok t) = None

-- an import that is not deployed
abbrev pub not_deployed_cause : Option Name → Option Cause
not_deployed_cause None = None
not_deployed_cause (Some n) = Some (cause.ImportNotDeployed n)

-- where the theory is deployed: the deployed one that uses it
abbrev pub in_use_cause : Boolean → Option TheoryText → Option Cause
in_use_cause true (Some t) = Some (cause.InUse t.name)
in_use_cause _ _ = None

module _ (p : Project) (v : Contents) where
  -- the first import that is not deployed
  abbrev pub unmarked_import : Name → Option Name
  unmarked_import n = find (λ u. not (is_marked p u)) (imports p v n)

  -- the first other deployed theory that imports it
  abbrev pub user_of : Name → Option TheoryText
  user_of n = find (λ (t : TheoryText). t.marked && (not (bytes_eq t.name n) && is_among (imports p v t.name) n)) p.0

  -- why an event is refused, if it is; of the setting of a text the cause is asked elsewhere
  abbrev pub refusal : Event → Option Cause
  refusal (Put n text) = None
  refusal (Remove n) = first_cause (caused (not (has_text p n)) cause.NoTheory ∷ caused (is_marked p n) cause.StillDeployed ∷ [])
  refusal (Proof s body) = None
  refusal (Deploy n) =
      first_cause (caused (not (has_text p n)) cause.NoTheory ∷ not_deployed_cause (unmarked_import n) ∷ fault_cause (v.elaboration n) ∷ [])
  refusal (Withdraw n) = first_cause (caused (not (has_text p n)) cause.NoTheory ∷ in_use_cause (is_marked p n) (user_of n) ∷ [])
  refusal StatusEvent = None
  refusal (Show s) = caused (not (is_some (find_sequent p v s))) cause.NoSequent
