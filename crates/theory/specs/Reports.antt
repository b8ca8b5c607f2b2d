-- The status of a theorem, and the report of a script. Every line ends with one LF, the byte 10.
use Rattle.std.specs.Prelude.{◌≡◌, ◌++◌, ◌&&◌, ◌==◌, ℕ, Bool, List, [], ◌∷◌, Option, Some, None, bytes_eq, codes, decimal, find, if◌then◌else◌, length, reverse}
use Rattle.std.specs.List.{AllZip}
use Rattle.ev_terms.specs.declared.types.Tys.{Empty}
use Rattle.ev_terms.specs.Term.{Term}
use Rattle.ev_typing.specs.declared.typing.Sequent.{Sequent}
use Rattle.ev_kernel.specs.Derivable.{Derivable}
use Rattle.theory.specs.declared.steps.Step.{Step}
use Rattle.theory.specs.declared.steps.Outcome.{Outcome}
use Rattle.theory.specs.declared.steps.Outcome.TheVariants as outcome
use Rattle.theory.specs.declared.reports.Status.{Status}
use Rattle.theory.specs.declared.reports.Status.TheVariants.{NoProof, Broken, Partial, Proved}
use Rattle.theory.specs.declared.theorems.Theorem.{Theorem}
use Rattle.theory.specs.declared.script.StoredProof.{StoredProof}
use Rattle.theory.specs.declared.script.Theory.{Theory}
use Rattle.theory.specs.declared.script.Script.{Script}
use Rattle.theory.specs.Steps.{Replays}
use Rattle.theory.specs.Scripts.{IsScript}

-- a formula as a goal without context and hypotheses
abbrev pub closed : Term → Sequent
closed P = record { context = Empty; hyps = []; goal = P }

-- the proof is for the theory's theorem of this label
abbrev pub is_for : List ℕ → List ℕ → StoredProof → Bool
is_for theory label p = bytes_eq p.theory theory && bytes_eq p.label label

-- a proof without steps takes away what was stored
abbrev pub kept_steps : Option StoredProof → Option (List Step)
kept_steps None = None
kept_steps (Some p) = if length p.steps == 0 then None else Some p.steps

-- the steps that are stored for a theorem: those of the last proof for it
abbrev pub stored_steps : List StoredProof → List ℕ → List ℕ → Option (List Step)
stored_steps proofs theory label = kept_steps (find (is_for theory label) (reverse proofs))

-- the status that an outcome gives
abbrev pub status_of : Outcome → Status
status_of outcome.Complete = Proved
status_of (outcome.Partial k) = Partial k
status_of (outcome.Broken n) = Broken n

-- the status of a formula with these stored steps
abbrev pub IsStatus : Option (List Step) → Term → Status → Type 0
IsStatus None P st = st ≡ NoProof
IsStatus (Some steps) P st = (o : Outcome) × Replays [] (closed P) steps o × (st ≡ status_of o)

abbrev pub HasStatus : List StoredProof → List ℕ → Theorem → Status → Type 0
HasStatus proofs theory t st = IsStatus (stored_steps proofs theory t.label) t.goal st

-- a theorem that is proved is derivable by the base rules, in the environment that declares nothing
abbrev pub IsJustified : Theorem → Status → Type 0
IsJustified t st = st ≡ Proved → Derivable [] (closed t.goal)

-- a status as printed
abbrev pub status_text : Status → List ℕ
status_text NoProof = codes "open"
status_text (Broken n) = codes "broken " ++ decimal n
status_text (Partial k) = codes "partial " ++ decimal k
status_text Proved = codes "proved"

-- `theory NAME present ok`
abbrev pub theory_line : List ℕ → List ℕ
theory_line name = codes "theory " ++ name ++ codes " present ok" ++ 10 ∷ []

-- `THEORY/LABEL/THM STATUS`
abbrev pub theorem_line : List ℕ → Theorem → Status → List ℕ
theorem_line theory t st = theory ++ codes "/" ++ t.label ++ codes "/THM " ++ status_text st ++ 10 ∷ []

abbrev pub theorem_lines : List ℕ → List Theorem → List Status → List ℕ
theorem_lines theory (t ∷ ts) (st ∷ sts) = theorem_line theory t st ++ theorem_lines theory ts sts
theorem_lines theory _ _ = []

-- The report of a theory with these stored proofs: its own line, and one for each theorem with its status; and each theorem that is
-- printed `proved` is derivable.
pub record IsTheoryReport (t : Theory) (proofs : List StoredProof) (text : List ℕ) : Type 0 where
  pub statuses : List Status
  pub are : AllZip (HasStatus proofs t.name) t.theorems statuses
  pub written : text ≡ theory_line t.name ++ theorem_lines t.name t.theorems statuses
  pub justified : AllZip IsJustified t.theorems statuses

-- a script without a theory has an empty report
abbrev pub IsReportOf : Option Theory → List StoredProof → List ℕ → Type 0
IsReportOf None proofs text = text ≡ []
IsReportOf (Some t) proofs text = IsTheoryReport t proofs text

-- the text is the report of the script that the bytes are
pub record IsReport (bytes text : List ℕ) : Type 0 where
  pub script : Script
  pub is : IsScript bytes script
  pub report : IsReportOf script.theory script.proofs text
