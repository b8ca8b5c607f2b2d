-- The status of a sequent: a recursion, since each sequent that it needs stands earlier.
use Rattle.std.specs.Prelude.{◌≡◌, ◌++◌, ℕ, Bool as Boolean, true, false, List, [], ◌∷◌, Option, Some, None, filter, flat_map}
use Rattle.std.specs.List.{AllByRecursion}
use Rattle.ev_script.specs.declared.sequent_names.SeqName.{SeqName}
use Rattle.ev_proof.specs.declared.steps.Ref.{Ref}
use Rattle.ev_proof.specs.declared.steps.Step.{Step}
use Rattle.ev_replay.specs.declared.scopes.Scope.{Scope}
use Rattle.ev_replay.specs.declared.steps.Outcome.{Outcome}
use Rattle.ev_replay.specs.declared.steps.Outcome.TheVariants as outcome
use Rattle.ev_elab.specs.declared.theories.TheorySequent.{TheorySequent}
use Rattle.ev_project.specs.declared.statuses.Status.{Status}
use Rattle.ev_project.specs.declared.statuses.Status.TheVariants.{NoProof, Broken, Partial, Leans, Assumed, Proved}
use Rattle.ev_proof.specs.declared.steps.Step.TheVariants.{Assume}
use Rattle.ev_proof.specs.Lines.{AreSteps}
use Rattle.ev_replay.specs.Replay.{Trace, Replays}
use Rattle.ev_project.specs.Projects.{Project, proof_of}
use Rattle.ev_project.specs.Contents.{Contents}
use Rattle.ev_project.specs.Scopes.{cite_scope, find_sequent, goal_sequent}
use Rattle.ev_project.specs.Needs.{has_ref, axioms, needs_of}

-- proved or assumed
abbrev pub is_fine : Status → Boolean
is_fine Proved = true
is_fine (Assumed axioms) = true
is_fine _ = false

-- the axioms that stand in a status
abbrev pub status_axioms : Status → List Ref
status_axioms (Assumed refs) = refs
status_axioms _ = []

-- those that a step `assume` cites
abbrev pub assume_refs : Option Step → List Ref
assume_refs (Some (Assume ref cite)) = ref ∷ []
assume_refs _ = []

-- the axioms, in the scope's order, that the lines cite by `assume` or that stand in the statuses of what they need
abbrev pub assumed : Scope → List (Option Step) → List Status → List Ref
assumed cs lines sts = filter (has_ref (flat_map assume_refs lines ++ flat_map status_axioms sts)) (axioms cs)

-- the status where nothing is wanting: by which axioms it is assumed, or proved
abbrev pub proved_or_assumed : List Ref → Status
proved_or_assumed [] = Proved
proved_or_assumed (r ∷ rs) = Assumed (r ∷ rs)

module _ (p : Project) (v : Contents) where
  -- a sequent of the project with its stored proof, the lines that it is read as, their replay and its outcome
  pub record IsReplayed (name : SeqName) (s : TheorySequent) (lines : List (Option Step)) (t : Trace) (o : Outcome) : Type 0 where
    pub exists : find_sequent p v name ≡ Some s
    pub body : List ℕ
    pub stored : proof_of p name ≡ Some body
    pub reads : AreSteps body lines
    pub replays : Replays (cite_scope p v name.theory s.element) (goal_sequent s) lines t o

  mutual
    -- the status of a sequent, from its own replay and the statuses of what it needs
    pub data HasStatus : SeqName → Status → Type 0 where
      no_proof : (name : SeqName) (s : TheorySequent) → find_sequent p v name ≡ Some s → proof_of p name ≡ None → HasStatus name NoProof
      broken : (name : SeqName) (s : TheorySequent) (lines : List (Option Step)) (t : Trace) (n : ℕ)
          → IsReplayed name s lines t (outcome.Broken n) → HasStatus name (Broken n)
      partial : (name : SeqName) (s : TheorySequent) (lines : List (Option Step)) (t : Trace) (k : ℕ)
          → IsReplayed name s lines t (outcome.Partial k) → HasStatus name (Partial k)
      -- X is the first needed sequent whose status is neither proved nor assumed
      leans : (name : SeqName) (s : TheorySequent) (lines : List (Option Step)) (t : Trace)
          → IsReplayed name s lines t outcome.Complete
          → (before after : List SeqName) (X : SeqName) → needs_of p v name.theory s lines ≡ before ++ X ∷ after
          → (sts : List Status) → HaveStatuses before sts → AllByRecursion (λ st. is_fine st ≡ true) sts
          → (st : Status) → HasStatus X st → is_fine st ≡ false → HasStatus name (Leans X)
      fine : (name : SeqName) (s : TheorySequent) (lines : List (Option Step)) (t : Trace)
          → IsReplayed name s lines t outcome.Complete
          → (sts : List Status) → HaveStatuses (needs_of p v name.theory s lines) sts → AllByRecursion (λ st. is_fine st ≡ true) sts
          → HasStatus name (proved_or_assumed (assumed (cite_scope p v name.theory s.element) lines sts))

    -- the statuses of several sequents
    pub data HaveStatuses : List SeqName → List Status → Type 0 where
      no_statuses : HaveStatuses [] []
      more_statuses : (name : SeqName) (names : List SeqName) (st : Status) (sts : List Status)
          → HasStatus name st → HaveStatuses names sts → HaveStatuses (name ∷ names) (st ∷ sts)
