-- How large a sequent's proof becomes once all direct operators are unfolded: a size and a depth, each by itself the greatest, as numbers
-- that do not stand still.
use Rattle.std.specs.Prelude.{◌≡◌, List, [], ◌∷◌, Option, Some, None, map, max}
use Rattle.ev_terms.specs.declared.extents.Extent.{Extent}
use Rattle.ev_terms.specs.Term.{Term}
use Rattle.ev_terms.specs.Measures.{size, depth, capped}
use Rattle.ev_typing.specs.declared.typing.Sequent.{Sequent}
use Rattle.ev_typing.specs.Sequents.{sequent_size, sequent_depth}
use Rattle.ev_script.specs.declared.sequent_names.SeqName.{SeqName}
use Rattle.ev_proof.specs.declared.steps.Step.{Step}
use Rattle.ev_replay.specs.declared.scopes.Scope.{Scope}
use Rattle.ev_replay.specs.declared.steps.Outcome.{Outcome}
use Rattle.ev_elab.specs.declared.theories.TheorySequent.{TheorySequent}
use Rattle.ev_replay.specs.Replay.{Trace}
use Rattle.ev_ops.specs.Unfold.{unfolded, unfolded_sequent}
use Rattle.ev_project.specs.Projects.{Project, proof_of}
use Rattle.ev_project.specs.Contents.{Contents}
use Rattle.ev_project.specs.Scopes.{cite_scope, find_sequent, goal_sequent}
use Rattle.ev_project.specs.Needs.{needs_of}
use Rattle.ev_project.specs.Statuses.{IsReplayed}

abbrev pub extent_of : Term → Extent
extent_of t = record { size = size t; depth = depth t }

abbrev pub sequent_extent : Sequent → Extent
sequent_extent S = record { size = sequent_size S; depth = sequent_depth S }

-- the greater size and the greater depth
abbrev pub greater : Extent → Extent → Extent
greater a b = record { size = max a.size b.size; depth = max a.depth b.depth }

-- the greatest of a list, 0 of none
abbrev pub greatest : List Extent → Extent
greatest [] = record { size = 0; depth = 0 }
greatest (a ∷ rest) = greater a (greatest rest)

-- as the numbers are kept and printed
abbrev pub capped_extent : Extent → Extent
capped_extent a = record { size = capped a.size; depth = capped a.depth }

-- of the goals of a replay, the first one included, and of the formulas that it cites, all unfolded
abbrev pub replay_extent : Scope → Sequent → Trace → Extent
replay_extent cs S t =
    greater (greatest (map (λ g. sequent_extent (unfolded_sequent cs.env g)) (S ∷ t.goals)))
    (greatest (map (λ F. extent_of (unfolded cs.env F)) t.cited))

module _ (p : Project) (v : Contents) where
  mutual
    -- the bulk of a sequent, with that of what it needs; one without a proof needs nothing
    pub data HasBulk : SeqName → Extent → Type 0 where
      unproved : (name : SeqName) (s : TheorySequent) → find_sequent p v name ≡ Some s → proof_of p name ≡ None
          → HasBulk name (sequent_extent (unfolded_sequent (cite_scope p v name.theory s.element).env (goal_sequent s)))
      replayed : (name : SeqName) (s : TheorySequent) (lines : List (Option Step)) (t : Trace) (o : Outcome)
          → IsReplayed p v name s lines t o
          → (bs : List Extent) → HaveBulks (needs_of p v name.theory s lines) bs
          → HasBulk name (greater (replay_extent (cite_scope p v name.theory s.element) (goal_sequent s) t) (greatest bs))

    -- the bulks of several sequents
    pub data HaveBulks : List SeqName → List Extent → Type 0 where
      no_bulks : HaveBulks [] []
      more_bulks : (name : SeqName) (names : List SeqName) (b : Extent) (bs : List Extent)
          → HasBulk name b → HaveBulks names bs → HaveBulks (name ∷ names) (b ∷ bs)
