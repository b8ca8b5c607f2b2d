-- A step of a replay: what it leads to.
use Rattle.std.specs.Prelude.{◌≡◌, ◌+◌, ◌++◌, ℕ, List}
use Rattle.ev_terms.specs.Term.{Term}
use Rattle.ev_typing.specs.declared.typing.Sequent.{Sequent}
use Rattle.ev_proof.specs.declared.steps.Step.{Step}
use Rattle.ev_replay.specs.declared.scopes.Scope.{Scope}
use Rattle.ev_replay.specs.declared.steps.Applied.{Applied}
use Rattle.ev_replay.specs.declared.steps.Applied.TheVariants.{Goals, Left, Refused}
use Rattle.ev_replay.specs.Steps.{Applies}

-- where k goals were left and `goals` stand behind the first: what a step that did this to the first leaves of them
abbrev pub Leaves : Applied → ℕ → List Sequent → ℕ → List Sequent → Type 0
Leaves (Goals gs) k goals k' goals' = (k' ≡ k) × (goals' ≡ gs ++ goals)
Leaves Left k goals k' goals' = (k' ≡ k + 1) × (goals' ≡ goals)
Leaves Refused k goals k' goals' = ⊥

-- the step, applied to the first goal S, leads from k goals left and the goals behind S to these
abbrev pub Advances : Scope → ℕ → List Sequent → Sequent → Step → ℕ → List Sequent → Type 0
Advances cs k goals S step k' goals' = (a : Applied) × (used : List Term) × Applies cs S step a used × Leaves a k goals k' goals'
