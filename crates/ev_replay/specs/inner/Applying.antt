-- What is found of a step before its subgoals are looked at.
use Rattle.std.specs.Prelude.{List, Option}
use Rattle.std.specs.List.{AllByRecursion}
use Rattle.ev_terms.specs.Term.{Term}
use Rattle.ev_typing.specs.declared.typing.Sequent.{Sequent}
use Rattle.ev_typing.specs.Typing.{IsSequent}
use Rattle.ev_proof.specs.declared.steps.Step.{Step}
use Rattle.ev_replay.specs.declared.scopes.Scope.{Scope}
use Rattle.ev_replay.specs.Steps.{Gives}
use Rattle.ev_replay.specs.inner.Finding.{OnlyAmong}

module _ (cs : Scope) (S : Sequent) (step : Step) where
  -- the subgoals that the step gives, where they are well typed
  abbrev pub Found : Option (List Sequent) → Type 0
  Found o = OnlyAmong (AllByRecursion (IsSequent cs.env)) (λ gs. (used : List Term) × Gives cs S step gs used) o
