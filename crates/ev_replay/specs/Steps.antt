-- The proof steps: what fits, and which subgoals a step gives. Those that are no steps by base rules stand here.
use Rattle.std.specs.Prelude.{◌≡◌, ◌≢◌, List, [], ◌∷◌, Some}
use Rattle.std.specs.List.{AllByRecursion}
use Rattle.ev_terms.specs.declared.types.Tys.{Empty}
use Rattle.ev_terms.specs.Term.{Term}
use Rattle.ev_typing.specs.declared.typing.Sequent.{Sequent}
use Rattle.ev_proof.specs.declared.steps.Step.{Step}
use Rattle.ev_proof.specs.declared.steps.Step.TheVariants.{Axiom, Theorem, Assume, Dis, Infer, Rewrite, Cases, Unfold, Fold, Recur, Con, Open}
use Rattle.ev_replay.specs.declared.scopes.Scope.{Scope}
use Rattle.ev_replay.specs.declared.steps.Applied.{Applied}
use Rattle.ev_replay.specs.declared.steps.Applied.TheVariants.{Goals, Left, Refused}
use Rattle.ev_rules.specs.declared.elements.Element.TheVariants as element
use Rattle.ev_data.specs.Closed.{distinctness_row}
use Rattle.ev_axioms.specs.Axioms.{axiom_row}
use Rattle.ev_typing.specs.Env.{Name}
use Rattle.ev_typing.specs.Typing.{IsSequent}
use Rattle.ev_typing.specs.Sequents.{IsWithin}
use Rattle.ev_rules.specs.Params.{params_of}
use Rattle.ev_replay.specs.Scopes.{cited}
use Rattle.ev_replay.specs.RuleSteps.{GivesByRule}
use Rattle.ev_replay.specs.StepForms.{Cites, ByInference, ByRewriting, ByCases, ByUnfolding, ByFolding, ByRecursion, ByDestructor}

module _ (cs : Scope) where
  -- the step fits the goal sequent S, gives these subgoals, and cites these closed formulas and their instances
  abbrev pub Gives : Sequent → Step → List Sequent → List Term → Type 0
  Gives S (Axiom k cite) gs used = (gs ≡ []) × ((P : Term) × (axiom_row k ≡ Some P) × Cites cs S (params_of (P ∷ []) Empty) P cite used)
  Gives S (Theorem ref cite) gs used = (gs ≡ []) × ((P : Term) × (label : Name) × (cited cs ref ≡ Some (element.Theorem label P)) × Cites cs S (params_of (P ∷ []) Empty) P cite used)
  Gives S (Assume ref cite) gs used = (gs ≡ []) × ((P : Term) × (label : Name) × (cited cs ref ≡ Some (element.Axiom label P)) × Cites cs S (params_of (P ∷ []) Empty) P cite used)
  Gives S (Dis left right cite) gs used = (gs ≡ []) × ((P : Term) × (distinctness_row cs.env left right ≡ Some P) × Cites cs S (params_of (P ∷ []) Empty) P cite used)
  Gives S (Infer ref cite) gs used = ByInference cs S ref cite gs used
  Gives S (Rewrite ref i place cite) gs used = ByRewriting cs S ref i place cite gs used
  Gives S (Cases ref place cite) gs used = ByCases cs S ref place cite gs used
  Gives S (Recur place) gs used = ByRecursion cs S place gs used
  Gives S (Con place) gs used = ByDestructor cs S place gs used
  Gives S (Unfold place) gs used = ByUnfolding cs S place gs × (used ≡ [])
  Gives S (Fold n place cite) gs used = ByFolding cs S n place cite gs × (used ≡ [])
  Gives S step gs used = GivesByRule cs.env cs.params S step gs × (used ≡ [])

  -- each subgoal is well typed, and within the limits of goals
  pub record GivesWithin (S : Sequent) (step : Step) (gs : List Sequent) (used : List Term) : Type 0 where
    pub gives : Gives S step gs used
    pub typed : AllByRecursion (IsSequent cs.env) gs
    pub small : AllByRecursion (IsWithin 65536 512) gs

  -- what a step does to its goal, with the closed formulas that it cites
  abbrev pub Applies : Sequent → Step → Applied → List Term → Type 0
  Applies S step (Goals gs) used = GivesWithin S step gs used
  Applies S step Left used = (step ≡ Open) × (used ≡ [])
  Applies S step Refused used = (step ≢ Open) × ((gs : List Sequent) (us : List Term) → ¬ GivesWithin S step gs us) × (used ≡ [])
