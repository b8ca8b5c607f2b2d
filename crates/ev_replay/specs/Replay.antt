-- The replay of a proof: each step is applied to the first goal.
use Rattle.std.specs.Prelude.{◌≡◌, ◌+◌, ◌++◌, ◌&&◌, ℕ, zero, suc, Bool as Boolean, List, [], ◌∷◌, Option, Some, None, length, bytes_eq, fold, if◌then◌else◌}
use Rattle.std.specs.List.{list_any}
use Rattle.ev_terms.specs.Term.{Term}
use Rattle.ev_typing.specs.declared.typing.Sequent.{Sequent}
use Rattle.ev_proof.specs.declared.steps.Ref.{Ref}
use Rattle.ev_proof.specs.declared.steps.Step.{Step}
use Rattle.ev_proof.specs.declared.steps.Step.TheVariants.{Theorem, Assume, Infer, Rewrite, Cases}
use Rattle.ev_replay.specs.declared.scopes.Scope.{Scope}
use Rattle.ev_replay.specs.declared.steps.Applied.{Applied}
use Rattle.ev_replay.specs.declared.steps.Applied.TheVariants.{Goals, Left, Refused}
use Rattle.ev_replay.specs.declared.steps.Outcome.{Outcome}
use Rattle.ev_replay.specs.declared.steps.Outcome.TheVariants.{Complete, Partial, Broken}
use Rattle.ev_replay.specs.Steps.{Applies}

-- what came up in a replay: how many steps were applied, the goals that they gave, and the closed formulas that they cited, with
-- their instances
pub record Trace : Type 0 where
  pub applied : ℕ
  pub goals : List Sequent
  pub cited : List Term

-- nothing came up
abbrev pub no_trace : Trace
no_trace = record { applied = 0; goals = []; cited = [] }

-- one step was applied, which gave and cited nothing
abbrev pub one_step : Trace
one_step = record { applied = 1; goals = []; cited = [] }

-- what a step gave and cited, and then the rest
abbrev pub traced : List Sequent → List Term → Trace → Trace
traced gs used t = record { applied = 1 + t.applied; goals = gs ++ t.goals; cited = used ++ t.cited }

-- the outcome where no step is broken and k goals are left
abbrev pub outcome_with : ℕ → Outcome
outcome_with zero = Complete
outcome_with (suc k) = Partial (suc k)

-- what follows step n, which did this to the first goal, where k goals were left and `goals` stand behind it;
-- `Rest` is the replay of the later lines, from a number left and a list of goals
abbrev pub AfterStep : ℕ → Applied → List Term → ℕ → List Sequent → (ℕ → List Sequent → Trace → Outcome → Type 0) → Trace → Outcome → Type 0
AfterStep n (Goals gs) used k goals Rest t o = (later : Trace) × Rest k (gs ++ goals) later o × (t ≡ traced gs used later)
AfterStep n Left used k goals Rest t o = (later : Trace) × Rest (k + 1) goals later o × (t ≡ traced [] [] later)
AfterStep n Refused used k goals Rest t o = (t ≡ one_step) × (o ≡ Broken n)

module _ (cs : Scope) where
  -- the replay of the lines from number n on, after k goals were left, on a list of goals; a line that is no step is `None`
  abbrev pub ReplaysFrom : ℕ → ℕ → List Sequent → List (Option Step) → Trace → Outcome → Type 0
  ReplaysFrom n k goals [] t o = (t ≡ no_trace) × (o ≡ outcome_with (k + length goals))
  ReplaysFrom n k goals (None ∷ lines) t o = (t ≡ no_trace) × (o ≡ Broken n)
  ReplaysFrom n k [] (Some step ∷ lines) t o = (t ≡ no_trace) × (o ≡ Broken n)
  ReplaysFrom n k (S ∷ goals) (Some step ∷ lines) t o =
      (a : Applied) × (used : List Term) × Applies cs S step a used
      × AfterStep n a used k goals (λ k' goals' t' o'. ReplaysFrom (n + 1) k' goals' lines t' o') t o

  -- the replay of all lines, numbered from 1, on one sequent
  abbrev pub Replays : Sequent → List (Option Step) → Trace → Outcome → Type 0
  Replays S lines t o = ReplaysFrom 1 0 (S ∷ []) lines t o

-- the label that a step cites
abbrev pub step_ref : Step → Option Ref
step_ref (Theorem r c) = Some r
step_ref (Assume r c) = Some r
step_ref (Infer r c) = Some r
step_ref (Rewrite r i place c) = Some r
step_ref (Cases r place c) = Some r
step_ref _ = None

abbrev pub same_ref : Ref → Ref → Boolean
same_ref a b = bytes_eq a.theory b.theory && bytes_eq a.label b.label

-- a label behind the ones cited before, unless it is there
abbrev pub with_ref : List Ref → Ref → List Ref
with_ref refs r = if list_any (same_ref r) refs then refs else refs ++ r ∷ []

abbrev pub with_step : List Ref → Option Ref → List Ref
with_step refs None = refs
with_step refs (Some r) = with_ref refs r

-- with that of a line, where it is a step that cites one
abbrev pub with_line : List Ref → Option Step → List Ref
with_line refs None = refs
with_line refs (Some step) = with_step refs (step_ref step)

-- the labels that the lines cite, in order of first citation
abbrev pub cites : List (Option Step) → List Ref
cites lines = fold with_line [] lines
