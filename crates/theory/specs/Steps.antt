-- Proof steps: how they are written, and what they do to a goal.
use Rattle.std.specs.Prelude.{◌≡◌, ◌≢◌, ◌+◌, ◌++◌, ◌⊎◌, ℕ, zero, suc, List, [], ◌∷◌, Option, Some, None, bytes_eq, codes, if◌then◌else◌, length}
use Rattle.std.specs.List.{AllByRecursion, AllZip}
use Rattle.ev_typing.specs.declared.typing.Entry.{Entry}
use Rattle.ev_typing.specs.declared.typing.Sequent.{Sequent}
use Rattle.ev_typing.specs.Sequents.{IsWithin}
use Rattle.ev_kernel.specs.declared.rules.BaseRule.{BaseRule}
use Rattle.ev_kernel.specs.declared.rules.BaseRule.TheVariants as rule
use Rattle.ev_kernel.specs.Row.{Row}
use Rattle.theory.specs.declared.steps.Step.{Step}
use Rattle.theory.specs.declared.steps.Step.TheVariants.{Hyp, TrueI, AndI, OrI1, OrI2, ImpI, Open}
use Rattle.theory.specs.declared.steps.Applied.{Applied}
use Rattle.theory.specs.declared.steps.Applied.TheVariants.{Goals, Left, Refused}
use Rattle.theory.specs.declared.steps.Outcome.{Outcome}
use Rattle.theory.specs.declared.steps.Outcome.TheVariants.{Complete, Partial, Broken}
use Rattle.theory.specs.Words.{trimmed, full_lines}
use Rattle.theory.specs.Formulas.{size_limit}

-- the step that a word is
abbrev pub step_of : List ℕ → Option Step
step_of word =
    if bytes_eq word (codes "hyp") then Some Hyp else
    (if bytes_eq word (codes "truei") then Some TrueI else
    (if bytes_eq word (codes "andi") then Some AndI else
    (if bytes_eq word (codes "ori1") then Some OrI1 else
    (if bytes_eq word (codes "ori2") then Some OrI2 else
    (if bytes_eq word (codes "impi") then Some ImpI else
    (if bytes_eq word (codes "open") then Some Open else None))))))

-- the line is the step, with blanks before and behind it
abbrev pub IsStep : List ℕ → Step → Type 0
IsStep line step = step_of (trimmed line) ≡ Some step

-- each line that is not blank is a step
abbrev pub AreSteps : List (List ℕ) → List Step → Type 0
AreSteps lines steps = AllZip IsStep (full_lines lines) steps

-- the base rule that a step reads from its conclusion up to its premises
abbrev pub rule_of : Step → Option BaseRule
rule_of Hyp = Some rule.Hyp
rule_of TrueI = Some rule.TrueI
rule_of AndI = Some rule.AndI
rule_of OrI1 = Some rule.OrI1
rule_of OrI2 = Some rule.OrI2
rule_of ImpI = Some rule.ImpI
rule_of Open = None

-- the greatest depth of a goal; its size is bounded as that of a formula is
abbrev pub depth_limit : ℕ
depth_limit = 512

-- the goal follows by the step's rule from the subgoals
abbrev pub ReadsUp : List Entry → Sequent → Step → List Sequent → Type 0
ReadsUp env goal step subgoals = (r : BaseRule) × (rule_of step ≡ Some r) × Row env subgoals r goal

-- the same, where the subgoals keep the limits
pub record GivesGoals (env : List Entry) (goal : Sequent) (step : Step) (subgoals : List Sequent) : Type 0 where
  pub follows : ReadsUp env goal step subgoals
  pub small : AllByRecursion (IsWithin size_limit depth_limit) subgoals

-- what a step does to a goal: it gives subgoals, `open` leaves the goal aside, or it gives none
abbrev pub Applies : List Entry → Sequent → Step → Applied → Type 0
Applies env goal step (Goals subgoals) = GivesGoals env goal step subgoals
Applies env goal step Left = step ≡ Open
Applies env goal step Refused = (step ≢ Open) × ((subgoals : List Sequent) → GivesGoals env goal step subgoals → ⊥)

-- the outcome where no step is broken and k goals are left
abbrev pub outcome_with : ℕ → Outcome
outcome_with zero = Complete
outcome_with (suc k) = Partial (suc k)

-- where k goals were left aside and `goals` stand behind the first: what a step that did this to the first leaves of them
abbrev pub Leaves : Applied → ℕ → List Sequent → ℕ → List Sequent → Type 0
Leaves (Goals subgoals) k goals k' goals' = (k' ≡ k) × (goals' ≡ subgoals ++ goals)
Leaves Left k goals k' goals' = (k' ≡ k + 1) × (goals' ≡ goals)
Leaves Refused k goals k' goals' = ⊥

-- the step, applied to the first goal, leads from k goals left aside and the goals behind it to these
abbrev pub Advances : List Entry → ℕ → List Sequent → Sequent → Step → ℕ → List Sequent → Type 0
Advances env k goals goal step k' goals' = (a : Applied) × Applies env goal step a × Leaves a k goals k' goals'

-- the replay of steps from number n on, after k goals were left aside: each is applied to the first goal, and its subgoals take its place
abbrev pub ReplaysFrom : List Entry → ℕ → ℕ → List Sequent → List Step → Outcome → Type 0
ReplaysFrom env n k goals [] o = o ≡ outcome_with (k + length goals)
ReplaysFrom env n k [] (step ∷ steps) o = o ≡ Broken n
ReplaysFrom env n k (goal ∷ goals) (step ∷ steps) o =
    (Applies env goal step Refused × (o ≡ Broken n))
    ⊎ ((k' : ℕ) × (goals' : List Sequent) × Advances env k goals goal step k' goals' × ReplaysFrom env (n + 1) k' goals' steps o)

-- the replay of all steps, numbered from 1, on one goal
abbrev pub Replays : List Entry → Sequent → List Step → Outcome → Type 0
Replays env goal steps o = ReplaysFrom env 1 0 (goal ∷ []) steps o
