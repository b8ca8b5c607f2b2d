-- What some tokens are, as a step.
use Rattle.std.specs.Prelude.{◌≡◌, false, List, [], Option, Some, None}
use Rattle.ev_syntax.specs.Tokens.{Token}
use Rattle.ev_proof.specs.declared.steps.Step.{Step}
use Rattle.ev_proof.specs.Steps.{ReadsStep}
use Rattle.ev_proof.specs.Depths.{step_deep}

-- all the tokens are the step, in which nothing is nested too deeply
abbrev pub IsShallow : List Token → Step → Type 0
IsShallow ts step = ReadsStep step ts [] × (step_deep step ≡ false)

-- what all the tokens are: a step, or none
abbrev pub StepOf : List Token → Option Step → Type 0
StepOf ts None = (step : Step) → ¬ IsShallow ts step
StepOf ts (Some step) = IsShallow ts step
