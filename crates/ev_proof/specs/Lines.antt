-- The lines of a proof.
use Rattle.std.specs.Prelude.{◌≡◌, ℕ, false, not, List, [], Option, Some, None, filter}
use Rattle.std.specs.List.{AllZip, list_any}
use Rattle.bstr.specs.Text.{lines_of}
use Rattle.ev_syntax.specs.Chars.{are_blanks}
use Rattle.ev_syntax.specs.Tokens.{Token, Tokens, is_too_large}
use Rattle.ev_proof.specs.declared.steps.Step.{Step}
use Rattle.ev_proof.specs.Steps.{ReadsStep}
use Rattle.ev_proof.specs.Depths.{step_deep}

-- the line has tokens, none of which is too large a number, and all of them are the step, in which nothing is nested too deeply
pub record IsStep (line : List ℕ) (step : Step) : Type 0 where
  pub tokens : List Token
  pub good : Tokens line tokens
  pub numbers : list_any is_too_large tokens ≡ false
  pub reads : ReadsStep step tokens []
  pub shallow : step_deep step ≡ false

-- the line is this step, or no step
abbrev pub IsStepLine : List ℕ → Option Step → Type 0
IsStepLine line None = (step : Step) → ¬ IsStep line step
IsStepLine line (Some step) = IsStep line step

-- the lines that are not blank
abbrev pub proof_lines : List ℕ → List (List ℕ)
proof_lines body = filter (λ line. not (are_blanks line)) (lines_of body)

-- one entry for each of them, in order
abbrev pub AreSteps : List ℕ → List (Option Step) → Type 0
AreSteps body steps = AllZip IsStepLine (proof_lines body) steps
