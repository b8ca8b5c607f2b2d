-- The steps undone, from the last one on, on the stack that they leave.
use Rattle.std.specs.Prelude.{◌≡◌, ◌≢◌, ◌↔◌, ◌++◌, Bool as Boolean, true, false, List, [], ◌∷◌, Option, Some, None, reverse}
use Rattle.std.specs.Option.{option_and_then}
use Rattle.ev_terms.specs.Term.{Term}
use Rattle.ev_axioms.specs.declared.steps.Step.{Step}
use Rattle.ev_axioms.specs.inner.Building.{stepped}

-- the stack after all steps
abbrev pub ran : List Step → List Term → Option (List Term)
ran [] ts = Some ts
ran (s ∷ ss) ts = option_and_then (ran ss) (stepped s ts)

-- the step makes the term of these alone, the last of which stands first on the stack
abbrev pub IsMadeOf : Step → Term → List Term → Type 0
IsMadeOf s t cs = (vs ts : List Term) → (stepped s vs ≡ Some (t ∷ ts)) ↔ (vs ≡ reverse cs ++ ts)

-- the step does not make the term
abbrev pub IsNotMade : Step → Term → Type 0
IsNotMade s t = (vs ts : List Term) → stepped s vs ≢ Some (t ∷ ts)

-- the step leaves the one stack where it was the other one before, and nowhere else
abbrev pub IsUndone : Boolean → Step → List Term → List Term → Type 0
IsUndone true s ts us = (vs : List Term) → (stepped s vs ≡ Some ts) ↔ (vs ≡ us)
IsUndone false s ts us = (vs : List Term) → stepped s vs ≢ Some ts
