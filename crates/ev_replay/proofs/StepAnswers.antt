-- What is found of a step, and what the step does to its goal.
use Rattle.std.specs.Prelude.{◌≡◌, ◌≢◌, ◌↔◌, List, [], Option, Some, None, Result, Ok, Err, IfOk, refl}
use Rattle.std.specs.List.{AllByRecursion}
use Rattle.std.proofs.Common.{sym, subst}
use Rattle.ev_terms.specs.Term.{Term}
use Rattle.ev_typing.specs.declared.typing.Sequent.{Sequent}
use Rattle.ev_typing.specs.Typing.{IsSequent}
use Rattle.ev_typing.specs.Sequents.{IsWithin}
use Rattle.ev_proof.specs.declared.steps.Step.{Step}
use Rattle.ev_proof.specs.declared.steps.Step.TheVariants.{Open}
use Rattle.ev_replay.specs.declared.scopes.Scope.{Scope}
use Rattle.ev_replay.specs.declared.steps.Applied.TheVariants.{Goals, Refused}
use Rattle.ev_replay.specs.RuleSteps.{GivesByRule}
use Rattle.ev_replay.specs.Steps.{Gives, Applies}
use Rattle.ev_replay.specs.inner.Finding.{Only, OnlyAmong}
use Rattle.ev_replay.specs.inner.Applying.{Found}

-- the step gives what it gives as one by a base rule
abbrev pub IsByRule : Scope → Sequent → Step → Type 0
IsByRule cs S s = (gs : List Sequent) (used : List Term) → Gives cs S s gs used ↔ (GivesByRule cs.env cs.params S s gs × (used ≡ []))

widened : (cs : Scope) (S : Sequent) (step : Step) (o : Option (List Sequent)) → IsByRule cs S step → Only (GivesByRule cs.env cs.params S step) o → Found cs S step o
widened cs S step None b f = λ gs g t. f gs ((b gs g.0).0 g.1).0
widened cs S step (Some gs) b f = (([], (b gs []).1 (f.0, refl)), λ hs g t. f.1 hs ((b hs g.0).0 g.1).0)

pub by_step : {E : Type 0} (cs : Scope) (S : Sequent) (step made : Step) (r : Result (Option (List Sequent)) E) → IsByRule cs S made → step ≡ made
    → IfOk r (Only (GivesByRule cs.env cs.params S made)) → IfOk r (Found cs S step)
by_step cs S step made (Ok o) b e h = subst (λ s. Found cs S s o) (sym e) (widened cs S made o b h)
by_step cs S step made (Err x) b e h = h

pub by_step_among : {E : Type 0} (cs : Scope) (S : Sequent) (step made : Step) (r : Result (Option (List Sequent)) E) → IsByRule cs S made → step ≡ made
    → IfOk r (OnlyAmong (AllByRecursion (IsSequent cs.env)) (GivesByRule cs.env cs.params S made)) → IfOk r (Found cs S step)
by_step_among cs S step made (Ok None) b e h = subst (λ s. Found cs S s None) (sym e) (λ gs g t. h gs ((b gs g.0).0 g.1).0 t)
by_step_among cs S step made (Ok (Some gs)) b e h = subst (λ s. Found cs S s (Some gs)) (sym e) (([], (b gs []).1 (h.0, refl)), λ hs g t. h.1 hs ((b hs g.0).0 g.1).0 t)
by_step_among cs S step made (Err x) b e h = h

pub goals_given : (cs : Scope) (S : Sequent) (step : Step) (gs : List Sequent) → Found cs S step (Some gs) → AllByRecursion (IsSequent cs.env) gs × AllByRecursion (IsWithin 65536 512) gs
    → (used : List Term) × Applies cs S step (Goals gs) used
goals_given cs S step gs f k = (f.0.0, record { gives = f.0.1; typed = k.0; small = k.1 })

pub refused_large : (cs : Scope) (S : Sequent) (step : Step) (gs : List Sequent) → step ≢ Open → Found cs S step (Some gs)
    → ¬ (AllByRecursion (IsSequent cs.env) gs × AllByRecursion (IsWithin 65536 512) gs) → (used : List Term) × Applies cs S step Refused used
refused_large cs S step gs n f k = (
  [],
  (
    n,
    (λ hs us g. (let same = f.1 hs (us, g.gives) g.typed in
        k (subst (AllByRecursion (IsSequent cs.env)) same g.typed, subst (AllByRecursion (IsWithin 65536 512)) same g.small))),
    refl,
  ),
)

pub refused_none : (cs : Scope) (S : Sequent) (step : Step) → step ≢ Open → Found cs S step None → (used : List Term) × Applies cs S step Refused used
refused_none cs S step n f = ([], (n, (λ hs us g. f hs (us, g.gives) g.typed), refl))
