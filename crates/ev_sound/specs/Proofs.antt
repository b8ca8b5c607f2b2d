-- What a complete proof means.
use Rattle.std.specs.Prelude.{◌≡◌, ℕ, List, Option, Some, IsTrue, ⊤}
use Rattle.std.specs.List.{AllByRecursion}
use Rattle.ev_terms.specs.Types.{type_list}
use Rattle.ev_terms.specs.Term.{Term}
use Rattle.ev_forms.specs.Forms.{forall_all}
use Rattle.ev_typing.specs.declared.typing.Sequent.{Sequent}
use Rattle.ev_typing.specs.Env.{Name}
use Rattle.ev_typing.specs.Typing.{IsSequent}
use Rattle.ev_typing.specs.WellFormed.{IsWellFormed}
use Rattle.ev_kernel.specs.Derivable.{numbered}
use Rattle.ev_rules.specs.declared.elements.Element.TheVariants.{Theorem, Rewrite, Inference}
use Rattle.ev_rules.specs.declared.elements.InferenceRule.{InferenceRule}
use Rattle.ev_rules.specs.declared.elements.RewriteRule.{RewriteRule}
use Rattle.ev_rules.specs.declared.elements.Branch.{Branch}
use Rattle.ev_oblig.specs.Obligations.{inference_formula, branch_formula, complete_formula}
use Rattle.ev_proof.specs.declared.steps.Ref.{Ref}
use Rattle.ev_proof.specs.declared.steps.Step.{Step}
use Rattle.ev_proof.specs.declared.steps.Step.TheVariants.{Assume}
use Rattle.ev_replay.specs.declared.scopes.Scope.{Scope}
use Rattle.ev_replay.specs.declared.steps.Outcome.TheVariants.{Complete}
use Rattle.ev_replay.specs.Scopes.{IsScope, cited}
use Rattle.ev_replay.specs.Steps.{Gives}
use Rattle.ev_replay.specs.Replay.{Trace, Replays, step_ref}
use Rattle.ev_sound.specs.Unfoldings.{HasDerivableUnfolding, HaveDerivableUnfoldings, HoldsUnfolded}

-- what a label means in a scope holds, once it is unfolded: a theorem, or that a rule is sound and covers all cases
pub record LabelIsEstablished (cs : Scope) (ref : Ref) : Type 0 where
  pub theorem : (label : Name) (P : Term) → cited cs ref ≡ Some (Theorem label P) → HoldsUnfolded cs.env P
  pub inference : (r : InferenceRule) → cited cs ref ≡ Some (Inference r) → HoldsUnfolded cs.env (forall_all (type_list r.vars) (inference_formula r.givens r.conclusion))
  pub branches : (r : RewriteRule) (i : ℕ) (b : Branch) → cited cs ref ≡ Some (Rewrite r) → numbered r.branches i ≡ Some b → HoldsUnfolded cs.env (forall_all (type_list r.vars) (branch_formula cs.env r b))
  pub complete : (r : RewriteRule) → cited cs ref ≡ Some (Rewrite r) → IsTrue r.complete → HoldsUnfolded cs.env (forall_all (type_list r.vars) (complete_formula r))

-- the label that a step cites is established
abbrev pub CitesEstablished : Scope → Step → Type 0
CitesEstablished cs step = (ref : Ref) → step_ref step ≡ Some ref → LabelIsEstablished cs ref

-- those that lines cite are
abbrev pub CiteEstablished : Scope → List (Option Step) → Type 0
CiteEstablished cs lines = AllByRecursion (λ (l : Option Step). (step : Step) → l ≡ Some step → CitesEstablished cs step) lines

-- the step leans on an axiomatic element
abbrev pub LeansOnAxiom : Step → Type 0
LeansOnAxiom (Assume ref cite) = ⊤
LeansOnAxiom _ = ⊥

-- no line does
abbrev pub NoLineLeans : List (Option Step) → Type 0
NoLineLeans lines = AllByRecursion (λ (l : Option Step). (step : Step) → l ≡ Some step → ¬ LeansOnAxiom step) lines

-- a step is sound: where the subgoals that it gives have derivable unfoldings, the goal has one
abbrev pub StepIsSound : Scope → Step → Type 0
StepIsSound cs step = (S : Sequent) (gs : List Sequent) (used : List Term) → IsSequent cs.env S → AllByRecursion (IsSequent cs.env) gs → Gives cs S step gs used → HaveDerivableUnfoldings cs.env gs → HasDerivableUnfolding cs.env S

-- Law: each step of the table but `assume` is sound where what it cites is established.
abbrev pub StepsAreSound : Type 0
StepsAreSound = (cs : Scope) → IsScope cs → IsWellFormed cs.env → (step : Step) → CitesEstablished cs step → ¬ LeansOnAxiom step → StepIsSound cs step

-- Law: a complete proof that does not lean on axiomatic elements, and cites what is established, makes its sequent, unfolded, derivable.
abbrev pub CompleteIsSound : Type 0
CompleteIsSound = (cs : Scope) → IsScope cs → IsWellFormed cs.env → (S : Sequent) → IsSequent cs.env S → (lines : List (Option Step)) (t : Trace) → CiteEstablished cs lines → NoLineLeans lines →
    Replays cs S lines t Complete → HasDerivableUnfolding cs.env S
