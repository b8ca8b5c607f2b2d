-- The theory that elements are, or its first fault.
use Rattle.std.specs.Prelude.{◌≡◌, ◌+◌, ◌++◌, ◌⊎◌, ℕ, List, [], ◌∷◌, Option, Some, None, map, take, slice_get, ⊤}
use Rattle.ev_theory_text.specs.declared.elements.RawElement.{RawElement}
use Rattle.ev_rules.specs.declared.elements.Element.{Element}
use Rattle.ev_typing.specs.Env.{Env, Name}
use Rattle.ev_data.specs.Sound.{IsSound}
use Rattle.ev_ops.specs.Entries.{with_element, with_elements, env_of}
use Rattle.ev_ops.specs.Formulas.{MayFollowAll}
use Rattle.ev_oblig.specs.declared.named.Named.{Named}
use Rattle.ev_oblig.specs.Obligations.{obligations}
use Rattle.ev_elab.specs.declared.theories.Kind.{Kind}
use Rattle.ev_elab.specs.declared.theories.Kind.TheVariants as kind
use Rattle.ev_elab.specs.declared.theories.Reached.{Reached}
use Rattle.ev_elab.specs.declared.theories.Theory.{Theory}
use Rattle.ev_elab.specs.declared.theories.TheorySequent.{TheorySequent}
use Rattle.ev_elab.specs.DeclaredNames.{obligation_label}
use Rattle.ev_elab.specs.States.{State, start, after, after_all, reached_elements}
use Rattle.ev_elab.specs.Imports.{taken_import}
use Rattle.ev_elab.specs.Faults.{HasFault, IsElement}

-- the sequents of an element, by its number and its label
abbrev pub sequent : ℕ → Name → Named → TheorySequent
sequent n label o = record { element = n; label = label; kind = o.kind; goal = o.goal }

abbrev pub element_sequents : Env → ℕ → Element → Option Name → List TheorySequent
element_sequents env n e None = []
element_sequents env n e (Some label) = map (sequent n label) (obligations env e)

-- those of the elements, numbered from n on, each over the entries up to it
abbrev pub sequents_from : Env → ℕ → List Element → List TheorySequent
sequents_from env n [] = []
sequents_from env n (e ∷ es) = element_sequents (with_element env e) n e (obligation_label e) ++ sequents_from (with_element env e) (n + 1) es

-- each part is the element, after the elements before it
abbrev pub AreElements : State → List RawElement → List Element → Type 0
AreElements s [] [] = ⊤
AreElements s (raw ∷ raws) (e ∷ es) = IsElement s raw e × AreElements (after s e) raws es
AreElements s _ _ = ⊥

-- no import is taken, no element is faulty, and these are the elements with their obligations
pub record IsTheory (scope : List (List Reached)) (raws : List RawElement) (T : Theory) : Type 0 where
  pub free : taken_import scope raws ≡ None
  pub elements : AreElements (start scope) raws T.elements
  pub sequents : T.sequents ≡ sequents_from (env_of (reached_elements scope)) 1 T.elements

-- no import is taken, and behind n elements without a fault stands one whose first fault is of the kind
pub record IsFirstFault (scope : List (List Reached)) (raws : List RawElement) (n : ℕ) (k : Kind) : Type 0 where
  pub free : taken_import scope raws ≡ None
  pub before : List Element
  pub elements : AreElements (start scope) (take n raws) before
  pub raw : RawElement
  pub stands : slice_get raws n ≡ Some raw
  pub fault : HasFault (after_all (start scope) before) raw k

-- the first import that is taken; else the first faulty element with the first kind that holds. Numbers are from 1.
abbrev pub IsFaulty : List (List Reached) → List RawElement → ℕ → Kind → Type 0
IsFaulty scope raws n k =
    ((taken_import scope raws ≡ Some n) × (k ≡ kind.Taken)) ⊎ ((before : ℕ) × (n ≡ before + 1) × IsFirstFault scope raws before k)

-- the elements of the scope, and then those of the theory, are typed, admitted and within the limits, each over those before it, and the
-- environments that they make are sound
pub record IsSoundTheory (scope : List (List Reached)) (T : Theory) : Type 0 where
  pub scope_follows : MayFollowAll [] (reached_elements scope)
  pub scope_sound : IsSound (env_of (reached_elements scope))
  pub follow : MayFollowAll (env_of (reached_elements scope)) T.elements
  pub sound : IsSound (with_elements (env_of (reached_elements scope)) T.elements)

-- Laws: there is one theory, and one fault, and not both.
pub record ElaborationIsOne : Type 0 where
  pub theory : (scope : List (List Reached)) (raws : List RawElement) (T U : Theory) → IsTheory scope raws T → IsTheory scope raws U → T ≡ U
  pub fault : (scope : List (List Reached)) (raws : List RawElement) (n m : ℕ) (k l : Kind) → IsFaulty scope raws n k → IsFaulty scope raws m l → (n ≡ m) × (k ≡ l)
  pub either : (scope : List (List Reached)) (raws : List RawElement) (T : Theory) (n : ℕ) (k : Kind) → IsTheory scope raws T → ¬ IsFaulty scope raws n k
