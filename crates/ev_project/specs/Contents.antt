-- What the texts of a project are elaborated to.
use Rattle.std.specs.Prelude.{ℕ, Result, Ok, Err, List, []}
use Rattle.ev_typing.specs.Env.{Name}
use Rattle.ev_theory_text.specs.declared.elements.RawElement.{RawElement}
use Rattle.ev_rules.specs.declared.elements.Element.{Element}
use Rattle.ev_elab.specs.declared.theories.Kind.{Kind}
use Rattle.ev_elab.specs.declared.theories.Reached.{Reached}
use Rattle.ev_elab.specs.declared.theories.Theory.{Theory}
use Rattle.ev_elab.specs.declared.theories.TheorySequent.{TheorySequent}
use Rattle.ev_elab.specs.Elaborated.{IsTheory, IsFaulty}
use Rattle.ev_project.specs.Projects.{Project}
use Rattle.ev_project.specs.Texts.{imports_by}

-- a theory, or the first fault with the number of its element
abbrev pub Elaboration : Type 0
Elaboration = Result Theory (ℕ × Kind)

-- elements over a scope are elaborated to this
abbrev pub IsElaboration : List (List Reached) → List RawElement → Elaboration → Type 0
IsElaboration scope raws (Ok theory) = IsTheory scope raws theory
IsElaboration scope raws (Err fault) = IsFaulty scope raws fault.0 fault.1

-- by the theories' names: the elements of the text, and what they are elaborated to
pub record Contents : Type 0 where
  pub raw_elements : Name → List RawElement
  pub elaboration : Name → Elaboration

-- a faulty theory gives no elements
abbrev pub elements_of : Elaboration → List Element
elements_of (Err fault) = []
elements_of (Ok theory) = theory.elements

-- nor sequents
abbrev pub sequents_of : Elaboration → List TheorySequent
sequents_of (Err fault) = []
sequents_of (Ok theory) = theory.sequents

-- the imports of a theory, each once
abbrev pub imports : Project → Contents → Name → List Name
imports p v n = imports_by p v.raw_elements n
