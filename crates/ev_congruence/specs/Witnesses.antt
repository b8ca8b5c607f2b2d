-- The lines by which a new variable stands for an idle one.
use Rattle.std.specs.Prelude.{List, [], ◌∷◌}
use Rattle.ev_terms.specs.declared.types.Ty.{Ty, Param}
use Rattle.ev_terms.specs.declared.types.Tys.{Empty}
use Rattle.ev_forms.specs.Forms.{truth, exists}
use Rattle.ev_typing.specs.declared.typing.Sequent.{Sequent}
use Rattle.ev_typing.specs.Sequents.{◌⊢◌, ◌▹◌}
use Rattle.ev_typing.specs.BaseSequents.{under}

-- that each type has an element, at no type in particular
abbrev pub some_element : Sequent
some_element = record { context = Empty; hyps = []; goal = exists (Param 0) truth }

-- that the type has one, in the context of the sequent and without hypotheses
abbrev pub element_at : Sequent → Ty → Sequent
element_at S A = record { context = S.context; hyps = []; goal = exists A truth }

-- the lines that the type has an element, in the context and under the hypotheses of the sequent
abbrev pub inhabiting : Sequent → Ty → List Sequent
inhabiting S A = some_element ∷ element_at S A ∷ (S ⊢ exists A truth) ∷ []

-- the lines from a sequent S to a sequent T, by way of a new variable of the type
abbrev pub idly : Sequent → Sequent → Ty → List Sequent
idly S T A = under S A ∷ (under S A ▹ truth) ∷ (under T A ▹ truth) ∷ T ∷ inhabiting T A
