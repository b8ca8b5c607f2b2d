-- Refusals, by what texts are read as.
use Rattle.std.specs.Prelude.{Ok, Err, ◌≡◌, Bool as Boolean, true, false, [], ◌∷◌, Some, None, codes, refl, bytes_eq, if◌then◌else◌}
use Rattle.ev_terms.specs.declared.obligation.ObKind.TheVariants.{Thm}
use Rattle.ev_typing.specs.Env.{Name}
use Rattle.ev_theory_text.specs.declared.elements.RawElement.TheVariants.{Read}
use Rattle.ev_theory_text.specs.declared.forms.ElementForm.TheVariants.{Import}
use Rattle.ev_script.specs.declared.events.Event.TheVariants.{Remove, Deploy, Withdraw, Show, Status as StatusEvent}
use Rattle.ev_elab.specs.declared.theories.Kind.TheVariants.{IllTyped}
use Rattle.ev_project.specs.declared.replies.Cause.TheVariants as cause
use Rattle.ev_project.specs.declared.projects.TheoryText.{TheoryText}
use Rattle.ev_project.specs.Projects.{Project}
use Rattle.ev_project.specs.Contents.{Contents}
use Rattle.ev_project.specs.Refusals.{refusal}

abbrev lib : Name
lib = codes "lib"

abbrev far : Name
far = codes "far"

abbrev none : Name
none = codes "zzz"

abbrev theory : Name → Boolean → TheoryText
theory n m = record { name = n; text = []; marked = m }

-- far imports lib; bad is faulty at its second element
abbrev bad : Name
bad = codes "bad"

abbrev contents : Contents
contents = record {
  raw_elements = λ n. if bytes_eq n far then Read (Import lib) ∷ [] else [];
  elaboration = λ n. if bytes_eq n bad then Err (2, IllTyped) else Ok (record { elements = []; sequents = [] });
}

abbrev project : Boolean → Boolean → Project
project lib_marked far_marked = (theory lib lib_marked ∷ theory far far_marked ∷ theory bad false ∷ [], [])

import_first : refusal (project false false) contents (Deploy far) ≡ Some (cause.ImportNotDeployed lib)
import_first = refl

then_deployed : refusal (project true false) contents (Deploy far) ≡ None
then_deployed = refl

faulty_is_refused : refusal (project true false) contents (Deploy bad) ≡ Some (cause.Faulty 2 IllTyped)
faulty_is_refused = refl

in_use : refusal (project true true) contents (Withdraw lib) ≡ Some (cause.InUse far)
in_use = refl

-- an unmarked theory stays so, whoever imports it
unmarked_stays : refusal (project false true) contents (Withdraw lib) ≡ None
unmarked_stays = refl

still_deployed : refusal (project true true) contents (Remove far) ≡ Some cause.StillDeployed
still_deployed = refl

no_theory : refusal (project true true) contents (Deploy none) ≡ Some cause.NoTheory
no_theory = refl

no_sequent : refusal (project true true) contents (Show (record { theory = far; label = none; kind = Thm })) ≡ Some cause.NoSequent
no_sequent = refl

status_is_answered : refusal (project true true) contents StatusEvent ≡ None
status_is_answered = refl
