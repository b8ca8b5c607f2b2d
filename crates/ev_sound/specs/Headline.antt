-- What the status `proved` of a sequent of a project means.
use Rattle.std.specs.Prelude.{◌≡◌, Some}
use Rattle.ev_script.specs.declared.sequent_names.SeqName.{SeqName}
use Rattle.ev_elab.specs.declared.theories.TheorySequent.{TheorySequent}
use Rattle.ev_project.specs.declared.statuses.Status.TheVariants.{Proved}
use Rattle.ev_project.specs.Projects.{Project}
use Rattle.ev_project.specs.Contents.{Contents}
use Rattle.ev_project.specs.Scopes.{cite_scope, find_sequent, IsReadAt}
use Rattle.ev_project.specs.Kept.{IsKept}
use Rattle.ev_project.specs.Statuses.{HasStatus}
use Rattle.ev_sound.specs.Unfoldings.{HoldsUnfolded}

-- Law: where the status of a sequent is `proved`, its unfolded goal is derivable by the base rules over the environment of its scope without
-- definitions and conditions.
abbrev pub ProvedIsDerivable : Type 0
ProvedIsDerivable = (p : Project) (v : Contents) (name : SeqName) (s : TheorySequent) → IsKept p → IsReadAt p v name.theory → find_sequent p v name ≡ Some s → HasStatus p v name Proved →
    HoldsUnfolded (cite_scope p v name.theory s.element).env s.goal
