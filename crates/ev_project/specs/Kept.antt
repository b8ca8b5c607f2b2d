-- What holds of each project.
use Rattle.std.specs.Prelude.{◌^◌, ◌<◌, length, map, bytes_eq, ⊤}
use Rattle.std.specs.List.{AllByRecursion, IsDistinct}
use Rattle.ev_script.specs.declared.events.Event.{Event}
use Rattle.ev_script.specs.declared.events.Event.TheVariants.{Put, Remove, Proof, Deploy, Withdraw, Status, Show}
use Rattle.ev_project.specs.declared.projects.TheoryText.{TheoryText}
use Rattle.ev_project.specs.declared.projects.StoredProof.{StoredProof}
use Rattle.ev_project.specs.Projects.{Project, same_sequent}
use Rattle.ev_project.specs.Texts.{IsAcyclic}
use Rattle.ev_project.specs.Graphs.{theory_names}

-- each theory has one text and each sequent's name one proof, and no imports go in a circle
pub record IsOrderly (p : Project) : Type 0 where
  pub one_text : IsDistinct bytes_eq (theory_names p)
  pub one_proof : IsDistinct same_sequent (map (λ (q : StoredProof). q.name) p.1)
  pub acyclic : IsAcyclic p

-- and all texts and proofs are short
pub record IsKept (p : Project) : Type 0 where
  pub orderly : IsOrderly p
  pub texts : AllByRecursion (λ (t : TheoryText). length t.text < 2 ^ 32) p.0
  pub bodies : AllByRecursion (λ (q : StoredProof). length q.body < 2 ^ 32) p.1

-- the text that an event brings is short
abbrev pub IsShort : Event → Type 0
IsShort (Put n text) = length text < 2 ^ 32
IsShort (Remove n) = ⊤
IsShort (Proof s body) = length body < 2 ^ 32
IsShort (Deploy n) = ⊤
IsShort (Withdraw n) = ⊤
IsShort Status = ⊤
IsShort (Show s) = ⊤
