-- The laws of projects, as they are told.
use Rattle.ev_project.specs.Contents.{imports}
use Rattle.ev_project.specs.Laws.{GraphsAreAcyclic, ReachedAreInOrder, ScopesAreReached, TheoriesAreSound, ScopesAreSound}
use Rattle.ev_project.proofs.GraphLaws.{no_cycles}
use Rattle.ev_project.proofs.AcyclicLaws.{import_of_read}
use Rattle.ev_project.proofs.OrderLaws.{in_order}
use Rattle.ev_project.proofs.ScopeLaws.{scope_is, scope_sound, theory_sound}

pub graphs_acyclic : GraphsAreAcyclic
graphs_acyclic p v acyclic read = no_cycles p (imports p v) (import_of_read p v.raw_elements read) acyclic

pub reached_in_order : ReachedAreInOrder
reached_in_order p v acyclic read n = in_order p (imports p v) (graphs_acyclic p v acyclic read) n

pub scopes_reached : ScopesAreReached
scopes_reached p v n here = scope_is p v n here

pub scopes_sound : TheoriesAreSound → ScopesAreSound
scopes_sound sound = record {
  scopes = λ p v n kept read here. scope_sound sound p v kept read.elements_read n read.below here;
  theories = λ p v n kept read here. theory_sound sound p v kept read.elements_read n read.below here read.elaborated;
}
