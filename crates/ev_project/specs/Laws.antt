-- Laws of projects.
use Rattle.std.specs.Prelude.{◌≡◌, ◌<◌, ◌^◌, ℕ, Ok, true, List, map, length}
use Rattle.ev_typing.specs.Env.{Name}
use Rattle.ev_script.specs.declared.events.Event.{Event}
use Rattle.ev_theory_text.specs.declared.elements.RawElement.{RawElement}
use Rattle.ev_theory_text.specs.Theories.{IsTheory as IsTheoryText}
use Rattle.ev_elab.specs.declared.theories.Reached.{Reached}
use Rattle.ev_elab.specs.declared.theories.Theory.{Theory}
use Rattle.ev_elab.specs.States.{all_reached, scope_env_of}
use Rattle.ev_elab.specs.Scopes.{IsScope}
use Rattle.ev_elab.specs.Elaborated.{IsTheory, IsSoundTheory}
use Rattle.ev_project.specs.declared.replies.Reply.{Reply}
use Rattle.ev_project.specs.Projects.{Project, has_text}
use Rattle.ev_project.specs.Texts.{AreRead, IsAcyclic}
use Rattle.ev_project.specs.Contents.{Contents, imports}
use Rattle.ev_project.specs.Graphs.{reached_names, HasNoCycles}
use Rattle.ev_project.specs.Orders.{AreInOrder}
use Rattle.ev_project.specs.Scopes.{reached_theory, scope, cite_scope, IsReadAt}
use Rattle.ev_project.specs.Kept.{IsOrderly, IsKept, IsShort}
use Rattle.ev_project.specs.Next.{IsNext, IsProjectOf}

-- an event leaves a project as projects are
abbrev pub NextIsOrderly : Type 0
NextIsOrderly = (p q : Project) (e : Event) (r : Reply) → IsOrderly p → IsNext p e q r → IsOrderly q

abbrev pub NextIsKept : Type 0
NextIsKept = (p q : Project) (e : Event) (r : Reply) → IsKept p → IsShort e → IsNext p e q r → IsKept q

-- in each project that events lead to each theory has one text and each sequent's name one proof, and no imports go in a circle
abbrev pub ProjectsAreOrderly : Type 0
ProjectsAreOrderly = (es : List Event) (p : Project) → IsProjectOf es p → IsOrderly p

-- the graph of imports of a project without circles has no cycle
abbrev pub GraphsAreAcyclic : Type 0
GraphsAreAcyclic = (p : Project) (v : Contents) → IsAcyclic p → AreRead p v.raw_elements → HasNoCycles p (imports p v)

-- the theories that a theory of it reaches stand in order
abbrev pub ReachedAreInOrder : Type 0
ReachedAreInOrder = (p : Project) (v : Contents) → IsAcyclic p → AreRead p v.raw_elements → (n : Name) → AreInOrder p (imports p v) n

-- and those of its scope are these, import by import
abbrev pub ScopesAreReached : Type 0
ScopesAreReached = (p : Project) (v : Contents) (n : Name) → has_text p n ≡ true → all_reached (scope p v n) ≡ map (reached_theory p v) (reached_names p (imports p v) n)

-- and the environment of what a proof may cite is that of the scope and of the theory's elements up to the sequent's own
abbrev pub EnvsAreOfScopes : Type 0
EnvsAreOfScopes =
    (p : Project) (v : Contents) (n : Name) (T : Theory) (k : ℕ) → has_text p n ≡ true → v.elaboration n ≡ Ok T → (cite_scope p v n k).env ≡ scope_env_of (scope p v n) T k

-- Of elaboration: theories are sound, where they come of texts of fewer than 2^32 bytes over scopes that are such.
abbrev pub TheoriesAreSound : Type 0
TheoriesAreSound =
    (text : List ℕ) (s : List (List Reached)) (raws : List RawElement) (T : Theory) → length text < 2 ^ 32 → IsTheoryText text raws → IsScope s raws → IsTheory s raws T
    → IsSoundTheory s T

-- Then each scope of a project is such, and its theories are sound.
pub record ScopesAreSound : Type 0 where
  pub scopes : (p : Project) (v : Contents) (n : Name) → IsKept p → IsReadAt p v n → has_text p n ≡ true → IsScope (scope p v n) (v.raw_elements n)
  pub theories : (p : Project) (v : Contents) (n : Name) → IsKept p → IsReadAt p v n → has_text p n ≡ true → (T : Theory) → v.elaboration n ≡ Ok T
      → IsSoundTheory (scope p v n) T
