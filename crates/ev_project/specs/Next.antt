-- What a project is after an event, and what is replied.
use Rattle.std.specs.Prelude.{⊤, ◌≡◌, ◌⊎◌, ℕ, true, false, List, [], ◌∷◌, Option, Some, None, bytes_eq, if◌then◌else◌}
use Rattle.ev_typing.specs.Env.{Name}
use Rattle.ev_theory_text.specs.declared.elements.RawElement.{RawElement}
use Rattle.ev_theory_text.specs.Theories.{IsTheory, import_names}
use Rattle.ev_script.specs.declared.events.Event.{Event}
use Rattle.ev_script.specs.declared.events.Event.TheVariants.{Put, Remove, Proof, Deploy, Withdraw, Status, Show}
use Rattle.ev_project.specs.declared.replies.Cause.{Cause}
use Rattle.ev_project.specs.declared.replies.Cause.TheVariants.{Cycle}
use Rattle.ev_project.specs.declared.replies.Reply.{Reply}
use Rattle.ev_project.specs.declared.replies.Reply.TheVariants.{Done, Refused, Text}
use Rattle.ev_proof.specs.Lines.{proof_lines}
use Rattle.ev_project.specs.Projects.{Project, empty_project}
use Rattle.ev_project.specs.Texts.{AreRead}
use Rattle.ev_project.specs.Contents.{Contents, imports}
use Rattle.ev_project.specs.Graphs.{IsCycleOf, HasNoCycleAt}
use Rattle.ev_project.specs.Scopes.{IsReadAt, IsRead}
use Rattle.ev_project.specs.Reports.{IsReport, IsShown}
use Rattle.ev_project.specs.Changes.{with_text, without_text, with_mark, with_body}
use Rattle.ev_project.specs.Refusals.{refusal}

-- a refused event changes nothing
pub record IsRefused (p p' : Project) (reply : Reply) (c : Cause) : Type 0 where
  pub same : p' ≡ p
  pub refused : reply ≡ Refused c

-- the project is changed so
pub record IsDone (p' : Project) (reply : Reply) (changed : Project) : Type 0 where
  pub project_is : p' ≡ changed
  pub done : reply ≡ Done

-- a question is answered by a text
pub record IsAnswered (p p' : Project) (reply : Reply) (text : List ℕ) : Type 0 where
  pub same : p' ≡ p
  pub text_is : reply ≡ Text text

-- the effect and the reply of an event that is not refused
abbrev pub TakesEffect : Project → Contents → Event → Project → Reply → Type 0
TakesEffect p v (Put n text) p' reply = IsDone p' reply (with_text p n text)
TakesEffect p v (Remove n) p' reply = IsDone p' reply (without_text p n)
TakesEffect p v (Proof s body) p' reply = IsDone p' reply (with_body p s body (proof_lines body))
TakesEffect p v (Deploy n) p' reply = IsDone p' reply (with_mark p n true)
TakesEffect p v (Withdraw n) p' reply = IsDone p' reply (with_mark p n false)
TakesEffect p v Status p' reply = (text : List ℕ) × IsReport p v text × IsAnswered p p' reply text
TakesEffect p v (Show s) p' reply = (text : List ℕ) × IsShown p v s text × IsAnswered p p' reply text

-- with this cause, if there is one, and else its effect
abbrev pub RefusedOrDone : Option Cause → Project → Contents → Event → Project → Reply → Type 0
RefusedOrDone (Some c) p v e p' reply = IsRefused p p' reply c
RefusedOrDone None p v e p' reply = TakesEffect p v e p' reply

-- the imports once a name has a text with these
abbrev pub imports_with : Project → Contents → Name → List Name → Name → List Name
imports_with p v n new u = if bytes_eq u n then new else imports p v u

-- a text is set where it closes no walk of imports
abbrev pub PutOrCycle : Project → Project → (Name → List Name) → Name → Project → Reply → Type 0
PutOrCycle p q imports n p' reply =
    ((walk : List Name) × IsCycleOf q imports n walk × IsRefused p p' reply (Cycle walk))
    ⊎ (HasNoCycleAt q imports n × IsDone p' reply q)

-- the project after an event and the reply, by what the texts are read as
abbrev pub NextWith : Project → Contents → Event → Project → Reply → Type 0
NextWith p v (Put n text) p' reply =
    (es : List RawElement) × IsTheory text es × PutOrCycle p (with_text p n text) (imports_with p v n (import_names es)) n p' reply
NextWith p v e p' reply = RefusedOrDone (refusal p v e) p v e p' reply

-- the contents are those of the texts, as far as the event needs them
abbrev pub IsReadFor : Project → Contents → Event → Type 0
IsReadFor p v (Deploy n) = IsReadAt p v n
IsReadFor p v Status = IsRead p v
IsReadFor p v (Show s) = IsReadAt p v s.theory
IsReadFor p v (Remove n) = ⊤
IsReadFor p v (Proof s body) = ⊤
IsReadFor p v (Put n text) = AreRead p v.raw_elements
IsReadFor p v (Withdraw n) = AreRead p v.raw_elements

-- the project after an event, and the reply
abbrev pub IsNext : Project → Event → Project → Reply → Type 0
IsNext p e p' reply = (v : Contents) × IsReadFor p v e × NextWith p v e p' reply

-- the project after events, with their replies in order
abbrev pub RunsTo : Project → List Event → Project → List Reply → Type 0
RunsTo p [] p' [] = p' ≡ p
RunsTo p (e ∷ es) p' (r ∷ rs) = (q : Project) × IsNext p e q r × RunsTo q es p' rs
RunsTo p _ p' _ = ⊥

-- the project that events lead to from the empty one
abbrev pub IsProjectOf : List Event → Project → Type 0
IsProjectOf es p = (replies : List Reply) × RunsTo empty_project es p replies
