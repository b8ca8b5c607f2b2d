-- What the calls on a project answer.
use Rattle.std.specs.Prelude.{Ok, Err, ◌≡◌, ℕ, List, [], Option, Some, None, map, false, length}
use Rattle.ev_terms.specs.declared.extents.Extent.{Extent}
use Rattle.ev_typing.specs.declared.typing.Sequent.{Sequent}
use Rattle.ev_typing.specs.Env.{Env, Name}
use Rattle.ev_script.specs.declared.sequent_names.SeqName.{SeqName}
use Rattle.ev_rules.specs.declared.elements.Element.{Element}
use Rattle.ev_proof.specs.declared.steps.Step.{Step}
use Rattle.ev_elab.specs.declared.theories.Theory.{Theory}
use Rattle.ev_elab.specs.declared.theories.TheorySequent.{TheorySequent}
use Rattle.ev_replay.specs.declared.scopes.Scope.{Scope}
use Rattle.ev_replay.specs.declared.scopes.CiteElement.{CiteElement}
use Rattle.ev_project.specs.declared.statuses.Status.{Status}
use Rattle.ev_project.specs.declared.projects.Target.{Target}
use Rattle.ev_project.specs.declared.projects.TheoryText.{TheoryText}
use Rattle.ev_proof.specs.Lines.{AreSteps}
use Rattle.ev_ops.specs.Entries.{env_of}
use Rattle.ev_project.specs.Projects.{Project, find_theory, proof_of}
use Rattle.ev_project.specs.Contents.{Elaboration, Contents, elements_of}
use Rattle.ev_project.specs.Scopes.{IsReadAt, IsRead, cite_scope, scope_elements, find_sequent, goal_sequent}
use Rattle.ev_project.specs.Needs.{needs_of}
use Rattle.ev_project.specs.Statuses.{HasStatus}
use Rattle.ev_project.specs.Bulks.{HasBulk, capped_extent}
use Rattle.ev_project.specs.Words.{head_line}
use Rattle.ev_project.specs.Reports.{IsReport, IsShownWith}

-- a fact of the project and of what its texts are read as
abbrev pub Of : Project → (Contents → Type 0) → Type 0
Of p Fact = (v : Contents) × IsRead p v × Fact v

-- the same of one theory
abbrev pub At : Project → Name → (Contents → Type 0) → Type 0
At p n Fact = (v : Contents) × IsReadAt p v n × Fact v

-- nothing, where there is no such sequent, and else something of it
abbrev pub OfSequent : {X : Type 0} → Project → SeqName → (Contents → TheorySequent → X → Type 0) → Option X → Type 0
OfSequent p name Fact None = At p name.theory (λ v. find_sequent p v name ≡ None)
OfSequent p name Fact (Some x) = At p name.theory (λ v. (s : TheorySequent) × (find_sequent p v name ≡ Some s) × Fact v s x)

abbrev pub IsStatusAnswer : Project → SeqName → Option Status → Type 0
IsStatusAnswer p name o = OfSequent p name (λ v s st. HasStatus p v name st) o

abbrev pub IsBulkAnswer : Project → SeqName → Option Extent → Type 0
IsBulkAnswer p name o = OfSequent p name (λ v s b. (whole : Extent) × HasBulk p v name whole × (b ≡ capped_extent whole)) o

abbrev pub IsReportAnswer : Project → List ℕ → Type 0
IsReportAnswer p text = Of p (λ v. IsReport p v text)

-- the reply that shows a sequent with these bytes as its status
abbrev pub IsShowAnswer : Project → SeqName → List ℕ → Option (List ℕ) → Type 0
IsShowAnswer p name status o = OfSequent p name (λ v s text. IsShownWith p v name status text) o

-- a theory's own line
abbrev pub IsHeadOf : Project → Contents → Option TheoryText → Option (List ℕ) → Type 0
IsHeadOf p v None o = o ≡ None
IsHeadOf p v (Some t) o = o ≡ Some (head_line t (v.elaboration t.name))

abbrev pub IsHeadAnswer : Project → Name → Option (List ℕ) → Type 0
IsHeadAnswer p n o = At p n (λ v. IsHeadOf p v (find_theory p n) o)

-- what the proof of a sequent may cite, and the sequent
abbrev pub IsScopeAnswer : Project → Target → Option Scope → Type 0
IsScopeAnswer p t o = OfSequent p t.name (λ v s cs. cs ≡ cite_scope p v t.name.theory s.element) o

abbrev pub IsSequentAnswer : Project → Target → Option Sequent → Type 0
IsSequentAnswer p t o = OfSequent p t.name (λ v s S. S ≡ goal_sequent s) o

-- what a sequent needs with its stored proof; without a proof nothing
abbrev pub Needed : Project → Contents → SeqName → TheorySequent → Option (List ℕ) → List SeqName → Type 0
Needed p v name s None names = names ≡ []
Needed p v name s (Some body) names = (lines : List (Option Step)) × AreSteps body lines × (names ≡ needs_of p v name.theory s lines)

abbrev pub present : SeqName → Target
present name = record { name = name; copied = false }

abbrev pub IsNeedsAnswer : Project → Target → Option (List Target) → Type 0
IsNeedsAnswer p t o = OfSequent p t.name (λ v s ts. (names : List SeqName) × Needed p v t.name s (proof_of p t.name) names × (ts ≡ map present names)) o

-- of a theory that has a text and is not faulty
abbrev pub OfGood : {X : Type 0} → Option TheoryText → Elaboration → (Theory → X) → Option X → Type 0
OfGood None e value o = o ≡ None
OfGood (Some t) (Err fault) value o = o ≡ None
OfGood (Some t) (Ok theory) value o = o ≡ Some (value theory)

abbrev pub IsElementsAnswer : Project → Name → Option (List Element) → Type 0
IsElementsAnswer p n o = At p n (λ v. OfGood (find_theory p n) (v.elaboration n) (λ t. t.elements) o)

-- the environment of a theory's scope with all its elements
abbrev pub whole_env : Project → Contents → Name → Env
whole_env p v n = env_of (map (λ (c : CiteElement). c.element) (scope_elements p v n (length (elements_of (v.elaboration n)))))

abbrev pub IsEnvAnswer : Project → Name → Option Env → Type 0
IsEnvAnswer p n o = At p n (λ v. OfGood (find_theory p n) (v.elaboration n) (λ t. whole_env p v n) o)
