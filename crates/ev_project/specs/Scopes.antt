-- What the theories of a project reach, what stands in the scope of their elements, and their sequents.
use Rattle.std.specs.Prelude.{◌≡◌, ◌++◌, ℕ, true, List, [], Option, map, flat_map, find, take, if◌then◌else◌}
use Rattle.std.specs.List.{AllByRecursion}
use Rattle.ev_terms.specs.declared.types.Tys.{Empty}
use Rattle.ev_typing.specs.declared.typing.Sequent.{Sequent}
use Rattle.ev_typing.specs.Env.{Name}
use Rattle.ev_script.specs.declared.sequent_names.SeqName.{SeqName}
use Rattle.ev_rules.specs.declared.elements.Element.{Element}
use Rattle.ev_elab.specs.DeclaredNames.{param_names}
use Rattle.ev_replay.specs.declared.scopes.Scope.{Scope}
use Rattle.ev_replay.specs.declared.scopes.CiteElement.{CiteElement}
use Rattle.ev_elab.specs.declared.theories.Reached.{Reached}
use Rattle.ev_elab.specs.declared.theories.TheorySequent.{TheorySequent}
use Rattle.ev_ops.specs.Entries.{env_of}
use Rattle.ev_project.specs.Projects.{Project, has_text, same_sequent}
use Rattle.ev_project.specs.Texts.{AreRead, import_elements}
use Rattle.ev_project.specs.Contents.{Contents, IsElaboration, elements_of, sequents_of, imports}
use Rattle.ev_project.specs.Graphs.{reached_names, names_by_each}

-- elements with the name of their theory
abbrev pub cite_elements : Name → List Element → List CiteElement
cite_elements n es = map (λ e. record { theory = n; element = e }) es

-- an obligation as a sequent: no variables and no hypotheses
abbrev pub goal_sequent : TheorySequent → Sequent
goal_sequent s = record { context = Empty; hyps = []; goal = s.goal }

-- a sequent's full name
abbrev pub sequent_name : Name → TheorySequent → SeqName
sequent_name n s = record { theory = n; label = s.label; kind = s.kind }

module _ (p : Project) (v : Contents) where
  -- a reached theory with its elements
  abbrev pub reached_theory : Name → Reached
  reached_theory n = record { name = n; elements = elements_of (v.elaboration n) }

  -- the scope over which a theory's text is read: for each IMPORT element the theories that are first reached by it
  abbrev pub scope : Name → List (List Reached)
  scope n = map (map reached_theory) (names_by_each p (imports p v) (import_elements (v.raw_elements n)))

  -- the elements of a theory's scope, and its own first ones
  abbrev pub scope_elements : Name → ℕ → List CiteElement
  scope_elements n count =
      flat_map (λ u. cite_elements u (elements_of (v.elaboration u))) (reached_names p (imports p v) n)
      ++ cite_elements n (take count (elements_of (v.elaboration n)))

  -- what the proof of a sequent of the theory's element with this number, from 1, may cite
  abbrev pub cite_scope : Name → ℕ → Scope
  cite_scope n element = record {
    env = env_of (map (λ (c : CiteElement). c.element) (scope_elements n element));
    params = flat_map param_names (take element (elements_of (v.elaboration n)));
    elements = scope_elements n element;
  }

  -- the sequents of a theory that is there and not faulty
  abbrev pub theory_sequents : Name → List TheorySequent
  theory_sequents n = if has_text p n then sequents_of (v.elaboration n) else []

  -- the sequent of a name
  abbrev pub find_sequent : SeqName → Option TheorySequent
  find_sequent name = find (λ s. same_sequent (sequent_name name.theory s) name) (theory_sequents name.theory)

-- a theory that has a text is elaborated so
abbrev pub IsElaborated : Project → Contents → Name → Type 0
IsElaborated p v n = has_text p n ≡ true → IsElaboration (scope p v n) (v.raw_elements n) (v.elaboration n)

-- the contents are those of the texts, as far as the theory and those that it reaches need them
pub record IsReadAt (p : Project) (v : Contents) (n : Name) : Type 0 where
  pub elements_read : AreRead p v.raw_elements
  pub elaborated : IsElaborated p v n
  pub below : AllByRecursion (IsElaborated p v) (reached_names p (imports p v) n)

-- as far as all theories need them
pub record IsRead (p : Project) (v : Contents) : Type 0 where
  pub elements_read : AreRead p v.raw_elements
  pub elaborated : (n : Name) → IsElaborated p v n
