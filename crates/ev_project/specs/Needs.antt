-- What a proof needs: the sequents of the theorems and rules that it cites.
use Rattle.std.specs.Prelude.{Bool as Boolean, true, false, List, [], ◌∷◌, Option, Some, None, map, filter, flat_map, length, take, pred, bytes_eq}
use Rattle.std.specs.List.{list_any}
use Rattle.ev_typing.specs.Env.{Name}
use Rattle.ev_script.specs.declared.sequent_names.SeqName.{SeqName}
use Rattle.ev_rules.specs.declared.elements.Element.{Element}
use Rattle.ev_rules.specs.declared.elements.Element.TheVariants.{Axiom, Theorem, Rewrite, Inference}
use Rattle.ev_proof.specs.declared.steps.Ref.{Ref}
use Rattle.ev_proof.specs.declared.steps.Step.{Step}
use Rattle.ev_replay.specs.declared.scopes.Scope.{Scope}
use Rattle.ev_replay.specs.declared.scopes.CiteElement.{CiteElement}
use Rattle.ev_elab.specs.declared.theories.TheorySequent.{TheorySequent}
use Rattle.ev_replay.specs.Replay.{same_ref, cites}
use Rattle.ev_elab.specs.DeclaredNames.{label_of}
use Rattle.ev_project.specs.Projects.{Project}
use Rattle.ev_project.specs.Contents.{Contents}
use Rattle.ev_project.specs.Scopes.{theory_sequents, sequent_name, cite_scope}

-- a theorem or a rule, which has sequents of its own
abbrev pub is_claim : Element → Boolean
is_claim (Theorem label P) = true
is_claim (Rewrite r) = true
is_claim (Inference r) = true
is_claim _ = false

-- an axiom of a theory
abbrev pub is_axiom : Element → Boolean
is_axiom (Axiom label P) = true
is_axiom _ = false

-- the label of an element in a scope, if it has one
abbrev pub with_theory : Name → Option Name → List Ref
with_theory n None = []
with_theory n (Some l) = record { theory = n; label = l } ∷ []

abbrev pub label_ref : CiteElement → List Ref
label_ref c = with_theory c.theory (label_of c.element)

-- the label stands in the list
abbrev pub has_ref : List Ref → Ref → Boolean
has_ref rs r = list_any (same_ref r) rs

-- the elements of a scope whose labels may be cited: all but the last
abbrev pub citable : Scope → List CiteElement
citable cs = take (pred (length cs.elements)) cs.elements

-- the theorems and rules among them by their labels, in the scope's order
abbrev pub claims : Scope → List Ref
claims cs = flat_map label_ref (filter (λ (c : CiteElement). is_claim c.element) (citable cs))

-- the axioms among them
abbrev pub axioms : Scope → List Ref
axioms cs = flat_map label_ref (filter (λ (c : CiteElement). is_axiom c.element) (citable cs))

module _ (p : Project) (v : Contents) where
  -- the sequents of a theory's label, in order
  abbrev pub label_sequents : Ref → List SeqName
  label_sequents r = map (sequent_name r.theory) (filter (λ (s : TheorySequent). bytes_eq s.label r.label) (theory_sequents p v r.theory))

  -- what a proof of these lines needs in a scope: all sequents of the cited theorems and rules that may be cited
  abbrev pub needs : Scope → List (Option Step) → List SeqName
  needs cs lines = flat_map label_sequents (filter (has_ref (claims cs)) (cites lines))

  -- what a sequent of the theory needs with a proof of these lines
  abbrev pub needs_of : Name → TheorySequent → List (Option Step) → List SeqName
  needs_of n s lines = needs (cite_scope p v n s.element) lines
