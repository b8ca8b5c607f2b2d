-- What the proof of a sequent may cite.
use Rattle.std.specs.Prelude.{◌≡◌, ◌-◌, ◌&&◌, Bool as Boolean, false, List, ◌∷◌, Option, Some, None, find, map, take, length, bytes_eq, option_map, if◌then◌else◌, []}
use Rattle.std.specs.List.{AllByRecursion}
use Rattle.std.specs.Option.{option_or}
use Rattle.ev_terms.specs.Term.{Term}
use Rattle.ev_rules.specs.declared.elements.Element.{Element}
use Rattle.ev_rules.specs.declared.elements.Element.TheVariants.{Recursive, Axiom, Theorem, Rewrite, Inference}
use Rattle.ev_typing.specs.Env.{Name}
use Rattle.ev_ops.specs.Entries.{env_of}
use Rattle.ev_ops.specs.Formulas.{HasFormulas}
use Rattle.ev_proof.specs.declared.steps.Ref.{Ref}
use Rattle.ev_replay.specs.declared.scopes.Scope.{Scope}
use Rattle.ev_replay.specs.declared.scopes.CiteElement.{CiteElement}

-- the elements without the names of their theories
abbrev pub elements_of : List CiteElement → List Element
elements_of es = map (λ (e : CiteElement). e.element) es

-- the environment is that of the elements, whose formulas are typed over it and within the limits of formulas
pub record IsScope (cs : Scope) : Type 0 where
  pub env_is : cs.env ≡ env_of (elements_of cs.elements)
  pub formulas : AllByRecursion (HasFormulas cs.env) (elements_of cs.elements)

-- the element has this label
abbrev pub is_labelled : Name → Element → Boolean
is_labelled n (Axiom label P) = bytes_eq n label
is_labelled n (Theorem label P) = bytes_eq n label
is_labelled n (Rewrite r) = bytes_eq n r.label
is_labelled n (Inference r) = bytes_eq n r.label
is_labelled n _ = false

-- the element of a theory with a label
abbrev pub is_named : Ref → CiteElement → Boolean
is_named ref e = bytes_eq ref.theory e.theory && is_labelled ref.label e.element

-- the element that a label means: labels of all elements but the last may be cited. No theory has a label twice; of a list in which one
-- stands twice, the first is meant
abbrev pub cited : Scope → Ref → Option Element
cited cs ref = option_map (λ (e : CiteElement). e.element) (find (is_named ref) (take (length cs.elements - 1) cs.elements))

-- the bodies of a recursive operator of this name, as the element writes them
abbrev pub bodies_of : Name → Element → Option (List Term)
bodies_of n (Recursive sig condition place bodies) = if bytes_eq n sig.name then Some bodies else None
bodies_of n _ = None

-- those of the first element of the list that declares such an operator
abbrev pub written_in : Name → List CiteElement → Option (List Term)
written_in n [] = None
written_in n (e ∷ es) = option_or (bodies_of n e.element) (written_in n es)
