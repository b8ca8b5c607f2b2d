-- What stands in scope of an element.
use Rattle.std.specs.Prelude.{◌++◌, ℕ, List, [], ◌∷◌, Option, Some, None, flat_map, take, fold}
use Rattle.ev_rules.specs.declared.elements.Element.{Element}
use Rattle.ev_typing.specs.Env.{Env, Name}
use Rattle.ev_ops.specs.Entries.{with_element, with_elements, env_of}
use Rattle.ev_elab.specs.declared.theories.Reached.{Reached}
use Rattle.ev_elab.specs.declared.theories.Theory.{Theory}
use Rattle.ev_elab.specs.DeclaredNames.{label_of, param_names, formula_names}

-- the theories that are reached, in order
abbrev pub all_reached : List (List Reached) → List Reached
all_reached [] = []
all_reached (l ∷ ls) = l ++ all_reached ls

-- the elements of theories
abbrev pub elements_of : List Reached → List Element
elements_of rs = flat_map (λ (r : Reached). r.elements) rs

abbrev pub reached_elements : List (List Reached) → List Element
reached_elements scope = elements_of (all_reached scope)

-- Between two elements of a theory: the names of its type parameters so far, the environment of the theories that it reaches and of
-- its elements so far, and these elements.
pub record State : Type 0 where
  pub params : List Name
  pub env : Env
  pub elements : List Element

abbrev pub start : List (List Reached) → State
start scope = record { params = []; env = env_of (reached_elements scope); elements = [] }

-- after one more element, and after some
abbrev pub after : State → Element → State
after s e = record { params = s.params ++ param_names e; env = with_element s.env e; elements = s.elements ++ e ∷ [] }

abbrev pub after_all : State → List Element → State
after_all s es = fold after s es

-- the labels, and the formula names, of the theory's elements so far
abbrev pub with_label : Option Name → List Name → List Name
with_label None ns = ns
with_label (Some n) ns = n ∷ ns

abbrev pub labels : List Element → List Name
labels [] = []
labels (e ∷ es) = with_label (label_of e) (labels es)

abbrev pub own_names : List Element → List Name
own_names es = flat_map formula_names es

-- the environment of the scope and of the theory's first elements
abbrev pub scope_env_of : List (List Reached) → Theory → ℕ → Env
scope_env_of scope theory count = with_elements (env_of (reached_elements scope)) (take count theory.elements)
