-- What holds of places.
use Rattle.std.specs.Prelude.{◌≡◌, ◌++◌, ℕ, List, Some, is_some}
use Rattle.ev_terms.specs.declared.types.Ty.{Ty}
use Rattle.ev_terms.specs.Term.{Term}
use Rattle.ev_typing.specs.Env.{Env}
use Rattle.ev_typing.specs.Typing.{Typed}
use Rattle.ev_rewrite.specs.Places.{node_at, path_types, replace_at}

-- a place at which there is a node has a path, and a node there can be replaced
abbrev pub PlacesAgree : Type 0
PlacesAgree = (t new : Term) (place : List ℕ) →
    (is_some (path_types t place) ≡ is_some (node_at t place)) × (is_some (replace_at t place new) ≡ is_some (node_at t place))

-- the node at the place in its own place changes nothing
abbrev pub ReplacedByItself : Type 0
ReplacedByItself = (t u : Term) (place : List ℕ) → node_at t place ≡ Some u → replace_at t place u ≡ Some t

-- a new node stands at its place, and the binders on the way are the same
abbrev pub NewIsThere : Type 0
NewIsThere = (t t' new : Term) (place : List ℕ) → replace_at t place new ≡ Some t' →
    (node_at t' place ≡ Some new) × (path_types t' place ≡ path_types t place)

-- a node of a typed term is typed in the context extended by the binders on the way
abbrev pub NodesAreTyped : Type 0
NodesAreTyped = (env : Env) (C Bs : List Ty) (t u : Term) (A : Ty) (place : List ℕ) →
    Typed env C t A → node_at t place ≡ Some u → path_types t place ≡ Some Bs → (B : Ty) × Typed env (C ++ Bs) u B

-- and a node of the same type in its place keeps the type of the whole
abbrev pub ReplacingKeepsTypes : Type 0
ReplacingKeepsTypes = (env : Env) (C Bs : List Ty) (t t' u new : Term) (A B : Ty) (place : List ℕ) →
    Typed env C t A → node_at t place ≡ Some u → path_types t place ≡ Some Bs → Typed env (C ++ Bs) u B → Typed env (C ++ Bs) new B →
    replace_at t place new ≡ Some t' → Typed env C t' A
