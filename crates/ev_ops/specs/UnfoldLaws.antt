-- The laws of unfolding.
use Rattle.std.specs.Prelude.{◌≡◌, ℕ, List, Some, Option, map}
use Rattle.std.specs.List.{AllByRecursion}
use Rattle.ev_terms.specs.declared.types.Ty.{Ty}
use Rattle.ev_terms.specs.declared.types.Tys.{Tys}
use Rattle.ev_terms.specs.declared.types.Sym.TheVariants.{User}
use Rattle.ev_terms.specs.Term.{Term, Terms, node, term_list}
use Rattle.ev_terms.specs.Substitution.{shift, substitute, fill, instance}
use Rattle.ev_typing.specs.declared.typing.Signature.{Signature}
use Rattle.ev_typing.specs.declared.typing.Sequent.{Sequent}
use Rattle.ev_typing.specs.Env.{Env, Name, DirectOf, find_symbol}
use Rattle.ev_typing.specs.Typing.{Typed, IsSequent}
use Rattle.ev_typing.specs.Occurs.{IsPlain}
use Rattle.ev_typing.specs.BaseSequents.{IsBaseSequent}
use Rattle.ev_typing.specs.Parts.{IsPartOf, base}
use Rattle.ev_typing.specs.WellFormed.{IsWellFormed}
use Rattle.ev_ops.specs.Unfold.{unfolded, unfolded_sequent}

-- the unfolded term has no direct operator
abbrev pub UnfoldedIsPlain : Type 0
UnfoldedIsPlain = (env : Env) → IsWellFormed env → (C : List Ty) (t : Term) (A : Ty) → Typed env C t A → IsPlain env (unfolded env t)

-- a term without one is unfolded already
abbrev pub PlainIsUnfolded : Type 0
PlainIsUnfolded = (env : Env) → IsWellFormed env → (t : Term) → IsPlain env t → unfolded env t ≡ t

-- it has the same type
abbrev pub UnfoldedKeepsTypes : Type 0
UnfoldedKeepsTypes = (env : Env) → IsWellFormed env → (C : List Ty) (t : Term) (A : Ty) → Typed env C t A → Typed env C (unfolded env t) A

-- also over the environment without definitions
abbrev pub UnfoldedIsOverBase : Type 0
UnfoldedIsOverBase = (env : Env) → IsWellFormed env → (S : Sequent) → IsSequent env S → IsBaseSequent (base env) (unfolded_sequent env S)

-- an application of a direct operator is its unfolded body with the types and the unfolded arguments put in
abbrev pub UnfoldedApplication : Type 0
UnfoldedApplication = (env : Env) → IsWellFormed env → (C : List Ty) (n : Name) (As : Tys) (ts : Terms) (A : Ty) → Typed env C (node (User n) As ts) A →
    (sig : Signature) (condition : Option Term) (body : Term) → find_symbol env n ≡ Some (DirectOf sig condition body) →
    unfolded env (node (User n) As ts) ≡ fill (instance (unfolded env body) As) (map (unfolded env) (term_list ts))

-- unfolding commutes with shift
abbrev pub UnfoldedOfShift : Type 0
UnfoldedOfShift = (env : Env) → IsWellFormed env → (C : List Ty) (t : Term) (A : Ty) → Typed env C t A → (from by : ℕ) →
    unfolded env (shift t from by) ≡ shift (unfolded env t) from by

-- a term that has a type in some context
abbrev pub IsTyped : Env → Term → Type 0
IsTyped env t = (C : List Ty) × (A : Ty) × Typed env C t A

-- and goes into a substitution of terms that have types, whatever their contexts are
abbrev pub UnfoldedOfSubstitution : Type 0
UnfoldedOfSubstitution = (env : Env) → IsWellFormed env → (t : Term) → IsTyped env t → (ts : List Term) → AllByRecursion (IsTyped env) ts →
    unfolded env (substitute t ts) ≡ substitute (unfolded env t) (map (unfolded env) ts)

-- and into a type instance
abbrev pub UnfoldedOfInstance : Type 0
UnfoldedOfInstance = (env : Env) → IsWellFormed env → (C : List Ty) (t : Term) (A : Ty) → Typed env C t A → (As : Tys) →
    unfolded env (instance t As) ≡ instance (unfolded env t) As

-- over an environment of which that of the term is a part, the unfolded term is the same
abbrev pub UnfoldedOverWhole : Type 0
UnfoldedOverWhole = (e f : Env) → IsWellFormed e → IsWellFormed f → IsPartOf e f → (C : List Ty) (t : Term) (A : Ty) → Typed e C t A → unfolded f t ≡ unfolded e t

-- the environment without definitions and conditions is well formed
abbrev pub BaseIsWellFormed : Type 0
BaseIsWellFormed = (env : Env) → IsWellFormed env → IsWellFormed (base env)
