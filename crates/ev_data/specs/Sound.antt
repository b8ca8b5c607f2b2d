-- Sound environments: each entry is well formed over those before it, and admitted.
use Rattle.std.specs.Prelude.{ℕ, List, IsSomeAnd, ⊤}
use Rattle.std.specs.List.{AllByRecursion, AllZip}
use Rattle.ev_terms.specs.Term.{Term}
use Rattle.ev_typing.specs.declared.typing.Entry.{Entry}
use Rattle.ev_typing.specs.declared.typing.Entry.TheVariants.{Data, Constant, Direct, Recursive}
use Rattle.ev_typing.specs.declared.typing.Signature.{Signature}
use Rattle.ev_typing.specs.Env.{Env}
use Rattle.ev_typing.specs.Parts.{IsPartOf, base}
use Rattle.ev_typing.specs.WellFormed.{IsWellFormed, inductive_data}
use Rattle.ev_data.specs.Admission.{IsAdmittedData}
use Rattle.ev_data.specs.Guarded.{IsGuardedBody}

-- the bodies for the constructors of the datatype call the operator on recursive variables alone
abbrev pub AreGuardedBodies : Env → Signature → ℕ → List Term → Type 0
AreGuardedBodies env sig place bodies = IsSomeAnd (inductive_data env sig place) (λ p. AllZip (IsGuardedBody sig place p.0 p.1) p.0.cons bodies)

-- an entry of the environment is admitted; that its parameters are its own is part of being well formed
abbrev pub IsAdmittedEntry : Env → Entry → Type 0
IsAdmittedEntry env (Data d) = IsAdmittedData d
IsAdmittedEntry env (Constant sig condition) = ⊤
IsAdmittedEntry env (Direct sig condition body) = ⊤
IsAdmittedEntry env (Recursive sig condition place bodies) = AreGuardedBodies env sig place bodies

-- well formed, and each entry is admitted
pub record IsSound (env : Env) : Type 0 where
  pub well_formed : IsWellFormed env
  pub admitted : AllByRecursion (IsAdmittedEntry env) env

-- Law: a sound environment is sound without direct operators and conditions too.
abbrev pub BaseIsSound : Type 0
BaseIsSound = (env : Env) → IsSound env → IsSound (base env)

-- Law: and the base of a part of it is a part of the base of the whole.
abbrev pub BaseOfBase : Type 0
BaseOfBase = (e f : Env) → IsPartOf e f → IsPartOf (base e) (base f)
