-- Where a recursive operator may call itself: on what a constructor was made of. This is the project's own.
use Rattle.std.specs.Prelude.{◌≡◌, ◌≤◌, ◌<◌, ◌+◌, ◌-◌, ℕ, Option, Some, None, Bool as Boolean, false, length, drop, slice_get, bytes_eq, IsTrue, ⊤}
use Rattle.ev_terms.specs.declared.types.Ty.{Data as DataType}
use Rattle.ev_terms.specs.declared.types.Tys.{Tys}
use Rattle.ev_terms.specs.declared.types.Sym.{Sym}
use Rattle.ev_terms.specs.declared.types.Sym.TheVariants.{Base, User}
use Rattle.ev_terms.specs.Types.{type_list}
use Rattle.ev_terms.specs.Term.{Term, Terms, var, lit, node, nil, cons, term_list}
use Rattle.ev_terms.specs.Symbols.{binds}
use Rattle.ev_typing.specs.declared.typing.Signature.{Signature}
use Rattle.ev_typing.specs.declared.typing.DataDecl.{DataDecl}
use Rattle.ev_typing.specs.declared.typing.Con.{Con}
use Rattle.ev_typing.specs.TypeLists.{own_types}
use Rattle.ev_typing.specs.Env.{Name}
use Rattle.ev_typing.specs.Typing.{var_type}
use Rattle.ev_typing.specs.WellFormed.{case_context}

-- the variable is one of the constructor's whose type is the datatype at the inductive argument's types; the variables below `after`
-- are the operator's arguments behind the inductive place
pub record IsRecursiveVar (sig : Signature) (place : ℕ) (d : DataDecl) (As : Tys) (c : Con) (after i : ℕ) : Type 0 where
  pub from : after ≤ i
  pub to : i < after + length c.fields
  pub type : var_type (case_context sig place As c) i ≡ Some (DataType d.name As)

-- the symbol has this name
abbrev pub is_named : Name → Sym → Boolean
is_named n (Base k) = false
is_named n (User m) = bytes_eq m n

-- a variable of which P holds
abbrev pub IsVarOf : (ℕ → Type 0) → Option Term → Type 0
IsVarOf P (Some (var i)) = P i
IsVarOf P _ = ⊥

-- P of a variable, seen from under n more binders
abbrev pub seen_under : ℕ → (ℕ → Type 0) → ℕ → Type 0
seen_under n P i = (n ≤ i) × P (i - n)

-- a call of the operator is at its own parameters, and has at the inductive place a variable of which P holds
abbrev pub IsGuardedCall : Signature → ℕ → (ℕ → Type 0) → Sym → Tys → Terms → Type 0
IsGuardedCall sig place P s As ts =
    IsTrue (is_named sig.name s) → (As ≡ own_types sig.params) × IsVarOf P (slice_get (term_list ts) place)

abbrev mutual
  -- every call of the operator in the term is so
  pub IsGuarded : Signature → ℕ → (ℕ → Type 0) → Term → Type 0
  IsGuarded sig place P (var i) = ⊤
  IsGuarded sig place P (lit n) = ⊤
  IsGuarded sig place P (node s As ts) = IsGuardedCall sig place P s As ts × AreGuarded sig place (seen_under (binds s) P) ts

  pub AreGuarded : Signature → ℕ → (ℕ → Type 0) → Terms → Type 0
  AreGuarded sig place P nil = ⊤
  AreGuarded sig place P (cons t ts) = IsGuarded sig place P t × AreGuarded sig place P ts

-- the body of the constructor's case calls the operator on the constructor's recursive variables alone
abbrev pub IsGuardedBody : Signature → ℕ → DataDecl → Tys → Con → Term → Type 0
IsGuardedBody sig place d As c body =
    IsGuarded sig place (IsRecursiveVar sig place d As c (length (drop (place + 1) (type_list sig.args)))) body
