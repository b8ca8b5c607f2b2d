-- The annotations of a raw tree, and the answers of inference.
use Rattle.std.specs.Prelude.{◌≡◌, ◌≢◌, ℕ, ◌<◌, ◌⊎◌, true, false, List, map, reverse, Option, IfSome, Any}
use Rattle.ev_terms.specs.declared.types.Ty.{Ty}
use Rattle.ev_terms.specs.Term.{Term}
use Rattle.ev_terms.specs.Measures.{size, depth}
use Rattle.ev_syntax.specs.Raw.{Raw}
use Rattle.ev_resolve.specs.Reading.{Known, Variable, context_type, Gives}
use Rattle.ev_resolve.specs.UsedNames.{is_formula_name, used_names, binder_names, variable_names}

-- the context of variables of which the first is the outermost
abbrev pub variables_context : List Variable → List Ty
variables_context vars = map (λ v. context_type v.type) vars

-- a size or a depth above the limit
abbrev pub IsPast : ℕ → ℕ → Term → Type 0
IsPast most_size most_depth t = (most_size < size t) ⊎ (most_depth < depth t)

module _ (params : List (List ℕ)) (known : Known) (HasType : List Ty → Term → Ty → Type 0) (vars : List Variable) (raw : Raw) where
  -- a name is not in scope: no variable, where variables count, and no formula name
  abbrev pub HasUnknownName : Type 0
  HasUnknownName = Any (λ n. is_formula_name params known n ≡ false) (used_names raw (variable_names vars))

  -- a binder has a formula name
  abbrev pub HasTakenBinder : Type 0
  HasTakenBinder = Any (λ n. is_formula_name params known n ≡ true) (binder_names raw)

  -- The term is typed, no binder has a formula name, and the readings give the term. The first variable of the list is the outermost.
  pub record Annotates (t : Term) : Type 0 where
    pub type : Ty
    pub typed : HasType (variables_context vars) t type
    pub binders : ¬ HasTakenBinder
    pub gives : Gives params known HasType raw (reverse vars) t

  -- with the type that is asked, where one is
  pub record AnnotatesAt (expected : Option Ty) (t : Term) : Type 0 where
    pub annotates : Annotates t
    pub has_expected : IfSome expected (λ a. HasType (variables_context vars) t a)

  abbrev pub IsOnly : Option Ty → Term → Type 0
  IsOnly expected t = AnnotatesAt expected t × ((u : Term) → AnnotatesAt expected u → u ≡ t)

  abbrev pub HasNone : Option Ty → Type 0
  HasNone expected = (t : Term) → ¬ AnnotatesAt expected t

  abbrev pub HasTwo : Option Ty → Type 0
  HasTwo expected = (t u : Term) × AnnotatesAt expected t × AnnotatesAt expected u × (t ≢ u)

  -- when inference answers what, in the order of its answers
  pub record IsUnknown : Type 0 where
    pub unknown : HasUnknownName

  pub record IsTaken : Type 0 where
    pub in_scope : ¬ HasUnknownName
    pub taken : HasTakenBinder

  pub record IsIllTyped (expected : Option Ty) : Type 0 where
    pub in_scope : ¬ HasUnknownName
    pub free : ¬ HasTakenBinder
    pub none : HasNone expected

  pub record IsAmbiguous (expected : Option Ty) : Type 0 where
    pub in_scope : ¬ HasUnknownName
    pub free : ¬ HasTakenBinder
    pub two : HasTwo expected

  pub record IsTooLarge (expected : Option Ty) (most_size most_depth : ℕ) (t : Term) : Type 0 where
    pub in_scope : ¬ HasUnknownName
    pub only : IsOnly expected t
    pub past : IsPast most_size most_depth t

  pub record IsAnswer (expected : Option Ty) (most_size most_depth : ℕ) (t : Term) : Type 0 where
    pub in_scope : ¬ HasUnknownName
    pub only : IsOnly expected t
    pub within : ¬ IsPast most_size most_depth t
