-- What a step reads: formulas and types in the scope of a sequent.
use Rattle.std.specs.Prelude.{◌≡◌, ◌+◌, ◌++◌, ℕ, List, [], ◌∷◌, Some, ⊤, codes, decimal}
use Rattle.std.specs.List.{AllZip}
use Rattle.ev_terms.specs.declared.extents.Extent.{Extent}
use Rattle.ev_terms.specs.declared.types.Ty.{Ty, Prop}
use Rattle.ev_terms.specs.Term.{Term}
use Rattle.ev_syntax.specs.Raw.{RawType, Raw}
use Rattle.ev_typing.specs.declared.typing.Var.{Var}
use Rattle.ev_typing.specs.Typing.{IsProper}
use Rattle.ev_resolve.specs.Reading.{type_of_raw}
use Rattle.ev_resolve.specs.Resolve.{known_of}
use Rattle.ev_infer.specs.Answers.{IsAnnotated}
use Rattle.ev_typing.specs.Env.{Env, Name}
use Rattle.ev_typing.specs.declared.typing.Sequent.{Sequent}
use Rattle.ev_terms.specs.Types.{type_list}

-- the limits of formulas
abbrev pub formula_limit : Extent
formula_limit = record { size = 65536; depth = 512 }

-- the variables of a context under the names v0, v1 and so on, from a number on
abbrev pub context_vars : ℕ → List Ty → List Var
context_vars i [] = []
context_vars i (A ∷ As) = record { name = codes "v" ++ decimal i; ty = A } ∷ context_vars (i + 1) As

-- over an environment, with the names of a theory's type parameters
module _ (env : Env) (params : List Name) where
  -- the only annotation at the type in the context, within the limits
  abbrev pub Reads : List Ty → Ty → Raw → Term → Type 0
  Reads C A raw t = IsAnnotated env params (context_vars 0 C) raw (Some A) formula_limit t

  -- a formula, and a term of a type, in the context of a goal
  abbrev pub ReadsFormula : Sequent → Raw → Term → Type 0
  ReadsFormula S raw P = Reads (type_list S.context) Prop raw P

  abbrev pub ReadsTerm : Sequent → Ty → Raw → Term → Type 0
  ReadsTerm S A raw t = Reads (type_list S.context) A raw t

  -- the terms are read at their types, one each
  abbrev pub ReadEach : List Ty → List Ty → List Raw → List Term → Type 0
  ReadEach C [] [] [] = ⊤
  ReadEach C (A ∷ As) (raw ∷ raws) (t ∷ ts) = Reads C A raw t × ReadEach C As raws ts
  ReadEach C _ _ _ = ⊥

  -- the written type is this proper type
  pub record ReadsType (written : RawType) (A : Ty) : Type 0 where
    pub read : type_of_raw params (known_of env) written ≡ Some A
    pub proper : IsProper env A

  -- the types are read, one each
  abbrev pub ReadTypes : List RawType → List Ty → Type 0
  ReadTypes written As = AllZip ReadsType written As
