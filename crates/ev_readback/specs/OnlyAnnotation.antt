-- The only annotation of a canonical text.
use Rattle.std.specs.Prelude.{◌≡◌, ◌≤◌, ◌<◌, ◌+◌, ◌^◌, ℕ, false, List, [], ◌∷◌, length, flat_map, Option, Some, IfSome, IsTrue}
use Rattle.std.specs.List.{AllByRecursion}
use Rattle.ev_terms.specs.declared.types.Ty.{Ty}
use Rattle.ev_terms.specs.Term.{Term}
use Rattle.ev_terms.specs.Measures.{depth, params as params_of}
use Rattle.ev_typing.specs.Env.{Env, Name, names}
use Rattle.ev_typing.specs.Typing.{IsProper, Typed}
use Rattle.ev_typing.specs.WellFormed.{IsWellFormed}
use Rattle.ev_resolve.specs.Reading.{Variable}
use Rattle.ev_resolve.specs.UsedNames.{is_name_among}
use Rattle.ev_syntax.specs.Raw.{Raw}
use Rattle.ev_infer.specs.Inference.{IsOnlyAnnotation}
use Rattle.ev_print.specs.Canon.{canon, variable_text}
use Rattle.ev_print.specs.ReadBack.{is_free_name, HasFreeNames, sort_of, ReadsOnlyAs}
use Rattle.ev_print.specs.Texts.{raw_term}

-- the variables of these types from the one at position n on, under the names that canonical texts give them
abbrev pub variables_from : ℕ → List Ty → List Variable
variables_from n [] = []
variables_from n (A ∷ As) = record { name = Some (variable_text n); type = A } ∷ variables_from (n + 1) As

-- the variables of a context, the outermost first
abbrev pub canonical_variables : List Ty → List Variable
canonical_variables C = variables_from 0 C

-- the names of type parameters may be declared, and the environment declares none of them
pub record AreParameters (env : Env) (params : List Name) : Type 0 where
  pub free : AllByRecursion (λ n. IsTrue (is_free_name n)) params
  pub apart : AllByRecursion (λ n. is_name_among params n ≡ false) (flat_map names env)

-- The term is the only annotation of what its canonical text says, whether no type is asked or its own.
-- There are fewer than 2^64 variables, as in memory.
abbrev pub TextAnnotatesBack : Type 0
TextAnnotatesBack = (env : Env) → IsWellFormed env → HasFreeNames env → (params : List Name) → AreParameters env params →
    (C : List Ty) → AllByRecursion (IsProper env) C → (t : Term) (A : Ty) → Typed env C t A → length C + depth t < 2 ^ 64 →
    (expected : Option Ty) → IfSome expected (λ B. B ≡ A) →
    IsOnlyAnnotation env params (canonical_variables C) (raw_term env (length C) t) expected t

-- the text is exactly one raw tree, and the only annotation of this raw tree is the term, whether no type is asked or its own
pub record IsTextOf (env : Env) (params : List Name) (C : List Ty) (t : Term) (A : Ty) (text : List ℕ) : Type 0 where
  pub raw : Raw
  pub reads : ReadsOnlyAs text (sort_of A) raw
  pub annotated : (expected : Option Ty) → IfSome expected (λ B. B ≡ A) → IsOnlyAnnotation env params (canonical_variables C) raw expected t

-- The canonical text of a typed term is a text of this term and of no other. Numbers of type parameters are below 2^32, as in memory.
abbrev pub TextMeansItsTerm : Type 0
TextMeansItsTerm = (env : Env) → IsWellFormed env → HasFreeNames env → (params : List Name) → AreParameters env params →
    (C : List Ty) → AllByRecursion (IsProper env) C → (t : Term) (A : Ty) → Typed env C t A → params_of t ≤ 2 ^ 32 → length C + depth t < 2 ^ 64 →
    IsTextOf env params C t A (canon env (length C) t)
