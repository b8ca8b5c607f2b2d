-- The canonical text of a typed term reads back.
use Rattle.std.specs.Prelude.{◌≡◌, ◌+◌, ◌<◌, ◌≤◌, ◌^◌, ◌&&◌, ℕ, Bool as Boolean, not, List, length, flat_map, IsTrue}
use Rattle.std.specs.List.{AllByRecursion}
use Rattle.ev_terms.specs.declared.types.Ty.{Ty, Prop}
use Rattle.ev_terms.specs.Term.{Term}
use Rattle.ev_terms.specs.Measures.{depth, params}
use Rattle.ev_typing.specs.Env.{Env, Name, names}
use Rattle.ev_typing.specs.Typing.{Typed}
use Rattle.ev_typing.specs.WellFormed.{IsWellFormed}
use Rattle.ev_syntax.specs.Names.{is_name, is_variable_name}
use Rattle.ev_syntax.specs.Tokens.{Token, Tokens, HasTooLarge}
use Rattle.ev_syntax.specs.Raw.{Raw}
use Rattle.ev_syntax.specs.declared.sorts.Sort.{Sort}
use Rattle.ev_syntax.specs.declared.sorts.Sort.TheVariants.{Pred, Expr}
use Rattle.ev_syntax.specs.Parses.{Parses}
use Rattle.ev_print.specs.Canon.{canon}
use Rattle.ev_print.specs.Texts.{raw_term}

-- a name that may be declared: no variable of a canonical text has it
abbrev pub is_free_name : Name → Boolean
is_free_name n = is_name n && not (is_variable_name n)

-- all declared names are such
abbrev pub HasFreeNames : Env → Type 0
HasFreeNames env = AllByRecursion (λ n. IsTrue (is_free_name n)) (flat_map names env)

-- what a term of a type is read as
abbrev pub sort_of : Ty → Sort
sort_of Prop = Pred
sort_of _ = Expr

-- The text has tokens, none of them a number that no literal may be, and as a formula of the sort it is this raw tree and no other.
pub record ReadsOnlyAs (text : List ℕ) (sort : Sort) (raw : Raw) : Type 0 where
  pub tokens : List Token
  pub lexes : Tokens text tokens
  pub small : ¬ HasTooLarge text
  pub parses : Parses tokens sort raw
  pub only : (ts : List Token) (other : Raw) → Tokens text ts → Parses ts sort other → other ≡ raw

-- Numbers of type parameters are below 2^32, and there are fewer than 2^64 variables, as in memory.
abbrev pub TextReadsBack : Type 0
TextReadsBack = (env : Env) → IsWellFormed env → HasFreeNames env → (C : List Ty) (t : Term) (A : Ty) → Typed env C t A →
    params t ≤ 2 ^ 32 → length C + depth t < 2 ^ 64 → ReadsOnlyAs (canon env (length C) t) (sort_of A) (raw_term env (length C) t)
