-- What a list of tokens says as a formula of a sort or as a type.
use Rattle.std.specs.Prelude.{ℕ, ◌+◌, ◌≤◌, ◌⊎◌, true, List, [], length, take, drop}
use Rattle.ev_syntax.specs.Tokens.{Token}
use Rattle.ev_syntax.specs.declared.sorts.Sort.{Sort}
use Rattle.ev_syntax.specs.declared.sorts.Sort.TheVariants.{Pred, Expr, Either, TypeText}
use Rattle.ev_syntax.specs.Raw.{Raw, written}
use Rattle.ev_syntax.specs.Parts.{pred, expr, expr_level}
use Rattle.ev_syntax.specs.Grammar.{Front, Reads, ReadsType}

abbrev pub ReadsWrittenType : Raw → Front
ReadsWrittenType (written a) ts rest = ReadsType a true ts rest
ReadsWrittenType _ ts rest = ⊥

-- the front of the tokens is this formula of the sort
abbrev pub ReadsAs : Sort → Raw → Front
ReadsAs Pred raw ts rest = Reads raw pred ts rest
ReadsAs Expr raw ts rest = Reads raw (expr expr_level) ts rest
ReadsAs Either raw ts rest = Reads raw pred ts rest ⊎ Reads raw (expr expr_level) ts rest
ReadsAs TypeText raw ts rest = ReadsWrittenType raw ts rest

-- all tokens are this formula of the sort
abbrev pub Parses : List Token → Sort → Raw → Type 0
Parses ts sort raw = ReadsAs sort raw ts []

-- n tokens from the one with number `from` on, counted from 0, are this formula
abbrev pub IsRun : List Token → ℕ → Sort → ℕ → Raw → Type 0
IsRun ts from sort n raw = (from + n ≤ length ts) × Parses (take n (drop from ts)) sort raw

-- and no longer run from there is a formula of the sort
pub record IsLongestRun (ts : List Token) (from : ℕ) (sort : Sort) (n : ℕ) (raw : Raw) : Type 0 where
  pub run : IsRun ts from sort n raw
  pub longest : (m : ℕ) (other : Raw) → IsRun ts from sort m other → m ≤ n
