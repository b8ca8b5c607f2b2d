-- Laws of the grammar.
use Rattle.std.specs.Prelude.{◌≡◌, ◌↔◌, ℕ, ◌<◌, List, [], ◌∷◌, ◌++◌, take, drop}
use Rattle.ev_syntax.specs.Marks.{comma}
use Rattle.ev_syntax.specs.Tokens.{Token, mark}
use Rattle.ev_syntax.specs.Raw.{Raw, Raws, call}
use Rattle.ev_syntax.specs.declared.sorts.Sort.{Sort}
use Rattle.ev_syntax.specs.declared.sorts.Sort.TheVariants.{Pred, Expr}
use Rattle.ev_syntax.specs.Parses.{Parses, IsRun}

-- for one list of tokens and one sort at most one raw tree is related
abbrev pub AtMostOneTree : Type 0
AtMostOneTree = (ts : List Token) (sort : Sort) (a b : Raw) → Parses ts sort a → Parses ts sort b → a ≡ b

-- tokens that are a predicate and an expression are a name, with arguments or with none, perhaps in parentheses
abbrev pub BothAreCalls : Type 0
BothAreCalls = (ts : List Token) (a b : Raw) → Parses ts Pred a → Parses ts Expr b → (n : List ℕ) × (es : Raws) × (a ≡ call n es) × (b ≡ call n es)

-- and tokens that are one are both
abbrev pub CallsAreBoth : Type 0
CallsAreBoth = (ts : List Token) (n : List ℕ) (es : Raws) → Parses ts Pred (call n es) ↔ Parses ts Expr (call n es)

-- where tokens are a formula of a sort, more of them behind a comma make none of that sort
abbrev pub CommaEndsFormula : Type 0
CommaEndsFormula = (ts more : List Token) (sort : Sort) (a b : Raw) → Parses ts sort a → Parses (ts ++ mark comma ∷ more) sort b → ⊥

-- the same for runs: a comma comes behind one, and no longer run is one of that sort
abbrev pub CommaEndsRun : Type 0
CommaEndsRun =
    (ts : List Token) (from : ℕ) (sort : Sort) (n m : ℕ) (a b : Raw) → IsRun ts from sort n a → take 1 (drop n (drop from ts)) ≡ mark comma ∷ [] → n < m
    → IsRun ts from sort m b → ⊥
