-- How deep the trees, formulas and types of a derivation's text may be.
use Rattle.std.specs.Prelude.{◌≤◌, ℕ, List, ◌∷◌, ⊤}
use Rattle.std.specs.List.{AllByRecursion}
use Rattle.ev_terms.specs.declared.types.Ty.{Ty, Prop}
use Rattle.ev_terms.specs.declared.types.Tys.{Tys}
use Rattle.ev_terms.specs.Types.{type_list}
use Rattle.ev_terms.specs.Term.{Term}
use Rattle.ev_terms.specs.Measures.{depth}
use Rattle.ev_syntax.specs.Tokens.{Token, Tokens}
use Rattle.ev_syntax.specs.Raw.{Raw, nesting}
use Rattle.ev_syntax.specs.Parses.{Parses}
use Rattle.ev_syntax.specs.declared.sorts.Sort.{Sort}
use Rattle.ev_syntax.specs.declared.sorts.Sort.TheVariants.{Pred, Expr, TypeText}
use Rattle.ev_typing.specs.declared.typing.Entry.{Entry}
use Rattle.ev_typing.specs.declared.typing.Entry.TheVariants.{Data, Constant, Direct, Recursive}
use Rattle.ev_typing.specs.declared.typing.Con.{Con}
use Rattle.ev_typing.specs.Env.{Env, field_types}
use Rattle.ev_kernel.specs.declared.rules.Line.{Line}
use Rattle.ev_kernel.specs.declared.rules.BaseRule.{BaseRule}
use Rattle.ev_kernel.specs.declared.rules.BaseRule.TheVariants.{Inst, AllE, ExI}
use Rattle.ev_print.specs.Canon.{canon, type_text}
use Rattle.ev_print.specs.ReadBack.{sort_of}
use Rattle.ev_deriv.specs.HeaderLines.{body_counts}

-- the greatest depth of a tree
abbrev pub depth_limit : ℕ
depth_limit = 1024

-- the greatest nesting of a formula or type
abbrev pub nesting_limit : ℕ
nesting_limit = 2048

-- the text is a formula or type that keeps the limit
pub record IsShallow (sort : Sort) (text : List ℕ) : Type 0 where
  pub tokens : List Token
  pub raw : Raw
  pub lexes : Tokens text tokens
  pub parses : Parses tokens sort raw
  pub nests : nesting raw ≤ nesting_limit

abbrev pub IsShallowType : Ty → Type 0
IsShallowType Prop = ⊤
IsShallowType A = IsShallow TypeText (type_text A)

abbrev pub AreShallowTypes : Tys → Type 0
AreShallowTypes As = AllByRecursion IsShallowType (type_list As)

-- a term under n variables, and its text
pub record IsShallowTerm (env : Env) (sort : Sort) (n : ℕ) (t : Term) : Type 0 where
  pub tree : depth t ≤ depth_limit
  pub text : IsShallow sort (canon env n t)

-- terms, each under as many variables
abbrev pub AreShallowBodies : Env → Sort → List ℕ → List Term → Type 0
AreShallowBodies env sort (n ∷ ns) (t ∷ ts) = IsShallowTerm env sort n t × AreShallowBodies env sort ns ts
AreShallowBodies env sort _ _ = ⊤

-- an entry, in the environment that ends with it
abbrev pub IsShallowEntry : Env → Entry → Type 0
IsShallowEntry env (Data d) = AllByRecursion (λ (c : Con). AllByRecursion IsShallowType (field_types c)) d.cons
IsShallowEntry env (Constant sig condition) = AreShallowTypes sig.args × IsShallowType sig.result
IsShallowEntry env (Direct sig condition body) = ⊥
IsShallowEntry env (Recursive sig condition place bodies) =
    AreShallowTypes sig.args × IsShallowType sig.result × AreShallowBodies env (sort_of sig.result) (body_counts env sig place) bodies

-- the fields of a rule
abbrev pub IsShallowRule : Env → ℕ → BaseRule → Type 0
IsShallowRule env n (Inst types terms) = AreShallowTypes types × AllByRecursion (IsShallowTerm env Expr n) terms
IsShallowRule env n (AllE t) = IsShallowTerm env Expr n t
IsShallowRule env n (ExI t) = IsShallowTerm env Expr n t
IsShallowRule env n _ = ⊤

-- a line whose context has n variables
pub record IsShallowLine (env : Env) (n : ℕ) (l : Line) : Type 0 where
  pub context : AreShallowTypes l.sequent.context
  pub hyps : AllByRecursion (IsShallowTerm env Pred n) l.sequent.hyps
  pub goal : IsShallowTerm env Pred n l.sequent.goal
  pub fields : IsShallowRule env n l.rule
