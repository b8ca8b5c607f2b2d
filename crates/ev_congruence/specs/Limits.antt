-- Limits of lines: no type and no term of a sequent counts more than a number, where what is counted is their depth, or how deep their
-- texts nest.
use Rattle.std.specs.Prelude.{◌≡◌, ◌+◌, ◌≤◌, ◌↔◌, ℕ, List, Some, max, ⊤}
use Rattle.std.specs.List.{AllByRecursion}
use Rattle.ev_terms.specs.declared.types.Ty.{Ty}
use Rattle.ev_terms.specs.declared.types.Tys.{Tys}
use Rattle.ev_terms.specs.declared.types.Sym.{Sym}
use Rattle.ev_terms.specs.Types.{type_list}
use Rattle.ev_terms.specs.Term.{Term, var, node, terms}
use Rattle.ev_terms.specs.Measures.{type_depth, depth}
use Rattle.ev_terms.specs.Substitution.{shift}
use Rattle.ev_forms.specs.Forms.{equation}
use Rattle.ev_typing.specs.declared.typing.Sequent.{Sequent}
use Rattle.ev_typing.specs.Profiles.{Profile}
use Rattle.ev_typing.specs.Env.{Env, profile}
use Rattle.ev_typing.specs.Typing.{Typed}
use Rattle.ev_typing.specs.Sequents.{sequent_depth}
use Rattle.ev_kernel.specs.declared.rules.BaseRule.{BaseRule}
use Rattle.ev_kernel.specs.declared.rules.BaseRule.TheVariants.{Inst, AllE, ExI}
use Rattle.ev_kernel.specs.declared.rules.Line.{Line}

-- what is counted of types and of terms
pub record Count : Type 0 where
  pub of_type : Ty → ℕ
  pub of_term : Term → ℕ

-- the terms
abbrev pub TermsAreWithin : Count → ℕ → List Term → Type 0
TermsAreWithin m d ts = AllByRecursion (λ t. m.of_term t ≤ d) ts

-- the types
abbrev pub TypesAreWithin : Count → ℕ → List Ty → Type 0
TypesAreWithin m d As = AllByRecursion (λ A. m.of_type A ≤ d) As

-- no type of the context, no hypothesis and not the goal counts more than d
pub record IsWithin (m : Count) (d : ℕ) (S : Sequent) : Type 0 where
  pub context : TypesAreWithin m d (type_list S.context)
  pub hyps : TermsAreWithin m d S.hyps
  pub goal : m.of_term S.goal ≤ d

-- the types and terms that the rule names
abbrev pub RuleIsWithin : Count → ℕ → BaseRule → Type 0
RuleIsWithin m d (Inst As ts) = TypesAreWithin m d (type_list As) × TermsAreWithin m d ts
RuleIsWithin m d (AllE t) = m.of_term t ≤ d
RuleIsWithin m d (ExI t) = m.of_term t ≤ d
RuleIsWithin m d _ = ⊤

-- the lines, each with its sequent and its rule
abbrev pub AreWithin : Count → ℕ → List Line → Type 0
AreWithin m d lines = AllByRecursion (λ (l : Line). IsWithin m d l.sequent × RuleIsWithin m d l.rule) lines

-- the lines keep each limit that the earlier ones, these sequents, these terms and these types keep
abbrev pub Keep : List Line → List Line → List Sequent → List Term → List Ty → Type 0
Keep before after Ss ts As =
    (m : Count) (d : ℕ) → AllByRecursion (IsWithin m d) Ss → TermsAreWithin m d ts → TypesAreWithin m d As → AreWithin m d before → AreWithin m d after

-- the same of the one sequent and the rule
abbrev pub KeepBy : List Line → List Line → Sequent → BaseRule → Type 0
KeepBy before after S rule = (m : Count) (d : ℕ) → IsWithin m d S → RuleIsWithin m d rule → AreWithin m d before → AreWithin m d after

-- How the count of a whole goes by those of its parts: a variable counts at most 1, shifts add nothing, type arguments and children are
-- within their node, an equation is one above its type and its sides, and the type of a term is at most 200 above the term or within its
-- context.
pub record GoesByParts (env : Env) (m : Count) : Type 0 where
  pub variables : (i : ℕ) → m.of_term (var i) ≤ 1
  pub shifted : (t : Term) (from by : ℕ) → m.of_term (shift t from by) ≤ m.of_term t
  pub types : (s : Sym) (As : Tys) (ts : List Term) → AllByRecursion (λ A. m.of_type A ≤ m.of_term (node s As (terms ts))) (type_list As)
  pub children : (s : Sym) (As : Tys) (ts : List Term) → AllByRecursion (λ t. m.of_term t ≤ m.of_term (node s As (terms ts))) ts
  pub equations : (A : Ty) (l r : Term) → m.of_term (equation A l r) ≤ 1 + max (m.of_type A) (max (m.of_term l) (m.of_term r))
  pub typed : (C : List Ty) (t : Term) (A : Ty) (d : ℕ) → Typed env C t A → TypesAreWithin m d C → m.of_type A ≤ max d (200 + m.of_term t)

-- below d there is room for equations between the terms and between their parts, in the context and under the hypotheses of the sequent
pub record HasRoom (m : Count) (d : ℕ) (S : Sequent) (ts : List Term) : Type 0 where
  pub context : AllByRecursion (λ A. m.of_type A + 1 ≤ d) (type_list S.context)
  pub some : 1 ≤ d
  pub hyps : TermsAreWithin m d S.hyps
  pub sides : AllByRecursion (λ t. m.of_term t + 201 ≤ d) ts

-- the lines keep each limit that the earlier ones keep and that has room for equations between these terms
abbrev pub KeepBetween : Env → List Line → List Line → Sequent → List Term → List Term → Type 0
KeepBetween env before after S ls rs =
    (m : Count) (d : ℕ) → GoesByParts env m → HasRoom m d S ls → HasRoom m d S rs → AreWithin m d before → AreWithin m d after

-- Depth.
abbrev pub depth_count : Count
depth_count = record { of_type = type_depth; of_term = depth }

-- the type of no symbol's values is deeper than 200 where the symbol is declared
abbrev pub HasShallowSignatures : Env → Type 0
HasShallowSignatures env = (s : Sym) (p : Profile) → profile env s ≡ Some p → type_depth p.result ≤ 200

-- Law: the depth of a sequent is a limit of its types and terms.
abbrev pub DepthIsCounted : Type 0
DepthIsCounted = (d : ℕ) (S : Sequent) → IsWithin depth_count d S ↔ (sequent_depth S ≤ d)

-- Law: depth goes by parts.
abbrev pub DepthGoesByParts : Type 0
DepthGoesByParts = (env : Env) → HasShallowSignatures env → GoesByParts env depth_count

-- Nesting of texts.
-- How deep the text of a term nests: that of a variable by 1, in a longer context no deeper, a child no deeper than its node, an equation
-- one deeper than its sides.
pub record IsTextNesting (nesting : Term → ℕ) : Type 0 where
  pub variables : (i : ℕ) → nesting (var i) ≤ 1
  pub shifted : (t : Term) (from by : ℕ) → nesting (shift t from by) ≤ nesting t
  pub children : (s : Sym) (As : Tys) (ts : List Term) → AllByRecursion (λ t. nesting t ≤ nesting (node s As (terms ts))) ts
  pub equations : (A : Ty) (l r : Term) → nesting (equation A l r) ≤ 1 + max (nesting l) (nesting r)

abbrev pub nesting_count : (Term → ℕ) → Count
nesting_count nesting = record { of_type = λ A. 0; of_term = nesting }

-- Law: nesting goes by parts.
abbrev pub NestingGoesByParts : Type 0
NestingGoesByParts = (env : Env) (nesting : Term → ℕ) → IsTextNesting nesting → GoesByParts env (nesting_count nesting)
