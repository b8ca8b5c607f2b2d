-- What holds of each axiom.
use Rattle.std.specs.Prelude.{◌≡◌, ℕ, [], Some, ⊤}
use Rattle.ev_terms.specs.declared.types.Sym.TheVariants.{Base, User}
use Rattle.ev_terms.specs.Term.{Term, Terms, var, lit, node, nil, cons}
use Rattle.ev_terms.specs.Measures.{loose}
use Rattle.ev_typing.specs.Env.{Env}
use Rattle.ev_typing.specs.Typing.{IsPredicate}
use Rattle.ev_typing.specs.Occurs.{IsPlain}
use Rattle.ev_typing.specs.Parts.{HasDistinctNames}
use Rattle.ev_axioms.specs.Axioms.{axiom_row}

abbrev mutual
  -- each symbol of the term is a base symbol
  pub IsOfBaseSymbols : Term → Type 0
  IsOfBaseSymbols (var i) = ⊤
  IsOfBaseSymbols (lit n) = ⊤
  IsOfBaseSymbols (node (Base k) As ts) = AreOfBaseSymbols ts
  IsOfBaseSymbols (node (User n) As ts) = ⊥

  pub AreOfBaseSymbols : Terms → Type 0
  AreOfBaseSymbols nil = ⊤
  AreOfBaseSymbols (cons t ts) = IsOfBaseSymbols t × AreOfBaseSymbols ts

-- a predicate over the environment in which nothing is declared, without free variables, of base symbols
pub record IsClosedAxiom (P : Term) : Type 0 where
  pub typed : IsPredicate [] [] P
  pub closed : loose P ≡ 0
  pub base : IsOfBaseSymbols P

-- each row is such
abbrev pub AxiomsAreClosed : Type 0
AxiomsAreClosed = (k : ℕ) (P : Term) → axiom_row k ≡ Some P → IsClosedAxiom P

-- so it is a predicate without direct operators over every environment
abbrev pub AxiomsAreBase : Type 0
AxiomsAreBase = (env : Env) → HasDistinctNames env → (k : ℕ) (P : Term) → axiom_row k ≡ Some P → IsPredicate env [] P × IsPlain env P
