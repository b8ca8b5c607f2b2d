-- Terms that give each direct operator as many types and arguments as its body wants.
use Rattle.std.specs.Prelude.{◌≡◌, ◌≤◌, ℕ, Some, length}
use Rattle.ev_terms.specs.declared.types.Tys.{Tys}
use Rattle.ev_terms.specs.Types.{type_list}
use Rattle.ev_terms.specs.Term.{Term, Terms, var, lit, node, nil, cons, term_list}
use Rattle.ev_terms.specs.Measures.{loose, params}
use Rattle.ev_ops.specs.Unfold.{Bodies, body_of}

-- a body for these types and arguments
pub record FitsBody (B : Term) (As : Tys) (n : ℕ) : Type 0 where
  pub arguments : loose B ≤ n
  pub parameters : params B ≤ length (type_list As)

module _ (bs : Bodies) where
  abbrev mutual
    -- each direct operator has as many types and arguments as its body wants
    pub IsFit : Term → Type 0
    IsFit (var i) = Unit {0}
    IsFit (lit n) = Unit {0}
    IsFit (node s As ts) = ((B : Term) → body_of bs s ≡ Some B → FitsBody B As (length (term_list ts))) × AreFit ts

    pub AreFit : Terms → Type 0
    AreFit nil = Unit {0}
    AreFit (cons t ts) = IsFit t × AreFit ts
