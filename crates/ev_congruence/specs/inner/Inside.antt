-- What congruence keeps to while it walks through a body.
use Rattle.std.specs.Prelude.{◌≡◌, ◌++◌, ◌≤◌, ◌^◌, ℕ, List, [], ◌∷◌, Option, length, map, reverse, ⊤}
use Rattle.ev_terms.specs.declared.types.Ty.{Ty}
use Rattle.ev_terms.specs.declared.types.Tys.{Tys}
use Rattle.ev_terms.specs.declared.types.Sym.{Sym}
use Rattle.ev_terms.specs.Types.{type_list}
use Rattle.ev_terms.specs.Term.{Term, node, terms}
use Rattle.ev_terms.specs.Measures.{highest}
use Rattle.ev_terms.specs.Substitution.{shift, inst, lifts, entry}
use Rattle.ev_typing.specs.declared.typing.Sequent.{Sequent}
use Rattle.ev_typing.specs.TypeLists.{types}
use Rattle.ev_typing.specs.Env.{Env}
use Rattle.ev_kernel.specs.declared.rules.Line.{Line}
use Rattle.ev_kernel.specs.Row.{at_children}
use Rattle.ev_congruence.specs.Settings.{AreAlike}
use Rattle.ev_congruence.specs.Equating.{AreEquatedBy, IsSettled}

-- the context of the one sequent has so many more variables, past which its hypotheses are shifted
pub record IsIndex (outer inner : Sequent) (count : ℕ) : Type 0 where
  pub bound : List Ty
  pub are : length bound ≡ count
  pub context : inner.context ≡ types (type_list outer.context ++ bound)
  pub hyps : inner.hyps ≡ map (λ P. shift P 0 count) outer.hyps

-- in a context of which that of the sequent T has so many more variables the line equates two terms, or they are one; what they become
-- in the longer one has variables with numbers below 2^32
pub record IsSettledOutside (lines : List Line) (T : Sequent) (count : ℕ) (found : Option ℕ) : Type 0 where
  pub outer : Sequent
  pub left : Term
  pub right : Term
  pub inside : IsIndex outer T count
  pub settled : IsSettled lines outer left right found
  pub left_low : highest (shift left 0 count) ≤ 2 ^ 32
  pub right_low : highest (shift right 0 count) ≤ 2 ^ 32

-- the term with arguments for the variables past so many binders, the first argument for the outermost
unfoldable pub put : ℕ → List Term → Term → Term
put n ts t = inst (lifts n (entry (reverse ts))) t

-- pair by pair
abbrev pub AreAllAlike : Env → List Ty → List Term → List Term → Type 0
AreAllAlike env C [] [] = ⊤
AreAllAlike env C (l ∷ ls) (r ∷ rs) = AreAlike env C l r × AreAllAlike env C ls rs
AreAllAlike env C _ _ = ⊥

-- the lines equate the children of the two terms, which have one symbol at the same types
pub record IsByCongruence (lines : List Line) (S : Sequent) (l r : Term) (ns : List ℕ) : Type 0 where
  pub symbol : Sym
  pub types : Tys
  pub lefts : List Term
  pub rights : List Term
  pub left : l ≡ node symbol types (terms lefts)
  pub right : r ≡ node symbol types (terms rights)
  pub children : AreEquatedBy lines (at_children S symbol types) lefts rights ns
