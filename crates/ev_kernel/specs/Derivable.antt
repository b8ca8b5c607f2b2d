-- What is derivable by the base rules, and which lists of lines are derivations.
use Rattle.std.specs.Prelude.{◌≡◌, ◌++◌, ℕ, zero, suc, List, [], ◌∷◌, Option, Some, None, slice_get, ⊤}
use Rattle.std.specs.List.{AllByRecursion, AllZip, filter_map}
use Rattle.ev_typing.specs.declared.typing.Sequent.{Sequent}
use Rattle.ev_typing.specs.Env.{Env}
use Rattle.ev_typing.specs.Parts.{IsPartOf, HasDistinctNames}
use Rattle.ev_typing.specs.BaseSequents.{IsBaseSequent}
use Rattle.ev_kernel.specs.declared.rules.BaseRule.{BaseRule}
use Rattle.ev_kernel.specs.declared.rules.Line.{Line}
use Rattle.ev_kernel.specs.Row.{Row}

-- the sequent follows from the premises by the rule's row, all of them well typed and without direct operators
pub record Follows (env : Env) (premises : List Sequent) (rule : BaseRule) (S : Sequent) : Type 0 where
  pub row : Row env premises rule S
  pub conclusion : IsBaseSequent env S
  pub premises_base : AllByRecursion (IsBaseSequent env) premises

mutual
  -- the least relation that holds of what follows from sequents of which it holds
  pub data Derivable (env : Env) : Sequent → Type 0 where
    derived : (premises : List Sequent) (rule : BaseRule) (S : Sequent) → Follows env premises rule S → AreDerivable env premises → Derivable env S

  -- each of the sequents is derivable
  pub data AreDerivable (env : Env) : List Sequent → Type 0 where
    none : AreDerivable env []
    more : (S : Sequent) (Ss : List Sequent) → Derivable env S → AreDerivable env Ss → AreDerivable env (S ∷ Ss)

-- the item with a number, from 1
abbrev pub numbered : {X : Type 0} → List X → ℕ → Option X
numbered xs zero = None
numbered xs (suc i) = slice_get xs i

-- the sequents that numbers name, in their order
abbrev pub named : List Sequent → List ℕ → List Sequent
named sequents numbers = filter_map (numbered sequents) numbers

-- the line with this number has this sequent
abbrev pub IsSequentAt : List Line → ℕ → Sequent → Type 0
IsSequentAt lines n S = (l : Line) × (numbered lines n ≡ Some l) × (l.sequent ≡ S)

-- the line follows by its row from the lines that it names, which are among the earlier ones
abbrev pub LineFollows : Env → List Line → Line → Type 0
LineFollows env earlier l = (premises : List Sequent) × AllZip (IsSequentAt earlier) l.premises premises × Follows env premises l.rule l.sequent

-- each line follows from lines that stand before it, the earlier ones included
abbrev pub IsDerivationAfter : Env → List Line → List Line → Type 0
IsDerivationAfter env earlier [] = ⊤
IsDerivationAfter env earlier (l ∷ ls) = LineFollows env earlier l × IsDerivationAfter env (earlier ++ l ∷ []) ls

-- each line follows by its row from lines that stand before it
abbrev pub IsDerivation : Env → List Line → Type 0
IsDerivation env lines = IsDerivationAfter env [] lines

-- Law: each line of a derivation has a derivable sequent.
abbrev pub LinesAreDerivable : Type 0
LinesAreDerivable = (env : Env) (lines : List Line) → IsDerivation env lines → AllByRecursion (λ (l : Line). Derivable env l.sequent) lines

-- Law: what is derivable has a derivation, of which it is the last line.
abbrev pub DerivableHasDerivation : Type 0
DerivableHasDerivation = (env : Env) (S : Sequent) → Derivable env S → (lines : List Line) × (last : Line) × IsDerivation env (lines ++ last ∷ []) × (last.sequent ≡ S)

-- Law: what is derivable over a part of an environment is derivable over the whole.
abbrev pub WholeKeepsDerivable : Type 0
WholeKeepsDerivable = (e f : Env) → IsPartOf e f → HasDistinctNames f → (S : Sequent) → Derivable e S → Derivable f S
