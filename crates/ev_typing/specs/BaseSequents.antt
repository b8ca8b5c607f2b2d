-- Sequents without direct operators, and sequents in longer contexts.
use Rattle.std.specs.Prelude.{◌++◌, Bool as Boolean, true, false, List, [], ◌∷◌, map, length}
use Rattle.std.specs.List.{AllByRecursion}
use Rattle.ev_terms.specs.declared.types.Ty.{Ty}
use Rattle.ev_terms.specs.Types.{type_list}
use Rattle.ev_terms.specs.Substitution.{shift}
use Rattle.ev_typing.specs.declared.typing.Entry.{Entry}
use Rattle.ev_typing.specs.declared.typing.Entry.TheVariants.{Data, Constant, Direct, Recursive}
use Rattle.ev_typing.specs.declared.typing.Sequent.{Sequent}
use Rattle.ev_typing.specs.TypeLists.{types}
use Rattle.ev_typing.specs.Env.{Env}
use Rattle.ev_typing.specs.Typing.{IsSequent}
use Rattle.ev_typing.specs.Occurs.{IsPlain}
use Rattle.ev_typing.specs.Parts.{IsPartOf, HasDistinctNames}

-- the entry declares a direct operator
abbrev pub is_direct_entry : Entry → Boolean
is_direct_entry (Data d) = false
is_direct_entry (Constant sig condition) = false
is_direct_entry (Direct sig condition body) = true
is_direct_entry (Recursive sig condition place bodies) = false

-- a well-typed sequent in which no direct operator occurs
pub record IsBaseSequent (env : Env) (S : Sequent) : Type 0 where
  pub typed : IsSequent env S
  pub plain_hyps : AllByRecursion (IsPlain env) S.hyps
  pub plain_goal : IsPlain env S.goal

-- the sequent in the context with more variables inside: hypotheses and goal are shifted past them
abbrev pub widened : Sequent → List Ty → Sequent
widened S As =
    record { context = types (type_list S.context ++ As); hyps = map (λ P. shift P 0 (length As)) S.hyps; goal = shift S.goal 0 (length As) }

-- with one more variable
abbrev pub under : Sequent → Ty → Sequent
under S A = widened S (A ∷ [])

-- Law: a base sequent over a part of an environment is one over the whole.
abbrev pub WholeKeepsBaseSequents : Type 0
WholeKeepsBaseSequents = (e f : Env) → IsPartOf e f → HasDistinctNames f → (S : Sequent) → IsBaseSequent e S → IsBaseSequent f S
