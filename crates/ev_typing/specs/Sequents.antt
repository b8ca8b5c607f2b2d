-- Sequents with another goal or one more hypothesis, and how large they are.
use Rattle.std.specs.Prelude.{◌+◌, ◌++◌, ◌≤◌, ℕ, [], ◌∷◌, max}
use Rattle.ev_terms.specs.Term.{Term, terms}
use Rattle.ev_terms.specs.Measures.{size, sizes, depth, depths, types_size, types_depth}
use Rattle.ev_typing.specs.declared.typing.Sequent.{Sequent}

infixl 12 ◌▹◌
infixl 12 ◌⊢◌
-- the sequent with another goal
abbrev pub ◌⊢◌ : Sequent → Term → Sequent
S ⊢ G = record { context = S.context; hyps = S.hyps; goal = G }

-- the sequent with one more hypothesis, behind the others
abbrev pub ◌▹◌ : Sequent → Term → Sequent
S ▹ P = record { context = S.context; hyps = S.hyps ++ P ∷ []; goal = S.goal }

-- the sum over context, hypotheses and goal
abbrev pub sequent_size : Sequent → ℕ
sequent_size S = types_size S.context + (sizes (terms S.hyps) + size S.goal)

-- the greatest depth in context, hypotheses and goal
abbrev pub sequent_depth : Sequent → ℕ
sequent_depth S = max (types_depth S.context) (max (depths (terms S.hyps)) (depth S.goal))

-- size and depth are within these
pub record IsWithin (size_limit depth_limit : ℕ) (S : Sequent) : Type 0 where
  pub size_fits : sequent_size S ≤ size_limit
  pub depth_fits : sequent_depth S ≤ depth_limit
