-- Contexts and terms without direct operators.
use Rattle.std.specs.Prelude.{◌++◌, ◌+◌, ◌≤◌, ◌<◌, ◌^◌, ℕ, List, length}
use Rattle.std.specs.List.{AllByRecursion}
use Rattle.ev_terms.specs.declared.types.Ty.{Ty}
use Rattle.ev_terms.specs.Types.{type_list}
use Rattle.ev_terms.specs.Term.{Term, terms}
use Rattle.ev_terms.specs.Measures.{highest, depth, depths}
use Rattle.ev_terms.specs.Substitution.{fill}
use Rattle.ev_typing.specs.declared.typing.Sequent.{Sequent}
use Rattle.ev_typing.specs.Env.{Env}
use Rattle.ev_typing.specs.Typing.{AreProper, Typed, AreTyped, IsPredicate}
use Rattle.ev_typing.specs.Occurs.{IsPlain, ArePlain}

-- proper types, and hypotheses that are predicates without direct operators
pub record IsBaseContext (env : Env) (S : Sequent) : Type 0 where
  pub proper : AreProper env S.context
  pub hyps : AllByRecursion (IsPredicate env (type_list S.context)) S.hyps
  pub plain : AllByRecursion (IsPlain env) S.hyps

-- two terms of one type, without direct operators, whose variables have numbers below 2^32
pub record AreAlike (env : Env) (C : List Ty) (l r : Term) : Type 0 where
  pub ty : Ty
  pub left : Typed env C l ty
  pub right : Typed env C r ty
  pub left_plain : IsPlain env l
  pub right_plain : IsPlain env r
  pub left_low : highest l ≤ 2 ^ 32
  pub right_low : highest r ≤ 2 ^ 32

-- Law: a typed body without direct operators, with terms of the types of its innermost variables, gives terms that are alike; the numbers
-- of variables stay small where contexts, depths and their sum do.
abbrev pub FilledAreAlike : Type 0
FilledAreAlike =
    (env : Env) (C As : List Ty) (body : Term) (A : Ty) (ls rs : List Term) (d : ℕ)
    → Typed env (C ++ As) body A → AreTyped env C (terms ls) As → AreTyped env C (terms rs) As → IsPlain env body → ArePlain env (terms ls) → ArePlain env (terms rs)
    → depths (terms ls) ≤ d → depths (terms rs) ≤ d → (length C + length As) + (depth body + d) ≤ 2 ^ 32
    → AreAlike env C (fill body ls) (fill body rs)

-- numbers of variables stay below 2^32 when hypotheses and goal are shifted by one
abbrev pub HasShiftRoom : Sequent → Type 0
HasShiftRoom S = length (type_list S.context) + (depths (terms S.hyps) + depth S.goal) < 2 ^ 32
