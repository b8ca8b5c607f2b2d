-- Terms that lines equate.
use Rattle.std.specs.Prelude.{◌≡◌, ◌++◌, ◌+◌, ◌<◌, ◌≤◌, ◌^◌, ℕ, length, map, List, [], ◌∷◌, Option, Some, None, ⊤}
use Rattle.ev_terms.specs.declared.types.Ty.{Ty}
use Rattle.ev_terms.specs.declared.types.Tys.{Tys}
use Rattle.ev_terms.specs.Types.{type_list}
use Rattle.ev_terms.specs.Term.{Term, terms}
use Rattle.ev_terms.specs.Measures.{depth, depths, highest}
use Rattle.ev_terms.specs.Substitution.{fill, instance, type_inst, type_at}
use Rattle.ev_forms.specs.Forms.{equation}
use Rattle.ev_typing.specs.declared.typing.Sequent.{Sequent}
use Rattle.ev_typing.specs.Sequents.{◌⊢◌}
use Rattle.ev_kernel.specs.declared.rules.Line.{Line}
use Rattle.ev_typing.specs.Env.{Env}
use Rattle.ev_typing.specs.Typing.{Typed, AreTyped}
use Rattle.ev_typing.specs.Occurs.{IsPlain}
use Rattle.ev_congruence.specs.Growing.{concluded}
use Rattle.ev_congruence.specs.Settings.{AreAlike}

-- the line equates the terms in the context and under the hypotheses of the sequent
pub record Equates (lines : List Line) (S : Sequent) (l r : Term) (n : ℕ) : Type 0 where
  pub ty : Ty
  pub line : concluded lines n ≡ Some (S ⊢ equation ty l r)

-- the lines equate the terms, pair by pair
abbrev pub AreEquatedBy : List Line → Sequent → List Term → List Term → List ℕ → Type 0
AreEquatedBy lines S [] [] [] = ⊤
AreEquatedBy lines S (l ∷ ls) (r ∷ rs) (n ∷ ns) = Equates lines S l r n × AreEquatedBy lines S ls rs ns
AreEquatedBy lines S _ _ _ = ⊥

-- the line equates the terms; without a line they are one
abbrev pub IsSettled : List Line → Sequent → Term → Term → Option ℕ → Type 0
IsSettled lines S l r None = l ≡ r
IsSettled lines S l r (Some n) = Equates lines S l r n

-- pair by pair
abbrev pub AreSettled : List Line → Sequent → List Term → List Term → List (Option ℕ) → Type 0
AreSettled lines S [] [] [] = ⊤
AreSettled lines S (l ∷ ls) (r ∷ rs) (o ∷ os) = IsSettled lines S l r o × AreSettled lines S ls rs os
AreSettled lines S _ _ _ = ⊥

-- The terms for the variables of the body are one or equated by lines, both sides are typed alike, and the numbers of variables stay small.
pub record AreSettledFor (env : Env) (lines : List Line) (S : Sequent) (body : Term) (ls rs : List Term) (os : List (Option ℕ)) : Type 0 where
  pub settled : AreSettled lines S ls rs os
  pub alike : AreAlike env (type_list S.context) (fill body ls) (fill body rs)
  pub room : length (type_list S.context) + (depths (terms S.hyps) + depth body) < 2 ^ 32

-- the lines equate the terms at these types, pair by pair
abbrev pub AreEquatedAt : List Line → Sequent → List Ty → List Term → List Term → List ℕ → Type 0
AreEquatedAt lines S [] [] [] [] = ⊤
AreEquatedAt lines S (A ∷ As) (l ∷ ls) (r ∷ rs) (n ∷ ns) = (concluded lines n ≡ Some (S ⊢ equation A l r)) × AreEquatedAt lines S As ls rs ns
AreEquatedAt lines S _ _ _ _ = ⊥

-- The lines equate the terms for the innermost variables of the body, at the types of these. The body is typed and without direct
-- operators, its context has fewer than 2^31 entries, and nothing is as deep as 2^29.
pub record AreReady (env : Env) (lines : List Line) (S : Sequent) (body : Term) (ls rs : List Term) (ns : List ℕ) : Type 0 where
  pub types : List Ty
  pub ty : Ty
  pub equated : AreEquatedAt lines S types ls rs ns
  pub typed : Typed env (type_list S.context ++ types) body ty
  pub plain : IsPlain env body
  pub few : length (type_list S.context ++ types) < 2 ^ 31
  pub hyps_depth : depths (terms S.hyps) < 2 ^ 29
  pub body_depth : depth body < 2 ^ 29
  pub lefts_depth : depths (terms ls) < 2 ^ 29
  pub rights_depth : depths (terms rs) < 2 ^ 29

-- the line concludes that the body with the left terms is the body with the right ones, in the context and under the hypotheses of the lines that equate the terms
abbrev pub IsCongruence : Env → List Line → List Line → Term → List Term → List Term → List ℕ → ℕ → Type 0
IsCongruence env before after body ls rs ns n =
    (S : Sequent) (A : Ty) → AreEquatedBy before S ls rs ns → Typed env (type_list S.context) (fill body ls) A → concluded after n ≡ Some (S ⊢ equation A (fill body ls) (fill body rs))

-- the line is without hypotheses, and the terms are of the types of its context, with types put for the type parameters; the numbers of variables stay small
pub record IsInstantiable (env : Env) (lines : List Line) (S : Sequent) (C As : Tys) (ts : List Term) (n : ℕ) : Type 0 where
  pub line : concluded lines n ≡ Some S
  pub none : S.hyps ≡ []
  pub typed : AreTyped env (type_list C) (terms ts) (map (type_inst (type_at As)) (type_list S.context))
  pub low : highest (fill (instance S.goal As) ts) ≤ 2 ^ 32
