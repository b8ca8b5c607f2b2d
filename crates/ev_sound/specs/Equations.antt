-- Derivable equations, alone and in lists.
use Rattle.std.specs.Prelude.{List, [], ◌∷◌, ⊤}
use Rattle.ev_terms.specs.declared.types.Ty.{Ty}
use Rattle.ev_terms.specs.Term.{Term}
use Rattle.ev_forms.specs.Forms.{equation}
use Rattle.ev_typing.specs.declared.typing.Sequent.{Sequent}
use Rattle.ev_typing.specs.Env.{Env}
use Rattle.ev_typing.specs.Sequents.{◌⊢◌}
use Rattle.ev_kernel.specs.Derivable.{Derivable}

-- in the context and under the hypotheses of the sequent the terms are equal
abbrev pub AreEqual : Env → Sequent → Ty → Term → Term → Type 0
AreEqual env S A l r = Derivable env (S ⊢ equation A l r)

-- pair by pair
abbrev pub AreAllEqual : Env → Sequent → List Ty → List Term → List Term → Type 0
AreAllEqual env S [] [] [] = ⊤
AreAllEqual env S (A ∷ As) (l ∷ ls) (r ∷ rs) = AreEqual env S A l r × AreAllEqual env S As ls rs
AreAllEqual env S _ _ _ = ⊥
