-- Unfolding and terms that are put in.
use Rattle.std.specs.Prelude.{◌≡◌, ◌++◌, ℕ, List, [], map, reverse}
use Rattle.std.proofs.Common.{ap, ◌∙◌}
use Rattle.ev_terms.specs.declared.types.Ty.{Ty}
use Rattle.ev_terms.specs.Term.{Term, terms}
use Rattle.ev_terms.specs.Substitution.{substitute, fill, retype}
use Rattle.ev_typing.specs.Env.{Env}
use Rattle.ev_typing.specs.Typing.{Typed, AreTyped}
use Rattle.ev_typing.specs.WellFormed.{IsWellFormed}
use Rattle.ev_ops.specs.Unfold.{bodies_after, unfolded}
use Rattle.ev_ops.proofs.Commuting.{unfold_subst, unfold_fill, retype_fit, unfold_retype}
use Rattle.ev_ops.proofs.Fitting.{fit_of, fit_list}

-- typed terms for the innermost variables
pub substitution_unfolded : (env : Env) → IsWellFormed env → (C As : List Ty) (ts : List Term) → AreTyped env C (terms ts) As → (t : Term) (A : Ty) → Typed env (C ++ reverse As) t A →
    unfolded env (substitute t ts) ≡ substitute (unfolded env t) (map (unfolded env) ts)
substitution_unfolded env w C As ts g t A h = unfold_subst (bodies_after [] env) t ts (fit_list env w C ts As g) (fit_of env w (C ++ reverse As) t A h)

-- terms put into a body at types
pub put_unfolded : (env : Env) → IsWellFormed env → (C D : List Ty) (t : Term) (A : Ty) (θ : ℕ → Ty) (ts : List Term) (Es : List Ty) → Typed env D t A → AreTyped env C (terms ts) Es →
    unfolded env (fill (retype θ t) ts) ≡ fill (retype θ (unfolded env t)) (map (unfolded env) ts)
put_unfolded env w C D t A θ ts Es h k =
    unfold_fill (bodies_after [] env) (retype θ t) ts (fit_list env w C ts Es k) (retype_fit (bodies_after [] env) t θ (fit_of env w D t A h))
    ∙ ap (λ x. fill x (map (unfolded env) ts)) (unfold_retype (bodies_after [] env) t θ (fit_of env w D t A h))

-- and into an opened formula
pub fill_unfolded : (env : Env) → IsWellFormed env → (C D : List Ty) (t : Term) (A : Ty) (ts : List Term) (Es : List Ty) → Typed env D t A → AreTyped env C (terms ts) Es →
    unfolded env (fill t ts) ≡ fill (unfolded env t) (map (unfolded env) ts)
fill_unfolded env w C D t A ts Es h k = unfold_fill (bodies_after [] env) t ts (fit_list env w C ts Es k) (fit_of env w D t A h)
