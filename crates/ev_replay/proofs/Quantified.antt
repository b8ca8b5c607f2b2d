-- The steps by terms: of the quantifiers, and between the sides of an equation.
use Rattle.std.proofs.Common.{◌≡◌, List, [], ◌∷◌, Option, Some, None, Result, ap, sym, subst, ◌∙◌}
use Rattle.std.specs.Prelude.{IfOk}
use Rattle.ev_terms.specs.declared.types.Ty.{Ty}
use Rattle.ev_terms.specs.Term.{Term}
use Rattle.ev_terms.specs.Substitution.{substitute}
use Rattle.ev_syntax.specs.Raw.{Raw}
use Rattle.ev_forms.specs.Forms.{forall, exists, equation}
use Rattle.ev_typing.specs.declared.typing.Sequent.{Sequent}
use Rattle.ev_typing.specs.Env.{Env, Name}
use Rattle.ev_typing.specs.Sequents.{◌⊢◌}
use Rattle.ev_kernel.proofs.Equations.{same_sides}
use Rattle.ev_proof.specs.declared.steps.Step.TheVariants as step
use Rattle.ev_replay.specs.Reading.{ReadsFormula, ReadsTerm}
use Rattle.ev_replay.specs.RuleSteps.{GivesByRule}
use Rattle.ev_replay.specs.inner.Finding.{Only}
use Rattle.ev_replay.proofs.Finding.{only_both}
use Rattle.ev_replay.proofs.Forms.{one_forall, one_exists, one_equation}

module _ (env : Env) (params : List Name) (S : Sequent) (raw : Raw) where
  -- A term of which the predicate holds.
  pub some_term : (A : Ty) (Q t : Term) (gs : List Sequent) → S.goal ≡ exists A Q → Only (ReadsTerm env params S A raw) (Some t) → gs ≡ (S ⊢ substitute Q (t ∷ [])) ∷ []
      → Only (GivesByRule env params S (step.ExI raw)) (Some gs)
  some_term A Q t gs e r f = (
    (A, Q, t, e, r.0, f),
    λ hs (B, R, u, g, k, m).
        let same = one_exists B A R Q (sym g ∙ e) in
        m ∙ ap (λ X. (S ⊢ substitute X (u ∷ [])) ∷ []) same.1 ∙ ap (λ x. (S ⊢ substitute Q (x ∷ [])) ∷ []) (r.1 u (subst (λ X. ReadsTerm env params S X raw u) same.0 k)) ∙ sym f,
  )

  pub no_term : (A : Ty) (Q : Term) → S.goal ≡ exists A Q → Only (ReadsTerm env params S A raw) None → Only (GivesByRule env params S (step.ExI raw)) None
  no_term A Q e n hs (B, R, u, g, k, m) = n u (subst (λ X. ReadsTerm env params S X raw u) (one_exists B A R Q (sym g ∙ e)).0 k)

  -- A term between the sides.
  pub middle : (A : Ty) (l r t : Term) (gs : List Sequent) → S.goal ≡ equation A l r → Only (ReadsTerm env params S A raw) (Some t) → gs ≡ (S ⊢ equation A l t) ∷ (S ⊢ equation A t r) ∷ []
      → Only (GivesByRule env params S (step.Trans raw)) (Some gs)
  middle A l r t gs e h f = (
    (A, l, r, t, e, h.0, f),
    λ hs (B, a, b, u, g, k, m).
        let p : equation B a b ≡ equation A l r = sym g ∙ e in
        let sides = same_sides B A a b l r p in
        let type = one_equation B A a b l r p in
        let v = h.1 u (subst (λ X. ReadsTerm env params S X raw u) type k) in
        m ∙ ap (λ X. (S ⊢ equation X a u) ∷ (S ⊢ equation X u b) ∷ []) type ∙ ap (λ x. (S ⊢ equation A x u) ∷ (S ⊢ equation A u b) ∷ []) sides.0
        ∙ ap (λ x. (S ⊢ equation A l u) ∷ (S ⊢ equation A u x) ∷ []) sides.1 ∙ ap (λ x. (S ⊢ equation A l x) ∷ (S ⊢ equation A x r) ∷ []) v ∙ sym f,
  )

  pub no_middle : (A : Ty) (l r : Term) → S.goal ≡ equation A l r → Only (ReadsTerm env params S A raw) None → Only (GivesByRule env params S (step.Trans raw)) None
  no_middle A l r e n hs (B, a, b, u, g, k, m) = n u (subst (λ X. ReadsTerm env params S X raw u) (one_equation B A a b l r (sym g ∙ e)) k)

  -- A quantified formula at a term.
  pub at_forall : {E : Type 0} (other : Raw) (P : Term) (A : Ty) (Q t : Term) (r : Result (Option (List Sequent)) E) → Only (ReadsFormula env params S raw) (Some P) → P ≡ forall A Q
      → Only (ReadsTerm env params S A other) (Some t) → IfOk r (Only (λ gs. (S.goal ≡ substitute Q (t ∷ [])) × (gs ≡ (S ⊢ P) ∷ []))) → IfOk r (Only (GivesByRule env params S (step.AllE raw other)))
  at_forall other P A Q t r p e h k = only_both (λ gs. (S.goal ≡ substitute Q (t ∷ [])) × (gs ≡ (S ⊢ P) ∷ [])) (GivesByRule env params S (step.AllE raw other)) r to from k
    where
      to : (gs : List Sequent) → (S.goal ≡ substitute Q (t ∷ [])) × (gs ≡ (S ⊢ P) ∷ []) → GivesByRule env params S (step.AllE raw other) gs
      to gs (g, f) = (A, Q, t, subst (ReadsFormula env params S raw) e p.0, h.0, g, f ∙ ap (λ X. (S ⊢ X) ∷ []) e)

      from : (gs : List Sequent) → GivesByRule env params S (step.AllE raw other) gs → (S.goal ≡ substitute Q (t ∷ [])) × (gs ≡ (S ⊢ P) ∷ [])
      from gs (B, R, u, x, y, g, f) =
          let same = one_forall B A R Q (p.1 (forall B R) x ∙ e) in
          let v = h.1 u (subst (λ X. ReadsTerm env params S X other u) same.0 y) in
          (g ∙ ap (λ X. substitute X (u ∷ [])) same.1 ∙ ap (λ z. substitute Q (z ∷ [])) v, f ∙ ap (λ X. (S ⊢ X) ∷ []) (p.1 (forall B R) x))

  pub no_forall_term : (other : Raw) (P : Term) (A : Ty) (Q : Term) → Only (ReadsFormula env params S raw) (Some P) → P ≡ forall A Q → Only (ReadsTerm env params S A other) None
      → Only (GivesByRule env params S (step.AllE raw other)) None
  no_forall_term other P A Q p e n gs (B, R, u, x, y, g, f) =
      n u (subst (λ X. ReadsTerm env params S X other u) (one_forall B A R Q (p.1 (forall B R) x ∙ e)).0 y)

  pub no_forall : (other : Raw) (P : Term) → Only (ReadsFormula env params S raw) (Some P) → ((A : Ty) (Q : Term) → ¬ (P ≡ forall A Q)) → Only (GivesByRule env params S (step.AllE raw other)) None
  no_forall other P p n gs (B, R, u, x, y, g, f) = n B R (sym (p.1 (forall B R) x))

  pub no_formula : (other : Raw) → Only (ReadsFormula env params S raw) None → Only (GivesByRule env params S (step.AllE raw other)) None
  no_formula other n gs (B, R, u, x, y, g, f) = n (forall B R) x
