-- What substitution puts for the variables of a context, where the arguments are equal.
use Rattle.std.specs.Prelude.{◌≡◌, ◌++◌, ℕ, zero, suc, List, [], ◌∷◌, Some, reverse, slice_get}
use Rattle.std.proofs.Common.{sym, subst as transport}
use Rattle.std.proofs.lemmas.List.{reverse-append}
use Rattle.ev_terms.specs.declared.types.Ty.{Ty}
use Rattle.ev_terms.specs.Term.{Term}
use Rattle.ev_terms.specs.Substitution.{entry}
use Rattle.ev_typing.specs.declared.typing.Sequent.{Sequent}
use Rattle.ev_typing.specs.Env.{Env}
use Rattle.ev_typing.specs.Typing.{var_type}
use Rattle.ev_sound.specs.Equations.{AreAllEqual, AreEqual}

-- for each variable of the context the two substitutions put equal terms
abbrev pub PutEqual : Env → Sequent → (ℕ → Term) → (ℕ → Term) → List Ty → Type 0
PutEqual env S σ τ C = (i : ℕ) (A : Ty) → var_type C i ≡ Some A → AreEqual env S A (σ i) (τ i)

module _ (env : Env) (S : Sequent) where
  equal_append : (As Bs : List Ty) (us vs xs ys : List Term) → AreAllEqual env S As us vs → AreAllEqual env S Bs xs ys → AreAllEqual env S (As ++ Bs) (us ++ xs) (vs ++ ys)
  equal_append [] Bs [] [] xs ys h k = k
  equal_append [] Bs [] (v ∷ vs) xs ys h k = absurd h
  equal_append [] Bs (u ∷ us) vs xs ys h k = absurd h
  equal_append (A ∷ As) Bs [] vs xs ys h k = absurd h
  equal_append (A ∷ As) Bs (u ∷ us) [] xs ys h k = absurd h
  equal_append (A ∷ As) Bs (u ∷ us) (v ∷ vs) xs ys h k = (h.0, equal_append As Bs us vs xs ys h.1 k)

  equal_reverse : (As : List Ty) (us vs : List Term) → AreAllEqual env S As us vs → AreAllEqual env S (reverse As) (reverse us) (reverse vs)
  equal_reverse [] [] [] h = h
  equal_reverse [] [] (v ∷ vs) h = absurd h
  equal_reverse [] (u ∷ us) vs h = absurd h
  equal_reverse (A ∷ As) [] vs h = absurd h
  equal_reverse (A ∷ As) (u ∷ us) [] h = absurd h
  equal_reverse (A ∷ As) (u ∷ us) (v ∷ vs) h =
      transport (λ X. AreAllEqual env S X (reverse (u ∷ us)) (reverse (v ∷ vs))) (sym (reverse-append (A ∷ []) As))
      (transport (λ X. AreAllEqual env S (reverse As ++ A ∷ []) X (reverse (v ∷ vs))) (sym (reverse-append (u ∷ []) us))
      (transport (AreAllEqual env S (reverse As ++ A ∷ []) (reverse us ++ u ∷ [])) (sym (reverse-append (v ∷ []) vs))
      (equal_append (reverse As) (A ∷ []) (reverse us) (reverse vs) (u ∷ []) (v ∷ []) (equal_reverse As us vs h.1) (h.0, tt))))

  equal_get : (As : List Ty) (us vs : List Term) (i : ℕ) (A : Ty) → AreAllEqual env S As us vs → slice_get As i ≡ Some A → AreEqual env S A (entry us i) (entry vs i)
  equal_get [] us vs i A h e = cc
  equal_get (B ∷ As) [] vs i A h e = absurd h
  equal_get (B ∷ As) (u ∷ us) [] i A h e = absurd h
  equal_get (B ∷ As) (u ∷ us) (v ∷ vs) zero A h e = let q : B ≡ A = cc in transport (λ X. AreEqual env S X u v) q h.0
  equal_get (B ∷ As) (u ∷ us) (v ∷ vs) (suc i) A h e = equal_get As us vs i A h.1 e

  -- what stands for a variable
  pub equal_puts : (As : List Ty) (us vs : List Term) → AreAllEqual env S As us vs → PutEqual env S (entry (reverse us)) (entry (reverse vs)) As
  equal_puts As us vs h i A e = equal_get (reverse As) (reverse us) (reverse vs) i A (equal_reverse As us vs h) e
