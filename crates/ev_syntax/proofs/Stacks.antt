-- Stacks of frames.
use Rattle.std.proofs.Common.{◌≡◌, List, [], ◌∷◌, ◌++◌, refl, ap, subst, sym, ◌∙◌, append-nil, append_assoc}
use Rattle.std.specs.Prelude.{Option, Some, option_to_list}
use Rattle.ev_syntax.specs.inner.Resuming.{Behind}
use Rattle.ev_syntax.specs.inner.Machines.{IsStack}

module _ {A F : Type 0} (frame : F → List (Behind A) → Type 0) where
  with_last : (fs : List F) (f : F) (bs one : List (Behind A)) → IsStack frame fs bs → frame f one → IsStack frame (fs ++ f ∷ []) (bs ++ one)
  with_last [] f bs one k i = (one, [], i, refl, ap (λ xs. xs ++ one) k ∙ sym (append-nil one))
  with_last (x ∷ fs) f bs one (first, rest, i, k, e) j = (first, rest ++ one, i, with_last fs f rest one k j, ap (λ xs. xs ++ one) e ∙ append_assoc first rest one)

  pub pushed : (fs new : List F) (f : F) (bs one : List (Behind A)) → new ≡ fs ++ f ∷ [] → IsStack frame fs bs → frame f one → IsStack frame new (bs ++ one)
  pushed fs new f bs one e k i = subst (λ xs. IsStack frame xs (bs ++ one)) (sym e) (with_last fs f bs one k i)

  -- the work of a stack without its last frame, and that of the frame
  abbrev pub Popped : List F → F → List (Behind A) → Type 0
  Popped fs f bs = (inner : List (Behind A)) × (one : List (Behind A)) × IsStack frame fs inner × frame f one × (bs ≡ inner ++ one)

  without_last : (fs : List F) (f : F) (bs : List (Behind A)) → IsStack frame (fs ++ f ∷ []) bs → Popped fs f bs
  without_last [] f bs (one, rest, i, k, e) = ([], one, refl, i, e ∙ ap (λ xs. one ++ xs) k ∙ append-nil one)
  without_last (x ∷ fs) f bs (first, rest, i, k, e) = let (inner, one, s, j, d) = without_last fs f rest k in
      (first ++ inner, one, (first, inner, i, s, refl), j, e ∙ ap (λ xs. first ++ xs) d ∙ sym (append_assoc first inner one))

  pub popped : (old fs : List F) (o : Option F) (f : F) (bs : List (Behind A)) → old ≡ fs ++ option_to_list o → o ≡ Some f → IsStack frame old bs → Popped fs f bs
  popped old fs o f bs e d k = without_last fs f bs (subst (λ xs. IsStack frame xs bs) (e ∙ ap (λ x. fs ++ option_to_list x) d) k)
