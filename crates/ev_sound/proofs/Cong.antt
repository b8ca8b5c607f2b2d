-- The row for congruence read upwards, also at a direct operator.
use Rattle.std.specs.Prelude.{◌≡◌, List, [], ◌∷◌, Option, Some, None, map, take, refl}
use Rattle.std.proofs.Common.{ap, sym, ◌∙◌, subst as transport}
use Rattle.ev_terms.specs.declared.types.Ty.{Ty, Prop}
use Rattle.ev_terms.specs.declared.types.Tys.{Tys}
use Rattle.ev_terms.specs.declared.types.Sym.{Sym}
use Rattle.ev_terms.specs.declared.types.Sym.TheVariants.{Base, User}
use Rattle.ev_terms.specs.Types.{type_list}
use Rattle.ev_terms.specs.Term.{Term, Terms, node, nil, cons, terms, term_list}
use Rattle.ev_terms.specs.Symbols.{binds}
use Rattle.ev_terms.specs.Substitution.{type_inst, type_at}
use Rattle.ev_forms.specs.Forms.{equation}
use Rattle.ev_typing.specs.declared.typing.Sequent.{Sequent}
use Rattle.ev_typing.specs.Env.{Env}
use Rattle.ev_typing.specs.Parts.{base}
use Rattle.ev_typing.specs.Typing.{AreProper, Typed, AreTyped, IsPredicate, IsSequent}
use Rattle.ev_typing.specs.Sequents.{◌⊢◌}
use Rattle.ev_kernel.specs.declared.rules.BaseRule.TheVariants.{Cong}
use Rattle.ev_kernel.specs.Row.{Row, AreEquated, at_children}
use Rattle.ev_kernel.specs.Derivable.{Derivable, AreDerivable, more}
use Rattle.ev_ops.specs.Unfold.{body_of, bodies_after}
use Rattle.ev_sound.specs.Equations.{AreEqual, AreAllEqual}
use Rattle.ev_typing.specs.WellFormed.{IsWellFormed}
use Rattle.ev_congruence.proofs.Terms.{equation_sides}
use Rattle.ev_congruence.proofs.Contexts.{context_of}
use Rattle.ev_sound.proofs.Congruence.{AreEqualChildren, no_children, one_more}
use Rattle.ev_ops.proofs.Fitting.{found_body}
use Rattle.ev_ops.proofs.Basing.{sequent_over_base}
use Rattle.ev_sound.proofs.Bodies.{equation_unfolded, over_base}
use Rattle.ev_sound.proofs.Places.{all_unfolded, at_user, direct_between, plain_between, equal_at}
use Rattle.ev_sound.proofs.Rows.{U, US}
use Rattle.ev_sound.proofs.Quantified.{unfolded_widened}

-- The first of derivable sequents, and the others.
pub head_of : (env : Env) (S : Sequent) (Ss : List Sequent) → AreDerivable env (S ∷ Ss) → Derivable env S
head_of env S Ss (more T Ts d ds) = d

pub tail_of : (env : Env) (S : Sequent) (Ss : List Sequent) → AreDerivable env (S ∷ Ss) → AreDerivable env Ss
tail_of env S Ss (more T Ts d ds) = ds

module _ (env : Env) (u : IsWellFormed env) where
  -- what the premise of a child tells
  premise_equal : (I T : Sequent) → ((G : Term) → US env (I ⊢ G) ≡ (T ⊢ U env G)) → (X : Ty) (c d : Term) (g : Sequent) → g ≡ (I ⊢ equation X c d) → Derivable (base env) (US env g) → AreEqual (base env) T X (U env c) (U env d)
  premise_equal I T k X c d g e h = transport (Derivable (base env)) (ap (US env) e ∙ k (equation X c d) ∙ ap (λ G. T ⊢ G) (equation_unfolded env X c d)) h

  equated_children : (I T : Sequent) → ((G : Term) → US env (I ⊢ G) ≡ (T ⊢ U env G)) → (cs ds : Terms) (gs : List Sequent) (Xs : List Ty) → AreEquated I (term_list cs) (term_list ds) gs → AreDerivable (base env) (map (US env) gs) →
      AreTyped (base env) (type_list T.context) (all_unfolded env u cs) Xs → AreEqualChildren (base env) T Xs (all_unfolded env u cs) (all_unfolded env u ds)
  equated_children I T k nil nil [] [] e h t = no_children (base env) T
  equated_children I T k nil nil [] (X ∷ Xs) e h t = absurd t
  equated_children I T k nil nil (g ∷ gs) Xs e h t = absurd e
  equated_children I T k nil (cons d ds) gs Xs e h t = absurd e
  equated_children I T k (cons c cs) nil gs Xs e h t = absurd e
  equated_children I T k (cons c cs) (cons d ds) [] Xs e h t = absurd e
  equated_children I T k (cons c cs) (cons d ds) (g ∷ gs) [] e h t = absurd t
  equated_children I T k (cons c cs) (cons d ds) (g ∷ gs) (X ∷ Xs) e h t =
      one_more (base env) T X Xs (U env c) (U env d) (all_unfolded env u cs) (all_unfolded env u ds)
      (equal_at (base env) T X e.0.0 (U env c) (U env d) t.0 (premise_equal I T k e.0.0 c d g e.0.1 (head_of (base env) (US env g) (map (US env) gs) h)))
      (equated_children I T k cs ds gs Xs e.1 (tail_of (base env) (US env g) (map (US env) gs) h) t.1)

  equated_arguments : (I T : Sequent) → ((G : Term) → US env (I ⊢ G) ≡ (T ⊢ U env G)) → AreProper env T.context → (cs ds : List Term) (gs : List Sequent) (Xs : List Ty) → AreEquated I cs ds gs →
      AreDerivable (base env) (map (US env) gs) → AreTyped env (type_list T.context) (terms cs) Xs → AreAllEqual (base env) T Xs (map (U env) cs) (map (U env) ds)
  equated_arguments I T k p [] [] [] [] e h t = tt
  equated_arguments I T k p [] [] [] (X ∷ Xs) e h t = absurd t
  equated_arguments I T k p [] [] (g ∷ gs) Xs e h t = absurd e
  equated_arguments I T k p [] (d ∷ ds) gs Xs e h t = absurd e
  equated_arguments I T k p (c ∷ cs) [] gs Xs e h t = absurd e
  equated_arguments I T k p (c ∷ cs) (d ∷ ds) [] Xs e h t = absurd e
  equated_arguments I T k p (c ∷ cs) (d ∷ ds) (g ∷ gs) [] e h t = absurd t
  equated_arguments I T k p (c ∷ cs) (d ∷ ds) (g ∷ gs) (X ∷ Xs) e h t = (
    equal_at (base env) T X e.0.0 (U env c) (U env d) (over_base env u T.context p c X t.0).typed (premise_equal I T k e.0.0 c d g e.0.1 (head_of (base env) (US env g) (map (US env) gs) h)),
    equated_arguments I T k p cs ds gs Xs e.1 (tail_of (base env) (US env g) (map (US env) gs) h) t.1,
  )

  by_symbol : (S : Sequent) (gs : List Sequent) (s : Sym) (As : Tys) (cs ds : Terms) (A : Ty) (o : Option Term) → IsSequent env S → body_of (bodies_after [] env) s ≡ o → AreEquated (at_children S s As) (term_list cs) (term_list ds) gs →
      Typed env (type_list S.context) (node s As cs) A → Typed env (type_list S.context) (node s As ds) A → AreDerivable (base env) (map (US env) gs) →
      AreEqual (base env) (US env S) A (U env (node s As cs)) (U env (node s As ds))
  by_symbol S gs s As cs ds A None h o e l r d =
      plain_between env u (US env S) h.context (context_of (base env) (US env S) (sequent_over_base env u S h)) s As cs ds A o
      (λ Xs b t p. equated_children (at_children S s As) (at_children (US env S) s As) (λ G. unfolded_widened env u S (take (binds s) (type_list As)) G h.hyps) cs ds gs Xs e d t) l
  by_symbol S gs (Base k) As cs ds A (Some B) h o e l r d = cc
  by_symbol S gs (User n) As cs ds A (Some B) h o e l r d =
      direct_between env u (US env S) h.context (context_of (base env) (US env S) (sequent_over_base env u S h)) n B As cs ds A (found_body env u n B o)
      (λ t. equated_arguments (at_children S (User n) As) (US env S)
      (λ G. unfolded_widened env u S (take (binds (User n)) (type_list As)) G h.hyps ∙ at_user (US env S) n As (U env G))
      h.context (term_list cs) (term_list ds) gs (map (type_inst (type_at As)) (type_list (found_body env u n B o).sig.args)) e d t) l r

  pub cong_row : (S : Sequent) (gs : List Sequent) → IsSequent env S → Row env gs Cong S → AreDerivable (base env) (map (US env) gs) → Derivable (base env) (US env S)
  cong_row S gs h (A, l, r, e, (s, As, cs, ds, f, g, q)) d =
      let e' : S.goal ≡ equation A (node s As cs) (node s As ds) = e ∙ ap (λ x. equation A x r) f ∙ ap (equation A (node s As cs)) g in
      let sides = equation_sides env (type_list S.context) A (node s As cs) (node s As ds) Prop (transport (IsPredicate env (type_list S.context)) e' h.goal) in
      transport (λ G. Derivable (base env) (US env S ⊢ G)) (sym (ap (U env) e' ∙ equation_unfolded env A (node s As cs) (node s As ds)))
      (by_symbol S gs s As cs ds A (body_of (bodies_after [] env) s) h refl q sides.left sides.right d)
