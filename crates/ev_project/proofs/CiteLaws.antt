-- The environment of what a proof may cite is that of the theory's scope and its first elements.
use Rattle.std.specs.Prelude.{◌≡◌, ◌++◌, ℕ, Ok, true, List, [], ◌∷◌, map, flat_map, take, refl}
use Rattle.std.proofs.Common.{sym, ap, ◌∙◌}
use Rattle.std.proofs.lemmas.List.Sums.{fold-append}
use Rattle.ev_typing.specs.Env.{Name}
use Rattle.ev_rules.specs.declared.elements.Element.{Element}
use Rattle.ev_ops.specs.Entries.{with_element, env_of}
use Rattle.ev_replay.specs.declared.scopes.CiteElement.{CiteElement}
use Rattle.ev_elab.specs.declared.theories.Theory.{Theory}
use Rattle.ev_elab.specs.States.{elements_of as elements_of_all, reached_elements, scope_env_of}
use Rattle.ev_project.specs.Projects.{Project, has_text}
use Rattle.ev_project.specs.Contents.{Contents, elements_of, imports}
use Rattle.ev_project.specs.Graphs.{reached_names}
use Rattle.ev_project.specs.Scopes.{cite_elements, reached_theory, scope, scope_elements, cite_scope}
use Rattle.ev_project.proofs.ScopeLaws.{scope_is}

abbrev plain : List CiteElement → List Element
plain cs = map (λ (c : CiteElement). c.element) cs

plain_append : (cs ds : List CiteElement) → plain (cs ++ ds) ≡ plain cs ++ plain ds
plain_append [] ds = refl
plain_append (c ∷ cs) ds = ap (λ es. c.element ∷ es) (plain_append cs ds)

plain_cited : (n : Name) (es : List Element) → plain (cite_elements n es) ≡ es
plain_cited n [] = refl
plain_cited n (e ∷ es) = ap (λ fs. e ∷ fs) (plain_cited n es)

module _ (p : Project) (v : Contents) where
  plain_reached : (ns : List Name) → plain (flat_map (λ u. cite_elements u (elements_of (v.elaboration u))) ns) ≡ elements_of_all (map (reached_theory p v) ns)
  plain_reached [] = refl
  plain_reached (n ∷ ns) =
      plain_append (cite_elements n (elements_of (v.elaboration n))) (flat_map (λ u. cite_elements u (elements_of (v.elaboration u))) ns)
      ∙ ap (λ es. es ++ plain (flat_map (λ u. cite_elements u (elements_of (v.elaboration u))) ns)) (plain_cited n (elements_of (v.elaboration n)))
      ∙ ap (λ es. elements_of (v.elaboration n) ++ es) (plain_reached ns)

  pub cite_env : (n : Name) (T : Theory) (k : ℕ) → has_text p n ≡ true → v.elaboration n ≡ Ok T → (cite_scope p v n k).env ≡ scope_env_of (scope p v n) T k
  cite_env n T k here is = ap env_of elements ∙ fold-append with_element [] (reached_elements (scope p v n)) (take k T.elements)
    where
      own : List CiteElement
      own = cite_elements n (take k (elements_of (v.elaboration n)))

      below : List CiteElement
      below = flat_map (λ u. cite_elements u (elements_of (v.elaboration u))) (reached_names p (imports p v) n)

      elements : plain (scope_elements p v n k) ≡ reached_elements (scope p v n) ++ take k T.elements
      elements =
          plain_append below own
          ∙ ap (λ es. es ++ plain own) (plain_reached (reached_names p (imports p v) n) ∙ ap elements_of_all (sym (scope_is p v n here)))
          ∙ ap (λ es. reached_elements (scope p v n) ++ es) (plain_cited n (take k (elements_of (v.elaboration n))) ∙ ap (λ e. take k (elements_of e)) is)
