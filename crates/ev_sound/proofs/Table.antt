-- The table of steps.
use Rattle.std.specs.Prelude.{◌≡◌, ◌⊎◌, ◌++◌, ℕ, List, [], ◌∷◌, Option, Some, None, map, length, option_map, IsSomeAnd, refl}
use Rattle.std.specs.List.{AllByRecursion}
use Rattle.std.proofs.Common.{inl, inr, ap, sym, ◌∙◌, subst as transport}
use Rattle.ev_terms.specs.declared.types.Ty.{Ty, Prop}
use Rattle.ev_terms.specs.declared.types.Tys.{Tys}
use Rattle.ev_terms.specs.declared.types.Sym.TheVariants.{User}
use Rattle.ev_terms.specs.Types.{type_list}
use Rattle.ev_terms.specs.Term.{Term, Terms, node, nil, cons, terms, term_list, terms-term_list, term_list-terms}
use Rattle.ev_terms.specs.Substitution.{fill, instance, type_inst, type_at}
use Rattle.ev_typing.specs.declared.typing.Sequent.{Sequent}
use Rattle.ev_typing.specs.declared.typing.Signature.{Signature}
use Rattle.ev_typing.specs.TypeLists.{types}
use Rattle.ev_typing.specs.Env.{Env, Name, DirectOf, find_symbol, symbol_profile, profile}
use Rattle.ev_typing.specs.Parts.{base}
use Rattle.ev_typing.specs.Typing.{IsProper, Typed, AreTyped, IsSequent, IsTypedNode, inside, type_in}
use Rattle.ev_typing.specs.Sequents.{◌⊢◌}
use Rattle.ev_typing.specs.BaseSequents.{widened}
use Rattle.ev_typing.specs.WellFormed.{IsWellFormed, spliced, case_context}
use Rattle.ev_forms.specs.Forms.{equation}
use Rattle.ev_typing.proofs.Checks.{inside_none}
use Rattle.ev_typing.proofs.Laws.{type_list-types}
use Rattle.ev_typing.proofs.Names.{all_append}
use Rattle.ev_sound.proofs.Places.{user_binds}
use Rattle.ev_kernel.specs.Derivable.{Derivable, none, more}
use Rattle.ev_ops.proofs.UnfoldApplication.{unfolded_application}
use Rattle.ev_rewrite.specs.Instances.{assigned, IsMatch}
use Rattle.ev_rules.specs.Params.{element_params}
use Rattle.ev_rules.specs.declared.elements.Element.TheVariants as element
use Rattle.ev_replay.specs.declared.scopes.Scope.{Scope}
use Rattle.ev_replay.specs.Citing.{IsRuleInstance, IsGiven}
use Rattle.ev_replay.specs.StepForms.{ByUnfolding, ByFolding, ByInference, ByRewriting, ByRecursion, ByDestructor, condition_goal}
use Rattle.ev_replay.specs.Scopes.{IsScope}
use Rattle.ev_proof.specs.declared.steps.Ref.{Ref}
use Rattle.ev_proof.specs.declared.steps.Cite.{Cite}
use Rattle.ev_sound.specs.Unfoldings.{HasDerivableUnfolding, HaveDerivableUnfoldings}
use Rattle.ev_sound.proofs.Citable.{IsCitable}
use Rattle.ev_congruence.proofs.Terms.{proper_list, list_proper, some_out}
use Rattle.ev_sound.proofs.Rows.{U, US}
use Rattle.ev_sound.proofs.Cong.{head_of, tail_of}
use Rattle.ev_sound.proofs.Replaced.{same_goal}
use Rattle.ev_sound.proofs.Putting.{put_unfolded}
use Rattle.ev_sound.proofs.Reading.{types_proper, each_typed, assigned_proper}
use Rattle.ev_sound.proofs.Rules.{condition_goal_of, filled, widened_typed, by_equation, infer_sound, rewrite_sound}
use Rattle.ev_sound.proofs.Bodies.{equation_unfolded}
use Rattle.ev_sound.proofs.Destructing.{destructed_equal}
use Rattle.ev_sound.proofs.Recurring.{is_recursed, recursed_equal}
use Rattle.ev_sound.proofs.Scoping.{written_case}
use Rattle.ev_sound.proofs.Typing.{place_typed, matched_proper, found_body}

-- The children of a typed node are typed.
node_args : (env : Env) (D : List Ty) (n : Name) (As : Tys) (ts : Terms) (A : Ty) → Typed env D (node (User n) As ts) A → (Es : List Ty) × AreTyped env D ts Es
node_args env D n As ts A h =
    some_out (profile env (User n)) (λ q f g.
    (map (type_inst (type_at As)) q.args, transport (λ X. AreTyped env X ts (map (type_inst (type_at As)) q.args)) (sym (inside_none D (User n) As (user_binds n))) g.children)) h

-- The last of the subgoals.
append_last : (env : Env) (gs : List Sequent) (g : Sequent) → HaveDerivableUnfoldings env (gs ++ g ∷ []) → HaveDerivableUnfoldings env gs × HasDerivableUnfolding env g
append_last env [] g d = (none, head_of (base env) (US env g) [] d)
append_last env (h ∷ gs) g d =
    let k = append_last env gs g (tail_of (base env) (US env h) (map (US env) (gs ++ g ∷ [])) d) in
    (more (US env h) (map (US env) gs) (head_of (base env) (US env h) (map (US env) (gs ++ g ∷ [])) d) k.0, k.1)

all_last : (P : Sequent → Type 0) (gs : List Sequent) (g : Sequent) → AllByRecursion P (gs ++ g ∷ []) → P g
all_last P [] g h = h.0
all_last P (x ∷ gs) g h = all_last P gs g h.1

module _ (cs : Scope) (u : IsWellFormed cs.env) where
  -- the only subgoal
  after_typed : (S : Sequent) (gs : List Sequent) (after : Sequent) → after ≡ (S ⊢ after.goal) → gs ≡ after ∷ [] → AllByRecursion (IsSequent cs.env) gs → IsSequent cs.env (S ⊢ after.goal)
  after_typed S gs after e f g = let k : AllByRecursion (IsSequent cs.env) (after ∷ []) = transport (AllByRecursion (IsSequent cs.env)) f g in transport (IsSequent cs.env) e k.0

  after_derivable : (S : Sequent) (gs : List Sequent) (after : Sequent) → after ≡ (S ⊢ after.goal) → gs ≡ after ∷ [] → HaveDerivableUnfoldings cs.env gs → HasDerivableUnfolding cs.env (S ⊢ after.goal)
  after_derivable S gs after e f d = transport (HasDerivableUnfolding cs.env) e (head_of (base cs.env) (US cs.env after) [] (transport (HaveDerivableUnfoldings cs.env) f d))

  -- a direct operator and its body
  body_same : (D : List Ty) (n : Name) (As : Tys) (args : Terms) (sig : Signature) (condition : Option Term) (body : Term) (A : Ty) (Es : List Ty) → find_symbol cs.env n ≡ Some (DirectOf sig condition body) →
      Typed cs.env D (node (User n) As args) A → AreTyped cs.env D args Es → U cs.env (node (User n) As args) ≡ U cs.env (fill (instance body As) (term_list args))
  body_same D n As args sig condition body A Es found h k =
      let b = found_body n sig condition body cs.env u found in
      unfolded_application cs.env u D n As args A h sig condition body found
      ∙ sym (put_unfolded cs.env u D (type_list sig.args) body sig.result (type_at As) (term_list args) Es b.typed (transport (λ us. AreTyped cs.env D us Es) (sym (terms-term_list args)) k))

  pub unfold_sound : (S : Sequent) (place : List ℕ) (gs : List Sequent) → IsSequent cs.env S → ByUnfolding cs S place gs → HaveDerivableUnfoldings cs.env gs → HasDerivableUnfolding cs.env S
  unfold_sound S place gs h b d =
      let at = b.unfolded_there in
      let p = place_typed cs.env place (type_list S.context) S.goal (node (User b.n) b.As b.args) b.Bs Prop h.goal at.stands at.binders in
      let args = node_args cs.env (type_list S.context ++ b.Bs) b.n b.As b.args p.type p.typed in
      same_goal cs.env place S (node (User b.n) b.As b.args) (fill (instance b.body b.As) (term_list b.args)) b.after.goal at.stands at.replaced
      (body_same (type_list S.context ++ b.Bs) b.n b.As b.args b.sig b.condition b.body p.type args.0 b.found p.typed args.1)
      (transport (HasDerivableUnfolding cs.env) at.otherwise_same (head_of (base cs.env) (US cs.env b.after) [] (transport (HaveDerivableUnfoldings cs.env) b.goals_are d)))

  -- An inference rule.
  pub rule_types : (D : List Ty) (ids : List ℕ) (vars : List Ty) (pattern : Term) (cite : Cite) (As : List Ty) (ts : List Term) (t : Term) (A : Ty) → IsRuleInstance cs D ids vars pattern cite As ts t → Typed cs.env D t A →
      (i : ℕ) → IsProper cs.env (assigned ids As i)
  rule_types D ids vars pattern cite As ts t A r h = by r.found
    where
      by : (cite.types ≡ []) × (cite.terms ≡ []) × IsMatch ids (length vars) pattern As ts t ⊎ IsGiven cs D ids vars cite As ts → (i : ℕ) → IsProper cs.env (assigned ids As i)
      by (inl m) = matched_proper cs.env ids As pattern ts D A m.2.all_params (transport (λ x. Typed cs.env D x A) (sym m.2.is_instance) h)
      by (inr g) = assigned_proper cs.env ids As (types_proper cs.env cs.params cite.types As g.types_read)

  pub inference_sound : (ref : Ref) → IsCitable cs ref → (S : Sequent) (cite : Cite) (gs : List Sequent) (used : List Term) → IsSequent cs.env S → ByInference cs S ref cite gs used → HaveDerivableUnfoldings cs.env gs → HasDerivableUnfolding cs.env S
  inference_sound ref e S cite gs used h b d =
      infer_sound cs.env u S (type_list b.r.vars) b.r.givens b.r.conclusion (assigned (element_params (element.Inference b.r)) b.As) b.ts h
      (rule_types (type_list S.context) (element_params (element.Inference b.r)) (type_list b.r.vars) b.r.conclusion cite b.As b.ts S.goal Prop b.fits h.goal)
      b.fits.typed b.fits.is_instance (e.inference b.r b.may) (transport (HaveDerivableUnfoldings cs.env) b.goals_are d)

  -- A branch of a rewrite rule.
  same_condition : (W : Sequent) (f : Term → Term) (o : Option Term) → condition_goal cs W f o ≡ condition_goal_of W f o
  same_condition W f None = refl
  same_condition W f (Some C) = refl

  pub rewriting_sound : (ref : Ref) → IsCitable cs ref → (S : Sequent) (i : ℕ) (place : List ℕ) (cite : Cite) (gs : List Sequent) (used : List Term) → IsSequent cs.env S → AllByRecursion (IsSequent cs.env) gs →
      ByRewriting cs S ref i place cite gs used → HaveDerivableUnfoldings cs.env gs → HasDerivableUnfolding cs.env S
  rewriting_sound ref e S i place cite gs used h g b d =
      let at = b.rewritten in
      let ids = element_params (element.Rewrite b.r) in
      let θ = assigned ids b.As in
      let p = place_typed cs.env place (type_list S.context) S.goal b.old b.Bs Prop h.goal at.stands at.binders in
      let conditions = condition_goal cs (widened S b.Bs) (filled θ b.ts) b.b.condition in
      let d' = append_last cs.env conditions b.after (transport (HaveDerivableUnfoldings cs.env) b.goals_are d) in
      let g' : IsSequent cs.env b.after = all_last (IsSequent cs.env) conditions b.after (transport (AllByRecursion (IsSequent cs.env)) b.goals_are g) in
      rewrite_sound cs.env u S place (type_list b.r.vars) b.b.condition (type_in cs.env (type_list b.r.vars) b.r.left) b.r.left b.b.right θ b.ts b.Bs b.old b.after.goal h
      (transport (IsSequent cs.env) at.otherwise_same g') p.proper
      (rule_types (type_list S.context ++ b.Bs) ids (type_list b.r.vars) b.r.left cite b.As b.ts b.old p.type b.fits p.typed)
      b.fits.typed b.fits.is_instance at.stands at.binders at.replaced (e.branches b.r i b.b b.may b.branch)
      (transport (HaveDerivableUnfoldings cs.env) (same_condition (widened S b.Bs) (filled θ b.ts) b.b.condition) d'.0)
      (transport (HasDerivableUnfolding cs.env) at.otherwise_same d'.1)

  -- A body that is folded.
  pub fold_sound : (S : Sequent) (n : Name) (place : List ℕ) (cite : Cite) (gs : List Sequent) → IsSequent cs.env S → ByFolding cs S n place cite gs → HaveDerivableUnfoldings cs.env gs → HasDerivableUnfolding cs.env S
  fold_sound S n place cite gs h b d =
      let at = b.folded_there in
      let D = type_list S.context ++ b.Bs in
      let p = place_typed cs.env place (type_list S.context) S.goal (fill (instance b.body (types b.As)) b.ts) b.Bs Prop h.goal at.stands at.binders in
      let proper = all_append (IsProper cs.env) (type_list S.context) b.Bs (proper_list cs.env S.context h.context) p.proper in
      let Es = map (type_inst (type_at (types b.As))) (type_list b.sig.args) in
      let args : AreTyped cs.env D (terms b.ts) Es = each_typed cs.env cs.params D Es cite.terms b.ts proper b.terms_read in
      let call_typed : Typed cs.env D (node (User n) (types b.As) (terms b.ts)) (type_inst (type_at (types b.As)) b.sig.result) =
      transport (λ o. IsSomeAnd o (λ x. IsTypedNode cs.env (types b.As) x (type_inst (type_at (types b.As)) b.sig.result) (AreTyped cs.env (inside D (User n) (types b.As)) (terms b.ts) (map (type_inst (type_at (types b.As))) x.args))))
      (sym (ap (option_map symbol_profile) b.found))
      (record {
        count = ap length (type_list-types b.As) ∙ b.types_counted;
        proper = list_proper cs.env b.As (types_proper cs.env cs.params cite.types b.As b.types_read);
        children = transport (λ X. AreTyped cs.env X (terms b.ts) Es) (inside_none D (User n) (types b.As) (user_binds n)) args;
        result = refl;
      }) in
      same_goal cs.env place S (fill (instance b.body (types b.As)) b.ts) (node (User n) (types b.As) (terms b.ts)) b.after.goal at.stands at.replaced
      (sym (body_same D n (types b.As) (terms b.ts) b.sig b.condition b.body (type_inst (type_at (types b.As)) b.sig.result) Es b.found call_typed args
      ∙ ap (λ us. U cs.env (fill (instance b.body (types b.As)) us)) (term_list-terms b.ts)))
      (transport (HasDerivableUnfolding cs.env) at.otherwise_same (head_of (base cs.env) (US cs.env b.after) [] (transport (HaveDerivableUnfoldings cs.env) b.goals_are d)))

  -- A destructor on its constructor.
  pub con_sound : (S : Sequent) (place : List ℕ) (gs : List Sequent) (used : List Term) → IsSequent cs.env S → AllByRecursion (IsSequent cs.env) gs → ByDestructor cs S place gs used → HaveDerivableUnfoldings cs.env gs →
      HasDerivableUnfolding cs.env S
  con_sound S place gs used h g b d =
      let at = b.put_there in
      let old = node (User b.n) b.As (cons (node (User b.c.name) b.Cs b.xs) nil) in
      let p = place_typed cs.env place (type_list S.context) S.goal old b.Bs Prop h.goal at.stands at.binders in
      let W = widened S b.Bs in
      let typed : Typed cs.env (type_list W.context) old p.type = transport (λ D. Typed cs.env D old p.type) (sym (type_list-types (type_list S.context ++ b.Bs))) p.typed in
      by_equation cs.env u S place old b.x b.after.goal b.Bs p.type h (after_typed S gs b.after at.otherwise_same b.goals_are g) at.stands at.binders at.replaced
      (destructed_equal cs.env u W b.n b.d b.c b.i b.f b.As b.Cs b.xs b.x p.type (widened_typed cs.env u S b.Bs h p.proper) b.found b.argument typed)
      (after_derivable S gs b.after at.otherwise_same b.goals_are d)

  -- A recursive operator on a constructor.
  pub recur_sound : IsScope cs → (S : Sequent) (place : List ℕ) (gs : List Sequent) (used : List Term) → IsSequent cs.env S → AllByRecursion (IsSequent cs.env) gs → ByRecursion cs S place gs used → HaveDerivableUnfoldings cs.env gs →
      HasDerivableUnfolding cs.env S
  recur_sound scope S place gs used h g b d =
      let at = b.put_there in
      let old = node (User b.n) b.As b.args in
      let ts = spliced (term_list b.args) b.inductive (term_list b.xs) in
      let new = fill (instance b.body b.As) ts in
      let p = place_typed cs.env place (type_list S.context) S.goal old b.Bs Prop h.goal at.stands at.binders in
      let W = widened S b.Bs in
      let D = type_list W.context in
      let typed : Typed cs.env D old p.type = transport (λ X. Typed cs.env X old p.type) (sym (type_list-types (type_list S.context ++ b.Bs))) p.typed in
      let k = written_case cs u scope b.n b.sig b.condition b.inductive b.bodies b.written b.c b.d b.Ds b.k b.body b.found b.recurs_on b.are_written b.case_is in
      let r = is_recursed cs.env u D b.n b.c b.sig b.condition b.inductive b.bodies b.d b.Ds b.k k.unfolded_body b.As b.Cs b.args b.xs p.type b.found b.recurs_on k.case b.constructed typed in
      let C = case_context b.sig b.inductive b.Ds b.k in
      let Es = map (type_inst (type_at b.As)) C in
      let same : U cs.env (fill (instance k.unfolded_body b.As) ts) ≡ U cs.env new =
      put_unfolded cs.env u D C k.unfolded_body b.sig.result (type_at b.As) ts Es k.typed r.typed
      ∙ ap (λ x. fill (instance x b.As) (map (U cs.env) ts)) k.same
      ∙ sym (put_unfolded cs.env u D C b.body b.sig.result (type_at b.As) ts Es k.written_typed r.typed) in
      by_equation cs.env u S place old new b.after.goal b.Bs p.type h (after_typed S gs b.after at.otherwise_same b.goals_are g) at.stands at.binders at.replaced
      (transport (λ P. Derivable (base cs.env) (US cs.env W ⊢ P))
      (equation_unfolded cs.env p.type old (fill (instance k.unfolded_body b.As) ts) ∙ ap (equation p.type (U cs.env old)) same ∙ sym (equation_unfolded cs.env p.type old new))
      (recursed_equal cs.env u W b.n b.c b.sig b.condition b.inductive b.bodies b.d b.Ds b.k k.unfolded_body b.As b.Cs b.args b.xs p.type (widened_typed cs.env u S b.Bs h p.proper) b.found b.recurs_on k.case b.constructed typed))
      (after_derivable S gs b.after at.otherwise_same b.goals_are d)
