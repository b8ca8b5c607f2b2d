-- Closed formulas that are cited: their quantifiers are taken off, and terms are put in.
use Rattle.std.specs.Prelude.{◌≡◌, ◌+◌, ◌++◌, ℕ, zero, suc, List, [], ◌∷◌, refl}
use Rattle.std.proofs.Common.{ap, sym, ◌∙◌, subst as transport, arith, append_assoc}
use Rattle.std.proofs.Math.Path.{fun_ext}
use Rattle.std.proofs.lemmas.Bool.Decides.{nat_tests}
use Rattle.ev_terms.specs.declared.types.Ty.{Ty, Prop}
use Rattle.ev_terms.specs.declared.types.Tys.{Tys, Empty}
use Rattle.ev_terms.specs.Types.{type_list}
use Rattle.ev_terms.specs.Term.{Term, var, node, nil, cons, terms}
use Rattle.ev_terms.specs.Symbols.{binds}
use Rattle.ev_terms.specs.Substitution.{shift_var, shift, inst, entry, substitute, fill, instance}
use Rattle.ev_terms.proofs.Laws.{inst-id}
use Rattle.ev_terms.proofs.AnyLaws.{inst-of_shift}
use Rattle.ev_forms.specs.Base.{at_type, for_all_sym}
use Rattle.ev_forms.specs.Forms.{forall, forall_all}
use Rattle.ev_typing.specs.declared.typing.Sequent.{Sequent}
use Rattle.ev_typing.specs.TypeLists.{types}
use Rattle.ev_typing.specs.Env.{Env}
use Rattle.ev_typing.specs.Typing.{IsProper, AreProper, Typed, AreTyped, IsTypedNode, inside, var_type}
use Rattle.ev_typing.specs.Occurs.{ArePlain}
use Rattle.ev_typing.specs.WellFormed.{IsWellFormed}
use Rattle.ev_typing.specs.Sequents.{◌⊢◌}
use Rattle.ev_typing.proofs.Laws.{type_list-types, types-type_list}
use Rattle.ev_typing.proofs.Keeps.{var_here}
use Rattle.ev_kernel.specs.declared.rules.BaseRule.TheVariants.{AllE}
use Rattle.ev_kernel.specs.Derivable.{Derivable}
use Rattle.ev_congruence.specs.Settings.{IsBaseContext}
use Rattle.ev_congruence.proofs.Terms.{append_nil, instance_none, types_none}
use Rattle.ev_sound.proofs.Derived.{base_of, by_row, one, lengthened, weakened_all}
use Rattle.ev_sound.proofs.Instances.{instantiated}
use Rattle.ev_sound.proofs.Quantified.{forall_typed}

-- The bound variable put for itself.
for_itself : (P : Term) → substitute (shift P 1 1) (var 0 ∷ []) ≡ P
for_itself P = inst-of_shift (entry (var 0 ∷ [])) P 1 1 ∙ ap (λ σ. inst σ P) (fun_ext each) ∙ inst-id P
  where
    each : (i : ℕ) → entry (var 0 ∷ []) (shift_var 1 1 i) ≡ var i
    each zero = refl
    each (suc i) =
        let e : shift_var 1 1 (suc i) ≡ suc (suc i) = grind (arith, nat_tests) in
        ap (entry (var 0 ∷ [])) e

-- One quantifier is taken off.
all_binds : binds for_all_sym ≡ 1
unfolding binds
all_binds = refl

shifted_forall : (A : Ty) (P : Term) → shift (forall A P) 0 1 ≡ forall A (shift P 1 1)
shifted_forall A P = ap (λ k. node for_all_sym (at_type A) (cons (shift P (0 + k) 1) nil)) all_binds

bound_proper : (env : Env) (C : List Ty) (A : Ty) (P : Term) (B : Ty) → Typed env C (forall A P) B → IsProper env A
bound_proper env C A P B h = by h
  where
    by : IsTypedNode env (at_type A) (record { params = 1; args = Prop ∷ []; result = Prop }) B (AreTyped env (inside C for_all_sym (at_type A)) (cons P nil) (Prop ∷ [])) → IsProper env A
    by r = r.proper.0

opened_one : (env : Env) (C : Tys) (A : Ty) (P : Term) → Derivable env (record { context = C; hyps = []; goal = forall A P }) → Derivable env (record { context = types (type_list C ++ A ∷ []); hyps = []; goal = P })
opened_one env C A P d =
    let S : Sequent = record { context = C; hyps = []; goal = forall A P } in
    let T : Sequent = record { context = types (type_list C ++ A ∷ []); hyps = []; goal = P } in
    let b = base_of env S d in
    let p : IsProper env A = bound_proper env (type_list C) A P Prop b.typed.goal in
    let long : Derivable env (T ⊢ forall A (shift P 1 1)) = transport (λ G. Derivable env (T ⊢ G)) (shifted_forall A P) (lengthened env S (A ∷ []) (p, tt) d) in
    let k = base_of env (T ⊢ forall A (shift P 1 1)) long in
    by_row env ((T ⊢ forall A (shift P 1 1)) ∷ []) (AllE (var 0)) T
    (A, shift P 1 1, ap (λ D. var_type D 0) (type_list-types (type_list C ++ A ∷ [])) ∙ var_here (type_list C) A, record { concludes = sym (for_itself P); premises_are = refl })
    (record {
      typed = record { context = k.typed.context; hyps = tt; goal = transport (λ D. Typed env D P Prop) (sym (type_list-types (type_list C ++ A ∷ []))) (forall_typed env (type_list C) A P Prop b.typed.goal) };
      plain_hyps = tt;
      plain_goal = b.plain_goal.1.0;
    })
    (one env (T ⊢ forall A (shift P 1 1)) long)

-- And all of a list.
pub opened : (env : Env) (Bs : List Ty) (C : Tys) (P : Term) → Derivable env (record { context = C; hyps = []; goal = forall_all Bs P }) →
    Derivable env (record { context = types (type_list C ++ Bs); hyps = []; goal = P })
opened env [] C P d = transport (λ D. Derivable env (record { context = D; hyps = []; goal = P })) (sym (ap types (append_nil (type_list C)) ∙ types-type_list C)) d
opened env (B ∷ Bs) C P d =
    transport (λ D. Derivable env (record { context = types D; hyps = []; goal = P }))
    (ap (λ D. D ++ Bs) (type_list-types (type_list C ++ B ∷ [])) ∙ append_assoc (type_list C) (B ∷ []) Bs)
    (opened env Bs (types (type_list C ++ B ∷ [])) P (opened_one env C B (forall_all Bs P) d))

-- A closed formula at terms for its quantifiers, in any context and under any hypotheses.
pub cited : (env : Env) → IsWellFormed env → (S : Sequent) (Bs : List Ty) (P : Term) (ts : List Term) → IsBaseContext env S → AreTyped env (type_list S.context) (terms ts) Bs → ArePlain env (terms ts) →
    Derivable env (record { context = Empty; hyps = []; goal = forall_all Bs P }) → Derivable env (S ⊢ fill P ts)
cited env w S Bs P ts b h p d =
    let open_line : Derivable env (record { context = types Bs; hyps = []; goal = P }) = opened env Bs Empty P d in
    weakened_all env S (fill P ts) b
    (transport (λ Q. Derivable env (record { context = S.context; hyps = []; goal = fill Q ts })) (instance_none P)
    (instantiated env w (record { context = types Bs; hyps = []; goal = P }) S.context Empty ts b.proper tt
    (transport (AreTyped env (type_list S.context) (terms ts)) (sym (types_none (type_list (types Bs)) ∙ type_list-types Bs)) h) p refl open_line))

-- A closed formula at types.
pub closed_instance : (env : Env) → IsWellFormed env → (P : Term) (As : Tys) → AreProper env As → Derivable env (record { context = Empty; hyps = []; goal = P }) →
    Derivable env (record { context = Empty; hyps = []; goal = instance P As })
closed_instance env w P As p d =
    transport (λ Q. Derivable env (record { context = Empty; hyps = []; goal = Q })) (ap (λ σ. inst σ (instance P As)) (fun_ext none_put) ∙ inst-id (instance P As))
    (instantiated env w (record { context = Empty; hyps = []; goal = P }) Empty As [] tt p tt tt refl d)
  where
    none_put : (i : ℕ) → entry [] i ≡ var i
    none_put i = refl
