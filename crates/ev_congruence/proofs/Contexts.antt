-- Base sequents: contexts, equations, and what stands in a longer context.
use Rattle.std.specs.Prelude.{◌≡◌, ◌≤◌, ◌++◌, ℕ, zero, suc, List, [], ◌∷◌, Some, None, map, length, take, slice_get, refl}
use Rattle.std.specs.List.{AllByRecursion}
use Rattle.std.proofs.Common.{ap, sym, ◌∙◌, subst as transport, arith}
use Rattle.ev_terms.specs.declared.types.Ty.{Ty, Prop}
use Rattle.ev_terms.specs.declared.types.Tys.{Tys, Empty}
use Rattle.ev_terms.specs.declared.types.Sym.{Sym}
use Rattle.ev_terms.specs.Types.{type_list}
use Rattle.ev_terms.specs.Term.{Term, nil, cons, terms}
use Rattle.ev_terms.specs.Symbols.{binds}
use Rattle.ev_terms.specs.Measures.{loose}
use Rattle.ev_terms.specs.Substitution.{shift, fill, instance, type_inst, type_at}
use Rattle.ev_terms.proofs.Laws.{shift-zero}
use Rattle.ev_terms.proofs.ListLaws.{binds_le}
use Rattle.ev_forms.specs.Base.{implies_sym}
use Rattle.ev_forms.specs.Forms.{equation, imp, vars_above}
use Rattle.ev_typing.specs.declared.typing.Sequent.{Sequent}
use Rattle.ev_typing.specs.TypeLists.{types}
use Rattle.ev_typing.specs.Env.{Env}
use Rattle.ev_typing.specs.Typing.{IsProper, Typed, AreTyped, IsTypedNode, IsPredicate, inside}
use Rattle.ev_typing.specs.Occurs.{IsPlain}
use Rattle.ev_typing.specs.WellFormed.{IsWellFormed}
use Rattle.ev_typing.specs.Sequents.{◌⊢◌}
use Rattle.ev_typing.specs.BaseSequents.{IsBaseSequent, widened}
use Rattle.ev_typing.proofs.Checks.{inside_none}
use Rattle.ev_typing.proofs.Laws.{type_list-types, types-type_list}
use Rattle.ev_typing.proofs.Keeps.{shift_typed}
use Rattle.ev_typing.proofs.Names.{all_append}
use Rattle.ev_typing.proofs.ProperSignatures.{signatures_proper}
use Rattle.ev_kernel.specs.Row.{IsInstanceOf, at_children}
use Rattle.ev_congruence.specs.Settings.{IsBaseContext}
use Rattle.ev_congruence.proofs.Terms.{append_nil, HasSides, equation_typed, equation_sides, equation_plain, equation_plain_sides, shift_plain, proper_list, list_proper, typed_result, typed_loose, vars_fill, instance_none, types_none, vars_typed}

pub context_of : (env : Env) (S : Sequent) → IsBaseSequent env S → IsBaseContext env S
context_of env S b = record { proper = b.typed.context; hyps = b.typed.hyps; plain = b.plain_hyps }

-- the sequent with another goal
pub base_goal : (env : Env) (S : Sequent) (G : Term) → IsBaseContext env S → IsPredicate env (type_list S.context) G → IsPlain env G → IsBaseSequent env (S ⊢ G)
base_goal env S G b g p = record {
  typed = record { context = b.proper; hyps = b.hyps; goal = g };
  plain_hyps = b.plain;
  plain_goal = p;
}

-- Equations.
pub base_equation : (env : Env) → IsWellFormed env → (S : Sequent) (A : Ty) (l r : Term) → IsBaseContext env S → Typed env (type_list S.context) l A → Typed env (type_list S.context) r A →
    IsPlain env l → IsPlain env r → IsBaseSequent env (S ⊢ equation A l r)
base_equation env w S A l r b g h p q =
    base_goal env S (equation A l r) b
    (equation_typed env (type_list S.context) A l r
    (typed_result env (signatures_proper env w) (type_list S.context) (proper_list env S.context b.proper) l A g) g h)
    (equation_plain env A l r p q)

-- what a line that is an equation tells of its sides
pub record AreEquals (env : Env) (S : Sequent) (A : Ty) (l r : Term) : Type 0 where
  pub context : IsBaseContext env S
  pub sides : HasSides env (type_list S.context) A l r
  pub left_plain : IsPlain env l
  pub right_plain : IsPlain env r

pub are_equals : (env : Env) (S : Sequent) (A : Ty) (l r : Term) → IsBaseSequent env (S ⊢ equation A l r) → AreEquals env S A l r
are_equals env S A l r b =
    let p = equation_plain_sides env A l r b.plain_goal in record {
      context = record { proper = b.typed.context; hyps = b.typed.hyps; plain = b.plain_hyps };
      sides = equation_sides env (type_list S.context) A l r Prop b.typed.goal;
      left_plain = p.0;
      right_plain = p.1;
    }

pub base_by_sides : (env : Env) (S : Sequent) (A : Ty) (l r : Term) → IsBaseContext env S → HasSides env (type_list S.context) A l r → IsPlain env l → IsPlain env r →
    IsBaseSequent env (S ⊢ equation A l r)
base_by_sides env S A l r b h p q =
    base_goal env S (equation A l r) b (equation_typed env (type_list S.context) A l r h.result h.left h.right) (equation_plain env A l r p q)

-- Implications.
implies_binds : binds implies_sym ≡ 0
unfolding binds
implies_binds = refl

pub imp_right : (env : Env) (C : List Ty) (P Q : Term) (B : Ty) → Typed env C (imp P Q) B → Typed env C Q Prop
imp_right env C P Q B h = by h
  where
    by : IsTypedNode env Empty (record { params = 0; args = Prop ∷ Prop ∷ []; result = Prop }) B (AreTyped env (inside C implies_sym Empty) (cons P (cons Q nil)) (Prop ∷ Prop ∷ [])) →
        Typed env C Q Prop
    by r =
        let c : AreTyped env C (cons P (cons Q nil)) (Prop ∷ Prop ∷ []) = transport (λ D. AreTyped env D (cons P (cons Q nil)) (Prop ∷ Prop ∷ [])) (sym (inside_none C implies_sym Empty implies_binds)) r.children in
        c.1.0

pub base_imp : (env : Env) (S : Sequent) (P Q : Term) → IsBaseSequent env (S ⊢ imp P Q) → IsBaseSequent env (S ⊢ Q)
base_imp env S P Q b = record {
  typed = record { context = b.typed.context; hyps = b.typed.hyps; goal = imp_right env (type_list S.context) P Q Prop b.typed.goal };
  plain_hyps = b.plain_hyps;
  plain_goal = b.plain_goal.1.1.0;
}

-- Shifted predicates.
pub shifted_typed : (env : Env) (C Bs : List Ty) (t : Term) (A : Ty) → Typed env C t A → Typed env (C ++ Bs) (shift t 0 (length Bs)) A
shifted_typed env C Bs t A h =
    transport (λ D. Typed env D (shift t 0 (length Bs)) A) (append_nil (C ++ Bs))
    (shift_typed env C Bs [] t A (transport (λ D. Typed env D t A) (sym (append_nil C)) h))

shifted_all : (env : Env) (C Bs : List Ty) (Ps : List Term) → AllByRecursion (IsPredicate env C) Ps → AllByRecursion (IsPredicate env (C ++ Bs)) (map (λ P. shift P 0 (length Bs)) Ps)
shifted_all env C Bs [] h = tt
shifted_all env C Bs (P ∷ Ps) h = (shifted_typed env C Bs P Prop h.0, shifted_all env C Bs Ps h.1)

plain_all : (env : Env) (k : ℕ) (Ps : List Term) → AllByRecursion (IsPlain env) Ps → AllByRecursion (IsPlain env) (map (λ P. shift P 0 k) Ps)
plain_all env k [] h = tt
plain_all env k (P ∷ Ps) h = (shift_plain env P 0 k h.0, plain_all env k Ps h.1)

pub context_widened : (env : Env) (S : Sequent) (Bs : List Ty) → IsBaseContext env S → AllByRecursion (IsProper env) Bs → IsBaseContext env (widened S Bs)
context_widened env S Bs b p = record {
  proper = list_proper env (type_list S.context ++ Bs) (all_append (IsProper env) (type_list S.context) Bs (proper_list env S.context b.proper) p);
  hyps = transport (λ D. AllByRecursion (IsPredicate env D) (map (λ P. shift P 0 (length Bs)) S.hyps)) (sym (type_list-types (type_list S.context ++ Bs)))
      (shifted_all env (type_list S.context) Bs S.hyps b.hyps);
  plain = plain_all env (length Bs) S.hyps b.plain;
}

pub base_widened : (env : Env) (S : Sequent) (Bs : List Ty) → IsBaseSequent env S → IsBaseContext env (widened S Bs) → IsBaseSequent env (widened S Bs)
base_widened env S Bs b c = record {
  typed = record {
    context = c.proper;
    hyps = c.hyps;
    goal = transport (λ D. IsPredicate env D (shift S.goal 0 (length Bs))) (sym (type_list-types (type_list S.context ++ Bs))) (shifted_typed env (type_list S.context) Bs S.goal Prop b.typed.goal);
  };
  plain_hyps = c.plain;
  plain_goal = shift_plain env S.goal 0 (length Bs) b.plain_goal;
}

-- Variables for the variables of a context put a sequent into a longer one.
put_variables : (env : Env) (C Bs : List Ty) (P : Term) → loose P ≤ length C → fill (instance P Empty) (vars_above (length C) (length Bs)) ≡ shift P 0 (length Bs)
put_variables env C Bs P h = ap (λ t. fill t (vars_above (length C) (length Bs))) (instance_none P) ∙ vars_fill P (length C) (length Bs) h

put_all : (env : Env) (C Bs : List Ty) (Ps : List Term) → AllByRecursion (IsPredicate env C) Ps →
    map (λ P. shift P 0 (length Bs)) Ps ≡ map (λ P. fill (instance P Empty) (vars_above (length C) (length Bs))) Ps
put_all env C Bs [] h = refl
put_all env C Bs (P ∷ Ps) h =
    let p = sym (put_variables env C Bs P (typed_loose env C P Prop h.0)) in
    let q = put_all env C Bs Ps h.1 in cc

pub widened_instance : (env : Env) (S : Sequent) (Bs : List Ty) → IsBaseSequent env S → IsInstanceOf env Empty (vars_above (length (type_list S.context)) (length Bs)) S (widened S Bs)
widened_instance env S Bs b =
    let C = type_list S.context in record {
      types_proper = tt;
      terms_typed =
          transport (λ D. AreTyped env D (terms (vars_above (length C) (length Bs))) (map (type_inst (type_at Empty)) C)) (sym (type_list-types (C ++ Bs)))
          (transport (AreTyped env (C ++ Bs) (terms (vars_above (length C) (length Bs)))) (sym (types_none C)) (vars_typed env C Bs));
      hyps_are = put_all env C Bs S.hyps b.typed.hyps;
      goal_is = sym (put_variables env C Bs S.goal (typed_loose env C S.goal Prop b.typed.goal));
    }

-- The context of a symbol's children.
pub map_shift_none : (Ps : List Term) → map (λ P. shift P 0 0) Ps ≡ Ps
map_shift_none [] = refl
map_shift_none (P ∷ Ps) = let p = shift-zero P 0 in let q = map_shift_none Ps in cc

pub by_parts : (C D : Tys) (H K : List Term) (G L : Term) → C ≡ D → H ≡ K → G ≡ L → ◌≡◌ {A = Sequent} (record { context = C; hyps = H; goal = G }) (record { context = D; hyps = K; goal = L })
by_parts C D H K G L e f g =
    ap (λ x. record { context = x; hyps = H; goal = G }) e
    ∙ ap (λ x. record { context = D; hyps = x; goal = G }) f
    ∙ ap (λ x. record { context = D; hyps = K; goal = x }) g

widened_none : (S : Sequent) (G : Term) → (S ⊢ G) ≡ (widened S [] ⊢ G)
widened_none S G =
    by_parts S.context (types (type_list S.context ++ [])) S.hyps (map (λ P. shift P 0 0) S.hyps) G G
    (sym (ap types (append_nil (type_list S.context)) ∙ types-type_list S.context)) (sym (map_shift_none S.hyps)) refl

pub inner_none : (S : Sequent) (s : Sym) (As C : Tys) (H : List Term) (G : Term) (n : ℕ) → n ≡ binds s → n ≡ 0 → C ≡ S.context → H ≡ S.hyps → G ≡ S.goal →
    ◌≡◌ {A = Sequent} (record { context = C; hyps = H; goal = G }) (at_children S s As ⊢ S.goal)
inner_none S s As C H G n b z e f g =
    by_parts C S.context H S.hyps G S.goal e f g ∙ widened_none S S.goal
    ∙ ap (λ k. widened S (take k (type_list As)) ⊢ S.goal) (sym z ∙ b)

no_types : (As : List Ty) (n : ℕ) → None ≡ slice_get As 0 → [] ≡ take n As
no_types [] zero e = refl
no_types [] (suc n) e = refl
no_types (A ∷ As) n e = cc

pub inner_untyped : (S : Sequent) (s : Sym) (As C : Tys) (H : List Term) (G : Term) → None ≡ slice_get (type_list As) 0 → C ≡ S.context → H ≡ S.hyps → G ≡ S.goal →
    ◌≡◌ {A = Sequent} (record { context = C; hyps = H; goal = G }) (at_children S s As ⊢ S.goal)
inner_untyped S s As C H G n e f g =
    by_parts C S.context H S.hyps G S.goal e f g ∙ widened_none S S.goal
    ∙ ap (λ Bs. widened S Bs ⊢ S.goal) (no_types (type_list As) (binds s) n)

one_type : (As : List Ty) (A : Ty) (n : ℕ) → n ≡ 1 → Some A ≡ slice_get As 0 → A ∷ [] ≡ take n As
one_type [] A n e h = cc
one_type (B ∷ Bs) A n e h = let q : A ≡ B = cc in ap (λ x. x ∷ []) q ∙ ap (λ k. take k (B ∷ Bs)) (sym e)

pub bound_one : (s : Sym) (As : Tys) (A : Ty) (n : ℕ) → n ≡ binds s → ¬ (n ≡ 0) → Some A ≡ slice_get (type_list As) 0 → A ∷ [] ≡ take (binds s) (type_list As)
bound_one s As A n b z h =
    let k : binds s ≡ 1 = omega (arith, binds_le s) in one_type (type_list As) A (binds s) k h

pub inner_one : (S : Sequent) (s : Sym) (As C : Tys) (A B : Ty) (H : List Term) (G : Term) (n : ℕ) → n ≡ binds s → ¬ (n ≡ 0) → Some A ≡ slice_get (type_list As) 0 → B ≡ A →
    type_list C ≡ type_list S.context ++ B ∷ [] → H ≡ map (λ P. shift P 0 1) S.hyps → G ≡ S.goal →
    ◌≡◌ {A = Sequent} (record { context = C; hyps = H; goal = G }) (at_children S s As ⊢ S.goal)
inner_one S s As C A B H G n b z h x e f g =
    by_parts C (types (type_list S.context ++ A ∷ [])) H (map (λ P. shift P 0 1) S.hyps) G S.goal
    (sym (types-type_list C) ∙ ap types (e ∙ ap (λ D. type_list S.context ++ D ∷ []) x)) f g
    ∙ ap (λ Bs. widened S Bs ⊢ S.goal) (bound_one s As A n b z h)
