-- Idle variables: a new variable as a witness.
use Rattle.std.specs.Prelude.{◌≡◌, ◌+◌, ◌≤◌, ◌++◌, ◌^◌, ℕ, zero, suc, List, [], ◌∷◌, Some, length, take, Contains, refl}
use Rattle.std.specs.List.{AllByRecursion}
use Rattle.std.proofs.Common.{ap, sym, ◌∙◌, subst as transport, arith}
use Rattle.std.proofs.Math.Path.{fun_ext}
use Rattle.std.proofs.lemmas.Bool.Decides.{nat_tests}
use Rattle.ev_terms.specs.declared.types.Ty.{Ty, Prop, Param}
use Rattle.ev_terms.specs.declared.types.Tys.{Tys, Empty}
use Rattle.ev_terms.specs.Types.{more, type_list}
use Rattle.ev_terms.specs.Term.{Term, var, lit, node, nil, cons, terms}
use Rattle.ev_terms.specs.Symbols.{binds}
use Rattle.ev_terms.specs.Measures.{loose, depth, highest, all_highest}
use Rattle.ev_terms.specs.Substitution.{shift_var, shift, shifts, inst, entry, substitute, fill, instance}
use Rattle.ev_terms.proofs.Laws.{inst-id}
use Rattle.ev_terms.proofs.AnyLaws.{inst-of_shift}
use Rattle.ev_terms.proofs.ListLaws.{depth-shift}
use Rattle.ev_terms.proofs.Fits.{highest_shift_le}
use Rattle.ev_forms.specs.Base.{at_type, for_all_sym, for_some_sym}
use Rattle.ev_forms.specs.Forms.{truth, forall, exists}
use Rattle.ev_typing.specs.declared.typing.Sequent.{Sequent}
use Rattle.ev_typing.specs.TypeLists.{types}
use Rattle.ev_typing.specs.Env.{Env}
use Rattle.ev_typing.specs.Typing.{IsProper, AreProper, Typed, AreTyped, IsTypedNode, IsPredicate, inside, var_type}
use Rattle.ev_typing.specs.Occurs.{IsPlain, ArePlain}
use Rattle.ev_typing.specs.Sequents.{◌⊢◌, ◌▹◌}
use Rattle.ev_typing.specs.BaseSequents.{IsBaseSequent, under}
use Rattle.ev_typing.proofs.Laws.{type_list-types, types-type_list}
use Rattle.ev_typing.proofs.Keeps.{var_here}
use Rattle.ev_typing.proofs.Names.{all_append}
use Rattle.ev_kernel.specs.declared.rules.Line.{Line}
use Rattle.ev_kernel.specs.declared.rules.BaseRule.TheVariants.{AllE, ExI, ExE, Axiom}
use Rattle.ev_kernel.specs.Row.{Row}
use Rattle.ev_axioms.specs.Axioms.{rows, axiom_row}
use Rattle.ev_congruence.specs.Growing.{concluded}
use Rattle.ev_congruence.specs.Settings.{HasShiftRoom}
use Rattle.ev_congruence.specs.Equating.{IsInstantiable}
use Rattle.ev_congruence.proofs.Terms.{typed_loose, shift_plain}
use Rattle.ev_congruence.proofs.Contexts.{context_of, by_parts, shifted_typed, context_widened, base_widened}
use Rattle.ev_congruence.proofs.Nodes.{hyps_low}

-- Quantifiers bind one variable.
all_binds : binds for_all_sym ≡ 1
unfolding binds
all_binds = refl

some_binds : binds for_some_sym ≡ 1
unfolding binds
some_binds = refl

pub shifted_forall : (A : Ty) (P : Term) → shift (forall A P) 0 1 ≡ forall A (shift P 1 1)
shifted_forall A P = ap (λ k. node for_all_sym (at_type A) (cons (shift P (0 + k) 1) nil)) all_binds

pub shifted_exists : (A : Ty) (P : Term) → shift (exists A P) 0 1 ≡ exists A (shift P 1 1)
shifted_exists A P = ap (λ k. node for_some_sym (at_type A) (cons (shift P (0 + k) 1) nil)) some_binds

-- the bound variable put for itself
pub for_itself : (P : Term) → substitute (shift P 1 1) (var 0 ∷ []) ≡ P
for_itself P = inst-of_shift (entry (var 0 ∷ [])) P 1 1 ∙ ap (λ σ. inst σ P) (fun_ext each) ∙ inst-id P
  where
    each : (i : ℕ) → entry (var 0 ∷ []) (shift_var 1 1 i) ≡ var i
    each zero = refl
    each (suc i) =
        let e : shift_var 1 1 (suc i) ≡ suc (suc i) = grind (arith, nat_tests) in
        ap (entry (var 0 ∷ [])) e

-- Typed quantified formulas.
truth_typed : (env : Env) (C : List Ty) → Typed env C truth Prop
truth_typed env C = record { count = refl; proper = tt; children = tt; result = refl }

exists_typed : (env : Env) (C : List Ty) (A : Ty) (P : Term) → IsProper env A → Typed env (C ++ A ∷ []) P Prop → Typed env C (exists A P) Prop
exists_typed env C A P p h = record {
  count = refl;
  proper = (p, tt);
  children = (transport (λ k. Typed env (C ++ take k (A ∷ [])) P Prop) (sym some_binds) h, tt);
  result = refl;
}

pub all_proper : (env : Env) (C : List Ty) (A : Ty) (P : Term) (B : Ty) → Typed env C (forall A P) B → IsProper env A
all_proper env C A P B h = by h
  where
    by : IsTypedNode env (at_type A) (record { params = 1; args = Prop ∷ []; result = Prop }) B (AreTyped env (inside C for_all_sym (at_type A)) (cons P nil) (Prop ∷ [])) → IsProper env A
    by r = r.proper.0

pub exists_by : (A B : Ty) (P : Term) → A ≡ B → P ≡ truth → exists A P ≡ exists B truth
exists_by A B P e f = ap (λ x. exists x P) e ∙ ap (exists B) f

pub exists_base : (env : Env) (S : Sequent) (A : Ty) → IsBaseSequent env S → IsProper env A → IsBaseSequent env (S ⊢ exists A (shift S.goal 0 1))
exists_base env S A b p = record {
  typed = record {
    context = b.typed.context;
    hyps = b.typed.hyps;
    goal = exists_typed env (type_list S.context) A (shift S.goal 0 1) p (shifted_typed env (type_list S.context) (A ∷ []) S.goal Prop b.typed.goal);
  };
  plain_hyps = b.plain_hyps;
  plain_goal = (refl, (shift_plain env S.goal 0 1 b.plain_goal, tt));
}

-- The axiom.
axiom_one : axiom_row 1 ≡ Some (exists (Param 0) truth)
unfolding rows
axiom_one = refl

pub axiom_sequent : (H : List Term) (G : Term) → H ≡ [] → G ≡ exists (Param 0) truth → ◌≡◌ {A = Sequent} (record { context = Empty; hyps = H; goal = G }) (record { context = Empty; hyps = []; goal = exists (Param 0) truth })
axiom_sequent H G e f = by_parts Empty Empty H [] G (exists (Param 0) truth) refl e f

pub axiom_base : (env : Env) (T : Sequent) → T ≡ record { context = Empty; hyps = []; goal = exists (Param 0) truth } → IsBaseSequent env T
axiom_base env T e =
    transport (IsBaseSequent env) (sym e)
    (record {
      typed = record { context = tt; hyps = tt; goal = exists_typed env [] (Param 0) truth tt (truth_typed env (Param 0 ∷ [])) };
      plain_hyps = tt;
      plain_goal = (refl, ((refl, tt), tt));
    })

pub axiom_follows : (env : Env) (T : Sequent) → T ≡ record { context = Empty; hyps = []; goal = exists (Param 0) truth } → Row env [] (Axiom 1) T
axiom_follows env T e = transport (Row env [] (Axiom 1)) (sym e) (refl, axiom_one)

-- at a type
pub element_goal : (A : Ty) (As : Tys) (ts : List Term) → As ≡ more A Empty → ts ≡ [] → fill (instance (exists (Param 0) truth) As) ts ≡ exists A truth
element_goal A As ts e f =
    ap (λ x. fill (instance (exists (Param 0) truth) x) ts) e ∙ ap (fill (instance (exists (Param 0) truth) (more A Empty))) f

pub element_ready : (env : Env) (ls : List Line) (C As : Tys) (A : Ty) (ts : List Term) (n : ℕ) → As ≡ more A Empty → ts ≡ [] →
    concluded ls n ≡ Some (record { context = Empty; hyps = []; goal = exists (Param 0) truth }) →
    IsInstantiable env ls (record { context = Empty; hyps = []; goal = exists (Param 0) truth }) C As ts n
element_ready env ls C As A ts n e f h = record {
  line = h;
  none = refl;
  typed = transport (λ x. AreTyped env (type_list C) (terms x) []) (sym f) tt;
  low = transport (λ G. highest G ≤ 2 ^ 32) (sym (element_goal A As ts e f)) (omega arith);
}

pub one_proper : (env : Env) (As : Tys) (A : Ty) → As ≡ more A Empty → IsProper env A → AreProper env As
one_proper env As A e p = transport (AreProper env) (sym e) (p, tt)

pub no_terms : (env : Env) (ts : List Term) → ts ≡ [] → ArePlain env (terms ts)
no_terms env ts e = transport (λ x. ArePlain env (terms x)) (sym e) tt

pub witness_row : (env : Env) (S T : Sequent) (A : Ty) → T ≡ S → Row env ((S ⊢ exists A truth) ∷ (under S A ▹ truth) ∷ []) ExE T
witness_row env S T A e = transport (Row env ((S ⊢ exists A truth) ∷ (under S A ▹ truth) ∷ []) ExE) (sym e) (A, truth, refl)

pub pushed_context : (D C E : Tys) (A B : Ty) → D ≡ C → A ≡ B → type_list E ≡ type_list D ++ A ∷ [] → E ≡ types (type_list C ++ B ∷ [])
pushed_context D C E A B e f g =
    sym (types-type_list E) ∙ ap types (g ∙ ap (λ x. type_list x ++ A ∷ []) e ∙ ap (λ x. type_list C ++ x ∷ []) f)

-- With a hypothesis `true`.
contains_more : (x y : Term) (xs : List Term) → Contains xs x → Contains (y ∷ xs) x
contains_more x y xs (k, h, e) = (suc k, omega (arith, h), e)

contains_front : (xs ys : List Term) (x : Term) → Contains xs x → Contains (xs ++ ys) x
contains_front [] ys x (k, h, e) = absurd (omega arith)
contains_front (z ∷ xs) ys x (zero, h, e) = (0, omega arith, e)
contains_front (z ∷ xs) ys x (suc k, h, e) = contains_more x z (xs ++ ys) (contains_front xs ys x (k, omega arith, e))

each_front : (H L : List Term) → ((x : Term) → Contains H x → Contains L x) → AllByRecursion (Contains L) H
each_front [] L f = tt
each_front (x ∷ H) L f = (f x (0, omega arith, refl), each_front H L (λ y c. f y (contains_more y x H c)))

pub all_front : (H K L : List Term) → L ≡ H ++ K → AllByRecursion (Contains L) H
all_front H K L e = transport (λ M. AllByRecursion (Contains M) H) (sym e) (each_front H (H ++ K) (contains_front H K))

pub front_of : (H L : List Term) → L ≡ H ++ truth ∷ [] → AllByRecursion (Contains L) H
front_of H L e = all_front H (truth ∷ []) L e

pub witness_base : (env : Env) (S : Sequent) (A : Ty) → IsBaseSequent env S → IsProper env A → IsBaseSequent env (under S A ▹ truth)
witness_base env S A b p =
    let w = base_widened env S (A ∷ []) b (context_widened env S (A ∷ []) (context_of env S b) (p, tt)) in record {
      typed = record {
        context = w.typed.context;
        hyps = all_append (IsPredicate env (type_list (under S A).context)) (under S A).hyps (truth ∷ []) w.typed.hyps (truth_typed env (type_list (under S A).context), tt);
        goal = w.typed.goal;
      };
      plain_hyps = all_append (IsPlain env) (under S A).hyps (truth ∷ []) w.plain_hyps ((refl, tt), tt);
      plain_goal = w.plain_goal;
    }

pub hyps_by : (env : Env) (S : Sequent) (A : Ty) (I : Sequent) (H : List Term) → I ≡ under S A → H ≡ I.hyps ++ truth ∷ [] → IsBaseSequent env (under S A ▹ truth) →
    AllByRecursion (IsPredicate env (type_list I.context)) H × AllByRecursion (IsPlain env) H
hyps_by env S A I H e f w =
    let k : H ≡ (under S A ▹ truth).hyps = f ∙ ap (λ (x : Sequent). x.hyps ++ truth ∷ []) e in (
      transport (λ K. AllByRecursion (IsPredicate env (type_list I.context)) K) (sym k)
          (transport (λ (x : Sequent). AllByRecursion (IsPredicate env (type_list x.context)) (under S A ▹ truth).hyps) (sym e) w.typed.hyps),
      transport (AllByRecursion (IsPlain env)) (sym k) w.plain_hyps,
    )

-- Room for numbers of variables.
depth_some : (t : Term) → 1 ≤ depth t
depth_some (var i) = omega arith
depth_some (lit n) = omega arith
depth_some (node s As ts) = omega arith

pub hyps_fit : (env : Env) (S : Sequent) → IsBaseSequent env S → HasShiftRoom S → all_highest (shifts (terms S.hyps) 0 1) ≤ 2 ^ 32
hyps_fit env S b r = hyps_low env (type_list S.context) S.hyps (depth S.goal) b.typed.hyps (depth_some S.goal) r

pub goal_fits : (env : Env) (S : Sequent) → IsBaseSequent env S → HasShiftRoom S → highest (shift S.goal 0 1) ≤ 2 ^ 32
goal_fits env S b r =
    let p : highest (shift S.goal 0 1) ≤ (loose S.goal + 1) + depth S.goal = highest_shift_le S.goal 0 1 in
    let q : loose S.goal ≤ length (type_list S.context) = typed_loose env (type_list S.context) S.goal Prop b.typed.goal in
    omega (arith, p, q, r)

pub room_forall : (S : Sequent) (A : Ty) → HasShiftRoom (S ⊢ forall A (shift S.goal 0 1)) → HasShiftRoom S
room_forall S A r = let d = depth-shift S.goal 0 1 in omega (arith, d, r)

pub room_exists : (S : Sequent) (A : Ty) → HasShiftRoom (S ⊢ exists A (shift S.goal 0 1)) → HasShiftRoom S
room_exists S A r = let d = depth-shift S.goal 0 1 in omega (arith, d, r)

-- The rows.
innermost : (S : Sequent) (A : Ty) → var_type (type_list (under S A).context) 0 ≡ Some A
innermost S A = ap (λ D. var_type D 0) (type_list-types (type_list S.context ++ A ∷ [])) ∙ var_here (type_list S.context) A

pub for_all_row : (env : Env) (S T : Sequent) (A : Ty) (x : Term) → T ≡ (under S A ▹ truth) → x ≡ var 0 → Row env ((under (S ⊢ forall A (shift S.goal 0 1)) A ▹ truth) ∷ []) (AllE x) T
for_all_row env S T A x e f =
    transport (λ t. Row env ((under (S ⊢ forall A (shift S.goal 0 1)) A ▹ truth) ∷ []) (AllE t) T) (sym f)
    (transport (Row env ((under (S ⊢ forall A (shift S.goal 0 1)) A ▹ truth) ∷ []) (AllE (var 0))) (sym e) (
      A,
      shift (shift S.goal 0 1) 1 1,
      innermost S A,
      record {
        concludes = sym (for_itself (shift S.goal 0 1));
        premises_are = ap (λ G. (under S A ▹ truth ⊢ G) ∷ []) (shifted_forall A (shift S.goal 0 1));
      },
    ))

pub for_some_row : (env : Env) (S T : Sequent) (A : Ty) (x : Term) → T ≡ (under (S ⊢ exists A (shift S.goal 0 1)) A ▹ truth) → x ≡ var 0 → Row env ((under S A ▹ truth) ∷ []) (ExI x) T
for_some_row env S T A x e f =
    transport (λ t. Row env ((under S A ▹ truth) ∷ []) (ExI t) T) (sym f)
    (transport (Row env ((under S A ▹ truth) ∷ []) (ExI (var 0))) (sym e) (
      A,
      shift (shift S.goal 0 1) 1 1,
      innermost S A,
      record {
        concludes = shifted_exists A (shift S.goal 0 1);
        premises_are = ap (λ G. (under S A ▹ truth ⊢ G) ∷ []) (sym (for_itself (shift S.goal 0 1)));
      },
    ))
