-- The rows of the quantifiers and of sets.
use Rattle.std.specs.Prelude.{◌≡◌, ◌↔◌, Bool as Boolean, false, List, [], ◌∷◌, map, Result, IsTrue, IfOk, refl}
use Rattle.std.proofs.Common.{ap, sym, ◌∙◌, subst as transport}
use Rattle.std.proofs.lemmas.Result.{IfOk-weaker}
use Rattle.ev_terms.specs.declared.types.Ty.{Ty, Bool as BOOL}
use Rattle.ev_terms.specs.declared.types.Tys.{Tys}
use Rattle.ev_terms.specs.Types.{type_list}
use Rattle.ev_terms.specs.Term.{Term, terms}
use Rattle.ev_terms.specs.Substitution.{substitute, fill, instance, type_inst, type_at}
use Rattle.ev_typing.specs.declared.typing.Sequent.{Sequent}
use Rattle.ev_forms.specs.Base.{at_type}
use Rattle.ev_forms.specs.Forms.{forall, exists, eq, mem, such_that}
use Rattle.ev_forms.specs.Binders.{equated}
use Rattle.ev_typing.specs.Env.{Env}
use Rattle.ev_typing.specs.Typing.{Typed, AreTyped, AreProper}
use Rattle.ev_typing.specs.Sequents.{◌⊢◌, ◌▹◌}
use Rattle.ev_typing.specs.BaseSequents.{under}
use Rattle.ev_kernel.specs.declared.rules.BaseRule.TheVariants.{Inst, AllI, AllE, ExI, ExE}
use Rattle.ev_kernel.specs.Row.{Row, IsInstanceOf}
use Rattle.ev_kernel.proofs.Equations.{refused}

pub one_type : (A B : Ty) → at_type A ≡ at_type B → A ≡ B
one_type A B e = ap equated e

forall_type : (A B : Ty) (P Q : Term) → forall A P ≡ forall B Q → A ≡ B
forall_type A B P Q e = one_type A B (cc)

exists_type : (A B : Ty) (P Q : Term) → exists A P ≡ exists B Q → A ≡ B
exists_type A B P Q e = one_type A B (cc)

only_is : (p q : Sequent) → p ∷ [] ≡ q ∷ [] → p ≡ q
only_is p q e = cc

pub all_row : {E : Type 0} (env : Env) (p S : Sequent) (t : Term) (A : Ty) (P : Term) (r : Result Boolean E) → p ≡ (S ⊢ p.goal) → p.goal ≡ forall A P → S.goal ≡ substitute P (t ∷ []) →
    IfOk r (λ b. IsTrue b ↔ Typed env (type_list S.context) t A) → IfOk r (λ b. IsTrue b ↔ Row env (p ∷ []) (AllE t) S)
all_row env p S t A P r k e g h = IfOk-weaker r _ _ (λ b d. (
  λ y. (A, P, d.0 y, record { concludes = g; premises_are = ap (λ x. x ∷ []) (k ∙ ap (λ G. S ⊢ G) e) }),
  λ f. d.1 (transport (Typed env (type_list S.context) t)
      (forall_type f.0 A f.1 P (sym (ap (λ (x : Sequent). x.goal) (only_is p (S ⊢ forall f.0 f.1) f.3.premises_are)) ∙ e)) f.2),
)) h

pub some_row : {E : Type 0} (env : Env) (p S : Sequent) (t : Term) (A : Ty) (P : Term) (r : Result Boolean E) → p ≡ (S ⊢ p.goal) → S.goal ≡ exists A P → p.goal ≡ substitute P (t ∷ []) →
    IfOk r (λ b. IsTrue b ↔ Typed env (type_list S.context) t A) → IfOk r (λ b. IsTrue b ↔ Row env (p ∷ []) (ExI t) S)
some_row env p S t A P r k e g h = IfOk-weaker r _ _ (λ b d. (
  λ y. (A, P, d.0 y, record { concludes = e; premises_are = ap (λ x. x ∷ []) (k ∙ ap (λ G. S ⊢ G) g) }),
  λ f. d.1 (transport (Typed env (type_list S.context) t) (exists_type f.0 A f.1 P (sym f.3.concludes ∙ e)) f.2),
)) h

-- membership in a set that is given by a predicate
abbrev pub IsMemberForm : Term → Term → Type 0
IsMemberForm m u = (A : Ty) × (t Q : Term) × (m ≡ mem A t (such_that A Q)) × (u ≡ substitute Q (t ∷ []))

pub member_form : (m u : Term) (A B : Ty) (t set Q : Term) (b : Boolean) → m ≡ mem A t set → set ≡ such_that B Q → A ≡ B → (IsTrue b ↔ (u ≡ substitute Q (t ∷ []))) → IsTrue b ↔ IsMemberForm m u
member_form m u A B t set Q b e f a d = (
  λ y. (A, t, Q, e ∙ ap (mem A t) (f ∙ ap (λ x. such_that x Q) (sym a)), d.0 y),
  λ g.
      let h : mem A t set ≡ mem g.0 g.1 (such_that g.0 g.2) = sym e ∙ g.3 in
      let k : set ≡ such_that g.0 g.2 = cc in
      let l : such_that B Q ≡ such_that g.0 g.2 = sym f ∙ k in
      let q : g.2 ≡ Q = cc in
      let x : g.1 ≡ t = cc in
      d.1 (g.4 ∙ ap (λ z. substitute z (g.1 ∷ [])) q ∙ ap (λ z. substitute Q (z ∷ [])) x),
)

pub other_member : (m u : Term) (A B : Ty) (t set Q : Term) → m ≡ mem A t set → set ≡ such_that B Q → ¬ (A ≡ B) → IsTrue false ↔ IsMemberForm m u
other_member m u A B t set Q e f n = refused (λ g. n (differ g))
  where
    differ : IsMemberForm m u → A ≡ B
    differ g =
        let h : mem A t set ≡ mem g.0 g.1 (such_that g.0 g.2) = sym e ∙ g.3 in
        let k : set ≡ such_that g.0 g.2 = cc in
        let l : such_that B Q ≡ such_that g.0 g.2 = sym f ∙ k in
        let x : at_type A ≡ at_type g.0 = cc in
        let y : at_type B ≡ at_type g.0 = cc in
        one_type A B (x ∙ sym y)

pub other_type : (u : Term) (A : Ty) (l r v w : Term) → u ≡ eq A l r → ¬ (A ≡ BOOL) → IsTrue false ↔ (u ≡ eq BOOL v w)
other_type u A l r v w e n = refused (λ y. n (let h : eq A l r ≡ eq BOOL v w = sym e ∙ y in let k : at_type A ≡ at_type BOOL = cc in one_type A BOOL k))

-- instances
pub instance_row : {E : Type 0} (env : Env) (p S : Sequent) (As : Tys) (ts : List Term) (r : Result Boolean E) → S.goal ≡ fill (instance p.goal As) ts →
    S.hyps ≡ map (λ P. fill (instance P As) ts) p.hyps →
    IfOk r (λ b. IsTrue b ↔ (AreProper env As × AreTyped env (type_list S.context) (terms ts) (map (type_inst (type_at As)) (type_list p.context)))) →
    IfOk r (λ b. IsTrue b ↔ Row env (p ∷ []) (Inst As ts) S)
instance_row env p S As ts r e f h = IfOk-weaker r _ _ (λ b d. (
  λ y. let q = d.0 y in (p, refl, record { types_proper = q.0; terms_typed = q.1; hyps_are = f; goal_is = e }),
  λ g. let i : IsInstanceOf env As ts p S = transport (λ T. IsInstanceOf env As ts T S) (sym (only_is p g.0 g.1)) g.2 in d.1 (i.types_proper, i.terms_typed),
)) h

pub other_hyps : (env : Env) (p S : Sequent) (As : Tys) (ts : List Term) → ¬ (S.hyps ≡ map (λ P. fill (instance P As) ts) p.hyps) → IsTrue false ↔ Row env (p ∷ []) (Inst As ts) S
other_hyps env p S As ts n =
    refused (λ g. n (let i : IsInstanceOf env As ts p S = transport (λ T. IsInstanceOf env As ts T S) (sym (only_is p g.0 g.1)) g.2 in i.hyps_are))

-- a sequent by its parts
pub by_parts : (S T : Sequent) (b : Boolean) → S.context ≡ T.context → S.hyps ≡ T.hyps → (IsTrue b ↔ (S.goal ≡ T.goal)) → IsTrue b ↔ (S ≡ T)
by_parts S T b e f d = (
  λ y.
      ap (λ C. record { context = C; hyps = S.hyps; goal = S.goal }) e
      ∙ ap (λ H. record { context = T.context; hyps = H; goal = S.goal }) f
      ∙ ap (λ G. record { context = T.context; hyps = T.hyps; goal = G }) (d.0 y),
  λ y. d.1 (ap (λ (x : Sequent). x.goal) y),
)

pub other_context : (S T : Sequent) → ¬ (S.context ≡ T.context) → IsTrue false ↔ (S ≡ T)
other_context S T n = refused (λ y. n (ap (λ (x : Sequent). x.context) y))

pub other_hyps_of : (S T : Sequent) → ¬ (S.hyps ≡ T.hyps) → IsTrue false ↔ (S ≡ T)
other_hyps_of S T n = refused (λ y. n (ap (λ (x : Sequent). x.hyps) y))

forall_body : (A B : Ty) (P Q : Term) → forall A P ≡ forall B Q → P ≡ Q
forall_body A B P Q e = cc

exists_body : (A B : Ty) (P Q : Term) → exists A P ≡ exists B Q → P ≡ Q
exists_body A B P Q e = cc

pub any_row : (p S : Sequent) (A : Ty) (P : Term) (b : Boolean) → p ≡ (under S A ⊢ p.goal) → S.goal ≡ forall A P → (IsTrue b ↔ (p.goal ≡ P)) → IsTrue b ↔ Row [] (p ∷ []) AllI S
any_row p S A P b k e d = (
  λ y. (A, P, record { concludes = e; premises_are = ap (λ x. x ∷ []) (k ∙ ap (λ G. under S A ⊢ G) (d.0 y)) }),
  λ f. d.1 (ap (λ (x : Sequent). x.goal) (only_is p (under S f.0 ⊢ f.1) f.2.premises_are) ∙ forall_body f.0 A f.1 P (sym f.2.concludes ∙ e)),
)

pub not_under : (p S : Sequent) (A : Ty) (P : Term) → ¬ (p ≡ (under S A ⊢ p.goal)) → S.goal ≡ forall A P → IsTrue false ↔ Row [] (p ∷ []) AllI S
not_under p S A P n e =
    refused (λ f. n (
    let h = only_is p (under S f.0 ⊢ f.1) f.2.premises_are in
    let a = forall_type f.0 A f.1 P (sym f.2.concludes ∙ e) in
    h ∙ ap (λ B. under S B ⊢ f.1) a ∙ ap (λ G. under S A ⊢ G) (sym (ap (λ (x : Sequent). x.goal) h))
    ))

both_are : (p q p' q' : Sequent) → p ∷ q ∷ [] ≡ p' ∷ q' ∷ [] → (p ≡ p') × (q ≡ q')
both_are p q p' q' e = (cc, cc)

pub exists_row : (p q S : Sequent) (A : Ty) (P : Term) (b : Boolean) → p ≡ (S ⊢ p.goal) → p.goal ≡ exists A P → (IsTrue b ↔ (q ≡ (under S A ▹ P))) → IsTrue b ↔ Row [] (p ∷ q ∷ []) ExE S
exists_row p q S A P b k e d = (
  λ y. (A, P, ap (λ x. x ∷ q ∷ []) (k ∙ ap (λ G. S ⊢ G) e) ∙ ap (λ x. (S ⊢ exists A P) ∷ x ∷ []) (d.0 y)),
  λ f.
      let h = both_are p q (S ⊢ exists f.0 f.1) (under S f.0 ▹ f.1) f.2 in
      let g : exists f.0 f.1 ≡ exists A P = sym (ap (λ (x : Sequent). x.goal) h.0) ∙ e in
      d.1 (h.1 ∙ ap (λ B. under S B ▹ f.1) (exists_type f.0 A f.1 P g) ∙ ap (λ Q. under S A ▹ Q) (exists_body f.0 A f.1 P g)),
)
