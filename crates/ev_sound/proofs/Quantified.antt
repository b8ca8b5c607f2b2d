-- The rows in which something is shifted or put in, read upwards.
use Rattle.std.specs.Prelude.{◌≡◌, ◌++◌, ℕ, List, [], ◌∷◌, map, length, take, refl}
use Rattle.std.specs.List.{AllByRecursion}
use Rattle.std.proofs.Common.{ap, sym, ◌∙◌, subst as transport}
use Rattle.ev_terms.specs.declared.types.Ty.{Ty, Prop, Param}
use Rattle.ev_terms.specs.declared.types.Sym.{Sym}
use Rattle.ev_terms.specs.Types.{pow, type_list}
use Rattle.ev_terms.specs.Term.{Term, nil, cons}
use Rattle.ev_terms.specs.Symbols.{binds}
use Rattle.ev_terms.specs.Substitution.{shift, substitute}
use Rattle.ev_forms.specs.Base.{at_type, for_all_sym, for_some_sym, set_sym, in_sym}
use Rattle.ev_forms.specs.Forms.{forall, exists, iff, mem, such_that}
use Rattle.ev_typing.specs.declared.typing.Sequent.{Sequent}
use Rattle.ev_typing.specs.TypeLists.{types}
use Rattle.ev_typing.specs.Env.{Env}
use Rattle.ev_typing.specs.Parts.{base}
use Rattle.ev_typing.specs.Typing.{Typed, AreTyped, IsTypedNode, IsPredicate, IsSequent, inside}
use Rattle.ev_typing.specs.Sequents.{◌⊢◌, ◌▹◌}
use Rattle.ev_typing.specs.BaseSequents.{widened, under}
use Rattle.ev_typing.proofs.Checks.{inside_none}
use Rattle.ev_kernel.specs.declared.rules.BaseRule.TheVariants.{AllI, AllE, ExI, ExE, SetMem}
use Rattle.ev_kernel.specs.Row.{Row, IsCalculated, sum, product, order, strict_order, difference}
use Rattle.ev_ops.specs.Unfold.{unfolded}
use Rattle.ev_typing.specs.WellFormed.{IsWellFormed}
use Rattle.ev_congruence.proofs.Terms.{equation_sides}
use Rattle.ev_sound.proofs.Rows.{U, US, added, fits}
use Rattle.ev_ops.proofs.Fitting.{shift_unfolded}
use Rattle.ev_sound.proofs.Bodies.{over_base}
use Rattle.ev_sound.proofs.Putting.{substitution_unfolded}

-- What a quantified predicate tells of the one below.
all_binds : binds for_all_sym ≡ 1
unfolding binds
all_binds = refl

some_binds : binds for_some_sym ≡ 1
unfolding binds
some_binds = refl

set_binds : binds set_sym ≡ 1
unfolding binds
set_binds = refl

in_binds : binds in_sym ≡ 0
unfolding binds
in_binds = refl

abbrev One : Env → List Ty → Sym → Ty → Ty → Term → Ty → Type 0
One env C s A R P B = IsTypedNode env (at_type A) (record { params = 1; args = Prop ∷ []; result = R }) B (AreTyped env (inside C s (at_type A)) (cons P nil) (Prop ∷ []))

one_typed : (env : Env) (C : List Ty) (s : Sym) (A R : Ty) (P : Term) (B : Ty) → binds s ≡ 1 → One env C s A R P B → Typed env (C ++ A ∷ []) P Prop
one_typed env C s A R P B e h = transport (λ k. Typed env (C ++ take k (A ∷ [])) P Prop) e h.children.0

pub forall_typed : (env : Env) (C : List Ty) (A : Ty) (P : Term) (B : Ty) → Typed env C (forall A P) B → Typed env (C ++ A ∷ []) P Prop
forall_typed env C A P B h = one_typed env C for_all_sym A Prop P B all_binds h

pub exists_typed : (env : Env) (C : List Ty) (A : Ty) (P : Term) (B : Ty) → Typed env C (exists A P) B → Typed env (C ++ A ∷ []) P Prop
exists_typed env C A P B h = one_typed env C for_some_sym A Prop P B some_binds h

set_typed : (env : Env) (C : List Ty) (A : Ty) (P : Term) (B : Ty) → Typed env C (such_that A P) B → Typed env (C ++ A ∷ []) P Prop
set_typed env C A P B h = one_typed env C set_sym A (pow (Param 0)) P B set_binds h

mem_typed : (env : Env) (C : List Ty) (A : Ty) (t R : Term) (B : Ty) → Typed env C (mem A t R) B → Typed env C t A × Typed env C R (pow A)
mem_typed env C A t R B h = by h
  where
    by : IsTypedNode env (at_type A) (record { params = 1; args = Param 0 ∷ pow (Param 0) ∷ []; result = Prop }) B (AreTyped env (inside C in_sym (at_type A)) (cons t (cons R nil)) (A ∷ pow A ∷ [])) → Typed env C t A × Typed env C R (pow A)
    by r =
        let c : AreTyped env C (cons t (cons R nil)) (A ∷ pow A ∷ []) = transport (λ D. AreTyped env D (cons t (cons R nil)) (A ∷ pow A ∷ [])) (sym (inside_none C in_sym (at_type A) in_binds)) r.children in
        (c.0, c.1.0)

module _ (env : Env) (u : IsWellFormed env) where
  -- shifted hypotheses
  shifted_hyps : (C : List Ty) (H : List Term) (k : ℕ) → AllByRecursion (IsPredicate env C) H → map (unfolded env) (map (λ P. shift P 0 k) H) ≡ map (λ P. shift P 0 k) (map (unfolded env) H)
  shifted_hyps C [] k h = refl
  shifted_hyps C (P ∷ H) k h = let p = shift_unfolded env u C P Prop h.0 0 k in let q = shifted_hyps C H k h.1 in cc

  -- the context extended
  pub unfolded_widened : (S : Sequent) (Bs : List Ty) (G : Term) → AllByRecursion (IsPredicate env (type_list S.context)) S.hyps → US env (widened S Bs ⊢ G) ≡ (widened (US env S) Bs ⊢ U env G)
  unfolded_widened S Bs G h =
      ap (λ H. record { context = types (type_list S.context ++ Bs); hyps = H; goal = U env G }) (shifted_hyps (type_list S.context) S.hyps (length Bs) h)

  -- a term for the innermost variable
  pub unfolded_one : (C : List Ty) (A : Ty) (P x : Term) (B : Ty) → Typed env C x A → Typed env (C ++ A ∷ []) P B → U env (substitute P (x ∷ [])) ≡ substitute (U env P) (U env x ∷ [])
  unfolded_one C A P x B h k = substitution_unfolded env u C (A ∷ []) (x ∷ []) (h, tt) P B k

  pub all_i : (S : Sequent) (gs : List Sequent) → IsSequent env S → Row env gs AllI S → Row (base env) (map (US env) gs) AllI (US env S)
  all_i S gs h (A, P, f) =
      (A, U env P, fits env S gs ((under S A ⊢ P) ∷ []) ((under (US env S) A ⊢ U env P) ∷ []) (forall A P) (forall A (U env P)) f refl (ap (λ x. x ∷ []) (unfolded_widened S (A ∷ []) P h.hyps)))

  pub all_e : (S : Sequent) (gs : List Sequent) (x : Term) → IsSequent env S → AllByRecursion (IsSequent env) gs → Row env gs (AllE x) S → Row (base env) (map (US env) gs) (AllE (U env x)) (US env S)
  all_e S gs x h k (A, P, p, f) =
      let k' : AllByRecursion (IsSequent env) ((S ⊢ forall A P) ∷ []) = transport (AllByRecursion (IsSequent env)) f.premises_are k in (
        A,
        U env P,
        (over_base env u S.context h.context x A p).typed,
        fits env S gs ((S ⊢ forall A P) ∷ []) ((US env S ⊢ forall A (U env P)) ∷ []) (substitute P (x ∷ [])) (substitute (U env P) (U env x ∷ [])) f
            (unfolded_one (type_list S.context) A P x Prop p (forall_typed env (type_list S.context) A P Prop k'.0.goal)) refl,
      )

  pub ex_i : (S : Sequent) (gs : List Sequent) (x : Term) → IsSequent env S → Row env gs (ExI x) S → Row (base env) (map (US env) gs) (ExI (U env x)) (US env S)
  ex_i S gs x h (A, P, p, f) =
      let g : IsPredicate env (type_list S.context) (exists A P) = transport (IsPredicate env (type_list S.context)) f.concludes h.goal in (
        A,
        U env P,
        (over_base env u S.context h.context x A p).typed,
        fits env S gs ((S ⊢ substitute P (x ∷ [])) ∷ []) ((US env S ⊢ substitute (U env P) (U env x ∷ [])) ∷ []) (exists A P) (exists A (U env P)) f refl
            (ap (λ G. (US env S ⊢ G) ∷ []) (unfolded_one (type_list S.context) A P x Prop p (exists_typed env (type_list S.context) A P Prop g))),
      )

  pub ex_e : (S : Sequent) (gs : List Sequent) → IsSequent env S → Row env gs ExE S → Row (base env) (map (US env) gs) ExE (US env S)
  ex_e S gs h (A, P, e) = (
    A,
    U env P,
    ap (map (US env)) e ∙ ap (λ x. (US env S ⊢ exists A (U env P)) ∷ x ∷ [])
        (added env (under S A) P (shift S.goal 0 1)
        ∙ ap (λ (x : Sequent). x ▹ U env P ⊢ U env (shift S.goal 0 1)) (unfolded_widened S (A ∷ []) (shift S.goal 0 1) h.hyps)
        ∙ ap (λ G. under (US env S) A ▹ U env P ⊢ G) (shift_unfolded env u (type_list S.context) S.goal Prop h.goal 0 1)),
  )

  pub set_mem : (S : Sequent) (gs : List Sequent) → IsSequent env S → Row env gs SetMem S → Row (base env) (map (US env) gs) SetMem (US env S)
  set_mem S gs h (A, x, Q, f) =
      let g : IsPredicate env (type_list S.context) (iff (mem A x (such_that A Q)) (substitute Q (x ∷ []))) = transport (IsPredicate env (type_list S.context)) f.concludes h.goal in
      let m = mem_typed env (type_list S.context) A x (such_that A Q) Prop (equation_sides env (type_list S.context) Prop (mem A x (such_that A Q)) (substitute Q (x ∷ [])) Prop g).left in (
        A,
        U env x,
        U env Q,
        fits env S gs [] [] (iff (mem A x (such_that A Q)) (substitute Q (x ∷ []))) (iff (mem A (U env x) (such_that A (U env Q))) (substitute (U env Q) (U env x ∷ []))) f
            (ap (λ G. iff (mem A (U env x) (such_that A (U env Q))) G) (unfolded_one (type_list S.context) A Q x Prop m.0 (set_typed env (type_list S.context) A Q (pow A) m.1))) refl,
      )

  pub calculated : (G : Term) → IsCalculated G → IsCalculated (U env G)
  calculated G (sum a b e) = sum a b (ap (U env) e)
  calculated G (product a b e) = product a b (ap (U env) e)
  calculated G (order a b k e) = order a b k (ap (U env) e)
  calculated G (strict_order a b k e) = strict_order a b k (ap (U env) e)
  calculated G (difference a b k e) = difference a b k (ap (U env) e)
