-- Derived rules.
use Rattle.std.specs.Prelude.{List, [], ◌∷◌, length, Contains, refl}
use Rattle.std.specs.List.{AllByRecursion}
use Rattle.ev_terms.specs.declared.types.Ty.{Ty, Prop}
use Rattle.ev_terms.specs.declared.types.Tys.{Empty}
use Rattle.ev_terms.specs.Types.{type_list}
use Rattle.ev_terms.specs.Term.{Term}
use Rattle.ev_forms.specs.Forms.{equation, imp, iff, vars_above}
use Rattle.ev_typing.specs.declared.typing.Sequent.{Sequent}
use Rattle.ev_typing.specs.Env.{Env}
use Rattle.ev_typing.specs.Typing.{IsProper, Typed, IsPredicate}
use Rattle.ev_typing.specs.Occurs.{IsPlain}
use Rattle.ev_typing.specs.WellFormed.{IsWellFormed}
use Rattle.ev_typing.specs.Sequents.{◌⊢◌, ◌▹◌}
use Rattle.ev_typing.specs.BaseSequents.{IsBaseSequent, widened}
use Rattle.ev_kernel.specs.declared.rules.BaseRule.{BaseRule}
use Rattle.ev_kernel.specs.declared.rules.BaseRule.TheVariants.{Weak, Cut, Inst, ImpE, IffE1, IffE2, Refl, Sym as Symmetry, Trans}
use Rattle.ev_kernel.specs.Row.{Row}
use Rattle.ev_kernel.specs.Derivable.{Derivable, AreDerivable, derived, none, more}
use Rattle.ev_congruence.specs.Settings.{IsBaseContext}
use Rattle.ev_sound.specs.Equations.{AreEqual}
use Rattle.ev_congruence.proofs.Contexts.{context_of, base_goal, base_equation, are_equals, base_by_sides, base_imp, context_widened, base_widened, widened_instance}

-- What is derivable is a base sequent.
pub base_of : (env : Env) (S : Sequent) → Derivable env S → IsBaseSequent env S
base_of env S (derived ps r T f ds) = f.conclusion

pub all_base : (env : Env) (Ss : List Sequent) → AreDerivable env Ss → AllByRecursion (IsBaseSequent env) Ss
all_base env [] none = tt
all_base env (S ∷ Ss) (more T Ts d ds) = (base_of env S d, all_base env Ss ds)

-- A row read forwards.
pub by_row : (env : Env) (ps : List Sequent) (r : BaseRule) (S : Sequent) → Row env ps r S → IsBaseSequent env S → AreDerivable env ps → Derivable env S
by_row env ps r S k b ds = derived ps r S (record { row = k; conclusion = b; premises_base = all_base env ps ds }) ds

pub one : (env : Env) (S : Sequent) → Derivable env S → AreDerivable env (S ∷ [])
one env S d = more S [] d none

pub two : (env : Env) (S T : Sequent) → Derivable env S → Derivable env T → AreDerivable env (S ∷ T ∷ [])
two env S T d e = more S (T ∷ []) d (one env T e)

-- the context of a sequent whose goal stands for another
pub context_by : (env : Env) (S : Sequent) (G : Term) → IsBaseSequent env (S ⊢ G) → IsBaseContext env S
context_by env S G b = record { proper = b.typed.context; hyps = b.typed.hyps; plain = b.plain_hyps }

-- More hypotheses, in any order.
pub weakened : (env : Env) (S : Sequent) (H : List Term) → AllByRecursion (Contains H) S.hyps → AllByRecursion (IsPredicate env (type_list S.context)) H → AllByRecursion (IsPlain env) H →
    Derivable env S → Derivable env (record { context = S.context; hyps = H; goal = S.goal })
weakened env S H k g p d =
    let b = base_of env S d in
    by_row env (S ∷ []) Weak (record { context = S.context; hyps = H; goal = S.goal }) (S.hyps, k, refl)
    (record { typed = record { context = b.typed.context; hyps = g; goal = b.typed.goal }; plain_hyps = p; plain_goal = b.plain_goal })
    (one env S d)

-- of a sequent without hypotheses
pub weakened_all : (env : Env) (S : Sequent) (G : Term) → IsBaseContext env S → Derivable env (record { context = S.context; hyps = []; goal = G }) → Derivable env (S ⊢ G)
weakened_all env S G b d = weakened env (record { context = S.context; hyps = []; goal = G }) S.hyps tt b.hyps b.plain d

-- Cut.
pub cut : (env : Env) (S : Sequent) (P : Term) → Derivable env (S ⊢ P) → Derivable env (S ▹ P) → Derivable env S
cut env S P d e =
    let b = base_of env (S ▹ P) e in
    by_row env ((S ⊢ P) ∷ (S ▹ P) ∷ []) Cut S (P, refl) (base_goal env S S.goal (context_by env S P (base_of env (S ⊢ P) d)) b.typed.goal b.plain_goal)
    (two env (S ⊢ P) (S ▹ P) d e)

-- Modus ponens.
pub ponens : (env : Env) (S : Sequent) (P Q : Term) → Derivable env (S ⊢ imp P Q) → Derivable env (S ⊢ P) → Derivable env (S ⊢ Q)
ponens env S P Q d e =
    by_row env ((S ⊢ imp P Q) ∷ (S ⊢ P) ∷ []) ImpE (S ⊢ Q) (P, refl) (base_imp env S P Q (base_of env (S ⊢ imp P Q) d)) (two env (S ⊢ imp P Q) (S ⊢ P) d e)

-- Replacement of the one side of an equivalence by the other.
pub forwards : (env : Env) (S : Sequent) (P Q : Term) → Derivable env (S ⊢ iff P Q) → Derivable env (S ⊢ P) → Derivable env (S ⊢ Q)
forwards env S P Q d e =
    let q = are_equals env S Prop P Q (base_of env (S ⊢ iff P Q) d) in
    by_row env ((S ⊢ iff P Q) ∷ (S ⊢ P) ∷ []) IffE1 (S ⊢ Q) (P, refl) (base_goal env S Q q.context q.sides.right q.right_plain) (two env (S ⊢ iff P Q) (S ⊢ P) d e)

pub backwards : (env : Env) (S : Sequent) (P Q : Term) → Derivable env (S ⊢ iff P Q) → Derivable env (S ⊢ Q) → Derivable env (S ⊢ P)
backwards env S P Q d e =
    let q = are_equals env S Prop P Q (base_of env (S ⊢ iff P Q) d) in
    by_row env ((S ⊢ iff P Q) ∷ (S ⊢ Q) ∷ []) IffE2 (S ⊢ P) (Q, refl) (base_goal env S P q.context q.sides.left q.left_plain) (two env (S ⊢ iff P Q) (S ⊢ Q) d e)

-- Equations.
pub same : (env : Env) → IsWellFormed env → (S : Sequent) (A : Ty) (t : Term) → IsBaseContext env S → Typed env (type_list S.context) t A → IsPlain env t → AreEqual env S A t t
same env w S A t b h p = by_row env [] Refl (S ⊢ equation A t t) (A, t, record { concludes = refl; premises_are = refl }) (base_equation env w S A t t b h h p p) none

pub turned : (env : Env) (S : Sequent) (A : Ty) (l r : Term) → AreEqual env S A l r → AreEqual env S A r l
turned env S A l r d =
    let q = are_equals env S A l r (base_of env (S ⊢ equation A l r) d) in
    by_row env ((S ⊢ equation A l r) ∷ []) Symmetry (S ⊢ equation A r l) (A, l, r, record { concludes = refl; premises_are = refl })
    (base_by_sides env S A r l q.context (record { left = q.sides.right; right = q.sides.left; result = q.sides.result }) q.right_plain q.left_plain)
    (one env (S ⊢ equation A l r) d)

pub chained : (env : Env) (S : Sequent) (A : Ty) (l m r : Term) → AreEqual env S A l m → AreEqual env S A m r → AreEqual env S A l r
chained env S A l m r d e =
    let p = are_equals env S A l m (base_of env (S ⊢ equation A l m) d) in
    let q = are_equals env S A m r (base_of env (S ⊢ equation A m r) e) in
    by_row env ((S ⊢ equation A l m) ∷ (S ⊢ equation A m r) ∷ []) Trans (S ⊢ equation A l r) (A, l, m, r, record { concludes = refl; premises_are = refl })
    (base_by_sides env S A l r p.context (record { left = p.sides.left; right = q.sides.right; result = p.sides.result }) p.left_plain q.right_plain)
    (two env (S ⊢ equation A l m) (S ⊢ equation A m r) d e)

-- A longer context.
pub lengthened : (env : Env) (S : Sequent) (Bs : List Ty) → AllByRecursion (IsProper env) Bs → Derivable env S → Derivable env (widened S Bs)
lengthened env S Bs p d =
    let b = base_of env S d in
    by_row env (S ∷ []) (Inst Empty (vars_above (length (type_list S.context)) (length Bs))) (widened S Bs) (S, refl, widened_instance env S Bs b)
    (base_widened env S Bs b (context_widened env S Bs (context_of env S b) p)) (one env S d)
