-- The laws of derivability.
use Rattle.std.specs.Prelude.{◌≡◌, ℕ, List, [], Some, map, Contains}
use Rattle.std.specs.List.{AllByRecursion}
use Rattle.ev_terms.specs.declared.types.Ty.{Ty}
use Rattle.ev_terms.specs.declared.types.Tys.{Tys}
use Rattle.ev_terms.specs.Types.{type_list}
use Rattle.ev_terms.specs.Term.{Term, terms}
use Rattle.ev_terms.specs.Substitution.{fill, instance, type_inst, type_at}
use Rattle.ev_forms.specs.Forms.{imp, iff}
use Rattle.ev_typing.specs.declared.typing.Sequent.{Sequent}
use Rattle.ev_typing.specs.Env.{Env}
use Rattle.ev_typing.specs.Parts.{base}
use Rattle.ev_typing.specs.Typing.{IsProper, AreProper, Typed, AreTyped, IsPredicate}
use Rattle.ev_typing.specs.Occurs.{IsPlain, ArePlain}
use Rattle.ev_typing.specs.WellFormed.{IsWellFormed}
use Rattle.ev_typing.specs.Sequents.{◌⊢◌, ◌▹◌}
use Rattle.ev_typing.specs.BaseSequents.{widened}
use Rattle.ev_kernel.specs.Derivable.{Derivable}
use Rattle.ev_ops.specs.Unfold.{unfolded}
use Rattle.ev_rewrite.specs.Places.{node_at, path_types, replace_at}
use Rattle.ev_congruence.specs.Settings.{IsBaseContext}
use Rattle.ev_sound.specs.Equations.{AreEqual, AreAllEqual}

-- more hypotheses, in any order
abbrev pub Weakening : Type 0
Weakening = (env : Env) (S : Sequent) (H : List Term) → AllByRecursion (Contains H) S.hyps → AllByRecursion (IsPredicate env (type_list S.context)) H → AllByRecursion (IsPlain env) H →
    Derivable env S → Derivable env (record { context = S.context; hyps = H; goal = S.goal })

-- cut
abbrev pub Cuts : Type 0
Cuts = (env : Env) (S : Sequent) (P : Term) → Derivable env (S ⊢ P) → Derivable env (S ▹ P) → Derivable env S

-- modus ponens
abbrev pub ModusPonens : Type 0
ModusPonens = (env : Env) (S : Sequent) (P Q : Term) → Derivable env (S ⊢ imp P Q) → Derivable env (S ⊢ P) → Derivable env (S ⊢ Q)

-- more variables
abbrev pub Lengthening : Type 0
Lengthening = (env : Env) (S : Sequent) (Bs : List Ty) → AllByRecursion (IsProper env) Bs → Derivable env S → Derivable env (widened S Bs)

-- types for parameters and terms for variables, where there is no hypothesis
abbrev pub Instantiation : Type 0
Instantiation = (env : Env) → IsWellFormed env → (S : Sequent) (C : Tys) (As : Tys) (ts : List Term) → AreProper env C → AreProper env As →
    AreTyped env (type_list C) (terms ts) (map (type_inst (type_at As)) (type_list S.context)) → ArePlain env (terms ts) → S.hyps ≡ [] →
    Derivable env S → Derivable env (record { context = C; hyps = []; goal = fill (instance S.goal As) ts })

-- one side of an equivalence for the other
abbrev pub Replacement : Type 0
Replacement = (env : Env) (S : Sequent) (P Q : Term) → Derivable env (S ⊢ iff P Q) → Derivable env (S ⊢ Q) → Derivable env (S ⊢ P)

-- equality
abbrev pub Reflexivity : Type 0
Reflexivity = (env : Env) → IsWellFormed env → (S : Sequent) (A : Ty) (t : Term) → IsBaseContext env S → Typed env (type_list S.context) t A → IsPlain env t → AreEqual env S A t t

abbrev pub Symmetry : Type 0
Symmetry = (env : Env) (S : Sequent) (A : Ty) (l r : Term) → AreEqual env S A l r → AreEqual env S A r l

abbrev pub Transitivity : Type 0
Transitivity = (env : Env) (S : Sequent) (A : Ty) (l m r : Term) → AreEqual env S A l m → AreEqual env S A m r → AreEqual env S A l r

-- Equal terms for the variables of a term without direct operators make it equal.
abbrev pub Congruence : Type 0
Congruence = (env : Env) → IsWellFormed env → (S : Sequent) (Cs : List Ty) (us vs : List Term) (body : Term) (A : Ty) → IsBaseContext env S → AreAllEqual env S Cs us vs →
    Typed env Cs body A → IsPlain env body → AreEqual env S A (fill body us) (fill body vs)

-- Nodes that are equal once they are unfolded, at a place, make the whole equal once it is unfolded.
abbrev pub CongruenceAtPlace : Type 0
CongruenceAtPlace = (env : Env) → IsWellFormed env → (place : List ℕ) (S : Sequent) (t old new after : Term) (Bs : List Ty) (A B : Ty) → AreProper env S.context → IsBaseContext (base env) S →
    Typed env (type_list S.context) t A → Typed env (type_list S.context) after A → node_at t place ≡ Some old → path_types t place ≡ Some Bs → replace_at t place new ≡ Some after →
    AreEqual (base env) (widened S Bs) B (unfolded env old) (unfolded env new) → AreEqual (base env) S A (unfolded env t) (unfolded env after)
