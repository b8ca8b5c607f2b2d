-- The base rules: from which premises a sequent follows, row by row. A classical sequent calculus with equality; the table is this
-- project's own.
use Rattle.std.specs.Prelude.{◌≡◌, ◌≢◌, ◌+◌, ◌*◌, ◌<◌, ◌≤◌, ℕ, List, [], ◌∷◌, Some, map, take, Contains, ⊤}
use Rattle.std.specs.List.{AllByRecursion}
use Rattle.ev_terms.specs.declared.types.Ty.{Ty, Int, Bool}
use Rattle.ev_terms.specs.declared.types.Tys.{Tys}
use Rattle.ev_terms.specs.declared.types.Sym.{Sym}
use Rattle.ev_terms.specs.Types.{type_list}
use Rattle.ev_terms.specs.Term.{Term, Terms, lit, node, terms, term_list}
use Rattle.ev_terms.specs.Symbols.{binds}
use Rattle.ev_terms.specs.Substitution.{substitute, fill, instance, type_inst, type_at}
use Rattle.ev_typing.specs.declared.typing.Sequent.{Sequent}
use Rattle.ev_typing.specs.Env.{Env}
use Rattle.ev_forms.specs.Forms.{truth, falsity, neg, conj, disj, imp, iff, forall, exists, eq, mem, less, at_most, plus, times, bool_of, bool_true, such_that, equation}
use Rattle.ev_typing.specs.Typing.{Typed, AreTyped, AreProper}
use Rattle.ev_typing.specs.Sequents.{◌⊢◌, ◌▹◌}
use Rattle.ev_typing.specs.BaseSequents.{widened, under}
use Rattle.ev_data.specs.Closed.{destructor_row, distinctness_row, recursion_row}
use Rattle.ev_data.specs.Induction.{premises_for}
use Rattle.ev_axioms.specs.Axioms.{axiom_row}
use Rattle.ev_kernel.specs.declared.rules.BaseRule.{BaseRule}
use Rattle.ev_kernel.specs.declared.rules.BaseRule.TheVariants.{Hyp, Weak, Cut, Inst, TrueI, FalseE, NotI, NotE, AndI, AndE1, AndE2, OrI1, OrI2, OrE, ImpI, ImpE, IffI, IffE1, IffE2, AllI, AllE, ExI, ExE, Em, Refl, Sym as Symmetry, Trans, Cong, SetMem, BoolMem, Calc, Axiom, Des, Dis, Ind, Rec}

-- a row's conclusion and premises
pub record Fits (S : Sequent) (premises : List Sequent) (goal : Term) (expected : List Sequent) : Type 0 where
  pub concludes : S.goal ≡ goal
  pub premises_are : premises ≡ expected

-- the sequent T with types put for parameters and a term for each variable of its context, the outermost first, each of its type
pub record IsInstanceOf (env : Env) (As : Tys) (ts : List Term) (T S : Sequent) : Type 0 where
  pub types_proper : AreProper env As
  pub terms_typed : AreTyped env (type_list S.context) (terms ts) (map (type_inst (type_at As)) (type_list T.context))
  pub hyps_are : S.hyps ≡ map (λ P. fill (instance P As) ts) T.hyps
  pub goal_is : S.goal ≡ fill (instance T.goal As) ts

-- per pair of terms a premise that equates them
abbrev pub AreEquated : Sequent → List Term → List Term → List Sequent → Type 0
AreEquated S [] [] [] = ⊤
AreEquated S (c ∷ cs) (d ∷ ds) (p ∷ ps) = ((A : Ty) × (p ≡ (S ⊢ equation A c d))) × AreEquated S cs ds ps
AreEquated S _ _ _ = ⊥

-- the sequent in the context of a symbol's children
abbrev pub at_children : Sequent → Sym → Tys → Sequent
at_children S s As = widened S (take (binds s) (type_list As))

-- two terms with one symbol at the same types, whose children the premises equate
abbrev pub AreCongruent : Sequent → Term → Term → List Sequent → Type 0
AreCongruent S t u ps = (s : Sym) × (As : Tys) × (cs ds : Terms) × (t ≡ node s As cs) × (u ≡ node s As ds) × AreEquated (at_children S s As) (term_list cs) (term_list ds) ps

-- a fact on literals
pub data IsCalculated (G : Term) : Type 0 where
  sum : (a b : ℕ) → G ≡ eq Int (plus (lit a) (lit b)) (lit (a + b)) → IsCalculated G
  product : (a b : ℕ) → G ≡ eq Int (times (lit a) (lit b)) (lit (a * b)) → IsCalculated G
  order : (a b : ℕ) → a ≤ b → G ≡ at_most (lit a) (lit b) → IsCalculated G
  strict_order : (a b : ℕ) → a < b → G ≡ less (lit a) (lit b) → IsCalculated G
  difference : (a b : ℕ) → a ≢ b → G ≡ neg (eq Int (lit a) (lit b)) → IsCalculated G

-- The sequent S follows from the premises by the rule. `S ⊢ P` is S with the goal P, `S ▹ P` is S with the hypothesis P added.
abbrev pub Row : Env → List Sequent → BaseRule → Sequent → Type 0
Row env ps Hyp S = (ps ≡ []) × Contains S.hyps S.goal
Row env ps Weak S = (H : List Term) × AllByRecursion (Contains S.hyps) H × (ps ≡ record { context = S.context; hyps = H; goal = S.goal } ∷ [])
Row env ps Cut S = (P : Term) × (ps ≡ (S ⊢ P) ∷ (S ▹ P) ∷ [])
Row env ps (Inst As ts) S = (T : Sequent) × (ps ≡ T ∷ []) × IsInstanceOf env As ts T S
Row env ps TrueI S = Fits S ps truth []
Row env ps FalseE S = ps ≡ (S ⊢ falsity) ∷ []
Row env ps NotI S = (P : Term) × Fits S ps (neg P) ((S ▹ P ⊢ falsity) ∷ [])
Row env ps NotE S = (P : Term) × Fits S ps falsity ((S ⊢ P) ∷ (S ⊢ neg P) ∷ [])
Row env ps AndI S = (P Q : Term) × Fits S ps (conj P Q) ((S ⊢ P) ∷ (S ⊢ Q) ∷ [])
Row env ps AndE1 S = (Q : Term) × (ps ≡ (S ⊢ conj S.goal Q) ∷ [])
Row env ps AndE2 S = (P : Term) × (ps ≡ (S ⊢ conj P S.goal) ∷ [])
Row env ps OrI1 S = (P Q : Term) × Fits S ps (disj P Q) ((S ⊢ P) ∷ [])
Row env ps OrI2 S = (P Q : Term) × Fits S ps (disj P Q) ((S ⊢ Q) ∷ [])
Row env ps OrE S = (P Q : Term) × (ps ≡ (S ⊢ disj P Q) ∷ (S ▹ P) ∷ (S ▹ Q) ∷ [])
Row env ps ImpI S = (P Q : Term) × Fits S ps (imp P Q) ((S ▹ P ⊢ Q) ∷ [])
Row env ps ImpE S = (P : Term) × (ps ≡ (S ⊢ imp P S.goal) ∷ (S ⊢ P) ∷ [])
Row env ps IffI S = (P Q : Term) × Fits S ps (iff P Q) ((S ▹ P ⊢ Q) ∷ (S ▹ Q ⊢ P) ∷ [])
Row env ps IffE1 S = (P : Term) × (ps ≡ (S ⊢ iff P S.goal) ∷ (S ⊢ P) ∷ [])
Row env ps IffE2 S = (Q : Term) × (ps ≡ (S ⊢ iff S.goal Q) ∷ (S ⊢ Q) ∷ [])
Row env ps AllI S = (A : Ty) × (P : Term) × Fits S ps (forall A P) ((under S A ⊢ P) ∷ [])
Row env ps (AllE t) S = (A : Ty) × (P : Term) × Typed env (type_list S.context) t A × Fits S ps (substitute P (t ∷ [])) ((S ⊢ forall A P) ∷ [])
Row env ps (ExI t) S = (A : Ty) × (P : Term) × Typed env (type_list S.context) t A × Fits S ps (exists A P) ((S ⊢ substitute P (t ∷ [])) ∷ [])
Row env ps ExE S = (A : Ty) × (P : Term) × (ps ≡ (S ⊢ exists A P) ∷ (under S A ▹ P) ∷ [])
Row env ps Em S = (P : Term) × Fits S ps (disj P (neg P)) []
Row env ps Refl S = (A : Ty) × (t : Term) × Fits S ps (equation A t t) []
Row env ps Symmetry S = (A : Ty) × (s t : Term) × Fits S ps (equation A t s) ((S ⊢ equation A s t) ∷ [])
Row env ps Trans S = (A : Ty) × (s t u : Term) × Fits S ps (equation A s u) ((S ⊢ equation A s t) ∷ (S ⊢ equation A t u) ∷ [])
Row env ps Cong S = (A : Ty) × (t u : Term) × (S.goal ≡ equation A t u) × AreCongruent S t u ps
Row env ps SetMem S = (A : Ty) × (t Q : Term) × Fits S ps (iff (mem A t (such_that A Q)) (substitute Q (t ∷ []))) []
Row env ps BoolMem S = (P : Term) × Fits S ps (iff (eq Bool (bool_of P) bool_true) P) []
Row env ps Calc S = (ps ≡ []) × IsCalculated S.goal
Row env ps (Axiom k) S = (ps ≡ []) × (axiom_row k ≡ Some S.goal)
Row env ps (Des con place) S = (ps ≡ []) × (destructor_row env con place ≡ Some S.goal)
Row env ps (Dis left right) S = (ps ≡ []) × (distinctness_row env left right ≡ Some S.goal)
Row env ps Ind S = premises_for env S ≡ Some ps
Row env ps (Rec op con) S = (ps ≡ []) × (recursion_row env op con ≡ Some S.goal)
