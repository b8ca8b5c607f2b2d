-- What sketches are of, and what is built from them.
use Rattle.std.proofs.Common.{◌≡◌, ◌≢◌, ◌↔◌, ℕ, zero, suc, ◌+◌, Bool as Boolean, true, false, List, ◌∷◌, IsTrue, ap, sym, ◌∙◌, subst, refl, arith}
use Rattle.std.specs.Prelude.{pred}
use Rattle.std.proofs.Math.Path.{fun_ext}
use Rattle.std.proofs.lemmas.Bool.{false≢true}
use Rattle.std.proofs.lemmas.Bool.Decides.{nat_tests}
use Rattle.ev_terms.specs.declared.types.Ty.{Ty}
use Rattle.ev_terms.specs.Term.{Term, var, lit, node, nil, cons}
use Rattle.ev_terms.specs.Symbols.{binds}
use Rattle.ev_terms.specs.Substitution.{shift_var, inst, lift}
use Rattle.ev_terms.proofs.Subst.{inst-inst}
use Rattle.ev_forms.specs.declared.connectives.Connective.{Connective}
use Rattle.ev_forms.specs.declared.connectives.Connective.TheVariants.{And, Or, Implies, Iff}
use Rattle.ev_forms.specs.Connectives.{joined}
use Rattle.ev_forms.specs.Forms.{truth, is_truth, conj, forall}
use Rattle.ev_wd.specs.Makers.{lowered}
use Rattle.ev_wd.specs.declared.sketches.Sketch.{Sketch, Part}
use Rattle.ev_wd.specs.declared.sketches.Sketch.TheVariants.{Both, Guarded, Bound, Lowered}
use Rattle.ev_wd.specs.inner.Renaming.{new_number, renaming}
use Rattle.ev_wd.specs.inner.Sketches.{meaning}
use Rattle.ev_wd.proofs.Making.{truth_only}

-- What the code's forms mean.
pub meaning-Part : (P : Term) → meaning (Part P) ≡ P
meaning-Part P = refl

pub meaning-Both : (P Q : Sketch) → meaning (Both P Q) ≡ conj (meaning P) (meaning Q)
unfolding Rattle.ev_wd.specs.declared.sketches.Sketch.TheBlock.shape-the_row-Sketch-0 Rattle.ev_wd.specs.declared.sketches.Sketch.TheBlock.hidden-the_row-Sketch-0 denote.Hole.Carrier.hidden
meaning-Both P Q = refl

pub meaning-Guarded : (c : Connective) (P : Term) (Q : Sketch) → meaning (Guarded c P Q) ≡ joined c P (meaning Q)
unfolding Rattle.ev_wd.specs.declared.sketches.Sketch.TheBlock.shape-the_row-Sketch-0 Rattle.ev_wd.specs.declared.sketches.Sketch.TheBlock.hidden-the_row-Sketch-0 denote.Hole.Carrier.hidden
meaning-Guarded c P Q = refl

pub meaning-Bound : (A : Ty) (P : Sketch) → meaning (Bound A P) ≡ forall A (meaning P)
unfolding Rattle.ev_wd.specs.declared.sketches.Sketch.TheBlock.shape-the_row-Sketch-0 Rattle.ev_wd.specs.declared.sketches.Sketch.TheBlock.hidden-the_row-Sketch-0 denote.Hole.Carrier.hidden
meaning-Bound A P = refl

pub meaning-Lowered : (P : Sketch) → meaning (Lowered P) ≡ lowered (meaning P)
unfolding Rattle.ev_wd.specs.declared.sketches.Sketch.TheBlock.shape-the_row-Sketch-0 Rattle.ev_wd.specs.declared.sketches.Sketch.TheBlock.hidden-the_row-Sketch-0 denote.Hole.Carrier.hidden
meaning-Lowered P = refl

-- Which of them is `true`.
truth-inst : (σ : ℕ → Term) → inst σ truth ≡ truth
unfolding binds
truth-inst σ = refl

lowered_is_true : (t : Term) → lowered t ≡ truth → t ≡ truth
lowered_is_true (var i) e = cc
lowered_is_true (lit n) e = cc
lowered_is_true (node s As nil) e = e
lowered_is_true (node s As (cons t ts)) e = cc

conj_is_none : (P Q : Term) → conj P Q ≢ truth
conj_is_none P Q e = cc

joined_is_none : (c : Connective) (P Q : Term) → joined c P Q ≢ truth
joined_is_none And P Q e = cc
joined_is_none Or P Q e = cc
joined_is_none Implies P Q e = cc
joined_is_none Iff P Q e = cc

forall_is_none : (A : Ty) (P : Term) → forall A P ≢ truth
forall_is_none A P e = cc

pub part_is_true : (s : Sketch) (P : Term) (b : Boolean) → s ≡ Part P → (IsTrue b ↔ (P ≡ truth)) → IsTrue b ↔ (meaning s ≡ truth)
part_is_true s P b e h = subst (λ t. IsTrue b ↔ (t ≡ truth)) (sym (ap meaning e)) h

pub body_is_true : (s P Q : Sketch) (b : Boolean) → s ≡ Lowered P → Q ≡ P → (IsTrue b ↔ (meaning Q ≡ truth)) → IsTrue b ↔ (meaning s ≡ truth)
body_is_true s P Q b e f h =
    let p : meaning s ≡ lowered (meaning Q) = ap meaning e ∙ meaning-Lowered P ∙ ap (λ R. lowered (meaning R)) (sym f) in
    (λ x. p ∙ ap lowered (h.0 x) ∙ truth-inst (λ i. var (pred i)), λ q. h.1 (lowered_is_true (meaning Q) (sym p ∙ q)))

none_is_true : (t : Term) → t ≢ truth → IsTrue false ↔ (t ≡ truth)
none_is_true t h = (λ x. absurd (false≢true x), λ q. absurd (h q))

pub both_is_true : (s P Q : Sketch) → s ≡ Both P Q → IsTrue false ↔ (meaning s ≡ truth)
both_is_true s P Q e =
    none_is_true (meaning s) (λ q. conj_is_none (meaning P) (meaning Q) (sym (ap meaning e ∙ meaning-Both P Q) ∙ q))

pub guarded_is_true : (s : Sketch) (c : Connective) (P : Term) (Q : Sketch) → s ≡ Guarded c P Q → IsTrue false ↔ (meaning s ≡ truth)
guarded_is_true s c P Q e =
    none_is_true (meaning s) (λ q. joined_is_none c P (meaning Q) (sym (ap meaning e ∙ meaning-Guarded c P Q) ∙ q))

pub bound_is_true : (s : Sketch) (A : Ty) (P : Sketch) → s ≡ Bound A P → IsTrue false ↔ (meaning s ≡ truth)
bound_is_true s A P e =
    none_is_true (meaning s) (λ q. forall_is_none A (meaning P) (sym (ap meaning e ∙ meaning-Bound A P) ∙ q))

pub ruleset truths = (part_is_true, body_is_true, both_is_true, guarded_is_true, bound_is_true)

-- What is built.
joined-inst : (c : Connective) (σ : ℕ → Term) (P Q : Term) → inst σ (joined c P Q) ≡ joined c (inst σ P) (inst σ Q)
unfolding binds
joined-inst And σ P Q = refl
joined-inst Or σ P Q = refl
joined-inst Implies σ P Q = refl
joined-inst Iff σ P Q = refl

renaming-lift : (ks : List Boolean) → lift (renaming ks) ≡ renaming (true ∷ ks)
renaming-lift ks = fun_ext each
  where
    raised : (r : ℕ) → shift_var 0 1 r ≡ suc r
    raised r = grind (arith, nat_tests)

    each : (i : ℕ) → lift (renaming ks) i ≡ renaming (true ∷ ks) i
    each zero = refl
    each (suc i) = ap var (raised (new_number ks i))

forall-inst : (A : Ty) (ks : List Boolean) (P : Term) → inst (renaming ks) (forall A P) ≡ forall A (inst (renaming (true ∷ ks)) P)
unfolding binds
forall-inst A ks P = ap (λ σ. forall A (inst σ P)) (renaming-lift ks)

pub part_built : (s : Sketch) (P t : Term) (σ : ℕ → Term) → s ≡ Part P → t ≡ inst σ P → t ≡ inst σ (meaning s)
part_built s P t σ e f = f ∙ ap (λ u. inst σ (meaning u)) (sym e)

pub both_built : (s P Q P' Q' : Sketch) (l r t : Term) (σ : ℕ → Term) → s ≡ Both P Q → P' ≡ P → Q' ≡ Q → l ≡ inst σ (meaning P') → r ≡ inst σ (meaning Q') →
    t ≡ conj l r → t ≡ inst σ (meaning s)
both_built s P Q P' Q' l r t σ e p q f g h =
    h ∙ ap (λ u. conj u r) (f ∙ ap (λ R. inst σ (meaning R)) p) ∙ ap (conj (inst σ (meaning P))) (g ∙ ap (λ R. inst σ (meaning R)) q)
    ∙ sym (ap (inst σ) (ap meaning e ∙ meaning-Both P Q) ∙ joined-inst And σ (meaning P) (meaning Q))

pub guarded_built : (s : Sketch) (c : Connective) (P : Term) (Q Q' : Sketch) (l r t : Term) (σ : ℕ → Term) → s ≡ Guarded c P Q → Q' ≡ Q → l ≡ inst σ P →
    r ≡ inst σ (meaning Q') → t ≡ joined c l r → t ≡ inst σ (meaning s)
guarded_built s c P Q Q' l r t σ e q f g h =
    h ∙ ap (λ u. joined c u r) f ∙ ap (joined c (inst σ P)) (g ∙ ap (λ R. inst σ (meaning R)) q)
    ∙ sym (ap (inst σ) (ap meaning e ∙ meaning-Guarded c P Q) ∙ joined-inst c σ P (meaning Q))

pub bound_built : (s : Sketch) (A B : Ty) (P P' : Sketch) (ks ks' us : List Boolean) (b t : Term) → s ≡ Bound A P → P' ≡ P → ks' ≡ true ∷ ks → us ≡ ks' →
    b ≡ inst (renaming us) (meaning P') → B ≡ A → t ≡ forall B b → t ≡ inst (renaming ks) (meaning s)
bound_built s A B P P' ks ks' us b t e p k m f g h =
    h ∙ ap (λ C. forall C b) g ∙ ap (forall A) (f ∙ ap (λ vs. inst (renaming vs) (meaning P')) (m ∙ k) ∙ ap (λ R. inst (renaming (true ∷ ks)) (meaning R)) p)
    ∙ sym (ap (inst (renaming ks)) (ap meaning e ∙ meaning-Bound A P) ∙ forall-inst A ks (meaning P))

pub lowered_built : (s P P' : Sketch) (ks ks' us : List Boolean) (t : Term) → s ≡ Lowered P → P' ≡ P → ks' ≡ false ∷ ks → us ≡ ks' →
    t ≡ inst (renaming us) (meaning P') → t ≡ inst (renaming ks) (meaning s)
lowered_built s P P' ks ks' us t e p k m f =
    f ∙ ap (λ vs. inst (renaming vs) (meaning P')) (m ∙ k) ∙ ap (λ R. inst (renaming (false ∷ ks)) (meaning R)) p
    ∙ sym (ap (inst (renaming ks)) (ap meaning e ∙ meaning-Lowered P) ∙ inst-inst (renaming ks) (λ i. var (pred i)) (meaning P))

pub ruleset building = (part_built)

pub ruleset forms = (meaning-Part, meaning-Both, meaning-Guarded, meaning-Bound, meaning-Lowered)
