-- Forms by the words that begin them.
use Rattle.std.proofs.Common.{◌≡◌, ℕ, Bool, List, refl, ap, subst, ◌∙◌, arith}
use Rattle.std.specs.Prelude.{Option, Some, None, option_map}
use Rattle.ev_syntax.specs.Marks.{import_word, param_word, datatype_word, operator_word, constant_word, axiom_word, theorem_word, rewrite_word, inference_word}
use Rattle.ev_syntax.specs.Tokens.{Token}
use Rattle.ev_syntax.specs.Raw.{Raw}
use Rattle.ev_theory_text.specs.declared.forms.RawArg.{RawArg}
use Rattle.ev_theory_text.specs.declared.forms.RawCon.{RawCon}
use Rattle.ev_theory_text.specs.declared.forms.RawHead.{RawHead}
use Rattle.ev_theory_text.specs.declared.forms.RawBody.{RawBody}
use Rattle.ev_theory_text.specs.declared.forms.RawBranch.{RawBranch}
use Rattle.ev_theory_text.specs.declared.forms.ElementForm.{ElementForm}
use Rattle.ev_theory_text.specs.declared.forms.ElementForm.TheVariants.{Import, Param, Datatype, Operator, Constant, Axiom, Theorem, Rewrite, Inference}
use Rattle.ev_theory_text.specs.Elements.{ReadsForm, first_word, OfWord}
use Rattle.ev_theory_text.specs.Depths.{form_deep}
use Rattle.ev_parse.specs.inner.Taking.{State, TakesFrom, Took}
use Rattle.ev_theory_text.specs.inner.Making.{import_form, param_form, datatype_form, operator_form, constant_form, axiom_form, theorem_form, rewrite_form, inference_form}
use Rattle.ev_parse.proofs.Takings.{map_kept}

-- the forms of a word
pub of_import : (b : ElementForm) → first_word b ≡ import_word → (a : List ℕ) × (b ≡ import_form a)
of_import (Import n) e = (n, refl)
of_import (Param names) e = absurd (omega arith)
of_import (Datatype n params cons) e = absurd (omega arith)
of_import (Operator h c body) e = absurd (omega arith)
of_import (Constant h c) e = absurd (omega arith)
of_import (Axiom n p) e = absurd (omega arith)
of_import (Theorem n p) e = absurd (omega arith)
of_import (Rewrite n vars left branches complete) e = absurd (omega arith)
of_import (Inference n vars givens p) e = absurd (omega arith)

pub of_param : (b : ElementForm) → first_word b ≡ param_word → (a : List (List ℕ)) × (b ≡ param_form a)
of_param (Import n) e = absurd (omega arith)
of_param (Param names) e = (names, refl)
of_param (Datatype n params cons) e = absurd (omega arith)
of_param (Operator h c body) e = absurd (omega arith)
of_param (Constant h c) e = absurd (omega arith)
of_param (Axiom n p) e = absurd (omega arith)
of_param (Theorem n p) e = absurd (omega arith)
of_param (Rewrite n vars left branches complete) e = absurd (omega arith)
of_param (Inference n vars givens p) e = absurd (omega arith)

pub of_datatype : (b : ElementForm) → first_word b ≡ datatype_word → (a : List ℕ × (List (List ℕ) × List RawCon)) × (b ≡ datatype_form a)
of_datatype (Import n) e = absurd (omega arith)
of_datatype (Param names) e = absurd (omega arith)
of_datatype (Datatype n params cons) e = ((n, (params, cons)), refl)
of_datatype (Operator h c body) e = absurd (omega arith)
of_datatype (Constant h c) e = absurd (omega arith)
of_datatype (Axiom n p) e = absurd (omega arith)
of_datatype (Theorem n p) e = absurd (omega arith)
of_datatype (Rewrite n vars left branches complete) e = absurd (omega arith)
of_datatype (Inference n vars givens p) e = absurd (omega arith)

pub of_operator : (b : ElementForm) → first_word b ≡ operator_word → (a : RawHead × (Option Raw × RawBody)) × (b ≡ operator_form a)
of_operator (Import n) e = absurd (omega arith)
of_operator (Param names) e = absurd (omega arith)
of_operator (Datatype n params cons) e = absurd (omega arith)
of_operator (Operator h c body) e = ((h, (c, body)), refl)
of_operator (Constant h c) e = absurd (omega arith)
of_operator (Axiom n p) e = absurd (omega arith)
of_operator (Theorem n p) e = absurd (omega arith)
of_operator (Rewrite n vars left branches complete) e = absurd (omega arith)
of_operator (Inference n vars givens p) e = absurd (omega arith)

pub of_constant : (b : ElementForm) → first_word b ≡ constant_word → (a : RawHead × Option Raw) × (b ≡ constant_form a)
of_constant (Import n) e = absurd (omega arith)
of_constant (Param names) e = absurd (omega arith)
of_constant (Datatype n params cons) e = absurd (omega arith)
of_constant (Operator h c body) e = absurd (omega arith)
of_constant (Constant h c) e = ((h, c), refl)
of_constant (Axiom n p) e = absurd (omega arith)
of_constant (Theorem n p) e = absurd (omega arith)
of_constant (Rewrite n vars left branches complete) e = absurd (omega arith)
of_constant (Inference n vars givens p) e = absurd (omega arith)

pub of_axiom : (b : ElementForm) → first_word b ≡ axiom_word → (a : List ℕ × Raw) × (b ≡ axiom_form a)
of_axiom (Import n) e = absurd (omega arith)
of_axiom (Param names) e = absurd (omega arith)
of_axiom (Datatype n params cons) e = absurd (omega arith)
of_axiom (Operator h c body) e = absurd (omega arith)
of_axiom (Constant h c) e = absurd (omega arith)
of_axiom (Axiom n p) e = ((n, p), refl)
of_axiom (Theorem n p) e = absurd (omega arith)
of_axiom (Rewrite n vars left branches complete) e = absurd (omega arith)
of_axiom (Inference n vars givens p) e = absurd (omega arith)

pub of_theorem : (b : ElementForm) → first_word b ≡ theorem_word → (a : List ℕ × Raw) × (b ≡ theorem_form a)
of_theorem (Import n) e = absurd (omega arith)
of_theorem (Param names) e = absurd (omega arith)
of_theorem (Datatype n params cons) e = absurd (omega arith)
of_theorem (Operator h c body) e = absurd (omega arith)
of_theorem (Constant h c) e = absurd (omega arith)
of_theorem (Axiom n p) e = absurd (omega arith)
of_theorem (Theorem n p) e = ((n, p), refl)
of_theorem (Rewrite n vars left branches complete) e = absurd (omega arith)
of_theorem (Inference n vars givens p) e = absurd (omega arith)

pub of_rewrite : (b : ElementForm) → first_word b ≡ rewrite_word → (a : List ℕ × (List RawArg × (Raw × (List RawBranch × Bool)))) × (b ≡ rewrite_form a)
of_rewrite (Import n) e = absurd (omega arith)
of_rewrite (Param names) e = absurd (omega arith)
of_rewrite (Datatype n params cons) e = absurd (omega arith)
of_rewrite (Operator h c body) e = absurd (omega arith)
of_rewrite (Constant h c) e = absurd (omega arith)
of_rewrite (Axiom n p) e = absurd (omega arith)
of_rewrite (Theorem n p) e = absurd (omega arith)
of_rewrite (Rewrite n vars left branches complete) e = ((n, (vars, (left, (branches, complete)))), refl)
of_rewrite (Inference n vars givens p) e = absurd (omega arith)

pub of_inference : (b : ElementForm) → first_word b ≡ inference_word → (a : List ℕ × (List RawArg × (List Raw × Raw))) × (b ≡ inference_form a)
of_inference (Import n) e = absurd (omega arith)
of_inference (Param names) e = absurd (omega arith)
of_inference (Datatype n params cons) e = absurd (omega arith)
of_inference (Operator h c body) e = absurd (omega arith)
of_inference (Constant h c) e = absurd (omega arith)
of_inference (Axiom n p) e = absurd (omega arith)
of_inference (Theorem n p) e = absurd (omega arith)
of_inference (Rewrite n vars left branches complete) e = absurd (omega arith)
of_inference (Inference n vars givens p) e = ((n, (vars, (givens, p))), refl)

word_takes : {A : Type 0} (f : A → ElementForm) (m : ℕ) (E : List Token → Type 0) (da : A → Bool) (s t : State) (v : Option A) (w : Option ElementForm) → TakesFrom (λ a. ReadsForm (f a)) E da s v t
    → ((a : A) → first_word (f a) ≡ m) → ((a : A) → da a ≡ form_deep (f a)) → ((b : ElementForm) → first_word b ≡ m → (a : A) × (b ≡ f a)) → w ≡ option_map f v → TakesFrom (OfWord m) E form_deep s w t
word_takes f m E da None t v w h word deep back e = h
word_takes f m E da (Some ts) None v w h word deep back e = λ b rest i k. let a = back b i.0 in h a.0 rest (subst (λ x. ReadsForm x ts rest) a.1 i.1) k
word_takes f m E da (Some ts) (Some us) v w h word deep back e = (
  f h.0,
  e ∙ ap (option_map f) h.1 ∙ map_kept f da form_deep h.0 (deep h.0),
  (word h.0, h.2),
  h.3,
  λ b rest i k. let a = back b i.0 in let same = h.4 a.0 rest (subst (λ x. ReadsForm x ts rest) a.1 i.1) k in (a.1 ∙ ap f same.0, same.1),
)

pub word_took : {A : Type 0} {m : ℕ} {E : List Token → Type 0} {da : A → Bool} {s t : State} {v : Option A} {w : Option ElementForm} (f : A → ElementForm) → Took (λ a. ReadsForm (f a)) E da s v t
    → ((a : A) → first_word (f a) ≡ m) → ((a : A) → da a ≡ form_deep (f a)) → ((b : ElementForm) → first_word b ≡ m → (a : A) × (b ≡ f a)) → w ≡ option_map f v → Took (OfWord m) E form_deep s w t
word_took {A} {m} {E} {da} {s} {t} {v} {w} f h word deep back e = record { takes = word_takes f m E da s t v w h.takes word deep back e }
