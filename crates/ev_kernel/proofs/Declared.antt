-- The rows of axioms, of datatypes and of recursive operators.
use Rattle.std.specs.Prelude.{◌≡◌, ◌↔◌, ◌+◌, ◌<◌, ◌≤◌, ℕ, Bool as Boolean, true, false, List, [], ◌∷◌, Option, Some, None, length, get_or, IsTrue, IsSome, refl}
use Rattle.std.specs.List.{AllByRecursion}
use Rattle.std.proofs.Common.{ap, sym, ◌∙◌, drop, subst as transport, arith}
use Rattle.ev_terms.specs.Term.{Term}
use Rattle.ev_typing.proofs.Names.{drop_at, drop_all}
use Rattle.ev_typing.specs.declared.typing.Sequent.{Sequent}
use Rattle.ev_kernel.specs.Derivable.{numbered, named}
use Rattle.ev_kernel.proofs.Equations.{apart, refused, first_is}
use Rattle.ev_kernel.proofs.Congruence.{named_next, named_length}

abbrev pub no_sequents : List Sequent
no_sequents = []

-- a conclusion without premises
abbrev pub IsConcluded : Option Term → Term → Type 0
IsConcluded o G = (no_sequents ≡ []) × (o ≡ Some G)

pub concluded : (o : Option Term) (t G : Term) (b : Boolean) → o ≡ Some t → (IsTrue b ↔ (t ≡ G)) → IsTrue b ↔ IsConcluded o G
concluded o t G b e d = (λ y. (refl, e ∙ ap (λ u. Some u) (d.0 y)), λ h. d.1 (let k : Some t ≡ Some G = sym e ∙ h.1 in cc))

pub row_concluded : (o : Option Term) (G : Term) (b : Boolean) → (IsTrue b ↔ (o ≡ Some G)) → IsTrue b ↔ IsConcluded o G
row_concluded o G b d = (λ y. (refl, d.0 y), λ h. d.1 h.1)

pub none_concluded : (o : Option Term) (G : Term) (b : Boolean) → (IsTrue b ↔ IsSome o) → b ≡ false → IsTrue false ↔ IsConcluded o G
none_concluded o G b d e = refused (λ h. apart b d e (transport IsSome (sym h.1) refl))

-- The premises of induction.
pub expected_premises : (o r : Option (List Sequent)) (es fs ps : List Sequent) (b : Boolean) → r ≡ o → r ≡ Some fs → es ≡ fs → (IsTrue b ↔ (ps ≡ es)) → IsTrue b ↔ (o ≡ Some ps)
expected_premises o r es fs ps b p q w d =
    let e : o ≡ Some es = sym p ∙ q ∙ ap (λ xs. Some xs) (sym w) in (λ y. e ∙ ap (λ qs. Some qs) (sym (d.0 y)), λ h. d.1 (let k : Some ps ≡ Some es = sym h ∙ e in cc))

pub no_premises : (o r : Option (List Sequent)) (ps : List Sequent) → r ≡ o → r ≡ None → IsTrue false ↔ (o ≡ Some ps)
no_premises o r ps p q = refused (λ h. let k : None ≡ Some ps = sym q ∙ p ∙ h in cc)

-- The sequents that numbers name, compared with others one by one.
tails : (p q : Sequent) (ps qs : List Sequent) → p ∷ ps ≡ q ∷ qs → ps ≡ qs
tails p q ps qs e = cc

abbrev RestNamed : List Sequent → List ℕ → List Sequent → ℕ → Type 0
RestNamed Ss ns es i = named Ss (drop i ns) ≡ drop i es

named_at : (Ss : List Sequent) (ns : List ℕ) (i n : ℕ) (p : Sequent) → n ≡ get_or ns i n → i < length ns → numbered Ss n ≡ Some p → named Ss (drop i ns) ≡ p ∷ named Ss (drop (i + 1) ns)
named_at Ss ns i n p g h q = ap (named Ss) (drop_at ns i n g h) ∙ named_next Ss n (drop (i + 1) ns) p q

pub named_step : (Ss : List Sequent) (ns : List ℕ) (es : List Sequent) (i n : ℕ) (p e : Sequent) (X : Type 0) → e ≡ get_or es i e → n ≡ get_or ns i n → i < length ns → length es ≡ length ns →
    numbered Ss n ≡ Some p → p ≡ e → (RestNamed Ss ns es i ↔ X) → RestNamed Ss ns es (i + 1) ↔ X
named_step Ss ns es i n p e X f g h l q k d =
    let a = named_at Ss ns i n p g h q in
    let b = drop_at es i e f (omega (arith, h, l)) in (
      λ y. d.0 (a ∙ ap (λ qs. p ∷ qs) y ∙ ap (λ z. z ∷ drop (i + 1) es) k ∙ sym b),
      λ x. tails p e (named Ss (drop (i + 1) ns)) (drop (i + 1) es) (sym a ∙ d.1 x ∙ b),
    )

pub named_fails : (Ss : List Sequent) (ns : List ℕ) (es : List Sequent) (i n : ℕ) (p e : Sequent) (X : Type 0) → e ≡ get_or es i e → n ≡ get_or ns i n → i < length ns → length es ≡ length ns →
    numbered Ss n ≡ Some p → ¬ (p ≡ e) → (RestNamed Ss ns es i ↔ X) → IsTrue false ↔ X
named_fails Ss ns es i n p e X f g h l q k d =
    let a = named_at Ss ns i n p g h q in
    let b = drop_at es i e f (omega (arith, h, l)) in
    refused (λ x. k (first_is p e (named Ss (drop (i + 1) ns)) (drop (i + 1) es) (sym a ∙ d.1 x ∙ b)))

pub named_ends : (Ss : List Sequent) (ns : List ℕ) (es : List Sequent) (i : ℕ) (X : Type 0) → length ns ≤ i → length es ≡ length ns → (RestNamed Ss ns es i ↔ X) → IsTrue true ↔ X
named_ends Ss ns es i X h l d = (λ y. d.0 (ap (named Ss) (drop_all ns i h) ∙ sym (drop_all es i (omega (arith, h, l)))), λ x. refl)

pub other_count : (Ss : List Sequent) (ns : List ℕ) (es : List Sequent) → AllByRecursion (λ n. (1 ≤ n) × (n ≤ length Ss)) ns → ¬ (length es ≡ length ns) → IsTrue false ↔ (named Ss ns ≡ es)
other_count Ss ns es h n = refused (λ y. n (sym (ap length y) ∙ named_length Ss ns h))
