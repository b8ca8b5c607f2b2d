-- The parts of a form are determined by it.
use Rattle.std.proofs.Common.{◌≡◌, ap, sym, ◌∙◌}
use Rattle.ev_terms.specs.declared.types.Ty.{Ty}
use Rattle.ev_terms.specs.Term.{Term, types_of}
use Rattle.ev_forms.specs.Forms.{neg, conj, disj, imp, iff, forall, exists, equation}
use Rattle.ev_forms.proofs.FormViews.{equated_at, equation_types}
use Rattle.ev_kernel.proofs.Binding.{one_type}

pub one_neg : (P Q : Term) → neg P ≡ neg Q → P ≡ Q
one_neg P Q e = cc

pub one_conj : (P Q R T : Term) → conj P R ≡ conj Q T → (P ≡ Q) × (R ≡ T)
one_conj P Q R T e = (cc, cc)

pub one_disj : (P Q R T : Term) → disj P R ≡ disj Q T → (P ≡ Q) × (R ≡ T)
one_disj P Q R T e = (cc, cc)

pub one_imp : (P Q R T : Term) → imp P R ≡ imp Q T → (P ≡ Q) × (R ≡ T)
one_imp P Q R T e = (cc, cc)

pub one_iff : (P Q R T : Term) → iff P R ≡ iff Q T → (P ≡ Q) × (R ≡ T)
one_iff P Q R T e = (cc, cc)

pub one_forall : (A B : Ty) (P Q : Term) → forall A P ≡ forall B Q → (A ≡ B) × (P ≡ Q)
one_forall A B P Q e = (one_type A B (cc), cc)

pub one_exists : (A B : Ty) (P Q : Term) → exists A P ≡ exists B Q → (A ≡ B) × (P ≡ Q)
one_exists A B P Q e = (one_type A B (cc), cc)

-- the type of an equation
pub one_equation : (A B : Ty) (s t u v : Term) → equation A s t ≡ equation B u v → A ≡ B
one_equation A B s t u v e =
    let p = equation_types A s t in
    sym (equated_at A s t p.0 p.1) ∙ equated_at B u v p.0 (sym (ap types_of e) ∙ p.1)
