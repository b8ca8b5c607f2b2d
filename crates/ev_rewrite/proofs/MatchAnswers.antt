-- What the whole pattern adds to empty slots is what matching finds.
use Rattle.std.proofs.Common.{◌≡◌, ℕ, ◌+◌, ◌-◌, ◌<◌, List, length, replicate, Option, None, sym, ap, ◌∙◌, arith, subst as transport}
use Rattle.std.specs.Prelude.{Bool as Boolean, true, false, ◌||◌, ◌↔◌, IsTrue}
use Rattle.std.proofs.lemmas.List.{length-replicate}
use Rattle.ev_terms.specs.declared.types.Ty.{Ty}
use Rattle.ev_terms.specs.Term.{Term}
use Rattle.ev_typing.specs.Occurs.{mentions_param, has_var}
use Rattle.ev_rewrite.specs.declared.slots.Found.{Found}
use Rattle.ev_rewrite.specs.declared.matching.Inst.{Inst}
use Rattle.ev_rewrite.specs.Matching.{Agree, IsInstance, IsFound, IsFoundAt}
use Rattle.ev_rewrite.specs.inner.Slots.{is_given}
use Rattle.ev_rewrite.specs.inner.Taken.{Agrees, TermTaken}
use Rattle.ev_rewrite.proofs.SlotSteps.{none_given, all_agree, found_given, given_found, agree_length}
use Rattle.ev_rewrite.proofs.TakenSteps.{step_of, refused_by}

starts : (n m : ℕ) (P t : Term) (old : Found) → old.types.items ≡ replicate n None → old.terms.items ≡ replicate m None →
    (As : List Ty) (ts : List Term) → IsInstance n m P As ts t → Agrees old As ts
starts n m P t old e f As ts i = (
  transport (λ slots. Agree slots As) (sym e) (all_agree Ty n As i.type_count),
  transport (λ slots. Agree slots ts) (sym f) (all_agree Term m ts i.term_count),
)

pub no_instance : (n m : ℕ) (P t : Term) (old new : Found) (b : Boolean) → old.types.items ≡ replicate n None → old.terms.items ≡ replicate m None → b ≡ false →
    TermTaken P 0 t old new b → (As : List Ty) (ts : List Term) → ¬ IsInstance n m P As ts t
no_instance n m P t old new b e f z h = λ As ts i. refused_by _ _ _ old new b z h As ts (starts n m P t old e f As ts i) i.is_instance

given_iff : {X : Type 0} (slots : List (Option X)) (i : ℕ) (b : Boolean) → is_given slots i ≡ b → IsFoundAt slots i ↔ IsTrue b
given_iff slots i b e = (λ f. sym e ∙ given_found slots i f, λ v. found_given slots i (e ∙ v))

whole : (n m : ℕ) (P t : Term) (old new : Found) (found : Inst) → old.types.items ≡ replicate n None → old.terms.items ≡ replicate m None →
    TermTaken P 0 t old new true → found.types ≡ new.types.items → found.terms ≡ new.terms.items → IsFound n m P t found
whole n m P t old new found e f s p q = record {
  type_count = types_length;
  term_count = terms_length;
  types_where = λ j h. given_iff found.types j (mentions_param j P)
      (ap (λ slots. is_given slots j) p ∙ s.types_where j (transport (λ k. j < k) (sym old_types) h)
      ∙ ap (λ x. x || mentions_param j P) (ap (λ slots. is_given slots j) e ∙ none_given Ty n j));
  terms_where = λ i h. given_iff found.terms (m - 1 - i) (has_var i P)
      (ap (λ slots. is_given slots (m - 1 - i)) q
      ∙ transport (λ k. is_given new.terms.items (k - 1 - i) ≡ (is_given old.terms.items (k - 1 - i) || has_var (i + 0) P)) old_terms (s.terms_where i (transport (λ k. i < k) (sym old_terms) h))
      ∙ ap (λ x. x || has_var (i + 0) P) (ap (λ slots. is_given slots (m - 1 - i)) f ∙ none_given Term m (m - 1 - i))
      ∙ ap (λ k. has_var k P) (zero_more i));
  agreeing = λ As ts a b. record {
    type_count = sym (agree_length found.types As a) ∙ types_length;
    term_count = sym (agree_length found.terms ts b) ∙ terms_length;
    is_instance = s.holds As ts (transport (λ slots. Agree slots As) p a, transport (λ slots. Agree slots ts) q b);
  };
  only = λ As ts i. let g : Agrees new As ts = s.all As ts (starts n m P t old e f As ts i) i.is_instance in
      (transport (λ slots. Agree slots As) (sym p) g.0, transport (λ slots. Agree slots ts) (sym q) g.1);
}
  where
    zero_more : (i : ℕ) → i + 0 ≡ i
    zero_more i = omega arith

    old_types : length old.types.items ≡ n
    old_types = ap length e ∙ length-replicate n None

    old_terms : length old.terms.items ≡ m
    old_terms = ap length f ∙ length-replicate m None

    types_length : length found.types ≡ n
    types_length = ap length p ∙ s.type_count ∙ old_types

    terms_length : length found.terms ≡ m
    terms_length = ap length q ∙ s.term_count ∙ old_terms

pub whole_found : (n m : ℕ) (P t : Term) (old new : Found) (found : Inst) (b : Boolean) → old.types.items ≡ replicate n None → old.terms.items ≡ replicate m None → b ≡ true →
    TermTaken P 0 t old new b → found.types ≡ new.types.items → found.terms ≡ new.terms.items → IsFound n m P t found
whole_found n m P t old new found b e f z h p q = whole n m P t old new found e f (step_of _ _ _ old new b z h) p q
