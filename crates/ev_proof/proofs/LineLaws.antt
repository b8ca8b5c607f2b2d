-- What a line is, by its tokens.
use Rattle.std.proofs.Common.{◌≡◌, ℕ, Bool, true, false, List, [], refl, ap, subst, sym, ◌∙◌, true≢false}
use Rattle.std.specs.Prelude.{Option, Some, None, Result, Err, ◌↔◌, IsTrue, if◌then◌else◌}
use Rattle.std.specs.List.{list_any}
use Rattle.ev_syntax.specs.Tokens.{Token, Tokens, HasTokens, IsBadText, HasTooLarge, tokens_of, is_too_large}
use Rattle.ev_syntax.specs.Views.{all_seen_in}
use Rattle.ev_syntax.specs.inner.Reading.{AreSmall}
use Rattle.ev_syntax.specs.declared.kinds as kinds
use Rattle.ev_syntax.specs.declared.faults.LexFault.{LexFault}
use Rattle.ev_syntax.specs.declared.faults.LexFault.TheVariants.{BadText, NumberTooLarge, NoMemory}
use Rattle.ev_syntax.proofs.Continuing.{text_tokens_same}
use Rattle.ev_parse.proofs.SmallTokens.{small_tokens}
use Rattle.ev_proof.specs.declared.steps.Step.{Step}
use Rattle.ev_proof.specs.Steps.{ReadsStep}
use Rattle.ev_proof.specs.Depths.{step_deep}
use Rattle.ev_proof.specs.Lines.{IsStep, IsStepLine}
use Rattle.ev_proof.specs.StepLaws.{LineIsOneStep}
use Rattle.ev_parse.specs.inner.Taking.{State, kept, Takes, Took, AtEnd}
use Rattle.ev_proof.specs.inner.StepAnswers.{IsShallow, StepOf}
use Rattle.ev_proof.proofs.OneStep.{one_step}

-- what a reader took from all the tokens
not_kept : (a : Step) → None ≡ kept step_deep a → step_deep a ≡ true
not_kept a e = go (step_deep a) refl e
  where
    go : (b : Bool) → step_deep a ≡ b → None ≡ (if b then None else Some a) → step_deep a ≡ true
    go true d e = d
    go false d e = cc

is_kept : (a step : Step) → Some step ≡ kept step_deep a → (step ≡ a) × (step_deep a ≡ false)
is_kept a step e = go (step_deep a) refl e
  where
    go : (b : Bool) → step_deep a ≡ b → Some step ≡ (if b then None else Some a) → (step ≡ a) × (step_deep a ≡ false)
    go true d e = cc
    go false d e = (cc, d)

none_of_rest : (ts : List Token) (s t : State) (v : Option Step) → s ≡ Some ts → Took ReadsStep AtEnd step_deep s v t → ¬ (t ≡ Some []) → StepOf ts None
none_of_rest ts s None v e h not step i = (subst (λ x. Took ReadsStep AtEnd step_deep x v None) e h).takes step [] i.0 refl
none_of_rest ts s (Some us) v e h not step i =
    let k = (subst (λ x. Took ReadsStep AtEnd step_deep x v (Some us)) e h).takes in not (ap (λ xs. Some xs) (sym (k.4 step [] i.0 refl).1))

step_of_all : (ts : List Token) (s t : State) (v : Option Step) → s ≡ Some ts → Took ReadsStep AtEnd step_deep s v t → t ≡ Some [] → StepOf ts v
step_of_all ts s t v e h end = go v (subst (λ x. Took ReadsStep AtEnd step_deep (Some ts) v x) end (subst (λ x. Took ReadsStep AtEnd step_deep x v t) e h)).takes
  where
    go : (v : Option Step) → Takes ReadsStep AtEnd step_deep ts v (Some []) → StepOf ts v
    go None k = λ step i. true≢false (sym (not_kept k.0 k.1) ∙ ap step_deep (sym (k.4 step [] i.0 refl).0) ∙ i.1)
    go (Some step) k = let is = is_kept k.0 step k.1 in (subst (λ x. ReadsStep x ts []) (sym is.0) k.2, ap step_deep is.0 ∙ is.1)

pub whole_line : (ts : List Token) (s t : State) (v : Option Step) (is_at_end : Bool) → s ≡ Some ts → Took ReadsStep AtEnd step_deep s v t → IsTrue is_at_end ↔ (t ≡ Some [])
    → StepOf ts (if is_at_end then v else None)
whole_line ts s t v true e h i = step_of_all ts s t v e h (i.0 refl)
whole_line ts s t v false e h i = none_of_rest ts s t v e h (λ d. true≢false (sym (i.1 d)))

-- a line has one list of tokens
same_tokens : (line : List ℕ) (ts us : List Token) → Tokens line ts → Tokens line us → ts ≡ us
same_tokens line ts us h k = h.2 ∙ ap tokens_of (text_tokens_same line h.0 k.0 h.1 k.1) ∙ sym k.2

its_step : (line : List ℕ) (ts : List Token) (step : Step) → Tokens line ts → IsStep line step → IsShallow ts step
its_step line ts step h i = (subst (λ xs. ReadsStep step xs []) (same_tokens line i.tokens ts i.good h) i.reads, i.shallow)

line_by_tokens : (line : List ℕ) (ts : List Token) (o : Option Step) → Tokens line ts → list_any is_too_large ts ≡ false → StepOf ts o → IsStepLine line o
line_by_tokens line ts None h small is = λ step i. is step (its_step line ts step h i)
line_by_tokens line ts (Some step) h small is = record { tokens = ts; good = h; numbers = small; reads = is.0; shallow = is.1 }

pub line_of_tokens : (line : List ℕ) (ts : List kinds.Token.Token) (o : Option Step) → HasTokens line (all_seen_in line ts) → AreSmall ts → StepOf (tokens_of (all_seen_in line ts)) o → IsStepLine line o
line_of_tokens line ts o h small is = line_by_tokens line (tokens_of (all_seen_in line ts)) o (all_seen_in line ts, h, refl) (small_tokens line ts small) is

-- a line is one step at most
pub line_is_one_step : LineIsOneStep
line_is_one_step line step other h k = one_step step other h.tokens h.reads (its_step line h.tokens other h.good k).0

-- a line without tokens, and one with a number that is too large
pub bad_line : {A : Type 0} (line : List ℕ) (f : LexFault) → f ≡ BadText
    → ((◌≡◌ {A = Result A LexFault} (Err f) (Err NoMemory) → ⊥) → ◌≡◌ {A = Result A LexFault} (Err f) (Err BadText) ↔ IsBadText line) → IsStepLine line None
bad_line {A} line f e h = λ step i. ((h differ).0 (ap (λ x. Err x) e)) i.good.0 i.good.1
  where
    differ : ◌≡◌ {A = Result A LexFault} (Err f) (Err NoMemory) → ⊥
    differ d = cc

pub large_line : {A : Type 0} (line : List ℕ) (f : LexFault) → f ≡ NumberTooLarge
    → ((◌≡◌ {A = Result A LexFault} (Err f) (Err NoMemory) → ⊥) → ◌≡◌ {A = Result A LexFault} (Err f) (Err NumberTooLarge) ↔ HasTooLarge line) → IsStepLine line None
large_line {A} line f e h = λ step i. let large = (h differ).0 (ap (λ x. Err x) e) in
    true≢false (sym large.2 ∙ ap (list_any is_too_large) (same_tokens line large.0 i.tokens large.1 i.good) ∙ i.numbers)
  where
    differ : ◌≡◌ {A = Result A LexFault} (Err f) (Err NoMemory) → ⊥
    differ d = cc
