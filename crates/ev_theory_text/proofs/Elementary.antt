-- What the reader's answer says of a part of a text.
use Rattle.std.proofs.Common.{◌≡◌, ℕ, Bool, true, false, List, [], refl, ap, subst, sym, ◌∙◌, inl, true≢false}
use Rattle.std.specs.Prelude.{Option, Some, None, Result, Err, ◌↔◌, if◌then◌else◌}
use Rattle.ev_syntax.specs.Tokens.{Token, HasTokens, IsBadText, tokens_of}
use Rattle.ev_syntax.specs.Views.{all_seen_in}
use Rattle.ev_syntax.specs.inner.Reading.{AreSmall}
use Rattle.ev_syntax.specs.declared.kinds as kinds
use Rattle.ev_syntax.specs.declared.faults.LexFault.{LexFault}
use Rattle.ev_syntax.specs.declared.faults.LexFault.TheVariants.{BadText, NoMemory}
use Rattle.ev_parse.specs.inner.Taking.{State, kept, Takes, TakesFrom, Took, AtEnd}
use Rattle.ev_parse.proofs.SmallTokens.{small_tokens}
use Rattle.ev_theory_text.specs.declared.forms.ElementForm.{ElementForm}
use Rattle.ev_theory_text.specs.Elements.{ReadsForm}
use Rattle.ev_theory_text.specs.Depths.{form_deep}
use Rattle.ev_theory_text.specs.declared.elements.TextKind.TheVariants.{Text, Syntax, Deep}
use Rattle.ev_theory_text.specs.declared.elements.RawElement.{RawElement}
use Rattle.ev_theory_text.specs.declared.elements.RawElement.TheVariants.{Read, Bad}
use Rattle.ev_theory_text.specs.Answers.{HasGoodTokens, ElementOf, whole_element, IsBadPart, IsElement}

-- what a reader took of all the tokens
not_kept : (a : ElementForm) → None ≡ kept form_deep a → form_deep a ≡ true
not_kept a e = go (form_deep a) refl e
  where
    go : (b : Bool) → form_deep a ≡ b → None ≡ (if b then None else Some a) → form_deep a ≡ true
    go true d e = d
    go false d e = cc

is_kept : (a form : ElementForm) → Some form ≡ kept form_deep a → (form ≡ a) × (form_deep a ≡ false)
is_kept a form e = go (form_deep a) refl e
  where
    go : (b : Bool) → form_deep a ≡ b → Some form ≡ (if b then None else Some a) → (form ≡ a) × (form_deep a ≡ false)
    go true d e = cc
    go false d e = (cc, d)

element_of_all : (ts : List Token) (v : Option ElementForm) → Takes ReadsForm AtEnd form_deep ts v (Some []) → ElementOf ts (whole_element true v)
element_of_all ts None k = (k.0, (k.2, λ other i. (k.4 other [] i refl).0), not_kept k.0 k.1)
element_of_all ts (Some form) k = let is = is_kept k.0 form k.1 in
    ((subst (λ x. ReadsForm x ts []) (sym is.0) k.2, λ other i. (k.4 other [] i refl).0 ∙ sym is.0), ap form_deep is.0 ∙ is.1)

none_of_rest : (ts : List Token) (v : Option ElementForm) (t : State) → TakesFrom ReadsForm AtEnd form_deep (Some ts) v t → ¬ (t ≡ Some []) → (form : ElementForm) → ¬ ReadsForm form ts []
none_of_rest ts v None k not form i = k form [] i refl
none_of_rest ts v (Some us) k not form i = not (ap (λ xs. Some xs) (sym (k.4 form [] i refl).1))

pub element_at_end : (ts : List Token) (s t : State) (v : Option ElementForm) (b : Bool) → s ≡ Some ts → Took ReadsForm AtEnd form_deep s v t → (b ≡ true) ↔ (t ≡ Some []) → ElementOf ts (whole_element b v)
element_at_end ts s t v true e h end = element_of_all ts v (subst (λ x. Took ReadsForm AtEnd form_deep (Some ts) v x) (end.0 refl) (subst (λ x. Took ReadsForm AtEnd form_deep x v t) e h)).takes
element_at_end ts s t v false e h end = none_of_rest ts v t (subst (λ x. Took ReadsForm AtEnd form_deep x v t) e h).takes (λ d. true≢false (sym (end.1 d)))

pub good_tokens : (text : List ℕ) (ts : List kinds.Token.Token) → HasTokens text (all_seen_in text ts) → AreSmall ts → HasGoodTokens text (tokens_of (all_seen_in text ts))
good_tokens text ts h small = record { tokens = (all_seen_in text ts, h, refl); numbers = small_tokens text ts small }

pub element_is : (part : List ℕ) (ts : List Token) (e : RawElement) → HasGoodTokens part ts → ElementOf ts e → IsElement part e
element_is part ts (Bad Text) g h = absurd h
element_is part ts (Bad Syntax) g h = (ts, g, h)
element_is part ts (Bad Deep) g h = (ts, g, h)
element_is part ts (Read form) g h = (ts, g, h)

-- a part without tokens
pub bad_part : {A : Type 0} (part : List ℕ) (f : LexFault) → f ≡ BadText
    → ((◌≡◌ {A = Result A LexFault} (Err f) (Err NoMemory) → ⊥) → ◌≡◌ {A = Result A LexFault} (Err f) (Err BadText) ↔ IsBadText part) → IsBadPart part
bad_part {A} part f e h = inl ((h differ).0 (ap (λ x. Err x) e))
  where
    differ : ◌≡◌ {A = Result A LexFault} (Err f) (Err NoMemory) → ⊥
    differ d = cc
