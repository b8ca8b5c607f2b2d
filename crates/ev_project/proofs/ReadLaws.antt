-- A text is read as one list of elements at most.
use Rattle.std.specs.Prelude.{◌≡◌, ℕ, Bool as Boolean, true, false, List, [], ◌∷◌, MatchBool, refl}
use Rattle.std.specs.List.{list_any}
use Rattle.std.proofs.Common.{inl, inr, sym, ap, subst, ◌∙◌, true≢false}
use Rattle.ev_syntax.specs.Tokens.{Token, Tokens, tokens_of, is_too_large}
use Rattle.ev_syntax.specs.Chars.{are_blanks}
use Rattle.ev_syntax.proofs.Continuing.{text_tokens_same}
use Rattle.ev_theory_text.specs.declared.forms.ElementForm.{ElementForm}
use Rattle.ev_theory_text.specs.declared.elements.TextKind.TheVariants.{Text, Syntax, Deep}
use Rattle.ev_theory_text.specs.declared.elements.RawElement.{RawElement}
use Rattle.ev_theory_text.specs.declared.elements.RawElement.TheVariants.{Read, Bad}
use Rattle.ev_theory_text.specs.Answers.{HasGoodTokens, IsForm, ElementOf, IsBadPart, IsElement, IsNoElement}
use Rattle.ev_theory_text.specs.Cut.{cut}
use Rattle.ev_theory_text.specs.Theories.{AreElements, BeginsWithNoElement, IsTheory}

same_tokens : (part : List ℕ) (ts us : List Token) → Tokens part ts → Tokens part us → ts ≡ us
same_tokens part ts us a b = a.2 ∙ ap tokens_of (text_tokens_same part a.0 b.0 a.1 b.1) ∙ sym b.2

bad_not_good : (part : List ℕ) (ts : List Token) → IsBadPart part → HasGoodTokens part ts → ⊥
bad_not_good part ts (inl b) g = b g.tokens.0 g.tokens.1
bad_not_good part ts (inr b) g = true≢false (sym b.2 ∙ ap (list_any is_too_large) (same_tokens part b.0 ts b.1 g.tokens) ∙ g.numbers)

same_form : (ts : List Token) (f g : ElementForm) → IsForm ts f → IsForm ts g → f ≡ g
same_form ts f g a b = b.1 f a.0

same_of_tokens : (ts : List Token) (e f : RawElement) → ElementOf ts e → ElementOf ts f → e ≡ f
same_of_tokens ts (Bad Text) f a b = absurd a
same_of_tokens ts (Bad Syntax) (Bad Text) a b = absurd b
same_of_tokens ts (Bad Syntax) (Bad Syntax) a b = refl
same_of_tokens ts (Bad Syntax) (Bad Deep) a b = absurd (a b.0 b.1.0)
same_of_tokens ts (Bad Syntax) (Read g) a b = absurd (a g b.0.0)
same_of_tokens ts (Bad Deep) (Bad Text) a b = absurd b
same_of_tokens ts (Bad Deep) (Bad Syntax) a b = absurd (b a.0 a.1.0)
same_of_tokens ts (Bad Deep) (Bad Deep) a b = refl
same_of_tokens ts (Bad Deep) (Read g) a b = let e = same_form ts a.0 g a.1 b.0 in absurd (cc (e, a.2, b.1))
same_of_tokens ts (Read f) (Bad Text) a b = absurd b
same_of_tokens ts (Read f) (Bad Syntax) a b = absurd (b f a.0.0)
same_of_tokens ts (Read f) (Bad Deep) a b = let e = same_form ts f b.0 a.0 b.1 in absurd (cc (e, a.1, b.2))
same_of_tokens ts (Read f) (Read g) a b = ap Read (same_form ts f g a.0 b.0)

-- what a part is, by whether it has good tokens
data PartIs (part : List ℕ) (e : RawElement) : Type 0 where
  no_tokens : IsBadPart part → e ≡ Bad Text → PartIs part e
  has_tokens : (ts : List Token) → HasGoodTokens part ts → ElementOf ts e → PartIs part e

part_is : (part : List ℕ) (e : RawElement) → IsElement part e → PartIs part e
part_is part (Bad Text) h = no_tokens h refl
part_is part (Bad Syntax) h = has_tokens h.0 h.1 h.2
part_is part (Bad Deep) h = has_tokens h.0 h.1 h.2
part_is part (Read f) h = has_tokens h.0 h.1 h.2

same_parts : (part : List ℕ) (e f : RawElement) → PartIs part e → PartIs part f → e ≡ f
same_parts part e f (no_tokens a c) (no_tokens b d) = c ∙ sym d
same_parts part e f (no_tokens a c) (has_tokens ts g b) = absurd (bad_not_good part ts a g)
same_parts part e f (has_tokens ts g a) (no_tokens b c) = absurd (bad_not_good part ts b g)
same_parts part e f (has_tokens ts g a) (has_tokens us h b) =
    let same = same_tokens part ts us g.tokens h.tokens in
    same_of_tokens us e f (subst (λ xs. ElementOf xs e) same a) b

same_no_element : (part : List ℕ) (e f : RawElement) → IsNoElement part e → IsNoElement part f → e ≡ f
same_no_element part (Read f) g a b = absurd a
same_no_element part (Bad Deep) g a b = absurd a
same_no_element part (Bad Text) (Read g) a b = absurd b
same_no_element part (Bad Text) (Bad Deep) a b = absurd b
same_no_element part (Bad Text) (Bad Text) a b = refl
same_no_element part (Bad Text) (Bad Syntax) a b = absurd (bad_not_good part b.0 a b.1)
same_no_element part (Bad Syntax) (Read g) a b = absurd b
same_no_element part (Bad Syntax) (Bad Deep) a b = absurd b
same_no_element part (Bad Syntax) (Bad Text) a b = absurd (bad_not_good part a.0 b a.1)
same_no_element part (Bad Syntax) (Bad Syntax) a b = refl

same_elements : (parts : List (List ℕ)) (es fs : List RawElement) → AreElements parts es → AreElements parts fs → es ≡ fs
same_elements [] [] [] a b = refl
same_elements [] [] (f ∷ fs) a b = absurd b
same_elements [] (e ∷ es) fs a b = absurd a
same_elements (part ∷ parts) [] fs a b = absurd a
same_elements (part ∷ parts) (e ∷ es) [] a b = absurd b
same_elements (part ∷ parts) (e ∷ es) (f ∷ fs) a b =
    let first = same_parts part e f (part_is part e a.0) (part_is part f b.0) in
    let rest = same_elements parts es fs a.1 b.1 in
    cc (first, rest)

same_begun : (front : List ℕ) (parts : List (List ℕ)) (es fs : List RawElement) → BeginsWithNoElement front parts es → BeginsWithNoElement front parts fs → es ≡ fs
same_begun front parts [] fs a b = absurd a
same_begun front parts (e ∷ es) [] a b = absurd b
same_begun front parts (e ∷ es) (f ∷ fs) a b =
    let first = same_no_element front e f a.0 b.0 in
    let rest = same_elements parts es fs a.1 b.1 in
    cc (first, rest)

pub one_theory : (text : List ℕ) (es fs : List RawElement) → IsTheory text es → IsTheory text fs → es ≡ fs
one_theory text es fs a b = by (are_blanks (cut text).front) a b
  where
    by : (blank : Boolean) → MatchBool blank (AreElements (cut text).parts es) (BeginsWithNoElement (cut text).front (cut text).parts es)
        → MatchBool blank (AreElements (cut text).parts fs) (BeginsWithNoElement (cut text).front (cut text).parts fs) → es ≡ fs
    by true c d = same_elements (cut text).parts es fs c d
    by false c d = same_begun (cut text).front (cut text).parts es fs c d
