-- What a part of a theory text is.
use Rattle.std.specs.Prelude.{◌≡◌, ℕ, ◌⊎◌, Bool, true, false, List, [], Option, Some, None}
use Rattle.std.specs.List.{list_any}
use Rattle.ev_syntax.specs.Tokens.{Token, Tokens, IsBadText, HasTooLarge, is_too_large}
use Rattle.ev_theory_text.specs.declared.forms.ElementForm.{ElementForm}
use Rattle.ev_theory_text.specs.declared.elements.TextKind.TheVariants.{Text, Syntax, Deep}
use Rattle.ev_theory_text.specs.declared.elements.RawElement.{RawElement}
use Rattle.ev_theory_text.specs.declared.elements.RawElement.TheVariants.{Read, Bad}
use Rattle.ev_theory_text.specs.Elements.{ReadsForm}
use Rattle.ev_theory_text.specs.Depths.{form_deep}

-- the part has tokens, none of which is too large a number
pub record HasGoodTokens (part : List ℕ) (ts : List Token) : Type 0 where
  pub tokens : Tokens part ts
  pub numbers : list_any is_too_large ts ≡ false

-- all the tokens are this form, and no other
abbrev pub IsForm : List Token → ElementForm → Type 0
IsForm ts form = ReadsForm form ts [] × ((other : ElementForm) → ReadsForm other ts [] → other ≡ form)

-- what tokens are
abbrev pub ElementOf : List Token → RawElement → Type 0
ElementOf ts (Bad Text) = ⊥
ElementOf ts (Bad Syntax) = (form : ElementForm) → ¬ ReadsForm form ts []
ElementOf ts (Bad Deep) = (form : ElementForm) × IsForm ts form × (form_deep form ≡ true)
ElementOf ts (Read form) = IsForm ts form × (form_deep form ≡ false)

-- what tokens are, by whether a form took all of them, and by what is kept of it
abbrev pub whole_element : Bool → Option ElementForm → RawElement
whole_element false form = Bad Syntax
whole_element true None = Bad Deep
whole_element true (Some form) = Read form

-- the kind that a part without good tokens has
abbrev pub IsBadPart : List ℕ → Type 0
IsBadPart part = IsBadText part ⊎ HasTooLarge part

-- what a part is that begins with an element keyword: the first of the kinds text, syntax and deep that holds, or an element
abbrev pub IsElement : List ℕ → RawElement → Type 0
IsElement part (Bad Text) = IsBadPart part
IsElement part (Bad Syntax) = (ts : List Token) × HasGoodTokens part ts × ElementOf ts (Bad Syntax)
IsElement part (Bad Deep) = (ts : List Token) × HasGoodTokens part ts × ElementOf ts (Bad Deep)
IsElement part (Read form) = (ts : List Token) × HasGoodTokens part ts × ElementOf ts (Read form)

-- what stands before the first element keyword is no element, whatever it says
abbrev pub IsNoElement : List ℕ → RawElement → Type 0
IsNoElement part (Bad Text) = IsBadPart part
IsNoElement part (Bad Syntax) = (ts : List Token) × HasGoodTokens part ts
IsNoElement part (Bad Deep) = ⊥
IsNoElement part (Read form) = ⊥
