-- Where no formula goes on, none of any sort does.
use Rattle.std.proofs.Common.{◌≡◌, Bool, true, false, List, [], ◌∷◌, refl, ap, sym, ◌∙◌}
use Rattle.std.specs.Prelude.{not, ◌==◌, ◌||◌}
use Rattle.std.proofs.lemmas.Bool.{eqb-true}
use Rattle.ev_syntax.specs.Marks.{product_sign, open_paren, inverse_sign, and_sign, or_word, implies_sign}
use Rattle.ev_syntax.specs.Tokens.{Token, name, number, mark}
use Rattle.ev_syntax.specs.inner.TypeParser.{begins}
use Rattle.ev_syntax.specs.inner.Lookahead.{operator_of, is_from, first_operator, goes_on}
use Rattle.ev_syntax.specs.inner.FormulaParser.{is_relation, connects}
use Rattle.ev_syntax.specs.declared.sorts.Sort.{Sort}
use Rattle.ev_syntax.specs.declared.sorts.Sort.TheVariants.{Pred, Expr, Either, TypeText}
use Rattle.ev_syntax.proofs.WholeParser.{or_false}
use Rattle.ev_syntax.proofs.WholeLiterals.{StopsPred}
use Rattle.ev_syntax.proofs.OneTree.{StopsAs}
use Rattle.ev_parse.specs.Items.{ends}

-- what does not go on with a formula
pub record Ends (ts : List Token) : Type 0 where
  pub no_operator : is_from 0 (first_operator ts) ≡ false
  pub no_inverse : begins inverse_sign ts ≡ false
  pub no_paren : begins open_paren ts ≡ false
  pub stops : StopsPred ts

not_true : (a : Bool) → not a ≡ true → a ≡ false
not_true true h = cc
not_true false h = refl

pub ends_all : (ts : List Token) → ends ts ≡ true → Ends ts
ends_all ts h =
    let a = or_false (goes_on ts) _ (not_true _ h) in
    let b = or_false (is_relation ts) (connects ts) a.1 in
    let c = or_false (begins and_sign ts) _ b.1 in
    let d = or_false (begins or_word ts) _ c.1 in
    let e = or_false (begins implies_sign ts) _ d.1 in
    let f = or_false (is_from 0 (first_operator ts)) _ a.0 in
    let g = or_false (begins inverse_sign ts) _ f.1 in
    let i = or_false (begins open_paren ts) _ g.1 in
    record { no_operator = f.0; no_inverse = g.0; no_paren = i.0; stops = (((a.0, b.0), c.0, d.0), e.0, e.1) }

no_product : (ts : List Token) → is_from 0 (first_operator ts) ≡ false → begins product_sign ts ≡ false
no_product [] h = refl
no_product (name n ∷ ts) h = refl
no_product (number n ∷ ts) h = refl
no_product (mark m ∷ ts) h = go (m == product_sign) refl
  where
    clash : m ≡ product_sign → is_from 0 (operator_of m) ≡ false → is_from 0 (operator_of product_sign) ≡ true → ⊥
    clash e h d = cc

    go : (b : Bool) → (m == product_sign) ≡ b → (m == product_sign) ≡ false
    go false e = e
    go true e = absurd (clash (eqb-true m product_sign e) h refl)

pub ends_stops : (sort : Sort) (ts : List Token) → ends ts ≡ true → StopsAs sort ts
ends_stops Pred ts h = (ends_all ts h).stops
ends_stops Expr ts h = (ends_all ts h).stops
ends_stops Either ts h = (ends_all ts h).stops
ends_stops TypeText ts h = let e = ends_all ts h in (no_product ts e.no_operator, e.no_paren)

-- by whether an expression goes on, or a relation or a connective stands there
ends_by : (a b c : Bool) → not (a || (b || c)) ≡ not ((a || b) || c)
ends_by true b c = refl
ends_by false b c = refl

pub goes_on_further : (ts : List Token) → goes_on ts || is_relation ts ≡ true → false ≡ ends ts
goes_on_further ts h = sym (ends_by (goes_on ts) (is_relation ts) (connects ts) ∙ ap (λ x. not (x || connects ts)) h)

pub connects_or_ends : (ts : List Token) → goes_on ts || is_relation ts ≡ false → not (connects ts) ≡ ends ts
connects_or_ends ts h = sym (ends_by (goes_on ts) (is_relation ts) (connects ts) ∙ ap (λ x. not (x || connects ts)) h)
