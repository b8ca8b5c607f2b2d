-- What may follow parts.
use Rattle.std.proofs.Common.{◌≡◌, ℕ, suc, ◌≤◌, List, [], ◌∷◌, length, refl, ap, subst, sym, ◌∙◌, arith, true}
use Rattle.ev_syntax.specs.Marks.{comma, open_bracket, of_word}
use Rattle.ev_syntax.specs.Tokens.{Token, mark}
use Rattle.ev_syntax.specs.Raw.{RawType, Raw}
use Rattle.ev_syntax.specs.Grammar.{Is, ◌then◌, ReadsType}
use Rattle.ev_syntax.specs.inner.TypeParser.{begins}
use Rattle.ev_syntax.specs.declared.sorts.Sort.TheVariants.{Expr}
use Rattle.ev_syntax.specs.Parses.{ReadsAs}
use Rattle.ev_proof.specs.declared.steps.Cite.{Cite}
use Rattle.ev_parse.specs.Sequences.{Number}
use Rattle.ev_proof.specs.Steps.{ReadsTypes, ReadsTerms, ReadsCite}
use Rattle.ev_parse.specs.inner.Taking.{Anything, AtEnd, EndsType, EndsFormula, NoNumber, begins_number}
use Rattle.ev_proof.specs.inner.Following.{EndsTypes, EndsTerms}
use Rattle.ev_parse.proofs.Listing.{Ties, mark_ties}

-- lists
pub types_ties : Ties (λ a. Is (mark comma) then ReadsType a true) EndsTypes EndsType (begins comma)
types_ties = mark_ties comma (λ rest e. e.1) (λ rest e. e.0) (λ us. (refl, refl))

pub terms_ties : Ties (λ a. Is (mark comma) then ReadsAs Expr a) EndsTerms EndsFormula (begins comma)
terms_ties = mark_ties comma (λ rest e. e.1) (λ rest e. e.0) (λ us. refl)

pub numbers_ties : Ties Number NoNumber Anything begins_number
numbers_ties = record {
  stops = λ rest e. e;
  after = λ rest e. tt;
  between = λ n ts rest h. tt;
  begun = λ n ts rest h. ap begins_number h;
}

pub number_shrinks : (n : ℕ) (ts rest : List Token) → Number n ts rest → suc (length rest) ≤ length ts
number_shrinks n ts rest h = let e : length ts ≡ suc (length rest) = ap length h in omega arith

-- what stands at the end
pub at_end : (E : List Token → Type 0) → E [] → (rest : List Token) → AtEnd rest → E rest
at_end E h rest e = subst E (sym e) h

-- what comes before a citation
pub before_terms : (E : List Token → Type 0) → E [] → ((us : List Token) → E (mark of_word ∷ us)) → (terms : List Raw) (us rest : List Token) → ReadsTerms terms us rest → AtEnd rest → E us
before_terms E n h [] us rest i e = subst E (sym (i ∙ e)) n
before_terms E n h (t ∷ terms) us rest i e = subst E (sym i.1) (h i.0)

before_types : (E : List Token → Type 0) → ((us : List Token) → E (mark open_bracket ∷ us)) → (types : List RawType) (us rest : List Token) → ReadsTypes types us rest → E rest → E us
before_types E h [] us rest i e = subst E (sym i) e
before_types E h (a ∷ types) us rest i e = subst E (sym i.1) (h i.0)

pub before_cite : (E : List Token → Type 0) → E [] → ((us : List Token) → E (mark open_bracket ∷ us)) → ((us : List Token) → E (mark of_word ∷ us)) → (c : Cite) (us rest : List Token)
    → ReadsCite c us rest → AtEnd rest → E us
before_cite E n b o c us rest h e = before_types E b c.types us h.0 h.1 (before_terms E n o c.terms h.0 rest h.2 e)
