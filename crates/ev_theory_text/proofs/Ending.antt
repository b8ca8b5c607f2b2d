-- What may follow parts.
use Rattle.std.proofs.Common.{◌≡◌, suc, ◌≤◌, Bool, true, false, List, [], ◌∷◌, length, refl, ap, subst, sym, ◌∙◌, arith}
use Rattle.std.specs.Prelude.{Option, Some, None}
use Rattle.ev_syntax.specs.Marks.{comma, bar, case_word, when_word, then_word, where_word, is_word, by_word, complete_word}
use Rattle.ev_syntax.specs.Tokens.{Token, mark}
use Rattle.ev_syntax.specs.Raw.{Raw}
use Rattle.ev_syntax.specs.Grammar.{Is, ◌then◌}
use Rattle.ev_syntax.specs.inner.TypeParser.{begins}
use Rattle.ev_syntax.specs.declared.sorts.Sort.{Sort}
use Rattle.ev_syntax.specs.declared.sorts.Sort.TheVariants.{Pred, Either}
use Rattle.ev_syntax.specs.Parses.{ReadsAs}
use Rattle.ev_syntax.proofs.RunLaws.{as_shrinks}
use Rattle.ev_theory_text.specs.declared.forms.RawBranch.{RawBranch}
use Rattle.ev_theory_text.specs.declared.forms.RawBody.{RawBody}
use Rattle.ev_theory_text.specs.declared.forms.RawBody.TheVariants.{Direct, Recursive}
use Rattle.ev_parse.specs.Sequences.{Maybe, AtLeastOne, MaybeMark, Word}
use Rattle.ev_theory_text.specs.Elements.{ReadsArg, ReadsCon, BehindCase, ReadsBranch, ReadsBody, Clause}
use Rattle.ev_theory_text.specs.inner.Following.{EndsArgs, NoParen, EndsCons, EndsCases, EndsBranches, EndsGivens, begins_branch}
use Rattle.ev_parse.specs.inner.Taking.{Anything, NotBefore, AtEnd, EndsType, EndsFormula}
use Rattle.ev_parse.proofs.Listing.{Ties, mark_ties}

-- lists
pub args_ties : Ties (λ a. Is (mark comma) then ReadsArg a) EndsArgs EndsType (begins comma)
args_ties = mark_ties comma (λ rest e. e.1) (λ rest e. e.0) (λ us. (refl, refl))

pub names_ties : Ties (λ a. Is (mark comma) then Word a) (NotBefore comma) Anything (begins comma)
names_ties = mark_ties comma (λ rest e. e) (λ rest e. tt) (λ us. tt)

pub cons_ties : Ties (λ a. Is (mark bar) then ReadsCon a) EndsCons NoParen (begins bar)
cons_ties = mark_ties bar (λ rest e. e.1) (λ rest e. e.0) (λ us. refl)

pub cases_ties : (sort : Sort) → Ties (λ a. Is (mark case_word) then BehindCase sort a) EndsCases EndsFormula (begins case_word)
cases_ties sort = mark_ties case_word (λ rest e. e.1) (λ rest e. e.0) (λ us. refl)

pub givens_ties : Ties (λ a. Is (mark comma) then ReadsAs Pred a) EndsGivens EndsFormula (begins comma)
givens_ties = mark_ties comma (λ rest e. e.1) (λ rest e. e.0) (λ us. refl)

-- right sides
maybe_begins : (E : List Token → Type 0) → ((us : List Token) → E (mark when_word ∷ us)) → ((us : List Token) → E (mark then_word ∷ us)) → (o : Option Raw) (ts us vs : List Token)
    → Maybe (Clause when_word) o ts us → us ≡ mark then_word ∷ vs → E ts
maybe_begins E w t None ts us vs h e = subst E (sym (h ∙ e)) (t vs)
maybe_begins E w t (Some p) ts us vs h e = subst E (sym h.1) (w h.0)

pub branch_begins : (E : List Token → Type 0) → ((us : List Token) → E (mark when_word ∷ us)) → ((us : List Token) → E (mark then_word ∷ us)) → (b : RawBranch) (ts rest : List Token)
    → ReadsBranch b ts rest → E ts
branch_begins E w t b ts rest h = maybe_begins E w t b.condition ts h.0 h.2.0 h.1 h.2.1

pub branches_ties : Ties ReadsBranch EndsBranches EndsFormula begins_branch
branches_ties = record {
  stops = λ rest e. e.1;
  after = λ rest e. e.0;
  between = branch_begins EndsFormula (λ us. refl) (λ us. refl);
  begun = branch_begins (λ ts. begins_branch ts ≡ true) (λ us. refl) (λ us. refl);
}

maybe_weak : (o : Option Raw) (ts us : List Token) → Maybe (Clause when_word) o ts us → length us ≤ length ts
maybe_weak None ts us h = let n : length ts ≡ length us = ap length h in omega arith
maybe_weak (Some p) ts us h = let n : length ts ≡ suc (length h.0) = ap length h.1 in omega (arith, as_shrinks Pred p h.0 us h.2)

pub branch_shrinks : (b : RawBranch) (ts rest : List Token) → ReadsBranch b ts rest → suc (length rest) ≤ length ts
branch_shrinks b ts rest h = let n : length h.0 ≡ suc (length h.2.0) = ap length h.2.1 in
    omega (arith, maybe_weak b.condition ts h.0 h.1, as_shrinks Either b.right h.2.0 rest h.2.2)

-- what stands at the end
pub at_end : (E : List Token → Type 0) → E [] → (rest : List Token) → AtEnd rest → E rest
at_end E h rest e = subst E (sym e) h

pub before_complete : (E : List Token → Type 0) → E [] → ((us : List Token) → E (mark complete_word ∷ us)) → (b : Bool) (us rest : List Token) → MaybeMark complete_word b us rest → AtEnd rest → E us
before_complete E n h false us rest i e = subst E (sym (i ∙ e)) n
before_complete E n h true us rest i e = subst E (sym i) (h rest)

pub before_branches : (p : List RawBranch × Bool) (us rest : List Token) → (AtLeastOne ReadsBranch p.0 then MaybeMark complete_word p.1) us rest → EndsFormula us
before_branches p us rest h = go p.0 us h.0 h.1
  where
    go : (l : List RawBranch) (us vs : List Token) → AtLeastOne ReadsBranch l us vs → EndsFormula us
    go [] us vs i = absurd i
    go (b ∷ l) us vs i = branch_begins EndsFormula (λ us. refl) (λ us. refl) b us i.0 i.1

pub before_where : (E : List Token → Type 0) → E [] → ((us : List Token) → E (mark where_word ∷ us)) → (c : Option Raw) (us rest : List Token) → Maybe (Clause where_word) c us rest → AtEnd rest → E us
before_where E n h None us rest i e = subst E (sym (i ∙ e)) n
before_where E n h (Some p) us rest i e = subst E (sym i.1) (h i.0)

pub before_body : (E : List Token → Type 0) → ((us : List Token) → E (mark is_word ∷ us)) → ((us : List Token) → E (mark by_word ∷ us)) → (sort : Sort) (b : RawBody) (us rest : List Token)
    → ReadsBody sort b us rest → E us
before_body E i b sort (Direct e) us rest h = subst E (sym h.1) (i h.0)
before_body E i b sort (Recursive n cases) us rest h = subst E (sym h.1) (b h.0)

pub before_condition : (sort : Sort) (p : Option Raw × RawBody) (us rest : List Token) → (Maybe (Clause where_word) p.0 then ReadsBody sort p.1) us rest → EndsType us
before_condition sort p us rest h = go p.0 us h.0 h.1 (before_body EndsType (λ vs. (refl, refl)) (λ vs. (refl, refl)) sort p.1 h.0 rest h.2)
  where
    go : (c : Option Raw) (us vs : List Token) → Maybe (Clause where_word) c us vs → EndsType vs → EndsType us
    go None us vs i e = subst EndsType (sym i) e
    go (Some q) us vs i e = subst EndsType (sym i.1) (refl, refl)
