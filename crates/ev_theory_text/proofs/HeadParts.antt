-- Heads, conditions and bodies.
use Rattle.std.proofs.Common.{◌≡◌, ℕ, suc, ◌+◌, ◌^◌, ◌<◌, Bool, true, false, List, [], ◌∷◌, length, refl, ap, subst, sym, ◌∙◌, arith, ◌⊎◌, inl, inr, true≢false}
use Rattle.std.specs.Prelude.{Option, Some, None, IsTrue, if◌then◌else◌, option_map}
use Rattle.std.specs.List.{list_any}
use Rattle.std.proofs.lemmas.Bool.{eq-eqb}
use Rattle.ev_syntax.specs.Marks.{open_paren, close_paren, in_sign, pred_word, is_word, by_word, int_word, bool_set_word, param_sign, pow_word, product_sign}
use Rattle.ev_syntax.specs.Tokens.{Token, name, number, mark}
use Rattle.ev_syntax.specs.Raw.{RawType, int_type, bool_type, param_type, named_type, pow_type, prod_type, no_types, one_type, Raw}
use Rattle.ev_syntax.specs.Grammar.{Front, Is, ◌then◌, InParens as Parenthesized, ReadsType, ReadsMoreTypes}
use Rattle.ev_syntax.specs.inner.TypeParser.{begins}
use Rattle.ev_syntax.specs.declared.sorts.Sort.{Sort}
use Rattle.ev_syntax.specs.declared.sorts.Sort.TheVariants.{Pred, Expr}
use Rattle.ev_syntax.specs.Parses.{ReadsAs}
use Rattle.ev_syntax.proofs.TypeMoves.{begins_is}
use Rattle.ev_theory_text.specs.declared.forms.RawArg.{RawArg}
use Rattle.ev_theory_text.specs.declared.forms.RawResult.{RawResult}
use Rattle.ev_theory_text.specs.declared.forms.RawResult.TheVariants.{Predicate, Typed}
use Rattle.ev_theory_text.specs.declared.forms.RawCase.{RawCase}
use Rattle.ev_theory_text.specs.declared.forms.RawBody.{RawBody}
use Rattle.ev_theory_text.specs.declared.forms.RawBody.TheVariants.{Direct, Recursive}
use Rattle.ev_parse.specs.Sequences.{Maybe, AtLeastOne, MaybeMark, Word}
use Rattle.ev_theory_text.specs.Elements.{ReadsArg, InParens, ReadsResult, ReadsHead, ReadsCase, ReadsBody, Clause, sort_of, head_sort}
use Rattle.ev_parse.specs.Depths.{formula_deep, type_deep}
use Rattle.ev_theory_text.specs.Depths.{result_deep, maybe_deep, body_deep, case_deep}
use Rattle.ev_theory_text.specs.inner.Following.{sort_behind, NoParen, EndsClause, EndsCases}
use Rattle.ev_parse.specs.inner.Taking.{State, next_is, behind, behind_mark, Took, Tagged, Anything, NotBefore, EndsType, EndsFormula, never, both}
use Rattle.ev_theory_text.specs.inner.Making.{typed, direct, recursive}
use Rattle.ev_parse.proofs.Takings.{behind_here, took_then, took_as, took_ends, took_none, took_some, mark_took}

-- no type begins with PRED
number_of : List Token → ℕ
number_of [] = 0
number_of (name n ∷ ts) = 1
number_of (number n ∷ ts) = 2
number_of (mark m ∷ ts) = 3 + m

within : (alone : Bool → Front) (p : Bool) (us rest : List Token) → ((q : Bool) → alone q (mark pred_word ∷ us) rest → ⊥) → Parenthesized (λ (q : Bool). true) alone p (mark pred_word ∷ us) rest → ⊥
unfolding number_of
within alone p us rest refuted (inl h) = refuted p h
within alone p us rest refuted (inr (n, (mid, o, more))) = let e : number_of (mark pred_word ∷ us) ≡ number_of (mark open_paren ∷ o.0) = ap number_of o.1 in absurd (omega arith)

no_token : (t : Token) (us vs : List Token) → (number_of (t ∷ vs) ≡ 3 + pred_word → ⊥) → mark pred_word ∷ us ≡ t ∷ vs → ⊥
unfolding number_of
no_token t us vs refuted e = refuted (sym (ap number_of e))

not_param : (us vs : List Token) → mark pred_word ∷ us ≡ mark param_sign ∷ vs → ⊥
unfolding number_of
not_param us vs e = no_token (mark param_sign) us vs (λ e. omega arith) e

not_pow : (us vs : List Token) → mark pred_word ∷ us ≡ mark pow_word ∷ vs → ⊥
unfolding number_of
not_pow us vs e = no_token (mark pow_word) us vs (λ e. omega arith) e

not_int : (us vs : List Token) → mark pred_word ∷ us ≡ mark int_word ∷ vs → ⊥
unfolding number_of
not_int us vs e = no_token (mark int_word) us vs (λ e. omega arith) e

not_bool : (us vs : List Token) → mark pred_word ∷ us ≡ mark bool_set_word ∷ vs → ⊥
unfolding number_of
not_bool us vs e = no_token (mark bool_set_word) us vs (λ e. omega arith) e

not_name : (n : List ℕ) (us vs : List Token) → mark pred_word ∷ us ≡ name n ∷ vs → ⊥
unfolding number_of
not_name n us vs e = no_token (name n) us vs (λ e. omega arith) e

pub no_pred : (a : RawType) (p : Bool) (us rest : List Token) → ReadsType a p (mark pred_word ∷ us) rest → ⊥
no_pred int_type p us rest h = within (λ q. Is (mark int_word)) p us rest (λ q i. not_int us rest i) h
no_pred bool_type p us rest h = within (λ q. Is (mark bool_set_word)) p us rest (λ q i. not_bool us rest i) h
no_pred (param_type n) p us rest h = within (λ q ts rest. (n < 2 ^ 32) × (Is (mark param_sign) then Is (number n)) ts rest) p us rest (λ q i. not_param us i.1.0 i.1.1) h
no_pred (named_type n no_types) p us rest h = within (λ q. Is (name n)) p us rest (λ q i. not_name n us rest i) h
no_pred (named_type n (one_type a types)) p us rest h =
    within (λ q. Is (name n) then Is (mark open_paren) then ReadsType a true then ReadsMoreTypes types then Is (mark close_paren)) p us rest (λ q i. not_name n us i.0 i.1) h
no_pred (pow_type a) p us rest h = within (λ q. Is (mark pow_word) then Is (mark open_paren) then ReadsType a true then Is (mark close_paren)) p us rest (λ q i. not_pow us i.0 i.1) h
no_pred (prod_type a b) p us rest h =
    within (λ q ts rest. IsTrue q × (ReadsType a true then Is (mark product_sign) then ReadsType b false) ts rest) p us rest (λ q i. no_pred a true us i.1.0 i.1.1) h

-- PRED, or a type
pub pred_took : (s t : State) → next_is pred_word s ≡ true → t ≡ behind_mark pred_word s → Took ReadsResult EndsType result_deep s (Some Predicate) t
pred_took None t h e = absurd (true≢false (sym h))
pred_took (Some ts) t h e = let is = begins_is pred_word ts h in
    subst (λ x. Took ReadsResult EndsType result_deep (Some ts) (Some Predicate) x) (sym (e ∙ ap (behind pred_word) is.1 ∙ behind_here pred_word is.0))
    (subst (λ xs. Took ReadsResult EndsType result_deep (Some xs) (Some Predicate) (Some is.0)) (sym is.1) (record {
      takes = (Predicate, refl, refl, omega arith, λ b rest i f. only b is.0 rest i);
    }))
  where
    only : (b : RawResult) (us rest : List Token) → ReadsResult b (mark pred_word ∷ us) rest → (b ≡ Predicate) × (rest ≡ us)
    only Predicate us rest i = (refl, cc)
    only (Typed a) us rest i = absurd (no_pred a true us rest i)

pub typed_took : {s t : State} {v : Option RawType} {w : Option RawResult} → next_is pred_word s ≡ false → Took (λ a. ReadsType a true) EndsType type_deep s v t → w ≡ option_map typed v
    → Took ReadsResult EndsType result_deep s w t
typed_took {s} {t} {v} {w} h k e = took_as typed k (λ a. refl) back e
  where
    back : (b : RawResult) (ts rest : List Token) → s ≡ Some ts → ReadsResult b ts rest → (a : RawType) × (b ≡ Typed a)
    back Predicate ts rest f i = absurd (true≢false (sym (ap (begins pred_word) i) ∙ sym (ap (next_is pred_word) f) ∙ h))
    back (Typed a) ts rest f i = (a, refl)

result_sort : (g : RawResult) (us rest : List Token) → ReadsResult g us rest → sort_of g ≡ (if begins pred_word us then Pred else Expr)
result_sort Predicate us rest i = sym (ap (λ b. if b then Pred else Expr) (ap (begins pred_word) i))
result_sort (Typed a) us rest i = go (begins pred_word us) refl
  where
    go : (b : Bool) → begins pred_word us ≡ b → Expr ≡ (if begins pred_word us then Pred else Expr)
    go true e = let is = begins_is pred_word us e in absurd (no_pred a true is.0 rest (subst (λ xs. ReadsType a true xs rest) is.1 i))
    go false e = sym (ap (λ b. if b then Pred else Expr) e)

abbrev pub Opened : List ℕ × List RawArg → Front
Opened p = Word p.0 then InParens ReadsArg p.1

pub head_tagged : (d : List ℕ × List RawArg → Bool) (s t u : State) (v : Option (List ℕ × List RawArg)) → Took Opened NoParen d s v t → u ≡ behind_mark in_sign t
    → Tagged head_sort ReadsHead s (sort_behind u)
head_tagged d None t u v h e = tt
head_tagged d (Some ts) None u v h e = λ b rest i. absurd (h.takes (b.name, b.args) i.2.0 (i.0, i.1, i.2.1) (subst NoParen (sym i.2.2.1) refl))
head_tagged d (Some ts) (Some vs) u v h e = λ b rest i.
    let same = h.takes.4 (b.name, b.args) i.2.0 (i.0, i.1, i.2.1) (subst NoParen (sym i.2.2.1) refl) in
    let there : u ≡ Some i.2.2.0 = e ∙ ap (behind in_sign) (sym same.1 ∙ i.2.2.1) ∙ behind_here in_sign i.2.2.0 in
    result_sort b.gives i.2.2.0 rest i.2.2.2 ∙ sym (ap sort_behind there)

-- conditions
abbrev Must : ℕ → Option Raw → Front
Must m None ts rest = ⊥
Must m (Some p) ts rest = Clause m p ts rest

pub no_clause_took : {s : State} (m : ℕ) → next_is m s ≡ false → Took (Maybe (Clause m)) (EndsClause m) maybe_deep s (Some None) s
no_clause_took {s} m h = took_none (begins m) None h refl (λ ts. refl) cases
  where
    cases : (b : Option Raw) (ts rest : List Token) → Maybe (Clause m) b ts rest → ((b ≡ None) × (ts ≡ rest)) ⊎ (begins m ts ≡ true)
    cases None ts rest i = inl (refl, i)
    cases (Some p) ts rest i = inr (ap (begins m) i.1 ∙ eq-eqb m m refl)

pub clause_took : {s t u : State} {v : Option Raw} {w : Option (Option Raw)} (m : ℕ) → next_is m s ≡ true → t ≡ behind_mark m s → Took (ReadsAs Pred) EndsFormula formula_deep t v u
    → w ≡ option_map (λ p. Some p) v → Took (Maybe (Clause m)) (EndsClause m) maybe_deep s w u
clause_took {s} {t} {u} {v} {w} m h e k f =
    took_some (begins m) None h (took_as {r = Must m} (λ p. Some p) (mark_took m e (took_ends (λ rest g. g.0) k)) (λ a. refl) back f) into cases (λ rest g. g.1)
  where
    back : (b : Option Raw) (ts rest : List Token) → s ≡ Some ts → Must m b ts rest → (a : Raw) × (b ≡ Some a)
    back None ts rest g i = absurd i
    back (Some p) ts rest g i = (p, refl)

    into : (b : Option Raw) (ts rest : List Token) → Must m b ts rest → Maybe (Clause m) b ts rest
    into None ts rest i = absurd i
    into (Some p) ts rest i = i

    cases : (b : Option Raw) (ts rest : List Token) → Maybe (Clause m) b ts rest → ((b ≡ None) × (ts ≡ rest)) ⊎ Must m b ts rest
    cases None ts rest i = inl (refl, i)
    cases (Some p) ts rest i = inr i

-- a mark that may be absent
pub no_mark_took : {s : State} (m : ℕ) (b : Bool) → b ≡ false → next_is m s ≡ false → Took (MaybeMark m) (NotBefore m) never s (Some b) s
no_mark_took {s} m b e h = subst (λ x. Took (MaybeMark m) (NotBefore m) never s (Some x) s) (sym e) (took_none (begins m) false h refl (λ ts. refl) cases)
  where
    cases : (b : Bool) (ts rest : List Token) → MaybeMark m b ts rest → ((b ≡ false) × (ts ≡ rest)) ⊎ (begins m ts ≡ true)
    cases false ts rest i = inl (refl, i)
    cases true ts rest i = inr (ap (begins m) i ∙ eq-eqb m m refl)

pub one_mark_took : (s t : State) (m : ℕ) → next_is m s ≡ true → t ≡ behind_mark m s → Took (MaybeMark m) (NotBefore m) never s (Some true) t
one_mark_took None t m h e = absurd (true≢false (sym h))
one_mark_took (Some ts) t m h e = let is = begins_is m ts h in
    subst (λ x. Took (MaybeMark m) (NotBefore m) never (Some ts) (Some true) x) (sym (e ∙ ap (behind m) is.1 ∙ behind_here m is.0))
    (record { takes = (true, refl, is.1, (let n : length ts ≡ suc (length is.0) = ap length is.1 in omega arith), λ b rest i f. only is.0 is.1 b rest i f) })
  where
    only : (us : List Token) → ts ≡ mark m ∷ us → (b : Bool) (rest : List Token) → MaybeMark m b ts rest → begins m rest ≡ false → (b ≡ true) × (rest ≡ us)
    only us g true rest i f = (refl, cc)
    only us g false rest i f = absurd (true≢false (sym h ∙ ap (begins m) i ∙ f))

-- bodies
pub direct_took : {s t u : State} {v : Option Raw} {w : Option RawBody} (sort : Sort) → next_is is_word s ≡ true → t ≡ behind_mark is_word s → Took (ReadsAs sort) EndsFormula formula_deep t v u
    → w ≡ option_map direct v → Took (ReadsBody sort) EndsCases body_deep s w u
direct_took {s} {t} {u} {v} {w} sort h e k f = took_as direct (mark_took is_word e (took_ends (λ rest g. g.0) k)) (λ a. refl) back f
  where
    back : (b : RawBody) (ts rest : List Token) → s ≡ Some ts → ReadsBody sort b ts rest → (a : Raw) × (b ≡ Direct a)
    back (Direct a) ts rest g i = (a, refl)
    back (Recursive n cases) ts rest g i = absurd (true≢false (sym h ∙ ap (next_is is_word) g ∙ ap (begins is_word) i.1))

pub recursive_took : {s t u x : State} {n : Option (List ℕ)} {v : Option (List RawCase)} {w : Option RawBody} (sort : Sort) → next_is is_word s ≡ false → t ≡ behind_mark by_word s
    → Took Word Anything never t n u → Took (AtLeastOne (ReadsCase sort)) EndsCases (list_any case_deep) u v x → w ≡ option_map recursive (both n v) → Took (ReadsBody sort) EndsCases body_deep s w x
recursive_took {s} {t} {u} {x} {n} {v} {w} sort h e k l f = took_as recursive (mark_took by_word e (took_then k l (λ b us rest i g. tt))) (λ a. refl) back f
  where
    back : (b : RawBody) (ts rest : List Token) → s ≡ Some ts → ReadsBody sort b ts rest → (a : List ℕ × List RawCase) × (b ≡ Recursive a.0 a.1)
    back (Direct a) ts rest g i = absurd (true≢false (sym (ap (begins is_word) i.1) ∙ sym (ap (next_is is_word) g) ∙ h))
    back (Recursive m cases) ts rest g i = ((m, cases), refl)
