-- Tokens are one step at most.
use Rattle.std.proofs.Common.{◌≡◌, ℕ, Bool, true, false, List, [], ◌∷◌, refl, ap, subst, sym, ◌∙◌, true≢false}
use Rattle.std.specs.Prelude.{Option, Some}
use Rattle.std.proofs.lemmas.Bool.{eq-eqb}
use Rattle.ev_syntax.specs.Marks.{open_bracket, close_bracket, comma, of_word, over_sign, at_word}
use Rattle.ev_syntax.specs.Tokens.{Token, name, number, mark}
use Rattle.ev_syntax.specs.Raw.{Raw, written}
use Rattle.ev_syntax.specs.Grammar.{Front, Is, ◌then◌, ReadsType}
use Rattle.ev_syntax.specs.inner.TypeParser.{begins}
use Rattle.ev_syntax.specs.declared.sorts.Sort.{Sort}
use Rattle.ev_syntax.specs.declared.sorts.Sort.TheVariants.{Pred, Expr, Either, TypeText}
use Rattle.ev_syntax.specs.Parses.{ReadsAs}
use Rattle.ev_syntax.specs.inner.Finding.{Found}
use Rattle.ev_syntax.proofs.OneTree.{same_front}
use Rattle.ev_proof.specs.declared.steps.Cite.{Cite}
use Rattle.ev_proof.specs.declared.steps.Step.{Step}
use Rattle.ev_proof.specs.declared.words.StepWord.{StepWord}
use Rattle.ev_proof.specs.declared.words.StepWord.TheVariants.{Lone, Predicate, Cited, Placed, Weak as weak_word, AllE as alle_word, ExI as exi_word, Trans as trans_word, Axiom as axiom_word, Dis as dis_word, Rewrite as rewrite_word, Cases as cases_word, Fold as fold_word}
use Rattle.ev_parse.specs.Sequences.{Nothing, Repeated, Further, Separated, MaybeBegun, Word, Number}
use Rattle.ev_proof.specs.Steps.{ReadsPlace, ReadsRef, ReadsTypes, ReadsTerms, ReadsCite, ReadsStep}
use Rattle.ev_proof.specs.inner.Words.{made_ref, made_cite, word_of, spelling, made, ReadsFields, OfWord}
use Rattle.ev_parse.specs.inner.Taking.{Anything, NotBefore, AtEnd, EndsType, EndsFormula, NoNumber, begins_number}
use Rattle.ev_proof.specs.inner.Following.{EndsTypes, EndsTerms}
use Rattle.ev_parse.proofs.PieceLaws.{stops_as}
use Rattle.ev_parse.proofs.Listing.{Ties, tied}
use Rattle.ev_proof.proofs.Ending.{types_ties, terms_ties, numbers_ties, at_end, before_terms, before_cite}
use Rattle.ev_proof.proofs.WordLaws.{known, by_word}

-- one part at most stands first before what may follow it
abbrev OneFront : {A : Type 0} → (A → Front) → (List Token → Type 0) → Type 0
OneFront {A} r E = (a b : A) (ts us vs : List Token) → r a ts us → E us → r b ts vs → E vs → (a ≡ b) × (us ≡ vs)

paired : {A B : Type 0} (a c : A) (b d : B) → a ≡ c → b ≡ d → ◌≡◌ {A = A × B} (a, b) (c, d)
paired {A} {B} a c b d e f = ap (λ x. (x, b)) e ∙ ap (λ y. (c, y)) f

-- tokens
tail : (t : Token) (us vs : List Token) → ◌≡◌ {A = List Token} (t ∷ us) (t ∷ vs) → us ≡ vs
tail t us vs e = cc

one_word : OneFront Word Anything
one_word a b ts us vs h e k f = named (sym h ∙ k)
  where
    named : name a ∷ us ≡ name b ∷ vs → (a ≡ b) × (us ≡ vs)
    named d = (cc, cc)

one_number : OneFront Number Anything
one_number a b ts us vs h e k f = same (sym h ∙ k)
  where
    same : number a ∷ us ≡ number b ∷ vs → (a ≡ b) × (us ≡ vs)
    same d = (cc, cc)

-- one after the other
one_then : {A B : Type 0} (ra : A → Front) (rb : B → Front) (Ea Eb : List Token → Type 0) → OneFront ra Ea → OneFront rb Eb → ((b : B) (us rest : List Token) → rb b us rest → Eb rest → Ea us)
    → OneFront (λ (p : A × B). ra p.0 then rb p.1) Eb
one_then ra rb Ea Eb ha hb ties a b ts us vs h e k f =
    let x = ha a.0 b.0 ts h.0 k.0 h.1 (ties a.1 h.0 us h.2 e) k.1 (ties b.1 k.0 vs k.2 f) in
    let y = hb a.1 b.1 h.0 us vs h.2 e (subst (λ xs. rb b.1 xs vs) (sym x.1) k.2) f in (paired a.0 b.0 a.1 b.1 x.0 y.0, y.1)

one_behind : {A : Type 0} (m : ℕ) (r : A → Front) (E : List Token → Type 0) → OneFront r E → OneFront (λ a. Is (mark m) then r a) E
one_behind m r E one a b ts us vs h e k f = one a b h.0 us vs h.2 e (subst (λ xs. r b xs vs) (tail (mark m) k.0 h.0 (sym k.1 ∙ h.1)) k.2) f

one_as : {A B : Type 0} (f : A → B) (r : B → Front) (E : List Token → Type 0) → OneFront (λ a. r (f a)) E → ((b : B) → (a : A) × (b ≡ f a)) → OneFront r E
one_as f r E one back a b ts us vs h e k g = let x = back a in let y = back b in
    let z = one x.0 y.0 ts us vs (subst (λ c. r c ts us) x.1 h) e (subst (λ c. r c ts vs) y.1 k) g in (x.1 ∙ ap f z.0 ∙ sym y.1, z.1)

one_before : {A : Type 0} (r : A → Front) (E F : List Token → Type 0) → OneFront r E → ((rest : List Token) → F rest → E rest) → OneFront r F
one_before r E F one less a b ts us vs h e k f = one a b ts us vs h (less us e) k (less vs f)

-- lists
one_repeated : {A : Type 0} (r : A → Front) (E Ei : List Token → Type 0) (starts : List Token → Bool) → Ties r E Ei starts → OneFront r Ei → OneFront (Repeated r) E
one_repeated r E Ei starts ties one [] [] ts us vs h e k f = (refl, sym h ∙ k)
one_repeated r E Ei starts ties one [] (b ∷ ys) ts us vs h e k f = absurd (true≢false (sym (ties.begun b ts k.0 k.1) ∙ ap starts h ∙ ties.stops us e))
one_repeated r E Ei starts ties one (a ∷ xs) [] ts us vs h e k f = absurd (true≢false (sym (ties.begun a ts h.0 h.1) ∙ ap starts k ∙ ties.stops vs f))
one_repeated r E Ei starts ties one (a ∷ xs) (b ∷ ys) ts us vs h e k f =
    let x = one a b ts h.0 k.0 h.1 (tied r E Ei starts ties xs h.0 us h.2 e) k.1 (tied r E Ei starts ties ys k.0 vs k.2 f) in
    let y = one_repeated r E Ei starts ties one xs ys h.0 us vs h.2 e (subst (λ ws. Repeated r ys ws vs) (sym x.1) k.2) f in
    (ap (λ z. z ∷ xs) x.0 ∙ ap (λ zs. b ∷ zs) y.0, y.1)

one_separated : {A : Type 0} (m : ℕ) (r : A → Front) (E Ei : List Token → Type 0) → Ties (λ b. Is (mark m) then r b) E Ei (begins m) → OneFront r Ei → OneFront (Separated m r) E
one_separated m r E Ei ties one [] ys ts us vs h e k f = absurd h
one_separated m r E Ei ties one (a ∷ xs) [] ts us vs h e k f = absurd k
one_separated {A} m r E Ei ties one (a ∷ xs) (b ∷ ys) ts us vs h e k f =
    let z = one_then r (Further m r) Ei E one (one_repeated (λ b. Is (mark m) then r b) E Ei (begins m) ties (one_behind m r Ei one))
    (λ items ws rest i g. tied (λ b. Is (mark m) then r b) E Ei (begins m) ties items ws rest i g) (a, xs) (b, ys) ts us vs h e k f in
    (ap (λ (p : A × List A). p.0 ∷ p.1) z.0, z.1)

-- a part that begins with a mark, or none
one_begun : {A : Type 0} (opening m : ℕ) (closing : Front) (r : A → Front) (E Ei : List Token → Type 0) → OneFront (Separated m r) Ei → ((ws us : List Token) → closing ws us → E us → Ei ws)
    → ((ws us vs : List Token) → closing ws us → closing ws vs → us ≡ vs) → ((us : List Token) → E us → begins opening us ≡ false) → OneFront (MaybeBegun opening closing m r) E
one_begun opening m closing r E Ei one ends same stops [] [] ts us vs h e k f = (refl, sym h ∙ k)
one_begun opening m closing r E Ei one ends same stops [] (b ∷ ys) ts us vs h e k f =
    absurd (true≢false (sym (ap (begins opening) k.1 ∙ eq-eqb opening opening refl) ∙ ap (begins opening) h ∙ stops us e))
one_begun opening m closing r E Ei one ends same stops (a ∷ xs) [] ts us vs h e k f =
    absurd (true≢false (sym (ap (begins opening) h.1 ∙ eq-eqb opening opening refl) ∙ ap (begins opening) k ∙ stops vs f))
one_begun opening m closing r E Ei one ends same stops (a ∷ xs) (b ∷ ys) ts us vs h e k f =
    let x = one (a ∷ xs) (b ∷ ys) h.0 h.2.0 k.2.0 h.2.1 (ends h.2.0 us h.2.2 e)
    (subst (λ ws. Separated m r (b ∷ ys) ws k.2.0) (tail (mark opening) k.0 h.0 (sym k.1 ∙ h.1)) k.2.1) (ends k.2.0 vs k.2.2 f) in
    (x.0, same h.2.0 us vs h.2.2 (subst (λ ws. closing ws vs) (sym x.1) k.2.2))

-- formulas and types
one_formula : (sort : Sort) → OneFront (ReadsAs sort) EndsFormula
one_formula sort a b ts us vs h e k f = parts (same_front sort a b ts us vs h (stops_as sort us e) k (stops_as sort vs f))
  where
    parts : ◌≡◌ {A = Found Raw} (a, us) (b, vs) → (a ≡ b) × (us ≡ vs)
    parts d = (ap (λ (x : Found Raw). x.0) d, ap (λ (x : Found Raw). x.1) d)

one_type : OneFront (λ a. ReadsType a true) EndsType
one_type a b ts us vs h e k f = parts (same_front TypeText (written a) (written b) ts us vs h e k f)
  where
    same : written a ≡ written b → a ≡ b
    same d = cc

    parts : ◌≡◌ {A = Found Raw} (written a, us) (written b, vs) → (a ≡ b) × (us ≡ vs)
    parts d = (same (ap (λ (x : Found Raw). x.0) d), ap (λ (x : Found Raw). x.1) d)

-- parts of steps
one_ref : OneFront ReadsRef Anything
one_ref = one_as made_ref ReadsRef Anything
    (one_then Word (λ n. Is (mark over_sign) then Word n) Anything Anything one_word (one_behind over_sign Word Anything one_word) (λ b us rest h e. tt))
    (λ r. ((r.theory, r.label), refl))

one_types : OneFront ReadsTypes (NotBefore open_bracket)
one_types = one_begun open_bracket comma (Is (mark close_bracket)) (λ a. ReadsType a true) (NotBefore open_bracket) EndsTypes
    (one_separated comma (λ a. ReadsType a true) EndsTypes EndsType types_ties one_type) (λ ws us h e. subst EndsTypes (sym h) ((refl, refl), refl))
    (λ ws us vs h k. tail (mark close_bracket) us vs (sym h ∙ k)) (λ us e. e)

one_terms : OneFront ReadsTerms EndsTerms
one_terms = one_begun of_word comma Nothing (ReadsAs Expr) EndsTerms EndsTerms (one_separated comma (ReadsAs Expr) EndsTerms EndsFormula terms_ties (one_formula Expr))
    (λ ws us h e. subst EndsTerms (sym h) e) (λ ws us vs h k. sym h ∙ k) (λ us e. e.2)

one_cite : OneFront ReadsCite AtEnd
one_cite = one_as made_cite ReadsCite AtEnd
    (one_then ReadsTypes ReadsTerms (NotBefore open_bracket) AtEnd one_types (one_before ReadsTerms EndsTerms AtEnd one_terms (at_end EndsTerms (refl, refl, refl)))
    (before_terms (NotBefore open_bracket) refl (λ vs. refl)))
    (λ c. ((c.types, c.terms), refl))

one_numbers : OneFront (Repeated Number) NoNumber
one_numbers = one_repeated Number NoNumber Anything begins_number numbers_ties one_number

one_place : OneFront ReadsPlace NoNumber
one_place = one_behind at_word (Repeated Number) NoNumber one_numbers

one_placed : OneFront (λ (p : List ℕ × Cite). ReadsPlace p.0 then ReadsCite p.1) AtEnd
one_placed = one_then ReadsPlace ReadsCite NoNumber AtEnd one_place one_cite (before_cite NoNumber refl (λ vs. refl) (λ vs. refl))

one_last : (sort : Sort) → OneFront (ReadsAs sort) AtEnd
one_last sort = one_before (ReadsAs sort) EndsFormula AtEnd (one_formula sort) (at_end EndsFormula refl)

behind_anything : {A B : Type 0} (ra : A → Front) (rb : B → Front) → OneFront ra Anything → OneFront rb AtEnd → OneFront (λ (p : A × B). ra p.0 then rb p.1) AtEnd
behind_anything ra rb ha hb = one_then ra rb Anything AtEnd ha hb (λ b us rest h e. tt)

one_fields : (w : StepWord) → OneFront (ReadsFields w) AtEnd
one_fields (Lone w) = λ a b ts us vs h e k f. (refl, sym h ∙ k)
one_fields weak_word = one_before (Repeated Number) NoNumber AtEnd one_numbers (at_end NoNumber refl)
one_fields (Predicate w) = one_last Pred
one_fields alle_word = one_then (ReadsAs Pred) (λ t. Is (mark comma) then ReadsAs Expr t) EndsFormula AtEnd (one_formula Pred) (one_behind comma (ReadsAs Expr) AtEnd (one_last Expr))
    (λ t us rest h e. subst EndsFormula (sym h.1) refl)
one_fields exi_word = one_last Expr
one_fields trans_word = one_last Either
one_fields axiom_word = behind_anything Number ReadsCite one_number one_cite
one_fields (Cited w) = behind_anything ReadsRef ReadsCite one_ref one_cite
one_fields dis_word = behind_anything Word (λ (p : List ℕ × Cite). Word p.0 then ReadsCite p.1) one_word (behind_anything Word ReadsCite one_word one_cite)
one_fields rewrite_word = behind_anything ReadsRef (λ (p : ℕ × (List ℕ × Cite)). Number p.0 then ReadsPlace p.1.0 then ReadsCite p.1.1) one_ref
    (behind_anything Number (λ (p : List ℕ × Cite). ReadsPlace p.0 then ReadsCite p.1) one_number one_placed)
one_fields cases_word = behind_anything ReadsRef (λ (p : List ℕ × Cite). ReadsPlace p.0 then ReadsCite p.1) one_ref one_placed
one_fields (Placed w) = one_before ReadsPlace NoNumber AtEnd one_place (at_end NoNumber refl)
one_fields fold_word = behind_anything Word (λ (p : List ℕ × Cite). ReadsPlace p.0 then ReadsCite p.1) one_word one_placed

-- steps
pub one_step : (a b : Step) (ts : List Token) → ReadsStep a ts [] → ReadsStep b ts [] → a ≡ b
one_step a b ts h k = go (by_word a ts [] h) (by_word b ts [] k)
  where
    one : (x y : StepWord) → ◌≡◌ {A = Option StepWord} (Some x) (Some y) → x ≡ y
    one x y d = cc

    made_alike : (w : StepWord) (us : List Token) → OfWord w a us [] → OfWord w b us [] → a ≡ b
    made_alike w us i j = i.1 ∙ ap (made w) (one_fields w i.0 j.0 us [] [] i.2 refl j.2 refl).0 ∙ sym j.1

    go : (w : StepWord) × (us : List Token) × (ts ≡ name (spelling w) ∷ us) × OfWord w a us [] → (x : StepWord) × (vs : List Token) × (ts ≡ name (spelling x) ∷ vs) × OfWord x b vs [] → a ≡ b
    go (w, us, e, i) (x, vs, f, j) =
        let same = one_word (spelling w) (spelling x) ts us vs e tt f tt in
        let word : x ≡ w = one x w (sym (known x) ∙ ap word_of (sym same.0) ∙ known w) in
        made_alike w us i (subst (λ y. OfWord y b us []) word (subst (λ xs. OfWord x b xs []) (sym same.1) j))
