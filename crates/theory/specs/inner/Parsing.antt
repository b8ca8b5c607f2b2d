-- What the parts of the formula reader give: the formula of a kind that stands at the front of some marks and goes on as far as it can.
use Rattle.std.specs.Prelude.{◌≡◌, ◌≢◌, ◌<◌, ◌≤◌, ◌⊎◌, ℕ, List, ◌∷◌, Option, Some, None, drop, length}
use Rattle.ev_terms.specs.Term.{Term}
use Rattle.ev_terms.specs.Measures.{depth}
use Rattle.ev_forms.specs.Connectives.{joined}
use Rattle.ev_forms.specs.declared.connectives.Connective.{Connective}
use Rattle.theory.specs.declared.marks.Mark.{Mark}
use Rattle.theory.specs.declared.formulas.Want.{Want}
use Rattle.theory.specs.declared.formulas.Want.TheVariants as want
use Rattle.theory.specs.declared.formulas.Found.{Found}
use Rattle.theory.specs.Formulas.{mark_of, IsChained, IsSingle, Literal, Chain, Conjunction, Predicate}

-- the marks do not go on with this connective
abbrev pub StopsBefore : Connective → List Mark → Type 0
StopsBefore c ts = (us : List Mark) → ts ≢ mark_of c ∷ us

-- nor with any that may go on a conjunction or disjunction, nor with any at all
abbrev pub EndsConjunction : List Mark → Type 0
EndsConjunction ts = (c : Connective) → IsChained c → StopsBefore c ts

abbrev pub EndsPredicate : List Mark → Type 0
EndsPredicate ts = (c : Connective) → StopsBefore c ts

-- the formula of a kind stands at the front of ts, and rest, which does not go on with it, comes after it
abbrev pub Reads : Want → Term → List Mark → List Mark → Type 0
Reads want.Literal P ts rest = Literal P ts rest
Reads want.Conjunction P ts rest = Conjunction P ts rest × EndsConjunction rest
Reads want.Predicate P ts rest = Predicate P ts rest × EndsPredicate rest

-- from P, with what comes after it, to a conjunction or disjunction that begins with it
abbrev pub ExtendsToConjunction : Term → List Mark → Term → List Mark → Type 0
ExtendsToConjunction P us R rest = (c : Connective) × IsChained c × Chain c P us R rest × EndsConjunction rest

-- from a conjunction or disjunction to a predicate that begins with it
abbrev pub ExtendsByOne : Term → List Mark → Term → List Mark → Type 0
ExtendsByOne P us R rest =
    ((R ≡ P) × (rest ≡ us)) ⊎ ((c : Connective) × (Q : Term) × (vs : List Mark) × IsSingle c × (us ≡ mark_of c ∷ vs) × Conjunction Q vs rest × (R ≡ joined c P Q))

abbrev pub ExtendsToPredicate : Term → List Mark → Term → List Mark → Type 0
ExtendsToPredicate P us R rest = (A : Term) × (vs : List Mark) × ExtendsToConjunction P us A vs × ExtendsByOne A vs R rest × EndsPredicate rest

abbrev pub Extends : Want → Term → List Mark → Term → List Mark → Type 0
Extends want.Literal P us R rest = (R ≡ P) × (rest ≡ us)
Extends want.Conjunction P us R rest = ExtendsToConjunction P us R rest
Extends want.Predicate P us R rest = ExtendsToPredicate P us R rest

-- What a reader gives of the marks: a formula with this property that is at most so deep, and the marks after it; or nothing, where each
-- such formula is deeper.
abbrev pub Gives : (Term → List Mark → Type 0) → ℕ → List Mark → Option Found → Type 0
Gives fits levels marks (Some f) = (f.end ≤ length marks) × fits f.term (drop f.end marks) × (depth f.term ≤ levels)
Gives fits levels marks None = (R : Term) (rest : List Mark) → fits R rest → levels < depth R
