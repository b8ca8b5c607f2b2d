-- Propositional formulas: their signs and words, and the grammar. Each relation says that a formula stands at the front of some
-- marks, and which marks come after it.
use Rattle.std.specs.Prelude.{◌≡◌, ◌⊎◌, ◌≤◌, ℕ, true, List, [], ◌∷◌, Option, Some, None, bytes_eq, codes, drop, length, if◌then◌else◌, nat_eq, option_map}
use Rattle.std.specs.List.{starts_with, take_while}
use Rattle.ev_terms.specs.Term.{Term}
use Rattle.ev_terms.specs.Measures.{size, depth}
use Rattle.ev_forms.specs.Forms.{truth, falsity, neg}
use Rattle.ev_forms.specs.Connectives.{joined}
use Rattle.ev_forms.specs.declared.connectives.Connective.{Connective}
use Rattle.ev_forms.specs.declared.connectives.Connective.TheVariants as connective
use Rattle.theory.specs.declared.marks.Mark.{Mark}
use Rattle.theory.specs.declared.marks.Mark.TheVariants.{True, False, Not, And, Or, Implies, Iff, Open, Close}
use Rattle.theory.specs.Words.{are_blanks, begins_word, is_word_char, skip_blanks}

-- a mark, and the text behind it
abbrev pub Front : Type 0
Front = Mark × List ℕ

abbrev pub word_mark : List ℕ → Option Mark
word_mark word =
    if bytes_eq word (codes "true") then Some True else
    (if bytes_eq word (codes "false") then Some False else
    (if bytes_eq word (codes "not") then Some Not else
    (if bytes_eq word (codes "or") then Some Or else None)))

abbrev pub sign_front : List ℕ → Option Front
sign_front cs =
    if starts_with nat_eq cs (codes "&") then Some (And, drop 1 cs) else
    (if starts_with nat_eq cs (codes "(") then Some (Open, drop 1 cs) else
    (if starts_with nat_eq cs (codes ")") then Some (Close, drop 1 cs) else
    (if starts_with nat_eq cs (codes "=>") then Some (Implies, drop 2 cs) else
    (if starts_with nat_eq cs (codes "<=>") then Some (Iff, drop 3 cs) else None))))

-- the mark with which a text begins: all letters, digits and `_` up to the next other character are one word
abbrev pub mark_front : List ℕ → Option Front
mark_front cs =
    if begins_word cs
    then option_map (λ m. (m, drop (length (take_while is_word_char cs)) cs)) (word_mark (take_while is_word_char cs))
    else sign_front cs

-- the text is these marks, with blanks before, between and behind them
abbrev pub AreMarks : List ℕ → List Mark → Type 0
AreMarks cs [] = are_blanks cs ≡ true
AreMarks cs (m ∷ ms) = (rest : List ℕ) × (mark_front (skip_blanks cs) ≡ Some (m, rest)) × AreMarks rest ms

-- the mark of a connective
abbrev pub mark_of : Connective → Mark
mark_of connective.And = And
mark_of connective.Or = Or
mark_of connective.Implies = Implies
mark_of connective.Iff = Iff

-- `&` and `or` may stand several times in a row, `=>` and `<=>` once
abbrev pub IsChained : Connective → Type 0
IsChained c = (c ≡ connective.And) ⊎ (c ≡ connective.Or)

abbrev pub IsSingle : Connective → Type 0
IsSingle c = (c ≡ connective.Implies) ⊎ (c ≡ connective.Iff)

mutual
  -- literal ::= true | false | not literal | ( predicate )
  pub data Literal : Term → List Mark → List Mark → Type 0 where
    is_true : (P : Term) (ts rest : List Mark) → ts ≡ True ∷ rest → P ≡ truth → Literal P ts rest
    is_false : (P : Term) (ts rest : List Mark) → ts ≡ False ∷ rest → P ≡ falsity → Literal P ts rest
    is_negation : (P Q : Term) (ts us rest : List Mark) → ts ≡ Not ∷ us → Literal Q us rest → P ≡ neg Q → Literal P ts rest
    in_parens : (P : Term) (ts us rest : List Mark) → ts ≡ Open ∷ us → Predicate P us (Close ∷ rest) → Literal P ts rest

  -- { c literal }, to the left: from P, with these further literals, to R
  pub data Chain : Connective → Term → List Mark → Term → List Mark → Type 0 where
    ends : (c : Connective) (P R : Term) (ts rest : List Mark) → R ≡ P → rest ≡ ts → Chain c P ts R rest
    goes_on : (c : Connective) (P Q R : Term) (ts us vs rest : List Mark) → ts ≡ mark_of c ∷ us → Literal Q us vs
        → Chain c (joined c P Q) vs R rest → Chain c P ts R rest

  -- conjunction ::= literal { & literal } | literal { or literal }
  pub data Conjunction : Term → List Mark → List Mark → Type 0 where
    chained : (c : Connective) (P R : Term) (ts us rest : List Mark) → IsChained c → Literal P ts us → Chain c P us R rest → Conjunction R ts rest

  -- predicate ::= conjunction | conjunction => conjunction | conjunction <=> conjunction
  pub data Predicate : Term → List Mark → List Mark → Type 0 where
    alone : (P : Term) (ts rest : List Mark) → Conjunction P ts rest → Predicate P ts rest
    is_joined : (c : Connective) (P Q R : Term) (ts us vs rest : List Mark) → IsSingle c → Conjunction P ts us → us ≡ mark_of c ∷ vs
        → Conjunction Q vs rest → R ≡ joined c P Q → Predicate R ts rest

-- the greatest nesting of a formula
abbrev pub nesting_limit : ℕ
nesting_limit = 200

-- the greatest size of a formula, and of a goal
abbrev pub size_limit : ℕ
size_limit = 65536

-- the text is this formula, which keeps the limits; a formula without binders nests as deep as its term is
pub record IsFormula (text : List ℕ) (P : Term) : Type 0 where
  pub marks : List Mark
  pub are : AreMarks text marks
  pub reads : Predicate P marks []
  pub shallow : depth P ≤ nesting_limit
  pub small : size P ≤ size_limit
