-- Lists that are read part by part.
use Rattle.std.proofs.Common.{◌≡◌, ℕ, ◌≤◌, Bool, true, false, List, [], ◌∷◌, ◌++◌, length, refl, ap, subst, sym, ◌∙◌, arith, append-nil, append_assoc, true≢false, ◌⊎◌, inl, inr}
use Rattle.std.specs.Prelude.{Option, Some, None, option_map}
use Rattle.std.specs.List.{list_any}
use Rattle.std.proofs.lemmas.Bool.{eq-eqb}
use Rattle.ev_syntax.specs.Tokens.{Token, mark}
use Rattle.ev_syntax.specs.Grammar.{Front, Is, ◌then◌}
use Rattle.ev_syntax.specs.inner.TypeParser.{begins}
use Rattle.ev_parse.specs.Sequences.{Nothing, Repeated, Further, Separated, AtLeastOne, MaybeBegun}
use Rattle.ev_parse.specs.inner.Taking.{State, next, next_is, behind_mark, kept, TakesFrom, Took, joined, single, TookMore}
use Rattle.ev_parse.specs.inner.Taking.{both}
use Rattle.ev_parse.proofs.Takings.{snoc_kept, joined_assoc, joined_none, took_then, took_as, took_none, took_some, mark_took, took_end, took_ends, took_nothing}

-- some of the parts are read, and the others follow
abbrev pub SoFarFrom : {A : Type 0} → (A → Front) → (List Token → Type 0) → (A → Bool) → State → Option (List A) → State → Type 0
SoFarFrom r E d None w t = t ≡ None
SoFarFrom {A} r E d (Some ts) w None = (all : List A) (rest : List Token) → Repeated r all ts rest → E rest → ⊥
SoFarFrom {A} r E d (Some ts) w (Some us) =
    (done : List A) × (w ≡ kept (list_any d) done) × (length us ≤ length ts)
    × ((more : List A) (rest : List Token) → Repeated r more us rest → Repeated r (done ++ more) ts rest)
    × ((all : List A) (rest : List Token) → Repeated r all ts rest → E rest → (more : List A) × (all ≡ done ++ more) × Repeated r more us rest)

pub record SoFar {A : Type 0} (r : A → Front) (E : List Token → Type 0) (d : A → Bool) (s : State) (w : Option (List A)) (t : State) : Type 0 where
  pub says : SoFarFrom r E d s w t

-- what may follow a part: what may follow the list, and what begins a part
pub record Ties {A : Type 0} (r : A → Front) (E Ei : List Token → Type 0) (starts : List Token → Bool) : Type 0 where
  pub stops : (rest : List Token) → E rest → starts rest ≡ false
  pub after : (rest : List Token) → E rest → Ei rest
  pub between : (a : A) (ts rest : List Token) → r a ts rest → Ei ts
  pub begun : (a : A) (ts rest : List Token) → r a ts rest → starts ts ≡ true

-- parts that begin with a mark
pub mark_ties : {A : Type 0} {r : A → Front} {E Ei : List Token → Type 0} (m : ℕ) → ((rest : List Token) → E rest → begins m rest ≡ false) → ((rest : List Token) → E rest → Ei rest)
    → ((us : List Token) → Ei (mark m ∷ us)) → Ties (λ b. Is (mark m) then r b) E Ei (begins m)
mark_ties {A} {r} {E} {Ei} m stops after here = record {
  stops = stops;
  after = after;
  between = λ a ts rest h. subst Ei (sym h.1) (here h.0);
  begun = λ a ts rest h. ap (begins m) h.1 ∙ eq-eqb m m refl;
}

none_yet : {A : Type 0} (r : A → Front) (E : List Token → Type 0) (d : A → Bool) (s : State) → SoFarFrom r E d s (Some []) s
none_yet r E d None = refl
none_yet r E d (Some ts) = ([], refl, omega arith, λ more rest h. h, λ all rest h e. (all, refl, h))

pub first_of_all : {A : Type 0} {r : A → Front} {E : List Token → Type 0} {d : A → Bool} {s : State} → SoFar r E d s (Some []) s
first_of_all {A} {r} {E} {d} {s} = record { says = none_yet r E d s }

pub tied : {A : Type 0} (r : A → Front) (E Ei : List Token → Type 0) (starts : List Token → Bool) → Ties r E Ei starts → (items : List A) (us rest : List Token) → Repeated r items us rest → E rest → Ei us
tied r E Ei starts ties [] us rest h e = subst Ei (sym h) (ties.after rest e)
tied r E Ei starts ties (a ∷ items) us rest h e = ties.between a us h.0 h.1

-- the list goes on with a part that begins here
goes_on : {A : Type 0} (r : A → Front) (E Ei : List Token → Type 0) (starts : List Token → Bool) → Ties r E Ei starts → (more : List A) (us rest : List Token) → starts us ≡ true
    → Repeated r more us rest → E rest → (a : A) × (others : List A) × (vs : List Token) × (more ≡ a ∷ others) × r a us vs × Repeated r others vs rest × Ei vs
goes_on r E Ei starts ties [] us rest s h e = absurd (true≢false (sym s ∙ ap starts h ∙ ties.stops rest e))
goes_on r E Ei starts ties (a ∷ items) us rest s h e = (a, items, h.0, refl, h.1, h.2, tied r E Ei starts ties items h.0 rest h.2 e)

step_says : {A : Type 0} (r : A → Front) (E Ei : List Token → Type 0) (d : A → Bool) (starts : List Token → Bool) (s t u : State) (w : Option (List A)) (x : Option A) → Ties r E Ei starts
    → SoFarFrom r E d s w t → next starts t ≡ true → TakesFrom r Ei d t x u → SoFarFrom r E d s (joined w (single x)) u
step_says r E Ei d starts s None u w x ties h n k = absurd (true≢false (sym n))
step_says r E Ei d starts None (Some us) u w x ties h n k = absurd (differ h)
  where
    differ : ◌≡◌ {A = State} (Some us) None → ⊥
    differ h = cc
step_says r E Ei d starts (Some ts) (Some us) None w x ties h n k = λ all rest i e.
    let m = h.4 all rest i e in let g = goes_on r E Ei starts ties m.0 us rest n m.2 e in k g.0 g.2 g.4 g.6
step_says {A} r E Ei d starts (Some ts) (Some us) (Some xs) w x ties h n k = (
  h.0 ++ k.0 ∷ [],
  snoc_kept d h.0 k.0 w x h.1 k.1,
  omega (arith, h.2, k.3),
  λ more rest i. subst (λ l. Repeated r l ts rest) (sym (append_assoc h.0 (k.0 ∷ []) more)) (h.3 (k.0 ∷ more) rest (xs, k.2, i)),
  λ all rest i e. let m = h.4 all rest i e in let g = goes_on r E Ei starts ties m.0 us rest n m.2 e in let same = k.4 g.0 g.2 g.4 g.6 in
      (g.1, m.1 ∙ ap (λ l. h.0 ++ l) (g.3 ∙ ap (λ y. y ∷ g.1) same.0) ∙ sym (append_assoc h.0 (k.0 ∷ []) g.1), subst (λ vs. Repeated r g.1 vs rest) same.1 g.5),
)

pub one_further : {A : Type 0} {r : A → Front} {E Ei : List Token → Type 0} {d : A → Bool} {s t u : State} {w : Option (List A)} {x : Option A} (starts : List Token → Bool) → Ties r E Ei starts
    → SoFar r E d s w t → next starts t ≡ true → Took r Ei d t x u → SoFar r E d s (joined w (single x)) u
one_further {A} {r} {E} {Ei} {d} {s} {t} {u} {w} {x} starts ties h n k = record { says = step_says r E Ei d starts s t u w x ties h.says n k.takes }

-- no part begins any more
end_says : {A : Type 0} (r : A → Front) (E Ei : List Token → Type 0) (d : A → Bool) (starts : List Token → Bool) (s t : State) (w : Option (List A)) → Ties r E Ei starts
    → SoFarFrom r E d s w t → next starts t ≡ false → TakesFrom (Repeated r) E (list_any d) s w t
end_says r E Ei d starts None t w ties h n = h
end_says r E Ei d starts (Some ts) None w ties h n = h
end_says {A} r E Ei d starts (Some ts) (Some us) w ties h n =
    (h.0, h.1, subst (λ l. Repeated r l ts us) (append-nil h.0) (h.3 [] us refl), h.2, λ all rest i e. go all rest (h.4 all rest i e))
  where
    go : (all : List A) (rest : List Token) → (more : List A) × (all ≡ h.0 ++ more) × Repeated r more us rest → (all ≡ h.0) × (rest ≡ us)
    go all rest ([], e, i) = (e ∙ append-nil h.0, sym i)
    go all rest (a ∷ more, e, i) = absurd (true≢false (sym (ties.begun a us i.0 i.1) ∙ n))

pub no_further : {A : Type 0} {r : A → Front} {E Ei : List Token → Type 0} {d : A → Bool} {s t : State} {w : Option (List A)} (starts : List Token → Bool) → Ties r E Ei starts
    → SoFar r E d s w t → next starts t ≡ false → Took (Repeated r) E (list_any d) s w t
no_further {A} {r} {E} {Ei} {d} {s} {t} {w} starts ties h n = record { takes = end_says r E Ei d starts s t w ties h.says n }

-- what a loop keeps: the parts behind those that it began with
pub record Listed {A : Type 0} (r : A → Front) (E : List Token → Type 0) (d : A → Bool) (first : Option (List A)) (s : State) (v : Option (List A)) (t : State) : Type 0 where
  pub more : Option (List A)
  pub all : v ≡ joined first more
  pub read : SoFar r E d s more t

pub listed_none : {A : Type 0} {r : A → Front} {E : List Token → Type 0} {d : A → Bool} {s : State} (first : Option (List A)) → Listed r E d first s first s
listed_none first = record { more = Some []; all = sym (joined_none first); read = first_of_all }

pub listed_one : {A : Type 0} {r : A → Front} {E Ei : List Token → Type 0} {d : A → Bool} {s t u : State} {first v w : Option (List A)} {x : Option A} (starts : List Token → Bool)
    → Ties r E Ei starts → Listed r E d first s v t → next starts t ≡ true → Took r Ei d t x u → w ≡ joined v (single x) → Listed r E d first s w u
listed_one {A} {r} {E} {Ei} {d} {s} {t} {u} {first} {v} {w} {x} starts ties h n k e = record {
  more = joined h.more (single x);
  all = e ∙ ap (λ y. joined y (single x)) h.all ∙ joined_assoc first h.more (single x);
  read = one_further starts ties h.read n k;
}

pub listed_all : {A : Type 0} {r : A → Front} {E Ei : List Token → Type 0} {d : A → Bool} {s t : State} {first v : Option (List A)} (starts : List Token → Bool)
    → Ties r E Ei starts → Listed r E d first s v t → next starts t ≡ false → TookMore (Repeated r) E (list_any d) first s v t
listed_all {A} {r} {E} {Ei} {d} {s} {t} {first} {v} starts ties h n = (h.more, h.all, no_further starts ties h.read n)

-- the first part and the others
cons_value : {A : Type 0} (x : Option A) (w : Option (List A)) → joined (single x) w ≡ option_map (λ (p : A × List A). p.0 ∷ p.1) (both x w)
cons_value None w = refl
cons_value (Some x) None = refl
cons_value (Some x) (Some w) = refl

pub separated_took : {A : Type 0} {r : A → Front} {E Ei : List Token → Type 0} {d : A → Bool} {s t u : State} {x : Option A} {first v : Option (List A)} (m : ℕ) (starts : List Token → Bool)
    → Ties (λ b. Is (mark m) then r b) E Ei starts → Took r Ei d s x t → first ≡ single x → TookMore (Further m r) E (list_any d) first t v u
    → Took (Separated m r) E (list_any d) s v u
separated_took {A} {r} {E} {Ei} {d} {s} {t} {u} {x} {first} {v} m starts ties h e k =
    took_as (λ (p : A × List A). p.0 ∷ p.1) (took_then h k.2 (λ items us rest i f. tied (λ b. Is (mark m) then r b) E Ei starts ties items us rest i f)) (λ p. refl) back
    (k.1 ∙ ap (λ y. joined y k.0) e ∙ cons_value x k.0)
  where
    back : (l : List A) (ts rest : List Token) → s ≡ Some ts → Separated m r l ts rest → (p : A × List A) × (l ≡ p.0 ∷ p.1)
    back [] ts rest f i = absurd i
    back (a ∷ items) ts rest f i = ((a, items), refl)

pub at_least_took : {A : Type 0} {r : A → Front} {E Ei : List Token → Type 0} {d : A → Bool} {s t u : State} {x : Option A} {first v : Option (List A)} (starts : List Token → Bool)
    → Ties r E Ei starts → Took r Ei d s x t → first ≡ single x → TookMore (Repeated r) E (list_any d) first t v u → Took (AtLeastOne r) E (list_any d) s v u
at_least_took {A} {r} {E} {Ei} {d} {s} {t} {u} {x} {first} {v} starts ties h e k =
    took_as (λ (p : A × List A). p.0 ∷ p.1) (took_then h k.2 (λ items us rest i f. tied r E Ei starts ties items us rest i f)) (λ p. refl) back
    (k.1 ∙ ap (λ y. joined y k.0) e ∙ cons_value x k.0)
  where
    back : (l : List A) (ts rest : List Token) → s ≡ Some ts → AtLeastOne r l ts rest → (p : A × List A) × (l ≡ p.0 ∷ p.1)
    back [] ts rest f i = absurd i
    back (a ∷ items) ts rest f i = ((a, items), refl)

-- optional lists behind a mark
only_begun : {A : Type 0} (r : A → Front) (opening m : ℕ) (closing : Front) (b : List A) (ts rest : List Token) → MaybeBegun opening closing m r b ts rest
    → ((b ≡ []) × (ts ≡ rest)) ⊎ (Is (mark opening) then Separated m r b then closing) ts rest
only_begun r opening m closing [] ts rest h = inl (refl, h)
only_begun r opening m closing (a ∷ b) ts rest h = inr h

all_begun : {A : Type 0} (r : A → Front) (opening m : ℕ) (closing : Front) (b : List A) (ts rest : List Token) → (Is (mark opening) then Separated m r b then closing) ts rest
    → MaybeBegun opening closing m r b ts rest
all_begun r opening m closing [] ts rest h = absurd h.2.1
all_begun r opening m closing (a ∷ b) ts rest h = h

begun_or_none : {A : Type 0} (r : A → Front) (opening m : ℕ) (closing : Front) (b : List A) (ts rest : List Token) → MaybeBegun opening closing m r b ts rest
    → ((b ≡ []) × (ts ≡ rest)) ⊎ (begins opening ts ≡ true)
begun_or_none r opening m closing [] ts rest h = inl (refl, h)
begun_or_none r opening m closing (a ∷ b) ts rest h = inr (ap (begins opening) h.1 ∙ eq-eqb opening opening refl)

pub not_begun : {A : Type 0} {r : A → Front} {E : List Token → Type 0} {d : List A → Bool} {s : State} {closing : Front} {opening m : ℕ} (l : List A) → l ≡ [] → d [] ≡ false
    → next_is opening s ≡ false → Took (MaybeBegun opening closing m r) E d s (Some l) s
not_begun {A} {r} {E} {d} {s} {closing} {opening} {m} l e n h = subst (λ x. Took (MaybeBegun opening closing m r) E d s (Some x) s) (sym e)
    (took_none (begins opening) [] h n (λ ts. refl) (λ b ts rest i. begun_or_none r opening m closing b ts rest i))

pub begun : {A : Type 0} {r : A → Front} {E Ei : List Token → Type 0} {d : List A → Bool} {s t u w : State} {v : Option (List A)} {opening m closing : ℕ} → next_is opening s ≡ true
    → t ≡ behind_mark opening s → Took (Separated m r) Ei d t v u → w ≡ behind_mark closing u → ((us : List Token) → Ei (mark closing ∷ us)) → ((rest : List Token) → E rest → begins opening rest ≡ false)
    → Took (MaybeBegun opening (Is (mark closing)) m r) E d s v w
begun {A} {r} {E} {Ei} {d} {s} {t} {u} {w} {v} {opening} {m} {closing} h e k f here stops =
    took_some (begins opening) [] h (mark_took {r = λ l. Separated m r l then Is (mark closing)} opening e (took_end closing k f here))
    (λ b ts rest i. all_begun r opening m (Is (mark closing)) b ts rest i) (λ b ts rest i. only_begun r opening m (Is (mark closing)) b ts rest i) stops

pub begun_open : {A : Type 0} {r : A → Front} {E Ei : List Token → Type 0} {d : List A → Bool} {s t u : State} {v : Option (List A)} {opening m : ℕ} → next_is opening s ≡ true
    → t ≡ behind_mark opening s → Took (Separated m r) Ei d t v u → ((rest : List Token) → E rest → Ei rest) → ((rest : List Token) → E rest → begins opening rest ≡ false)
    → Took (MaybeBegun opening Nothing m r) E d s v u
begun_open {A} {r} {E} {Ei} {d} {s} {t} {u} {v} {opening} {m} h e k after stops =
    took_some (begins opening) [] h (mark_took {r = λ l. Separated m r l then Nothing} opening e (took_nothing (took_ends after k)))
    (λ b ts rest i. all_begun r opening m Nothing b ts rest i) (λ b ts rest i. only_begun r opening m Nothing b ts rest i) stops
