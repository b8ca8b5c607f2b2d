-- What the marks of variables are.
use Rattle.std.proofs.Common.{◌≡◌, ◌≢◌, ℕ, zero, suc, ◌+◌, ◌-◌, ◌≤◌, ◌<◌, Bool as Boolean, true, false, List, [], ◌∷◌, ◌++◌, length, drop, get_or, replicate, min, append_assoc, Some, None, ap, sym, ◌∙◌, refl, arith}
use Rattle.std.specs.Prelude.{◌||◌, ◌==◌, slice_set}
use Rattle.std.proofs.lemmas.Bool.Decides.{nat_tests}
use Rattle.ev_terms.specs.declared.types.Ty.{Ty}
use Rattle.ev_terms.specs.declared.types.Tys.{Tys}
use Rattle.ev_terms.specs.declared.types.Sym.{Sym}
use Rattle.ev_terms.specs.Term.{Term, Terms, var, lit, node, nil, cons, terms, var_of}
use Rattle.ev_terms.specs.Symbols.{binds}
use Rattle.ev_terms.specs.Measures.{loose, all_loose}
use Rattle.ev_terms.proofs.Children as children
use Rattle.ev_typing.proofs.Names.{drop_at}
use Rattle.ev_typing.specs.Occurs.{has_var, have_var}
use Rattle.ev_forms.specs.declared.connectives.Connective.{Connective}
use Rattle.ev_forms.specs.declared.connectives.Connective.TheVariants.{And, Or, Implies, Iff}
use Rattle.ev_forms.specs.Connectives.{joined}
use Rattle.ev_forms.specs.Forms.{conj, forall}
use Rattle.ev_wd.specs.Makers.{lowered}
use Rattle.ev_wd.specs.inner.Marks.{marked, all_marked, occurring, either}
use Rattle.ev_wd.proofs.Occurrences.{none_free}
use Rattle.ev_wd.proofs.Rules.{append_nil}

-- Disjunctions.
or-false : (b : Boolean) → (b || false) ≡ b
or-false true = refl
or-false false = refl

or-true : (b : Boolean) → (b || true) ≡ true
or-true true = refl
or-true false = refl

or-assoc : (a b c : Boolean) → (a || (b || c)) ≡ ((a || b) || c)
or-assoc true b c = refl
or-assoc false b c = refl

or-comm : (a b : Boolean) → (a || b) ≡ (b || a)
or-comm true true = refl
or-comm true false = refl
or-comm false true = refl
or-comm false false = refl

-- A term in which none of the variables occurs marks nothing.
pub unmarked : (t : Term) (bs : List Boolean) (j : ℕ) → loose t ≤ j → bs ≡ marked j bs t
unmarked t [] j h = refl
unmarked t (b ∷ bs) j h =
    let p : b ≡ (b || has_var j t) = sym (ap (λ c. b || c) (none_free t j h) ∙ or-false b) in
    let q = unmarked t bs (suc j) (omega arith) in cc

-- A term by its form.
at_node-by : (t : Term) (s : Sym) (As : Tys) (ts : List Term) → t ≡ node s As (terms ts) → (bs : List Boolean) (j k : ℕ) → k ≡ j + binds s → all_marked k bs (terms ts) ≡ marked j bs t
at_node-by t s As ts e [] j k h = refl
at_node-by t s As ts e (b ∷ bs) j k h =
    let p : has_var j t ≡ have_var (j + binds s) (terms ts) = ap (has_var j) e in
    let q : have_var k (terms ts) ≡ have_var (j + binds s) (terms ts) = ap (λ i. have_var i (terms ts)) h in
    let r = at_node-by t s As ts e bs (suc j) (suc k) (omega arith) in cc

pub at_node : (t : Term) (s : Sym) (As : Tys) (ts : List Term) (bs : List Boolean) (j : ℕ) → t ≡ node s As (terms ts) → all_marked (j + binds s) bs (terms ts) ≡ marked j bs t
at_node t s As ts bs j e = at_node-by t s As ts e bs j (j + binds s) refl

pub at_variable : (t : Term) (bs cs : List Boolean) (i j k : ℕ) → Some i ≡ var_of t → j < loose t → k ≡ i - j → cs ≡ marked j bs (var (j + k)) → cs ≡ marked j bs t
at_variable (var m) bs cs i j k e h f g =
    let p : i ≡ m = cc in
    let q : j + k ≡ m = omega arith in
    g ∙ ap (λ x. marked j bs (var x)) q
at_variable (lit n) bs cs i j k e h f g = cc
at_variable (node s As ts) bs cs i j k e h f g = cc

pub at_literal : (t : Term) (bs : List Boolean) (j : ℕ) → None ≡ var_of t → ((s : Sym) (As : Tys) (ts : Terms) → t ≢ node s As ts) → bs ≡ marked j bs t
at_literal (var m) bs j e h = cc
at_literal (lit n) bs j e h = unmarked (lit n) bs j (omega arith)
at_literal (node s As ts) bs j e h = absurd (h s As ts refl)

-- Terms, one by one.
pub none_left : (bs : List Boolean) (j : ℕ) → all_marked j bs nil ≡ bs
none_left [] j = refl
none_left (b ∷ bs) j = let p = or-false b in let q = none_left bs (suc j) in cc

one_marked : (bs : List Boolean) (j : ℕ) (t : Term) (ts : Terms) → all_marked j (marked j bs t) ts ≡ all_marked j bs (cons t ts)
one_marked [] j t ts = refl
one_marked (b ∷ bs) j t ts = let p = or-assoc b (has_var j t) (have_var j ts) in let q = one_marked bs (suc j) t ts in cc

pub one_more : (ts : List Term) (i j : ℕ) (t : Term) (bs cs all : List Boolean) → t ≡ get_or ts i t → i < length ts → cs ≡ marked j bs t →
    all_marked j bs (terms (drop i ts)) ≡ all → all_marked j cs (terms (drop (i + 1) ts)) ≡ all
one_more ts i j t bs cs all p h e q =
    ap (λ us. all_marked j us (terms (drop (i + 1) ts))) e ∙ one_marked bs j t (terms (drop (i + 1) ts))
    ∙ sym (ap (λ us. all_marked j bs (terms us)) (children.drop_at ts i t p h)) ∙ q

pub all_done : (ts : List Term) (i j : ℕ) (bs all : List Boolean) → drop i ts ≡ [] → all_marked j bs (terms (drop i ts)) ≡ all → bs ≡ all
all_done ts i j bs all e q = sym (ap (λ us. all_marked j bs (terms us)) e ∙ none_left bs j) ∙ q

pub ruleset walk = (children.walk, unmarked, at_node, at_variable, at_literal, one_more, all_done)

-- One variable.
same : (i j : ℕ) → i ≡ j → (i == j) ≡ true
same i j e = grind (arith, nat_tests)

other : (i j : ℕ) → i ≢ j → (i == j) ≡ false
other i j e = grind (arith, nat_tests)

pub past : (bs : List Boolean) (i j : ℕ) → length bs ≤ i → bs ≡ marked j bs (var (j + i))
past [] i j h = refl
past (b ∷ bs) i j h =
    let f : (j + i) ≢ j = λ q. omega arith in
    let p : b ≡ (b || (j + i == j)) = sym (ap (λ c. b || c) (other (j + i) j f) ∙ or-false b) in
    let k : ℕ = i - 1 in
    let m : suc j + k ≡ j + i = omega arith in
    let q : bs ≡ marked (suc j) bs (var (j + i)) = past bs k (suc j) (omega arith) ∙ ap (λ x. marked (suc j) bs (var x)) m in cc

beyond : (bs : List Boolean) (i j : ℕ) → i < j → marked j bs (var i) ≡ bs
beyond bs i j h = sym (unmarked (var i) bs j (omega arith))

pub within : (bs : List Boolean) (i j : ℕ) → i < length bs → slice_set bs i true ≡ marked j bs (var (j + i))
within [] i j h = absurd (omega arith)
within (b ∷ bs) zero j h =
    let e : j + 0 ≡ j = omega arith in
    let p : (b || (j + 0 == j)) ≡ true = ap (λ c. b || c) (same (j + 0) j e) ∙ or-true b in
    let q : marked (suc j) bs (var (j + 0)) ≡ bs = beyond bs (j + 0) (suc j) (omega arith) in cc
within (b ∷ bs) (suc i) j h =
    let f : (j + suc i) ≢ j = λ q. omega arith in
    let p : (b || (j + suc i == j)) ≡ b = ap (λ c. b || c) (other (j + suc i) j f) ∙ or-false b in
    let m : suc j + i ≡ j + suc i = omega arith in
    let q : slice_set bs i true ≡ marked (suc j) bs (var (j + suc i)) = within bs i (suc j) (omega arith) ∙ ap (λ x. marked (suc j) bs (var x)) m in cc

pub ruleset variables = (past, within)

-- The marks of a term.
pub first_marked : (n j : ℕ) (t : Term) → marked j (replicate n false) t ≡ occurring j n t
first_marked zero j t = refl
first_marked (suc n) j t = let q = first_marked n (suc j) t in cc

pub length-marked : (bs : List Boolean) (j : ℕ) (t : Term) → length (marked j bs t) ≡ length bs
length-marked [] j t = refl
length-marked (b ∷ bs) j t = ap suc (length-marked bs (suc j) t)

pub length-occurring : (n j : ℕ) (t : Term) → length (occurring j n t) ≡ n
length-occurring zero j t = refl
length-occurring (suc n) j t = ap suc (length-occurring n (suc j) t)

pub ruleset first = (first_marked)

-- The marks of two terms.
pub both_done : (ls rs all : List Boolean) (i : ℕ) → min (length ls) (length rs) ≤ i → all ++ either (drop i ls) (drop i rs) ≡ either ls rs → all ≡ either ls rs
both_done ls rs all i h e = sym (ap (λ us. all ++ us) (none_after ls rs i h) ∙ append_nil all) ∙ e
  where
    no_second : (bs : List Boolean) → either bs [] ≡ []
    no_second [] = refl
    no_second (b ∷ bs) = refl

    none_after : (ls rs : List Boolean) (i : ℕ) → min (length ls) (length rs) ≤ i → either (drop i ls) (drop i rs) ≡ []
    none_after [] rs zero h = refl
    none_after [] rs (suc i) h = refl
    none_after (l ∷ ls) [] zero h = refl
    none_after (l ∷ ls) [] (suc i) h = no_second (drop i ls)
    none_after (l ∷ ls) (r ∷ rs) zero h = absurd (omega arith)
    none_after (l ∷ ls) (r ∷ rs) (suc i) h = none_after ls rs i (omega arith)

pub both_more : (ls rs all next : List Boolean) (i : ℕ) (l r : Boolean) → l ≡ get_or ls i l → r ≡ get_or rs i r → i < min (length ls) (length rs) →
    next ≡ all ++ (l || r) ∷ [] → all ++ either (drop i ls) (drop i rs) ≡ either ls rs → next ++ either (drop (i + 1) ls) (drop (i + 1) rs) ≡ either ls rs
both_more ls rs all next i l r p q h n e =
    ap (λ us. us ++ either (drop (i + 1) ls) (drop (i + 1) rs)) n ∙ append_assoc all ((l || r) ∷ []) (either (drop (i + 1) ls) (drop (i + 1) rs))
    ∙ ap (λ us. all ++ us) (sym (ap (λ us. either us (drop i rs)) (drop_at ls i l p (omega arith)) ∙ ap (either (l ∷ drop (i + 1) ls)) (drop_at rs i r q (omega arith)))) ∙ e

pub ruleset joining = (both_more, both_done)

-- What is kept of a condition.
pub both_marks : (P Q : Term) (m n j : ℕ) → either (occurring j m P) (occurring j n Q) ≡ occurring j (length (either (occurring j m P) (occurring j n Q))) (conj P Q)
unfolding binds
both_marks P Q zero n j = refl
both_marks P Q (suc m) zero j = refl
both_marks P Q (suc m) (suc n) j =
    let q = both_marks P Q m n (suc j) in
    let e : j + 0 ≡ j = omega arith in
    let f : has_var j (conj P Q) ≡ (has_var j P || has_var j Q) = ap (λ k. has_var k P || (has_var k Q || false)) e ∙ ap (λ b. has_var j P || b) (or-false (has_var j Q)) in
    let g = sym f in cc

joined_var : (c : Connective) (P Q : Term) (j : ℕ) → has_var j (joined c P Q) ≡ (has_var j Q || has_var j P)
unfolding binds
joined_var c P Q j = by c
  where
    e : j + 0 ≡ j
    e = omega arith

    form : (has_var (j + 0) P || (has_var (j + 0) Q || false)) ≡ (has_var j Q || has_var j P)
    form = ap (λ k. has_var k P || (has_var k Q || false)) e ∙ ap (λ b. has_var j P || b) (or-false (has_var j Q)) ∙ or-comm (has_var j P) (has_var j Q)

    by : (c : Connective) → has_var j (joined c P Q) ≡ (has_var j Q || has_var j P)
    by And = form
    by Or = form
    by Implies = form
    by Iff = form

pub guarded_marks : (c : Connective) (P Q : Term) (n j : ℕ) → marked j (occurring j n Q) P ≡ occurring j n (joined c P Q)
guarded_marks c P Q zero j = refl
guarded_marks c P Q (suc n) j = let p = joined_var c P Q j in let q = guarded_marks c P Q n (suc j) in cc

pub bound_marks : (A : Ty) (P : Term) (n j : ℕ) → occurring (suc j) n P ≡ occurring j n (forall A P)
unfolding binds
bound_marks A P zero j = refl
bound_marks A P (suc n) j =
    let e : suc j ≡ j + 1 = omega arith in
    let p : has_var (suc j) P ≡ has_var j (forall A P) = ap (λ k. has_var k P) e ∙ sym (or-false (has_var (j + 1) P)) in
    let q = bound_marks A P n (suc j) in cc
