-- What the marks of type parameters are.
use Rattle.std.proofs.Common.{◌≡◌, ◌≢◌, ℕ, zero, suc, ◌+◌, ◌≤◌, ◌<◌, Bool as Boolean, true, false, cond, List, [], ◌∷◌, ◌++◌, length, drop, get_or, replicate, max, append_assoc, ap, sym, ◌∙◌, refl, arith, add-one}
use Rattle.std.specs.Prelude.{◌||◌, ◌==◌, slice_set, filter}
use Rattle.std.specs.List.{list_any, range_with_len}
use Rattle.std.proofs.lemmas.Bool.Decides.{nat_tests}
use Rattle.ev_terms.specs.declared.types.Ty.{Ty, Int, Bool, Prop, Param, Data}
use Rattle.ev_terms.specs.declared.types.Ty.TheVariants.{Pow, Prod}
use Rattle.ev_terms.specs.declared.types.Tys.{Tys, Empty}
use Rattle.ev_terms.specs.declared.types.Tys.TheVariants.{More}
use Rattle.ev_terms.specs.declared.types.Sym.{Sym}
use Rattle.ev_terms.specs.Types.{pow, prod, more, Pow-pow, Prod-prod, More-more}
use Rattle.ev_terms.specs.Term.{Term, Terms, var, lit, node, nil, cons, terms}
use Rattle.ev_terms.specs.Measures.{params, all_params, types_params, type_params}
use Rattle.ev_terms.proofs.Children as children
use Rattle.ev_typing.proofs.Names.{drop_at, drop_all}
use Rattle.ev_typing.specs.Occurs.{has_param, have_param, mentions_param, mention_param}
use Rattle.ev_rules.specs.Params.{occurs_in, params_of}
use Rattle.ev_rules.specs.inner.Marks.{marked, numbers}

-- Marks by equal tests, by none and by two.
or-false : (b : Boolean) → (b || false) ≡ b
or-false true = refl
or-false false = refl

or-true : (b : Boolean) → (b || true) ≡ true
or-true true = refl
or-true false = refl

or-assoc : (a b c : Boolean) → ((a || b) || c) ≡ (a || (b || c))
or-assoc true b c = refl
or-assoc false b c = refl

pub marked_same : (j : ℕ) (p q : ℕ → Boolean) (bs : List Boolean) → ((i : ℕ) → p i ≡ q i) → marked j p bs ≡ marked j q bs
marked_same j p q [] h = refl
marked_same j p q (b ∷ bs) h = let e = h j in let f = marked_same (suc j) p q bs h in cc

pub marked_none : (j : ℕ) (p : ℕ → Boolean) (bs : List Boolean) → ((i : ℕ) → p i ≡ false) → bs ≡ marked j p bs
marked_none j p [] h = refl
marked_none j p (b ∷ bs) h =
    let e : b ≡ (b || p j) = sym (ap (λ c. b || c) (h j) ∙ or-false b) in
    let f = marked_none (suc j) p bs h in cc

pub marked_both : (j : ℕ) (p q : ℕ → Boolean) (bs : List Boolean) → marked j q (marked j p bs) ≡ marked j (λ i. p i || q i) bs
marked_both j p q [] = refl
marked_both j p q (b ∷ bs) = let e = or-assoc b (p j) (q j) in let f = marked_both (suc j) p q bs in cc

-- One parameter.
same : (i j : ℕ) → i ≡ j → (i == j) ≡ true
same i j e = grind (arith, nat_tests)

other : (i j : ℕ) → i ≢ j → (i == j) ≡ false
other i j e = grind (arith, nat_tests)

untouched : (bs : List Boolean) (i j : ℕ) → i < j → bs ≡ marked j (λ k. i == k) bs
untouched [] i j h = refl
untouched (b ∷ bs) i j h =
    let f : i ≢ j = λ q. omega arith in
    let e : b ≡ (b || (i == j)) = sym (ap (λ c. b || c) (other i j f) ∙ or-false b) in
    let g = untouched bs i (suc j) (omega arith) in cc

past_from : (bs : List Boolean) (i j : ℕ) → j + length bs ≤ i → bs ≡ marked j (λ k. i == k) bs
past_from [] i j h = refl
past_from (b ∷ bs) i j h =
    let f : i ≢ j = λ q. omega arith in
    let e : b ≡ (b || (i == j)) = sym (ap (λ c. b || c) (other i j f) ∙ or-false b) in
    let g = past_from bs i (suc j) (omega arith) in cc

within_from : (bs : List Boolean) (k j i : ℕ) → k < length bs → i ≡ j + k → slice_set bs k true ≡ marked j (λ n. i == n) bs
within_from [] k j i h e = absurd (omega arith)
within_from (b ∷ bs) zero j i h e =
    let p : (b || (i == j)) ≡ true = ap (λ c. b || c) (same i j (omega arith)) ∙ or-true b in
    let q : bs ≡ marked (suc j) (λ n. i == n) bs = untouched bs i (suc j) (omega arith) in cc
within_from (b ∷ bs) (suc k) j i h e =
    let f : i ≢ j = λ q. omega arith in
    let p : (b || (i == j)) ≡ b = ap (λ c. b || c) (other i j f) ∙ or-false b in
    let q : slice_set bs k true ≡ marked (suc j) (λ n. i == n) bs = within_from bs k (suc j) i (omega arith) (omega arith) in cc

pub past : (bs : List Boolean) (i : ℕ) → length bs ≤ i → bs ≡ marked 0 (λ k. i == k) bs
past bs i h = past_from bs i 0 (omega arith)

pub within : (bs : List Boolean) (i : ℕ) → i < length bs → slice_set bs i true ≡ marked 0 (λ k. i == k) bs
within bs i h = within_from bs i 0 i h (omega arith)

pub ruleset single = (past, within)

-- Types by their forms.
pub at_none : (A : Ty) (bs : List Boolean) → ((i : ℕ) → has_param i A ≡ false) → bs ≡ marked 0 (λ j. has_param j A) bs
at_none A bs h = marked_none 0 (λ j. has_param j A) bs h

pub at_set : (C A B : Ty) (bs cs : List Boolean) → C ≡ Pow A → B ≡ A → cs ≡ marked 0 (λ j. has_param j B) bs → cs ≡ marked 0 (λ j. has_param j C) bs
at_set C A B bs cs e p q =
    q ∙ marked_same 0 (λ j. has_param j B) (λ j. has_param j C) bs (λ i. ap (has_param i) p ∙ sym (ap (has_param i) (e ∙ Pow-pow A)))

pub at_pair : (C A B A' B' : Ty) (bs cs ds : List Boolean) → C ≡ Prod A B → A' ≡ A → B' ≡ B → cs ≡ marked 0 (λ j. has_param j A') bs → ds ≡ marked 0 (λ j. has_param j B') cs →
    ds ≡ marked 0 (λ j. has_param j C) bs
at_pair C A B A' B' bs cs ds e p q f g =
    g ∙ ap (marked 0 (λ j. has_param j B')) f ∙ marked_both 0 (λ j. has_param j A') (λ j. has_param j B') bs
    ∙ marked_same 0 (λ j. has_param j A' || has_param j B') (λ j. has_param j C) bs
    (λ i. ap (λ X. has_param i X || has_param i B') p ∙ ap (λ X. has_param i A || has_param i X) q ∙ sym (ap (has_param i) (e ∙ Prod-prod A B)))

-- Types of a list, one by one.
pub types_more : (left rest got : Tys) (A A' : Ty) (bs cs all : List Boolean) → left ≡ More A rest → got ≡ rest → A' ≡ A → cs ≡ marked 0 (λ j. has_param j A') bs →
    marked 0 (λ j. have_param j left) bs ≡ all → marked 0 (λ j. have_param j got) cs ≡ all
types_more left rest got A A' bs cs all e p q f g =
    ap (marked 0 (λ j. have_param j got)) f ∙ marked_both 0 (λ j. has_param j A') (λ j. have_param j got) bs
    ∙ marked_same 0 (λ j. has_param j A' || have_param j got) (λ j. have_param j left) bs
    (λ i. ap (λ X. has_param i X || have_param i got) q ∙ ap (λ X. has_param i A || have_param i X) p ∙ sym (ap (have_param i) (e ∙ More-more A rest)))
    ∙ g

pub types_done : (bs all : List Boolean) (left : Tys) → ((A : Ty) (rest : Tys) → left ≢ More A rest) → marked 0 (λ j. have_param j left) bs ≡ all → bs ≡ all
types_done bs all Empty e g = marked_none 0 (λ j. have_param j Empty) bs (λ i. refl) ∙ g
types_done bs all (more A rest) e g = absurd (e A rest (sym (More-more A rest)))

-- Terms.
no_left : (a b : Boolean) → a ≡ false → b ≡ false → (a || b) ≡ false
no_left a b e f = cc

mutual
  bare_type : (A : Ty) (j : ℕ) → type_params A ≤ j → has_param j A ≡ false
  bare_type Int j h = refl
  bare_type Bool j h = refl
  bare_type Prop j h = refl
  bare_type (Param i) j h = other i j (λ e. omega arith)
  bare_type (pow A) j h = bare_type A j h
  bare_type (prod A B) j h = no_left (has_param j A) (has_param j B) (bare_type A j (omega arith)) (bare_type B j (omega arith))
  bare_type (Data n As) j h = bare_types As j h

  pub bare_types : (As : Tys) (j : ℕ) → types_params As ≤ j → have_param j As ≡ false
  bare_types Empty j h = refl
  bare_types (more A As) j h = no_left (has_param j A) (have_param j As) (bare_type A j (omega arith)) (bare_types As j (omega arith))

mutual
  pub bare : (t : Term) (j : ℕ) → params t ≤ j → mentions_param j t ≡ false
  bare (var i) j h = refl
  bare (lit n) j h = refl
  bare (node s As ts) j h = no_left (have_param j As) (mention_param j ts) (bare_types As j (omega arith)) (bare_all ts j (omega arith))

  bare_all : (ts : Terms) (j : ℕ) → all_params ts ≤ j → mention_param j ts ≡ false
  bare_all nil j h = refl
  bare_all (cons t ts) j h = no_left (mentions_param j t) (mention_param j ts) (bare t j (omega arith)) (bare_all ts j (omega arith))

pub at_bare : (t : Term) (bs : List Boolean) → params t ≡ 0 → bs ≡ marked 0 (λ j. mentions_param j t) bs
at_bare t bs e = marked_none 0 (λ j. mentions_param j t) bs (λ i. bare t i (omega (arith, e)))

pub at_leaf : (t : Term) (bs : List Boolean) → ((s : Sym) (As : Tys) (ts : Terms) → t ≢ node s As ts) → bs ≡ marked 0 (λ j. mentions_param j t) bs
at_leaf (var i) bs h = marked_none 0 (λ j. mentions_param j (var i)) bs (λ k. refl)
at_leaf (lit n) bs h = marked_none 0 (λ j. mentions_param j (lit n)) bs (λ k. refl)
at_leaf (node s As ts) bs h = absurd (h s As ts refl)

pub at_node : (t : Term) (s : Sym) (As : Tys) (ts : List Term) (bs cs ds : List Boolean) → t ≡ node s As (terms ts) → cs ≡ marked 0 (λ j. have_param j As) bs →
    ds ≡ marked 0 (λ j. mention_param j (terms ts)) cs → ds ≡ marked 0 (λ j. mentions_param j t) bs
at_node t s As ts bs cs ds e f g =
    g ∙ ap (marked 0 (λ j. mention_param j (terms ts))) f ∙ marked_both 0 (λ j. have_param j As) (λ j. mention_param j (terms ts)) bs
    ∙ marked_same 0 (λ j. have_param j As || mention_param j (terms ts)) (λ j. mentions_param j t) bs (λ i. sym (ap (mentions_param i) e))

-- Terms, one by one.
pub one_more : (ts : List Term) (i : ℕ) (t : Term) (bs cs all : List Boolean) → t ≡ get_or ts i t → i < length ts → cs ≡ marked 0 (λ j. mentions_param j t) bs →
    marked 0 (λ j. mention_param j (terms (drop i ts))) bs ≡ all → marked 0 (λ j. mention_param j (terms (drop (i + 1) ts))) cs ≡ all
one_more ts i t bs cs all p h e q =
    ap (marked 0 (λ j. mention_param j (terms (drop (i + 1) ts)))) e ∙ marked_both 0 (λ j. mentions_param j t) (λ j. mention_param j (terms (drop (i + 1) ts))) bs
    ∙ sym (ap (λ us. marked 0 (λ j. mention_param j (terms us)) bs) (children.drop_at ts i t p h)) ∙ q

pub all_done : (ts : List Term) (i : ℕ) (bs all : List Boolean) → length ts ≤ i → marked 0 (λ j. mention_param j (terms (drop i ts))) bs ≡ all → bs ≡ all
all_done ts i bs all h q =
    marked_none 0 (λ j. mention_param j nil) bs (λ k. refl) ∙ sym (ap (λ us. marked 0 (λ j. mention_param j (terms us)) bs) (children.drop_all ts i h)) ∙ q

-- The greatest parameter.
pub greatest_more : (ts : List Term) (i : ℕ) (t : Term) (m n all : ℕ) → t ≡ get_or ts i t → i < length ts → n ≡ max m (params t) → max m (all_params (terms (drop i ts))) ≡ all →
    max n (all_params (terms (drop (i + 1) ts))) ≡ all
greatest_more ts i t m n all p h e q =
    let d : all_params (terms (drop i ts)) ≡ max (params t) (all_params (terms (drop (i + 1) ts))) = ap (λ us. all_params (terms us)) (children.drop_at ts i t p h) in
    omega (arith, d, e, q)

pub greatest_done : (ts : List Term) (i m all : ℕ) → length ts ≤ i → max m (all_params (terms (drop i ts))) ≡ all → m ≡ all
greatest_done ts i m all h q =
    let d : all_params (terms (drop i ts)) ≡ 0 = ap (λ us. all_params (terms us)) (children.drop_all ts i h) in
    omega (arith, d, q)

pub ruleset greatest = (greatest_more, greatest_done)

-- The numbers that are marked.
pub read_more : (bs : List Boolean) (i : ℕ) (b : Boolean) (ns ms all : List ℕ) → b ≡ get_or bs i b → i < length bs → ms ≡ cond b (ns ++ i ∷ []) ns → ns ++ numbers i (drop i bs) ≡ all →
    ms ++ numbers (i + 1) (drop (i + 1) bs) ≡ all
read_more bs i b ns ms all p h e q = ap (λ xs. xs ++ numbers (i + 1) (drop (i + 1) bs)) e ∙ by b refl ∙ q
  where
    k : i + 1 ≡ suc i
    k = omega arith

    front : numbers i (drop i bs) ≡ numbers i (b ∷ drop (i + 1) bs)
    front = ap (numbers i) (drop_at bs i b p h)

    by : (c : Boolean) → b ≡ c → cond c (ns ++ i ∷ []) ns ++ numbers (i + 1) (drop (i + 1) bs) ≡ ns ++ numbers i (drop i bs)
    by true f =
        append_assoc ns (i ∷ []) (numbers (i + 1) (drop (i + 1) bs))
        ∙ ap (λ m. ns ++ (i ∷ numbers m (drop (i + 1) bs))) k
        ∙ sym (ap (λ xs. ns ++ xs) (front ∙ ap (λ c. numbers i (c ∷ drop (i + 1) bs)) f))
    by false f =
        ap (λ m. ns ++ numbers m (drop (i + 1) bs)) k
        ∙ sym (ap (λ xs. ns ++ xs) (front ∙ ap (λ c. numbers i (c ∷ drop (i + 1) bs)) f))

append_nil : {X : Type 0} (xs : List X) → xs ++ [] ≡ xs
append_nil [] = refl
append_nil (x ∷ xs) = ap (λ ys. x ∷ ys) (append_nil xs)

pub read_done : (bs : List Boolean) (i : ℕ) (ns all : List ℕ) → length bs ≤ i → ns ++ numbers i (drop i bs) ≡ all → ns ≡ all
read_done bs i ns all h q = sym (append_nil ns) ∙ sym (ap (λ xs. ns ++ numbers i xs) (drop_all bs i h)) ∙ q

-- All together.
mention_any : (ts : List Term) (j : ℕ) → mention_param j (terms ts) ≡ list_any (mentions_param j) ts
mention_any [] j = refl
mention_any (t ∷ ts) j = ap (λ b. mentions_param j t || b) (mention_any ts j)

numbers_filter : (n j : ℕ) (test : ℕ → Boolean) → numbers j (marked j test (replicate n false)) ≡ filter test (range_with_len j n)
numbers_filter zero j test = refl
numbers_filter (suc n) j test =
    by (test j) (numbers_filter n (suc j) test ∙ ap (λ k. filter test (range_with_len k n)) (sym (add-one j)))
  where
    by : (b : Boolean) → numbers (suc j) (marked (suc j) test (replicate n false)) ≡ filter test (range_with_len (j + 1) n) →
        cond b (j ∷ numbers (suc j) (marked (suc j) test (replicate n false))) (numbers (suc j) (marked (suc j) test (replicate n false))) ≡
        cond b (j ∷ filter test (range_with_len (j + 1) n)) (filter test (range_with_len (j + 1) n))
    by true e = ap (λ xs. j ∷ xs) e
    by false e = e

pub all_found : (ts : List Term) (As : Tys) (n : ℕ) (bs ds : List Boolean) (ids : List ℕ) → n ≡ max (all_params (terms ts)) (types_params As) → bs ≡ replicate n false →
    ds ≡ marked 0 (λ j. have_param j As) (marked 0 (λ j. mention_param j (terms ts)) bs) → ids ≡ numbers 0 ds → ids ≡ params_of ts As
all_found ts As n bs ds ids e f g k =
    k ∙ ap (numbers 0) (g ∙ ap (λ xs. marked 0 (λ j. have_param j As) (marked 0 (λ j. mention_param j (terms ts)) xs)) f
    ∙ marked_both 0 (λ j. mention_param j (terms ts)) (λ j. have_param j As) (replicate n false)
    ∙ marked_same 0 (λ j. mention_param j (terms ts) || have_param j As) (occurs_in ts As) (replicate n false) (λ i. ap (λ b. b || have_param i As) (mention_any ts i)))
    ∙ numbers_filter n 0 (occurs_in ts As) ∙ ap (λ m. filter (occurs_in ts As) (range_with_len 0 m)) e

pub ruleset found = (all_found)

pub ruleset read = (read_more, read_done)

pub ruleset walk = (children.walk, at_bare, at_leaf, at_node, one_more, all_done)

pub ruleset types = (children.types_walk, at_none, at_set, at_pair)
