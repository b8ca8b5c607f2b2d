-- Lists with others in place of one item, and lists of typed terms.
use Rattle.std.specs.Prelude.{◌≡◌, ◌+◌, ◌++◌, ◌<◌, ℕ, zero, suc, List, [], ◌∷◌, Some, map, length, take, drop, slice_get, refl}
use Rattle.std.proofs.Common.{ap, sym, ◌∙◌, subst as transport, arith}
use Rattle.std.proofs.lemmas.List.{map-append, take-map}
use Rattle.ev_terms.specs.declared.types.Ty.{Ty}
use Rattle.ev_terms.specs.Term.{Term, terms}
use Rattle.ev_terms.specs.Substitution.{type_inst}
use Rattle.ev_typing.specs.Env.{Env}
use Rattle.ev_typing.specs.Typing.{Typed, AreTyped}
use Rattle.ev_typing.specs.WellFormed.{spliced}
use Rattle.ev_data.proofs.Lists.{spliced-suc}

next : (k : ℕ) → suc k + 1 ≡ suc (k + 1)
next k = omega arith

module _ {X : Type 0} where
  within : (xs : List X) (k : ℕ) (x : X) → slice_get xs k ≡ Some x → k < length xs
  within [] k x h = cc
  within (y ∷ xs) zero x h = omega arith
  within (y ∷ xs) (suc k) x h = omega (arith, within xs k x h)

  take_front : (xs ys : List X) (k : ℕ) → k < length xs → take k (spliced xs k ys) ≡ take k xs
  take_front [] ys k h = absurd (omega (arith, h))
  take_front (x ∷ xs) ys zero h = refl
  take_front (x ∷ xs) ys (suc k) h = ap (take (suc k)) (spliced-suc x xs k ys) ∙ ap (λ zs. x ∷ zs) (take_front xs ys k (omega (arith, h)))

  drop_front : (xs ys : List X) (k : ℕ) → k < length xs → drop k (spliced xs k ys) ≡ ys ++ drop (k + 1) xs
  drop_front [] ys k h = absurd (omega (arith, h))
  drop_front (x ∷ xs) ys zero h = refl
  drop_front (x ∷ xs) ys (suc k) h =
      ap (drop (suc k)) (spliced-suc x xs k ys) ∙ drop_front xs ys k (omega (arith, h)) ∙ ap (λ j. ys ++ drop j (x ∷ xs)) (sym (next k))

  take_middle : (ys zs : List X) → take (length ys) (ys ++ zs) ≡ ys
  take_middle [] zs = refl
  take_middle (y ∷ ys) zs = ap (λ us. y ∷ us) (take_middle ys zs)

  drop_middle : (ys zs : List X) → drop (length ys) (ys ++ zs) ≡ zs
  drop_middle [] zs = refl
  drop_middle (y ∷ ys) zs = drop_middle ys zs

  abbrev none : List X
  none = []

  drop_none : (j : ℕ) → drop j none ≡ none
  drop_none zero = refl
  drop_none (suc j) = refl

  drop_more : (xs : List X) (k m : ℕ) → drop (k + m) xs ≡ drop m (drop k xs)
  drop_more xs zero m = let e : zero + m ≡ m = omega arith in ap (λ j. drop j xs) e
  drop_more [] (suc k) m = drop_none (suc k + m) ∙ sym (drop_none m)
  drop_more (x ∷ xs) (suc k) m = let e : suc k + m ≡ suc (k + m) = omega arith in ap (λ j. drop j (x ∷ xs)) e ∙ drop_more xs k m

  drop_back : (xs ys : List X) (k : ℕ) → k < length xs → drop (k + length ys) (spliced xs k ys) ≡ drop (k + 1) xs
  drop_back xs ys k h = drop_more (spliced xs k ys) k (length ys) ∙ ap (drop (length ys)) (drop_front xs ys k h) ∙ drop_middle ys (drop (k + 1) xs)

  split_at : (xs : List X) (k : ℕ) (x : X) → slice_get xs k ≡ Some x → take k xs ++ x ∷ drop (k + 1) xs ≡ xs
  split_at [] k x h = cc
  split_at (y ∷ xs) zero x h = let e : y ≡ x = cc in ap (λ z. z ∷ xs) (sym e)
  split_at (y ∷ xs) (suc k) x h = ap (λ j. take (suc k) (y ∷ xs) ++ x ∷ drop j (y ∷ xs)) (next k) ∙ ap (λ ys. y ∷ ys) (split_at xs k x h)

  -- what is spliced in is found there, and the item may stand in its place again
  pub middle_is : (xs ys : List X) (k : ℕ) (x : X) → slice_get xs k ≡ Some x → take (length ys) (drop k (spliced xs k ys)) ≡ ys
  middle_is xs ys k x h = ap (take (length ys)) (drop_front xs ys k (within xs k x h)) ∙ take_middle ys (drop (k + 1) xs)

  pub put_back : (xs ys : List X) (k : ℕ) (x : X) → slice_get xs k ≡ Some x → take k (spliced xs k ys) ++ (x ∷ drop (k + length ys) (spliced xs k ys)) ≡ xs
  put_back xs ys k x h =
      ap (λ us. us ++ (x ∷ drop (k + length ys) (spliced xs k ys))) (take_front xs ys k (within xs k x h))
      ∙ ap (λ us. take k xs ++ (x ∷ us)) (drop_back xs ys k (within xs k x h)) ∙ split_at xs k x h

pub drop_map : {X Y : Type 0} (f : X → Y) (n : ℕ) (xs : List X) → drop n (map f xs) ≡ map f (drop n xs)
drop_map f zero xs = refl
drop_map f (suc n) [] = refl
drop_map f (suc n) (x ∷ xs) = drop_map f n xs

pub spliced_map : {X Y : Type 0} (f : X → Y) (xs ys : List X) (k : ℕ) → map f (spliced xs k ys) ≡ spliced (map f xs) k (map f ys)
spliced_map f xs ys k =
    map-append f (take k xs) (ys ++ drop (k + 1) xs) ∙ ap (λ us. map f (take k xs) ++ us) (map-append f ys (drop (k + 1) xs))
    ∙ ap (λ us. us ++ (map f ys ++ map f (drop (k + 1) xs))) (sym (take-map f k xs)) ∙ ap (λ us. take k (map f xs) ++ (map f ys ++ us)) (sym (drop_map f (k + 1) xs))

-- Lists of typed terms.
take_typed : (env : Env) (C : List Ty) (k : ℕ) (ts : List Term) (As : List Ty) → AreTyped env C (terms ts) As → AreTyped env C (terms (take k ts)) (take k As)
take_typed env C zero ts As h = tt
take_typed env C (suc k) [] [] h = tt
take_typed env C (suc k) [] (A ∷ As) h = absurd h
take_typed env C (suc k) (t ∷ ts) [] h = absurd h
take_typed env C (suc k) (t ∷ ts) (A ∷ As) h = (h.0, take_typed env C k ts As h.1)

drop_typed : (env : Env) (C : List Ty) (k : ℕ) (ts : List Term) (As : List Ty) → AreTyped env C (terms ts) As → AreTyped env C (terms (drop k ts)) (drop k As)
drop_typed env C zero ts As h = h
drop_typed env C (suc k) [] [] h = tt
drop_typed env C (suc k) [] (A ∷ As) h = absurd h
drop_typed env C (suc k) (t ∷ ts) [] h = absurd h
drop_typed env C (suc k) (t ∷ ts) (A ∷ As) h = drop_typed env C k ts As h.1

join_typed : (env : Env) (C : List Ty) (ts us : List Term) (As Bs : List Ty) → AreTyped env C (terms ts) As → AreTyped env C (terms us) Bs → AreTyped env C (terms (ts ++ us)) (As ++ Bs)
join_typed env C [] us [] Bs h g = g
join_typed env C [] us (A ∷ As) Bs h g = absurd h
join_typed env C (t ∷ ts) us [] Bs h g = absurd h
join_typed env C (t ∷ ts) us (A ∷ As) Bs h g = (h.0, join_typed env C ts us As Bs h.1 g)

pub spliced_typed : (env : Env) (C : List Ty) (ts us : List Term) (As Bs : List Ty) (k : ℕ) → AreTyped env C (terms ts) As → AreTyped env C (terms us) Bs → AreTyped env C (terms (spliced ts k us)) (spliced As k Bs)
spliced_typed env C ts us As Bs k h g =
    join_typed env C (take k ts) (us ++ drop (k + 1) ts) (take k As) (Bs ++ drop (k + 1) As) (take_typed env C k ts As h)
    (join_typed env C us (drop (k + 1) ts) Bs (drop (k + 1) As) g (drop_typed env C (k + 1) ts As h))

-- the term at a place has the type at this place
pub typed_at : (env : Env) (C : List Ty) (θ : ℕ → Ty) (ts : List Term) (Es : List Ty) (i : ℕ) (t : Term) (E : Ty) → AreTyped env C (terms ts) (map (type_inst θ) Es) → slice_get ts i ≡ Some t → slice_get Es i ≡ Some E →
    Typed env C t (type_inst θ E)
typed_at env C θ [] Es i t E h e f = cc
typed_at env C θ (u ∷ ts) [] i t E h e f = absurd h
typed_at env C θ (u ∷ ts) (F ∷ Es) zero t E h e f =
    let q : u ≡ t = cc in
    let r : F ≡ E = cc in
    transport (λ x. Typed env C x (type_inst θ E)) q (transport (λ X. Typed env C u (type_inst θ X)) r h.0)
typed_at env C θ (u ∷ ts) (F ∷ Es) (suc i) t E h e f = typed_at env C θ ts Es i t E h.1 e f
