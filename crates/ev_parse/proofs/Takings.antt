-- What readers take, one after the other.
use Rattle.std.proofs.Common.{◌≡◌, ℕ, suc, ◌≤◌, Bool, true, false, List, [], ◌∷◌, ◌++◌, length, refl, ap, subst, sym, ◌∙◌, arith, ◌⊎◌, inl, inr, append-nil, append_assoc, true≢false}
use Rattle.std.specs.Prelude.{Option, Some, None, ◌==◌, ◌||◌, if◌then◌else◌, option_map}
use Rattle.std.specs.List.{list_any}
use Rattle.std.proofs.lemmas.List.Folds.{list_any-append}
use Rattle.std.proofs.lemmas.Bool.{eqb-true, eq-eqb}
use Rattle.ev_syntax.specs.Tokens.{Token, name, number, mark}
use Rattle.ev_syntax.specs.Grammar.{Front, Is, ◌then◌}
use Rattle.ev_parse.specs.Sequences.{Nothing}
use Rattle.ev_parse.specs.inner.Taking.{State, next, next_is, behind, behind_mark, kept, Takes, TakesFrom, Took, joined, single, Tagged, never}
use Rattle.ev_parse.specs.inner.Taking.{both}

-- what is kept
pub both_kept : {A B : Type 0} (da : A → Bool) (db : B → Bool) (a : A) (b : B) (v : Option A) (w : Option B) → v ≡ kept da a → w ≡ kept db b
    → both v w ≡ kept (λ (p : A × B). da p.0 || db p.1) (a, b)
both_kept {A} {B} da db a b v w e f = ap (λ x. both x w) e ∙ ap (λ y. both (kept da a) y) f ∙ go (da a) (db b)
  where
    go : (x y : Bool) → both (if x then None else Some a) (if y then None else Some b) ≡ (if x || y then None else Some (a, b))
    go true y = refl
    go false true = refl
    go false false = refl

pub map_kept : {A B : Type 0} (f : A → B) (da : A → Bool) (d : B → Bool) (a : A) → da a ≡ d (f a) → option_map f (kept da a) ≡ kept d (f a)
map_kept {A} {B} f da d a e = go (da a) ∙ ap (λ x. if x then None else Some (f a)) e
  where
    go : (x : Bool) → option_map f (if x then None else Some a) ≡ (if x then None else Some (f a))
    go true = refl
    go false = refl

pub snoc_kept : {A : Type 0} (d : A → Bool) (done : List A) (a : A) (w : Option (List A)) (x : Option A) → w ≡ kept (list_any d) done → x ≡ kept d a
    → joined w (single x) ≡ kept (list_any d) (done ++ a ∷ [])
snoc_kept {A} d done a w x e f =
    ap (λ y. joined y (single x)) e ∙ ap (λ y. joined (kept (list_any d) done) (single y)) f ∙ go (list_any d done) (d a)
    ∙ ap (λ y. if y then None else Some (done ++ a ∷ [])) (sym (list_any-append d done (a ∷ [])))
  where
    go : (x y : Bool) → joined (if x then None else Some done) (single (if y then None else Some a)) ≡ (if x || (y || false) then None else Some (done ++ a ∷ []))
    go true y = refl
    go false true = refl
    go false false = refl

pub joined_assoc : {A : Type 0} (x y z : Option (List A)) → joined (joined x y) z ≡ joined x (joined y z)
joined_assoc None y z = refl
joined_assoc (Some x) None z = refl
joined_assoc (Some x) (Some y) None = refl
joined_assoc (Some x) (Some y) (Some z) = ap (λ l. Some l) (append_assoc x y z)

pub joined_none : {A : Type 0} (x : Option (List A)) → joined x (Some []) ≡ x
joined_none None = refl
joined_none (Some x) = ap (λ l. Some l) (append-nil x)

pub or_false : (b : Bool) → (b || false) ≡ b
or_false true = refl
or_false false = refl

pub never_any : {A : Type 0} (l : List A) → list_any never l ≡ false
never_any [] = refl
never_any (a ∷ l) = never_any l

-- marks
pub behind_some : (m : ℕ) (ts us : List Token) → behind m ts ≡ Some us → ts ≡ mark m ∷ us
behind_some m [] us e = cc
behind_some m (name n ∷ ts) us e = cc
behind_some m (number n ∷ ts) us e = cc
behind_some m (mark k ∷ ts) us e = go (k == m) refl e
  where
    go : (b : Bool) → (k == m) ≡ b → (if b then Some ts else None) ≡ Some us → mark k ∷ ts ≡ mark m ∷ us
    go true d e = let same : k ≡ m = eqb-true k m d in let rest : ts ≡ us = cc in cc
    go false d e = cc

pub behind_here : (m : ℕ) (us : List Token) → behind m (mark m ∷ us) ≡ Some us
behind_here m us = ap (λ b. if b then Some us else None) (eq-eqb m m refl)

pub behind_none : (m : ℕ) (ts us : List Token) → behind m ts ≡ None → ts ≡ mark m ∷ us → ⊥
behind_none m ts us e d = let f : Some us ≡ None = sym (behind_here m us) ∙ ap (behind m) (sym d) ∙ e in absurd (differ f)
  where
    differ : ◌≡◌ {A = State} (Some us) None → ⊥
    differ f = cc

-- nothing is left once something was refused
refused : {A : Type 0} (r : A → Front) (E : List Token → Type 0) (d : A → Bool) (t u : State) (v : Option A) → t ≡ None → TakesFrom r E d t v u → u ≡ None
refused r E d None u v e k = k
refused r E d (Some us) u v e k = cc

-- one part and then another
then_takes : {A B : Type 0} (ra : A → Front) (rb : B → Front) (Ea Eb : List Token → Type 0) (da : A → Bool) (db : B → Bool) (s t u : State) (v : Option A) (w : Option B)
    → TakesFrom ra Ea da s v t → TakesFrom rb Eb db t w u → ((b : B) (us rest : List Token) → rb b us rest → Eb rest → Ea us)
    → TakesFrom (λ (p : A × B). ra p.0 then rb p.1) Eb (λ p. da p.0 || db p.1) s (both v w) u
then_takes ra rb Ea Eb da db None t u v w h k ties = refused rb Eb db t u w h k
then_takes ra rb Ea Eb da db (Some ts) None None v w h k ties = λ p rest i e. h p.0 i.0 i.1 (ties p.1 i.0 rest i.2 e)
then_takes ra rb Ea Eb da db (Some ts) None (Some xs) v w h k ties = absurd (differ k)
  where
    differ : ◌≡◌ {A = State} (Some xs) None → ⊥
    differ k = cc
then_takes ra rb Ea Eb da db (Some ts) (Some us) None v w h k ties = λ p rest i e.
    let same = h.4 p.0 i.0 i.1 (ties p.1 i.0 rest i.2 e) in k p.1 rest (subst (λ xs. rb p.1 xs rest) same.1 i.2) e
then_takes {A} {B} ra rb Ea Eb da db (Some ts) (Some us) (Some xs) v w h k ties = (
  (h.0, k.0),
  both_kept da db h.0 k.0 v w h.1 k.1,
  (us, h.2, k.2),
  omega (arith, h.3, k.3),
  λ p rest i e. let same = h.4 p.0 i.0 i.1 (ties p.1 i.0 rest i.2 e) in
      let other = k.4 p.1 rest (subst (λ xs. rb p.1 xs rest) same.1 i.2) e in (paired p.0 h.0 p.1 k.0 same.0 other.0, other.1),
)
  where
    paired : (a c : A) (b d : B) → a ≡ c → b ≡ d → ◌≡◌ {A = A × B} (a, b) (c, d)
    paired a c b d e f = ap (λ x. (x, b)) e ∙ ap (λ y. (c, y)) f

pub took_then : {A B : Type 0} {ra : A → Front} {rb : B → Front} {Ea Eb : List Token → Type 0} {da : A → Bool} {db : B → Bool} {s t u : State} {v : Option A} {w : Option B}
    → Took ra Ea da s v t → Took rb Eb db t w u → ((b : B) (us rest : List Token) → rb b us rest → Eb rest → Ea us)
    → Took (λ (p : A × B). ra p.0 then rb p.1) Eb (λ p. da p.0 || db p.1) s (both v w) u
took_then {A} {B} {ra} {rb} {Ea} {Eb} {da} {db} {s} {t} {u} {v} {w} h k ties = record { takes = then_takes ra rb Ea Eb da db s t u v w h.takes k.takes ties }

-- a mark and then a part
mark_takes : {A : Type 0} (r : A → Front) (E : List Token → Type 0) (d : A → Bool) (m : ℕ) (s t u : State) (v : Option A) → t ≡ behind_mark m s → TakesFrom r E d t v u
    → TakesFrom (λ a. Is (mark m) then r a) E d s v u
mark_takes r E d m None t u v e k = refused r E d t u v e k
mark_takes r E d m (Some ts) None None v e k = λ a rest i f. behind_none m ts i.0 (sym e) i.1
mark_takes r E d m (Some ts) None (Some xs) v e k = absurd (differ k)
  where
    differ : ◌≡◌ {A = State} (Some xs) None → ⊥
    differ k = cc
mark_takes r E d m (Some ts) (Some us) None v e k = λ a rest i f.
    let same : i.0 ≡ us = cc (sym i.1 ∙ behind_some m ts us (sym e)) in k a rest (subst (λ xs. r a xs rest) same i.2) f
mark_takes r E d m (Some ts) (Some us) (Some xs) v e k = (
  k.0,
  k.1,
  (us, behind_some m ts us (sym e), k.2),
  let n : length ts ≡ suc (length us) = ap length (behind_some m ts us (sym e)) in omega (arith, k.3),
  λ a rest i f. let same : i.0 ≡ us = cc (sym i.1 ∙ behind_some m ts us (sym e)) in k.4 a rest (subst (λ xs. r a xs rest) same i.2) f,
)

pub mark_took : {A : Type 0} {r : A → Front} {E : List Token → Type 0} {d : A → Bool} {s t u : State} {v : Option A} (m : ℕ) → t ≡ behind_mark m s → Took r E d t v u
    → Took (λ a. Is (mark m) then r a) E d s v u
mark_took {A} {r} {E} {d} {s} {t} {u} {v} m e k = record { takes = mark_takes r E d m s t u v e k.takes }

-- a mark behind a part
end_takes : {A : Type 0} (r : A → Front) (E F : List Token → Type 0) (d : A → Bool) (m : ℕ) (s t u : State) (v : Option A) → TakesFrom r E d s v t → u ≡ behind_mark m t
    → ((us : List Token) → E (mark m ∷ us)) → TakesFrom (λ a. r a then Is (mark m)) F d s v u
end_takes r E F d m None t u v h e stops = e ∙ ap (behind_mark m) h
end_takes r E F d m (Some ts) None None v h e stops = λ a rest i f. h a i.0 i.1 (subst E (sym i.2) (stops rest))
end_takes r E F d m (Some ts) None (Some xs) v h e stops = absurd (differ e)
  where
    differ : ◌≡◌ {A = State} (Some xs) None → ⊥
    differ e = cc
end_takes r E F d m (Some ts) (Some us) None v h e stops = λ a rest i f.
    let same = h.4 a i.0 i.1 (subst E (sym i.2) (stops rest)) in behind_none m us rest (sym e) (sym same.1 ∙ i.2)
end_takes r E F d m (Some ts) (Some us) (Some xs) v h e stops = (
  h.0,
  h.1,
  (us, h.2, behind_some m us xs (sym e)),
  let n : length us ≡ suc (length xs) = ap length (behind_some m us xs (sym e)) in omega (arith, h.3),
  λ a rest i f. let same = h.4 a i.0 i.1 (subst E (sym i.2) (stops rest)) in
      let last : rest ≡ xs = cc (sym i.2 ∙ same.1 ∙ behind_some m us xs (sym e)) in (same.0, last),
)

pub took_end : {A : Type 0} {r : A → Front} {E F : List Token → Type 0} {d : A → Bool} {s t u : State} {v : Option A} (m : ℕ) → Took r E d s v t → u ≡ behind_mark m t
    → ((us : List Token) → E (mark m ∷ us)) → Took (λ a. r a then Is (mark m)) F d s v u
took_end {A} {r} {E} {F} {d} {s} {t} {u} {v} m h e stops = record { takes = end_takes r E F d m s t u v h.takes e stops }

-- the same under another name
as_takes : {A B : Type 0} (r : B → Front) (E : List Token → Type 0) (da : A → Bool) (d : B → Bool) (f : A → B) (s t : State) (v : Option A) (w : Option B)
    → TakesFrom (λ a. r (f a)) E da s v t → ((a : A) → da a ≡ d (f a)) → ((b : B) (ts rest : List Token) → s ≡ Some ts → r b ts rest → (a : A) × (b ≡ f a)) → w ≡ option_map f v
    → TakesFrom r E d s w t
as_takes r E da d f None t v w h deep back e = h
as_takes r E da d f (Some ts) None v w h deep back e = λ b rest i k. let a = back b ts rest refl i in h a.0 rest (subst (λ x. r x ts rest) a.1 i) k
as_takes r E da d f (Some ts) (Some us) v w h deep back e = (
  f h.0,
  e ∙ ap (option_map f) h.1 ∙ map_kept f da d h.0 (deep h.0),
  h.2,
  h.3,
  λ b rest i k. let a = back b ts rest refl i in let same = h.4 a.0 rest (subst (λ x. r x ts rest) a.1 i) k in (a.1 ∙ ap f same.0, same.1),
)

pub took_as : {A B : Type 0} {r : B → Front} {E : List Token → Type 0} {da : A → Bool} {d : B → Bool} {s t : State} {v : Option A} {w : Option B} (f : A → B)
    → Took (λ a. r (f a)) E da s v t → ((a : A) → da a ≡ d (f a)) → ((b : B) (ts rest : List Token) → s ≡ Some ts → r b ts rest → (a : A) × (b ≡ f a)) → w ≡ option_map f v
    → Took r E d s w t
took_as {A} {B} {r} {E} {da} {d} {s} {t} {v} {w} f h deep back e = record { takes = as_takes r E da d f s t v w h.takes deep back e }

-- before less
ends_takes : {A : Type 0} (r : A → Front) (E F : List Token → Type 0) (d : A → Bool) (s t : State) (v : Option A) → ((rest : List Token) → F rest → E rest)
    → TakesFrom r E d s v t → TakesFrom r F d s v t
ends_takes r E F d None t v less h = h
ends_takes r E F d (Some ts) None v less h = λ a rest i e. h a rest i (less rest e)
ends_takes r E F d (Some ts) (Some us) v less h = (h.0, h.1, h.2, h.3, λ a rest i e. h.4 a rest i (less rest e))

pub took_ends : {A : Type 0} {r : A → Front} {E F : List Token → Type 0} {d : A → Bool} {s t : State} {v : Option A} → ((rest : List Token) → F rest → E rest)
    → Took r E d s v t → Took r F d s v t
took_ends {A} {r} {E} {F} {d} {s} {t} {v} less h = record { takes = ends_takes r E F d s t v less h.takes }

-- an optional part that is not there, and one that is
none_takes : {A : Type 0} (r : A → Front) (E : List Token → Type 0) (d : A → Bool) (starts : List Token → Bool) (a : A) (s : State) → next starts s ≡ false → d a ≡ false
    → ((ts : List Token) → r a ts ts) → ((b : A) (ts rest : List Token) → r b ts rest → ((b ≡ a) × (ts ≡ rest)) ⊎ (starts ts ≡ true)) → TakesFrom r E d s (Some a) s
none_takes r E d starts a None h e here cases = refl
none_takes {A} r E d starts a (Some ts) h e here cases =
    (a, sym (ap (λ x. if x then None else Some a) e), here ts, omega arith, λ b rest i k. go b rest (cases b ts rest i))
  where
    go : (b : A) (rest : List Token) → ((b ≡ a) × (ts ≡ rest)) ⊎ (starts ts ≡ true) → (b ≡ a) × (rest ≡ ts)
    go b rest (inl x) = (x.0, sym x.1)
    go b rest (inr x) = absurd (true≢false (sym x ∙ h))

pub took_none : {A : Type 0} {r : A → Front} {E : List Token → Type 0} {d : A → Bool} {s : State} (starts : List Token → Bool) (a : A) → next starts s ≡ false → d a ≡ false
    → ((ts : List Token) → r a ts ts) → ((b : A) (ts rest : List Token) → r b ts rest → ((b ≡ a) × (ts ≡ rest)) ⊎ (starts ts ≡ true)) → Took r E d s (Some a) s
took_none {A} {r} {E} {d} {s} starts a h e here cases = record { takes = none_takes r E d starts a s h e here cases }

some_takes : {A : Type 0} (r q : A → Front) (E : List Token → Type 0) (d : A → Bool) (starts : List Token → Bool) (a : A) (s t : State) (v : Option A) → next starts s ≡ true
    → TakesFrom q E d s v t → ((b : A) (ts rest : List Token) → q b ts rest → r b ts rest)
    → ((b : A) (ts rest : List Token) → r b ts rest → ((b ≡ a) × (ts ≡ rest)) ⊎ q b ts rest) → ((rest : List Token) → E rest → starts rest ≡ false) → TakesFrom r E d s v t
some_takes r q E d starts a None t v h k into cases stops = k
some_takes {A} r q E d starts a (Some ts) None v h k into cases stops = λ b rest i e. go b rest e (cases b ts rest i)
  where
    go : (b : A) (rest : List Token) → E rest → ((b ≡ a) × (ts ≡ rest)) ⊎ q b ts rest → ⊥
    go b rest e (inl x) = true≢false (sym h ∙ ap starts x.1 ∙ stops rest e)
    go b rest e (inr x) = k b rest x e
some_takes {A} r q E d starts a (Some ts) (Some us) v h k into cases stops =
    (k.0, k.1, into k.0 ts us k.2, k.3, λ b rest i e. go b rest e (cases b ts rest i))
  where
    go : (b : A) (rest : List Token) → E rest → ((b ≡ a) × (ts ≡ rest)) ⊎ q b ts rest → (b ≡ k.0) × (rest ≡ us)
    go b rest e (inl x) = absurd (true≢false (sym h ∙ ap starts x.1 ∙ stops rest e))
    go b rest e (inr x) = k.4 b rest x e

pub took_some : {A : Type 0} {r q : A → Front} {E : List Token → Type 0} {d : A → Bool} {s t : State} {v : Option A} (starts : List Token → Bool) (a : A) → next starts s ≡ true
    → Took q E d s v t → ((b : A) (ts rest : List Token) → q b ts rest → r b ts rest)
    → ((b : A) (ts rest : List Token) → r b ts rest → ((b ≡ a) × (ts ≡ rest)) ⊎ q b ts rest) → ((rest : List Token) → E rest → starts rest ≡ false) → Took r E d s v t
took_some {A} {r} {q} {E} {d} {s} {t} {v} starts a h k into cases stops = record { takes = some_takes r q E d starts a s t v h k.takes into cases stops }

-- how much is left
pub left : State → ℕ
left None = 0
left (Some ts) = suc (length ts)

pub mark_falls : (m : ℕ) (s t : State) → next_is m s ≡ true → t ≡ behind_mark m s → suc (left t) ≤ left s
unfolding left
mark_falls m None t h e = cc
mark_falls m (Some []) t h e = cc
mark_falls m (Some (name n ∷ ts)) t h e = cc
mark_falls m (Some (number n ∷ ts)) t h e = cc
mark_falls m (Some (mark k ∷ ts)) t h e =
    let d : t ≡ Some ts = e ∙ ap (λ b. if b then Some ts else None) h in let n : left t ≡ suc (length ts) = ap left d in omega arith

takes_left : {A : Type 0} (r : A → Front) (E : List Token → Type 0) (d : A → Bool) (s t : State) (v : Option A) → TakesFrom r E d s v t → left t ≤ left s
unfolding left
takes_left r E d None t v h = let n : left t ≡ 0 = ap left h in omega arith
takes_left r E d (Some ts) None v h = omega arith
takes_left r E d (Some ts) (Some us) v h = omega (arith, h.3)

pub took_left : {A : Type 0} {r : A → Front} {E : List Token → Type 0} {d : A → Bool} {s t : State} {v : Option A} → Took r E d s v t → left t ≤ left s
took_left {A} {r} {E} {d} {s} {t} {v} h = takes_left r E d s t v h.takes

-- behind a part, nothing
nothing_takes : {A : Type 0} (r : A → Front) (E : List Token → Type 0) (d : A → Bool) (s t : State) (v : Option A) → TakesFrom r E d s v t → TakesFrom (λ a. r a then Nothing) E d s v t
nothing_takes r E d None t v h = h
nothing_takes r E d (Some ts) None v h = λ a rest i e. h a rest (subst (λ xs. r a ts xs) i.2 i.1) e
nothing_takes r E d (Some ts) (Some us) v h = (h.0, h.1, (us, h.2, refl), h.3, λ a rest i e. h.4 a rest (subst (λ xs. r a ts xs) i.2 i.1) e)

pub took_nothing : {A : Type 0} {r : A → Front} {E : List Token → Type 0} {d : A → Bool} {s t : State} {v : Option A} → Took r E d s v t → Took (λ a. r a then Nothing) E d s v t
took_nothing {A} {r} {E} {d} {s} {t} {v} h = record { takes = nothing_takes r E d s t v h.takes }

-- one part, and then another that depends on a tag of the first
tagged_takes : {A B K : Type 0} (ra : A → Front) (q : K → B → Front) (tag : A → K) (k : K) (Ea Eb : List Token → Type 0) (da : A → Bool) (db : B → Bool) (s t u : State) (v : Option A) (w : Option B)
    → TakesFrom ra Ea da s v t → Tagged tag ra s k → TakesFrom (q k) Eb db t w u → ((b : B) (us rest : List Token) → q k b us rest → Eb rest → Ea us)
    → TakesFrom (λ (p : A × B). ra p.0 then q (tag p.0) p.1) Eb (λ p. da p.0 || db p.1) s (both v w) u
tagged_takes ra q tag k Ea Eb da db None t u v w h g i ties = then_takes ra (q k) Ea Eb da db None t u v w h i ties
tagged_takes {A} {B} {K} ra q tag k Ea Eb da db (Some ts) t u v w h g i ties = go u (then_takes ra (q k) Ea Eb da db (Some ts) t u v w h i ties)
  where
    same : (p : A × B) (rest : List Token) → (ra p.0 then q (tag p.0) p.1) ts rest → (ra p.0 then q k p.1) ts rest
    same p rest j = (j.0, j.1, subst (λ x. q x p.1 j.0 rest) (g p.0 j.0 j.1) j.2)

    back : (p : A × B) (rest : List Token) → (ra p.0 then q k p.1) ts rest → (ra p.0 then q (tag p.0) p.1) ts rest
    back p rest j = (j.0, j.1, subst (λ x. q x p.1 j.0 rest) (sym (g p.0 j.0 j.1)) j.2)

    go : (u : State) → Takes (λ (p : A × B). ra p.0 then q k p.1) Eb (λ p. da p.0 || db p.1) ts (both v w) u
        → Takes (λ (p : A × B). ra p.0 then q (tag p.0) p.1) Eb (λ p. da p.0 || db p.1) ts (both v w) u
    go None x = λ p rest j e. x p rest (same p rest j) e
    go (Some us) x = (x.0, x.1, back x.0 us x.2, x.3, λ p rest j e. x.4 p rest (same p rest j) e)

pub tagged_then : {A B K : Type 0} {ra : A → Front} {Ea Eb : List Token → Type 0} {da : A → Bool} {db : B → Bool} {s t u : State} {v : Option A} {w : Option B} (q : K → B → Front) (tag : A → K) (k : K)
    → Took ra Ea da s v t → Tagged tag ra s k → Took (q k) Eb db t w u → ((b : B) (us rest : List Token) → q k b us rest → Eb rest → Ea us)
    → Took (λ (p : A × B). ra p.0 then q (tag p.0) p.1) Eb (λ p. da p.0 || db p.1) s (both v w) u
tagged_then {A} {B} {K} {ra} {Ea} {Eb} {da} {db} {s} {t} {u} {v} {w} q tag k h g i ties = record { takes = tagged_takes ra q tag k Ea Eb da db s t u v w h.takes g i.takes ties }

-- what takes tokens leaves fewer
strict_left : {A : Type 0} (r : A → Front) (E : List Token → Type 0) (d : A → Bool) (starts : List Token → Bool) (s t : State) (v : Option A)
    → ((a : A) (ts rest : List Token) → r a ts rest → suc (length rest) ≤ length ts) → next starts s ≡ true → TakesFrom r E d s v t → suc (left t) ≤ left s
unfolding left
strict_left r E d starts None t v strict n h = absurd (true≢false (sym n))
strict_left r E d starts (Some ts) None v strict n h = omega arith
strict_left r E d starts (Some ts) (Some us) v strict n h = omega (arith, strict h.0 ts us h.2)

pub took_strict : {A : Type 0} {r : A → Front} {E : List Token → Type 0} {d : A → Bool} {s t : State} {v : Option A} (starts : List Token → Bool)
    → ((a : A) (ts rest : List Token) → r a ts rest → suc (length rest) ≤ length ts) → next starts s ≡ true → Took r E d s v t → suc (left t) ≤ left s
took_strict {A} {r} {E} {d} {s} {t} {v} starts strict n h = strict_left r E d starts s t v strict n h.takes
