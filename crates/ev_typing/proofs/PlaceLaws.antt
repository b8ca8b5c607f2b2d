-- Where the names of an environment stand, and the map that keeps it.
use Rattle.std.specs.Prelude.{◌≡◌, ◌||◌, ℕ, zero, suc, ◌+◌, ◌≤◌, nat_lt, map, Bool as Boolean, true, false, cond, List, [], ◌∷◌, ◌++◌, Option, Some, None, length, slice_get, take, reverse, flat_map, bytes_eq, option_map, not, if◌then◌else◌, refl}
use Rattle.std.specs.Option.{option_and_then}
use Rattle.std.specs.List.{AllByRecursion, IsDistinct, list_any, enumerate_from, position, position_or_len}
use Rattle.std.specs.HashMap.{HashMap, get}
use Rattle.std.specs.Map.{lookup, keys_of}
use Rattle.std.proofs.Common.{ap, sym, ◌∙◌, subst, append_assoc, true≢false, arith, ⊎_elim}
use Rattle.std.proofs.lemmas.Bool.{cases_Bool}
use Rattle.std.proofs.lemmas.List.{reverse-append}
use Rattle.std.proofs.lemmas.Bool.Decides.{nat_tests}
use Rattle.std.proofs.lemmas.Grind.{flat_map-append}
use Rattle.indexmap.specs.IndexMap.{insert_entry}
use Rattle.ev_typing.specs.declared.typing.Entry.{Entry}
use Rattle.ev_typing.specs.declared.typing.Entry.TheVariants.{Data, Constant, Direct, Recursive}
use Rattle.ev_typing.specs.declared.typing.DataDecl.{DataDecl}
use Rattle.ev_typing.specs.declared.typing.Con.{Con}
use Rattle.ev_typing.specs.declared.typing.Var.{Var}
use Rattle.ev_typing.specs.declared.environment.places.Place.{Place}
use Rattle.ev_typing.specs.declared.environment.places.Part.TheVariants.{Whole, Constructor, Destructor}
use Rattle.ev_typing.specs.Env.{Env, Name, Symbol, ConOf, DesOf, ConstantOf, DirectOf, RecursiveOf, look_up, con_symbols, symbols, names, declares, declaring, find_symbol}
use Rattle.ev_typing.specs.WellFormed.{AreGoodAfter, IsWellFormed}
use Rattle.ev_typing.specs.inner.Places.{place, field_places, con_places, first_name, later_places, entry_places, places_from, AreKept, symbol_at, symbol_in, all_con_names}
use Rattle.ev_typing.proofs.Names.{same_name, name_same, apart_flip, names_of_data, well_formed_with, empty_well_formed, drop_at, drop_all, append_nil}
use Rattle.ev_typing.proofs.Entries.{distinct_left, distinct_right, distinct_apart, absent, find_symbol-declaring}

same_flip : (m n : Name) → bytes_eq m n ≡ bytes_eq n m
same_flip m n =
    ⊎_elim (λ y. y ∙ sym (ap (bytes_eq n) (same_name m n y) ∙ name_same n)) (λ z. z ∙ sym (apart_flip m n z)) (cases_Bool (bytes_eq m n))

-- The keys are the names.
keys_append : (xs ys : List (Name × Place)) → keys_of (xs ++ ys) ≡ keys_of xs ++ keys_of ys
keys_append [] ys = refl
keys_append (x ∷ xs) ys = ap (λ ns. x.0 ∷ ns) (keys_append xs ys)

field_keys : (k i j : ℕ) (fs : List Var) → keys_of (field_places k i j fs) ≡ map (λ (f : Var). f.name) fs
field_keys k i j [] = refl
field_keys k i j (f ∷ fs) = ap (λ ns. f.name ∷ ns) (field_keys k i (j + 1) fs)

con_keys : (k i : ℕ) (cs : List Con) → keys_of (con_places k i cs) ≡ all_con_names cs
con_keys k i [] = refl
con_keys k i (c ∷ cs) =
    ap (λ ns. c.name ∷ ns)
    (keys_append (field_places k i 0 c.fields) (con_places k (i + 1) cs)
    ∙ ap (λ ns. ns ++ keys_of (con_places k (i + 1) cs)) (field_keys k i 0 c.fields)
    ∙ ap (λ ns. map (λ (f : Var). f.name) c.fields ++ ns) (con_keys k (i + 1) cs))

entry_keys : (k : ℕ) (e : Entry) → keys_of (entry_places k e) ≡ names e
entry_keys k (Data d) = ap (λ ns. d.name ∷ ns) (con_keys k 0 d.cons) ∙ sym (names_of_data d)
entry_keys k (Constant sig condition) = refl
entry_keys k (Direct sig condition body) = refl
entry_keys k (Recursive sig condition place bodies) = refl

keys_from : (k : ℕ) (es : Env) → keys_of (places_from k es) ≡ flat_map names es
keys_from k [] = refl
keys_from k (e ∷ es) =
    keys_append (entry_places k e) (places_from (k + 1) es)
    ∙ ap (λ ns. ns ++ keys_of (places_from (k + 1) es)) (entry_keys k e) ∙ ap (λ ns. names e ++ ns) (keys_from (k + 1) es)

-- one more entry
places_with : (k : ℕ) (es : Env) (e : Entry) → places_from k (es ++ e ∷ []) ≡ places_from k es ++ entry_places (k + length es) e
places_with k [] e = append_nil (entry_places k e) ∙ ap (λ i. entry_places i e) none_more
  where
    none_more : k ≡ k + 0
    none_more = omega arith
places_with k (d ∷ ds) e =
    ap (λ ps. entry_places k d ++ ps) (places_with (k + 1) ds e ∙ ap (λ i. places_from (k + 1) ds ++ entry_places i e) later)
    ∙ sym (append_assoc (entry_places k d) (places_from (k + 1) ds) (entry_places (k + length (d ∷ ds)) e))
  where
    later : (k + 1) + length ds ≡ k + length (d ∷ ds)
    later = omega arith

places_after : (env : Env) (e : Entry) → places_from 0 (env ++ e ∷ []) ≡ places_from 0 env ++ entry_places (length env) e
places_after env e = places_with 0 env e ∙ ap (λ k. places_from 0 env ++ entry_places k e) none_before
  where
    none_before : 0 + length env ≡ length env
    none_before = omega arith

-- A look-up in two lists of places.
lookup_first : (n : Name) (xs ys : List (Name × Place)) → list_any (bytes_eq n) (keys_of xs) ≡ true → lookup (bytes_eq n) (xs ++ ys) ≡ lookup (bytes_eq n) xs
lookup_first n [] ys h = absurd (true≢false (sym h))
lookup_first n (x ∷ xs) ys h = by (bytes_eq n x.0) h (lookup_first n xs ys)
  where
    by : (b : Boolean) → (b || list_any (bytes_eq n) (keys_of xs)) ≡ true →
        (list_any (bytes_eq n) (keys_of xs) ≡ true → lookup (bytes_eq n) (xs ++ ys) ≡ lookup (bytes_eq n) xs) →
        cond b (Some x.1) (lookup (bytes_eq n) (xs ++ ys)) ≡ cond b (Some x.1) (lookup (bytes_eq n) xs)
    by true g f = refl
    by false g f = f g

lookup_later : (n : Name) (xs ys : List (Name × Place)) → list_any (bytes_eq n) (keys_of xs) ≡ false → lookup (bytes_eq n) (xs ++ ys) ≡ lookup (bytes_eq n) ys
lookup_later n [] ys h = refl
lookup_later n (x ∷ xs) ys h = by (bytes_eq n x.0) h (lookup_later n xs ys)
  where
    by : (b : Boolean) → (b || list_any (bytes_eq n) (keys_of xs)) ≡ false →
        (list_any (bytes_eq n) (keys_of xs) ≡ false → lookup (bytes_eq n) (xs ++ ys) ≡ lookup (bytes_eq n) ys) →
        cond b (Some x.1) (lookup (bytes_eq n) (xs ++ ys)) ≡ lookup (bytes_eq n) ys
    by true g f = absurd (true≢false g)
    by false g f = f g

-- the places of an entry have its number
AllOf : ℕ → List (Name × Place) → Type 0
AllOf k ps = AllByRecursion (λ (p : Name × Place). p.1.entry ≡ k) ps

all_of_fields : (k i j : ℕ) (fs : List Var) (ps : List (Name × Place)) → AllOf k ps → AllOf k (field_places k i j fs ++ ps)
unfolding AllOf
all_of_fields k i j [] ps h = h
all_of_fields k i j (f ∷ fs) ps h = (refl, all_of_fields k i (j + 1) fs ps h)

all_of_cons : (k i : ℕ) (cs : List Con) → AllOf k (con_places k i cs)
unfolding AllOf
all_of_cons k i [] = tt
all_of_cons k i (c ∷ cs) = (refl, all_of_fields k i 0 c.fields (con_places k (i + 1) cs) (all_of_cons k (i + 1) cs))

all_of_entry : (k : ℕ) (e : Entry) → AllOf k (entry_places k e)
unfolding AllOf
all_of_entry k (Data d) = (refl, all_of_cons k 0 d.cons)
all_of_entry k (Constant sig condition) = (refl, tt)
all_of_entry k (Direct sig condition body) = (refl, tt)
all_of_entry k (Recursive sig condition place bodies) = (refl, tt)

one_number : (env : Env) (k : ℕ) (n : Name) (ps : List (Name × Place)) → AllOf k ps → list_any (bytes_eq n) (keys_of ps) ≡ true →
    option_and_then (λ (p : Place). slice_get env p.entry) (lookup (bytes_eq n) ps) ≡ slice_get env k
unfolding AllOf
one_number env k n [] h e = absurd (true≢false (sym e))
one_number env k n (p ∷ ps) h e = by (bytes_eq n p.0) e (one_number env k n ps h.1)
  where
    by : (b : Boolean) → (b || list_any (bytes_eq n) (keys_of ps)) ≡ true →
        (list_any (bytes_eq n) (keys_of ps) ≡ true → option_and_then (λ (p : Place). slice_get env p.entry) (lookup (bytes_eq n) ps) ≡ slice_get env k) →
        option_and_then (λ (p : Place). slice_get env p.entry) (cond b (Some p.1) (lookup (bytes_eq n) ps)) ≡ slice_get env k
    by true g f = ap (slice_get env) h.0
    by false g f = f g

-- the entries from the k-th on are these
abbrev pub Stand : Env → ℕ → Env → Type 0
Stand env k es = (j i : ℕ) → i ≡ j + k → slice_get env i ≡ slice_get es j

stand_here : (env : Env) (k : ℕ) (e : Entry) (es : Env) → Stand env k (e ∷ es) → slice_get env k ≡ Some e
stand_here env k e es h = h 0 k none_before
  where
    none_before : k ≡ 0 + k
    none_before = omega arith

stand_all : (env : Env) → Stand env 0 env
stand_all env j i e = ap (slice_get env) (omega (arith, e))

stand_later : (env : Env) (k : ℕ) (e : Entry) (es : Env) → Stand env k (e ∷ es) → Stand env (k + 1) es
stand_later env k e es h j i p = h (suc j) i (omega (arith, p))

-- The entry that declares a name.
declaring_from : (env : Env) (k : ℕ) (es : Env) (n : Name) → Stand env k es →
    declaring es n ≡ option_and_then (λ (p : Place). slice_get env p.entry) (lookup (bytes_eq n) (places_from k es))
declaring_from env k [] n h = refl
declaring_from env k (e ∷ es) n h = by (declares n e) refl (declaring_from env (k + 1) es n (stand_later env k e es h))
  where
    named : (b : Boolean) → b ≡ declares n e → list_any (bytes_eq n) (keys_of (entry_places k e)) ≡ b
    named b p = ap (list_any (bytes_eq n)) (entry_keys k e) ∙ sym p

    by : (b : Boolean) → b ≡ declares n e → declaring es n ≡ option_and_then (λ (p : Place). slice_get env p.entry) (lookup (bytes_eq n) (places_from (k + 1) es)) →
        cond b (Some e) (declaring es n) ≡ option_and_then (λ (p : Place). slice_get env p.entry) (lookup (bytes_eq n) (entry_places k e ++ places_from (k + 1) es))
    by true p g =
        sym (ap (option_and_then (λ (q : Place). slice_get env q.entry)) (lookup_first n (entry_places k e) (places_from (k + 1) es) (named true p))
        ∙ one_number env k n (entry_places k e) (all_of_entry k e) (named true p) ∙ stand_here env k e es h)
    by false p g = g ∙ sym (ap (option_and_then (λ (q : Place). slice_get env q.entry)) (lookup_later n (entry_places k e) (places_from (k + 1) es) (named false p)))

pub declaring_place : {S : Type 0} (m : HashMap Name Place S) (env : Env) (n : Name) → AreKept m env →
    declaring env n ≡ option_and_then (λ (p : Place). slice_get env p.entry) (get bytes_eq m n)
declaring_place m env n h =
    declaring_from env 0 env n (stand_all env) ∙ sym (ap (λ ps. option_and_then (λ (p : Place). slice_get env p.entry) (lookup (bytes_eq n) ps)) h)

-- The symbol that a name is.
one_symbol : (env : Env) (m n : Name) (s : Symbol) (p : Place) (o : Option Symbol) (q : Option Place) → Some s ≡ symbol_in env p → o ≡ option_and_then (symbol_in env) q →
    cond (bytes_eq m n) (Some s) o ≡ option_and_then (symbol_in env) (cond (bytes_eq n m) (Some p) q)
one_symbol env m n s p o q g h = ap (λ b. cond b (Some s) o) (same_flip m n) ∙ by (bytes_eq n m)
  where
    by : (b : Boolean) → cond b (Some s) o ≡ option_and_then (symbol_in env) (cond b (Some p) q)
    by true = g
    by false = h

-- the items from the i-th on are these
Follow : {X : Type 0} → List X → ℕ → List X → Type 0
Follow all i xs = (l j : ℕ) → j ≡ l + i → slice_get all j ≡ slice_get xs l

follow_here : {X : Type 0} (all : List X) (i : ℕ) (x : X) (xs : List X) → Follow all i (x ∷ xs) → slice_get all i ≡ Some x
unfolding Follow
follow_here all i x xs h = h 0 i none_before
  where
    none_before : i ≡ 0 + i
    none_before = omega arith

follow_later : {X : Type 0} (all : List X) (i : ℕ) (x : X) (xs : List X) → Follow all i (x ∷ xs) → Follow all (i + 1) xs
unfolding Follow
follow_later all i x xs h l j e = h (suc l) j (omega (arith, e))

follow_all : {X : Type 0} (all : List X) → Follow all 0 all
unfolding Follow
follow_all all l j e = ap (slice_get all) (omega (arith, e))

fields_found : (env : Env) (k i : ℕ) (d : DataDecl) (c : Con) (n : Name) → Some (Data d) ≡ slice_get env k → Some c ≡ slice_get d.cons i →
    (j : ℕ) (fs : List Var) → Follow c.fields j fs → (ss : List (Name × Symbol)) (ps : List (Name × Place)) →
    look_up ss n ≡ option_and_then (symbol_in env) (lookup (bytes_eq n) ps) →
    look_up (map (λ (f : ℕ × Var). (f.1.name, DesOf d c f.0 f.1)) (enumerate_from j fs) ++ ss) n
    ≡ option_and_then (symbol_in env) (lookup (bytes_eq n) (field_places k i j fs ++ ps))
fields_found env k i d c n at con j [] h ss ps g = g
fields_found env k i d c n at con j (f ∷ fs) h ss ps g =
    one_symbol env f.name n (DesOf d c j f) (place k (Destructor i j)) _ _ here (fields_found env k i d c n at con (j + 1) fs (follow_later c.fields j f fs h) ss ps g)
  where
    here : Some (DesOf d c j f) ≡ symbol_in env (place k (Destructor i j))
    here =
        ap (option_map (DesOf d c j)) (sym (follow_here c.fields j f fs h))
        ∙ ap (option_and_then (λ b. option_map (DesOf d b j) (slice_get b.fields j))) con
        ∙ ap (option_and_then (λ e. symbol_at e (Destructor i j))) at

cons_found : (env : Env) (k : ℕ) (d : DataDecl) (n : Name) → Some (Data d) ≡ slice_get env k →
    (i : ℕ) (cs : List Con) → Follow d.cons i cs →
    look_up (flat_map (con_symbols d) cs) n ≡ option_and_then (symbol_in env) (lookup (bytes_eq n) (con_places k i cs))
cons_found env k d n at i [] h = refl
cons_found env k d n at i (c ∷ cs) h =
    one_symbol env c.name n (ConOf d c) (place k (Constructor i)) _ _ here
    (fields_found env k i d c n at (sym (follow_here d.cons i c cs h)) 0 c.fields (follow_all c.fields) (flat_map (con_symbols d) cs) (con_places k (i + 1) cs)
    (cons_found env k d n at (i + 1) cs (follow_later d.cons i c cs h)))
  where
    here : Some (ConOf d c) ≡ symbol_in env (place k (Constructor i))
    here = ap (option_map (ConOf d)) (sym (follow_here d.cons i c cs h)) ∙ ap (option_and_then (λ e. symbol_at e (Constructor i))) at

or_left : (b : Boolean) → (b || false) ≡ false → b ≡ false
or_left true h = h
or_left false h = refl

entry_found : (env : Env) (k : ℕ) (e : Entry) (n : Name) → Some e ≡ slice_get env k → IsDistinct bytes_eq (names e) →
    look_up (symbols e) n ≡ option_and_then (symbol_in env) (lookup (bytes_eq n) (entry_places k e))
entry_found env k (Data d) n at h = by (bytes_eq n d.name) refl
  where
    symbol_names : List Name
    symbol_names = map (λ (p : Name × Symbol). p.0) (flat_map (con_symbols d) d.cons)

    whole : None ≡ symbol_in env (place k Whole)
    whole = ap (option_and_then (λ e. symbol_at e Whole)) at

    other : true ≡ bytes_eq n d.name → list_any (bytes_eq n) (map (λ (p : Name × Symbol). p.0) (flat_map (con_symbols d) d.cons)) ≡ false
    other p =
        ⊎_elim (λ y. absurd (true≢false (p ∙ or_left (bytes_eq n d.name) (distinct_apart (d.name ∷ []) (map (λ (q : Name × Symbol). q.0) (flat_map (con_symbols d) d.cons)) n h y)))) (λ z. z)
        (cases_Bool (list_any (bytes_eq n) (map (λ (q : Name × Symbol). q.0) (flat_map (con_symbols d) d.cons))))

    by : (b : Boolean) → b ≡ bytes_eq n d.name →
        look_up (flat_map (con_symbols d) d.cons) n ≡ option_and_then (symbol_in env) (cond b (Some (place k Whole)) (lookup (bytes_eq n) (con_places k 0 d.cons)))
    by true p = absent (flat_map (con_symbols d) d.cons) n (other p) ∙ whole
    by false p = cons_found env k d n at 0 d.cons (follow_all d.cons)
entry_found env k (Constant sig condition) n at h =
    one_symbol env sig.name n (ConstantOf sig condition) (place k Whole) None None (ap (option_and_then (λ e. symbol_at e Whole)) at) refl
entry_found env k (Direct sig condition body) n at h =
    one_symbol env sig.name n (DirectOf sig condition body) (place k Whole) None None (ap (option_and_then (λ e. symbol_at e Whole)) at) refl
entry_found env k (Recursive sig condition at_place bodies) n at h =
    one_symbol env sig.name n (RecursiveOf sig condition at_place bodies) (place k Whole) None None (ap (option_and_then (λ e. symbol_at e Whole)) at) refl

symbol_from : (env : Env) (k : ℕ) (es : Env) (n : Name) → Stand env k es → IsDistinct bytes_eq (flat_map names es) →
    option_and_then (λ e. look_up (symbols e) n) (declaring es n) ≡ option_and_then (symbol_in env) (lookup (bytes_eq n) (places_from k es))
symbol_from env k [] n h d = refl
symbol_from env k (e ∷ es) n h d =
    by (declares n e) refl (symbol_from env (k + 1) es n (stand_later env k e es h) (distinct_right (names e) (flat_map names es) d))
  where
    named : (b : Boolean) → b ≡ declares n e → list_any (bytes_eq n) (keys_of (entry_places k e)) ≡ b
    named b p = ap (list_any (bytes_eq n)) (entry_keys k e) ∙ sym p

    by : (b : Boolean) → b ≡ declares n e →
        option_and_then (λ e. look_up (symbols e) n) (declaring es n) ≡ option_and_then (symbol_in env) (lookup (bytes_eq n) (places_from (k + 1) es)) →
        option_and_then (λ e. look_up (symbols e) n) (cond b (Some e) (declaring es n))
        ≡ option_and_then (symbol_in env) (lookup (bytes_eq n) (entry_places k e ++ places_from (k + 1) es))
    by true p g =
        entry_found env k e n (sym (stand_here env k e es h)) (distinct_left (names e) (flat_map names es) d)
        ∙ sym (ap (option_and_then (symbol_in env)) (lookup_first n (entry_places k e) (places_from (k + 1) es) (named true p)))
    by false p g = g ∙ sym (ap (option_and_then (symbol_in env)) (lookup_later n (entry_places k e) (places_from (k + 1) es) (named false p)))

pub symbol_place : {S : Type 0} (m : HashMap Name Place S) (env : Env) (n : Name) → AreKept m env → IsWellFormed env →
    find_symbol env n ≡ option_and_then (symbol_in env) (get bytes_eq m n)
symbol_place m env n h w =
    find_symbol-declaring env n w ∙ symbol_from env 0 env n (stand_all env) w.distinct
    ∙ sym (ap (λ ps. option_and_then (symbol_in env) (lookup (bytes_eq n) ps)) h)

-- What the code of an environment needs.
pub ruleset environments = (declaring_place, symbol_place, empty_well_formed)

pub ruleset walks = (drop_at, drop_all, append_assoc)

-- Appending pairs with new names.
insert_new : (ps : List (Name × Place)) (n : Name) (p : Place) → list_any (bytes_eq n) (keys_of ps) ≡ false → insert_entry bytes_eq ps n p ≡ ps ++ (n, p) ∷ []
insert_new [] n p h = refl
insert_new (q ∷ qs) n p h = by (bytes_eq n q.0) h (insert_new qs n p)
  where
    by : (b : Boolean) → (b || list_any (bytes_eq n) (keys_of qs)) ≡ false → (list_any (bytes_eq n) (keys_of qs) ≡ false → insert_entry bytes_eq qs n p ≡ qs ++ (n, p) ∷ []) →
        (if b then (q.0, p) ∷ qs else q ∷ insert_entry bytes_eq qs n p) ≡ q ∷ (qs ++ (n, p) ∷ [])
    by true g f = absurd (true≢false g)
    by false g f = ap (λ rs. q ∷ rs) (f g)

new_key : (xs ys : List (Name × Place)) (p : Name × Place) → IsDistinct bytes_eq (keys_of (xs ++ p ∷ ys)) → list_any (bytes_eq p.0) (keys_of xs) ≡ false
new_key xs ys p h =
    distinct_apart (keys_of xs) (p.0 ∷ keys_of ys) p.0 (subst (IsDistinct bytes_eq) (keys_append xs (p ∷ ys)) h) (ap (λ b. b || list_any (bytes_eq p.0) (keys_of ys)) (name_same p.0))

-- the last of the pairs that are left, which come the other way round
pub put_step : (old new left rest all : List (Name × Place)) (p : Name × Place) → left ≡ rest ++ p ∷ [] →
    new ≡ insert_entry bytes_eq old p.0 p.1 → IsDistinct bytes_eq (keys_of all) → old ++ reverse left ≡ all → new ++ reverse rest ≡ all
put_step old new left rest all p l put distinct h =
    let turned : old ++ p ∷ reverse rest ≡ all = sym (ap (λ ps. old ++ ps) (ap reverse l ∙ reverse-append rest (p ∷ []))) ∙ h in
    let fresh = new_key old (reverse rest) p (subst (λ ps. IsDistinct bytes_eq (keys_of ps)) (sym turned) distinct) in
    ap (λ ps. ps ++ reverse rest) (put ∙ insert_new old p.0 p.1 fresh) ∙ append_assoc old (p ∷ []) (reverse rest) ∙ turned

turned_twice : (ps qs : List (Name × Place)) → qs ≡ reverse ps → reverse qs ≡ ps
turned_twice ps qs e = ap reverse e ∙ each ps
  where
    each : (rs : List (Name × Place)) → reverse (reverse rs) ≡ rs
    each [] = refl
    each (r ∷ rs) = ap reverse (reverse-append (r ∷ []) rs) ∙ reverse-append (reverse rs) (r ∷ []) ∙ ap (λ ts. r ∷ ts) (each rs)

pub put_turned : (old new ps qs : List (Name × Place)) → qs ≡ reverse ps → (IsDistinct bytes_eq (keys_of (old ++ reverse qs)) → new ≡ old ++ reverse qs) →
    IsDistinct bytes_eq (keys_of (old ++ ps)) → new ≡ old ++ ps
put_turned old new ps qs e put d =
    put (subst (λ rs. IsDistinct bytes_eq (keys_of (old ++ rs))) (sym (turned_twice ps qs e)) d) ∙ ap (λ rs. old ++ rs) (turned_twice ps qs e)

-- the map with the names of one more entry
pub kept_with : {S : Type 0} (m m1 m2 : HashMap Name Place S) (env : Env) (e : Entry) (pairs : List (Name × Place)) (k : ℕ) → AreKept m env → IsWellFormed (env ++ e ∷ []) →
    m1.entries ≡ m.entries → pairs ≡ entry_places k e → k ≡ length env →
    (IsDistinct bytes_eq (keys_of (m1.entries ++ pairs)) → m2.entries ≡ m1.entries ++ pairs) → AreKept m2 (env ++ e ∷ [])
kept_with m m1 m2 env e pairs k h w same listed at put =
    put (subst (IsDistinct bytes_eq) (sym (ap keys_of whole ∙ keys_from 0 (env ++ e ∷ []))) w.distinct) ∙ whole
  where
    whole : m1.entries ++ pairs ≡ places_from 0 (env ++ e ∷ [])
    whole =
        ap (λ ps. ps ++ pairs) (same ∙ h) ∙ ap (λ ps. places_from 0 env ++ ps) (listed ∙ ap (λ i. entry_places i e) at)
        ∙ sym (places_after env e)

-- Cutting the names of the last entry off.
pub position_found : (t : Name → Boolean) (ns : List Name) (i : ℕ) → Some i ≡ position t ns → i ≡ position_or_len t ns
position_found t ns i h = by (nat_lt (position_or_len t ns) (length ns)) (position_or_len t ns) h
  where
    by : (b : Boolean) (k : ℕ) → Some i ≡ cond b (Some k) None → i ≡ k
    by true k g = cc
    by false k g = cc

take_all : (n : ℕ) (ps : List (Name × Place)) → length ps ≤ n → take n ps ≡ ps
take_all zero [] h = refl
take_all (suc n) [] h = refl
take_all zero (p ∷ ps) h = absurd (omega arith)
take_all (suc n) (p ∷ ps) h = ap (λ qs. p ∷ qs) (take_all n ps (omega arith))

keys_length : (ps : List (Name × Place)) → length (keys_of ps) ≡ length ps
keys_length [] = refl
keys_length (p ∷ ps) = ap suc (keys_length ps)

not_less : (a b : ℕ) → nat_lt a b ≡ false → b ≤ a
not_less a b h = grind (arith, nat_tests)

pub position_missing : (t : Name → Boolean) (ps : List (Name × Place)) → None ≡ position t (keys_of ps) → take (position_or_len t (keys_of ps)) ps ≡ ps
position_missing t ps h =
    take_all (position_or_len t (keys_of ps)) ps
    (subst (λ k. k ≤ position_or_len t (keys_of ps)) (keys_length ps)
    (not_less (position_or_len t (keys_of ps)) (length (keys_of ps)) (by (nat_lt (position_or_len t (keys_of ps)) (length (keys_of ps))) h)))
  where
    by : (b : Boolean) → None ≡ cond b (Some (position_or_len t (keys_of ps))) None → b ≡ false
    by true g = cc
    by false g = refl

first_place : (n : Name) (before after : List (Name × Place)) (p : Place) → list_any (bytes_eq n) (keys_of before) ≡ false →
    position_or_len (bytes_eq n) (keys_of (before ++ (n, p) ∷ after)) ≡ length before
first_place n [] after p h = ap (λ b. cond (not b) (1 + position_or_len (bytes_eq n) (keys_of after)) 0) (name_same n)
first_place n (x ∷ xs) after p h = by (bytes_eq n x.0) h (first_place n xs after p)
  where
    by : (b : Boolean) → (b || list_any (bytes_eq n) (keys_of xs)) ≡ false →
        (list_any (bytes_eq n) (keys_of xs) ≡ false → position_or_len (bytes_eq n) (keys_of (xs ++ (n, p) ∷ after)) ≡ length xs) →
        cond (not b) (1 + position_or_len (bytes_eq n) (keys_of (xs ++ (n, p) ∷ after))) 0 ≡ length (x ∷ xs)
    by true g f = absurd (true≢false g)
    by false g f = let e : position_or_len (bytes_eq n) (keys_of (xs ++ (n, p) ∷ after)) ≡ length xs = f g in omega arith

take_before : (xs ys : List (Name × Place)) → take (length xs) (xs ++ ys) ≡ xs
take_before [] ys = take_none ys
  where
    take_none : (zs : List (Name × Place)) → take 0 zs ≡ []
    take_none [] = refl
    take_none (z ∷ zs) = refl
take_before (x ∷ xs) ys = ap (λ zs. x ∷ zs) (take_before xs ys)

-- the map without the names of the last entry
pub kept_before : {S : Type 0} (m m' : HashMap Name Place S) (env all : Env) (e : Entry) (n : Name) → all ≡ env ++ e ∷ [] → AreKept m all → IsWellFormed all → n ≡ first_name e →
    m'.entries ≡ take (position_or_len (bytes_eq n) (keys_of m.entries)) m.entries → AreKept m' env
kept_before m m' env all e n split h w first cut =
    cut ∙ ap (λ k. take k m.entries) (ap (λ ps. position_or_len (bytes_eq n) (keys_of ps)) whole ∙ at)
    ∙ ap (take (length (places_from 0 env))) whole ∙ take_before (places_from 0 env) (entry_places (length env) e)
  where
    whole : m.entries ≡ places_from 0 env ++ entry_places (length env) e
    whole = h ∙ ap (places_from 0) split ∙ places_after env e

    distinct : IsDistinct bytes_eq (keys_of (places_from 0 env ++ entry_places (length env) e))
    distinct = subst (IsDistinct bytes_eq) (sym (ap keys_of (sym whole ∙ h) ∙ keys_from 0 all)) w.distinct

    at : position_or_len (bytes_eq n) (keys_of (places_from 0 env ++ entry_places (length env) e)) ≡ length (places_from 0 env)
    at =
        ap (λ k. position_or_len (bytes_eq k) (keys_of (places_from 0 env ++ entry_places (length env) e))) first
        ∙ first_place (first_name e) (places_from 0 env) (later_places (length env) e) (place (length env) Whole)
        (new_key (places_from 0 env) (later_places (length env) e) (first_name e, place (length env) Whole) distinct)

good_before : (before env : Env) (e : Entry) → AreGoodAfter before (env ++ e ∷ []) → AreGoodAfter before env
good_before before [] e h = tt
good_before before (d ∷ ds) e h = (h.0, good_before (before ++ d ∷ []) ds e h.1)

pub well_formed_before : (env all : Env) (e : Entry) → all ≡ env ++ e ∷ [] → IsWellFormed all → IsWellFormed env
well_formed_before env all e split w =
    let v : IsWellFormed (env ++ e ∷ []) = subst IsWellFormed split w in
    record {
      distinct = distinct_left (flat_map names env) (flat_map names (e ∷ [])) (subst (IsDistinct bytes_eq) (flat_map-append names env (e ∷ [])) v.distinct);
      entries = good_before [] env e v.entries;
    }

-- what a look-up answers
pub entry_at_place : {S : Type 0} (m : HashMap Name Place S) (env seen : Env) (n : Name) (p : Place) (o : Option Entry) → env ≡ seen → AreKept m env → Some p ≡ get bytes_eq m n →
    o ≡ slice_get seen p.entry → o ≡ declaring seen n
entry_at_place m env seen n p o e h at found =
    found ∙ ap (λ es. slice_get es p.entry) (sym e) ∙ ap (option_and_then (λ (q : Place). slice_get env q.entry)) at ∙ sym (declaring_place m env n h) ∙ ap (λ es. declaring es n) e

pub no_entry : {S : Type 0} (m : HashMap Name Place S) (env seen : Env) (n : Name) → env ≡ seen → AreKept m env → None ≡ get bytes_eq m n → None ≡ declaring seen n
no_entry m env seen n e h at = ap (option_and_then (λ (q : Place). slice_get env q.entry)) at ∙ sym (declaring_place m env n h) ∙ ap (λ es. declaring es n) e

pub symbol_at_place : {S : Type 0} (m : HashMap Name Place S) (env seen : Env) (n : Name) (p : Place) (e : Entry) (o : Option Symbol) → env ≡ seen → AreKept m env → IsWellFormed env →
    Some p ≡ get bytes_eq m n → Some e ≡ slice_get seen p.entry → o ≡ symbol_at e p.part → o ≡ find_symbol seen n
symbol_at_place m env seen n p e o v h w at found is =
    is ∙ ap (option_and_then (λ d. symbol_at d p.part)) (found ∙ ap (λ es. slice_get es p.entry) (sym v)) ∙ ap (option_and_then (symbol_in env)) at ∙ sym (symbol_place m env n h w) ∙ ap (λ es. find_symbol es n) v

pub no_symbol_at_place : {S : Type 0} (m : HashMap Name Place S) (env seen : Env) (n : Name) (p : Place) → env ≡ seen → AreKept m env → IsWellFormed env →
    Some p ≡ get bytes_eq m n → None ≡ slice_get seen p.entry → None ≡ find_symbol seen n
no_symbol_at_place m env seen n p v h w at found =
    ap (option_and_then (λ d. symbol_at d p.part)) (found ∙ ap (λ es. slice_get es p.entry) (sym v)) ∙ ap (option_and_then (symbol_in env)) at ∙ sym (symbol_place m env n h w) ∙ ap (λ es. find_symbol es n) v

pub no_symbol : {S : Type 0} (m : HashMap Name Place S) (env seen : Env) (n : Name) → env ≡ seen → AreKept m env → IsWellFormed env → None ≡ get bytes_eq m n → None ≡ find_symbol seen n
no_symbol m env seen n v h w at = ap (option_and_then (symbol_in env)) at ∙ sym (symbol_place m env n h w) ∙ ap (λ es. find_symbol es n) v
