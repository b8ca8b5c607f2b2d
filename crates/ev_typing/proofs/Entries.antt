-- The parts of a well-formed environment, and what its look-ups find.
use Rattle.std.specs.Prelude.{◌≡◌, ◌||◌, ℕ, zero, suc, ◌<◌, Bool as Boolean, true, false, cond, List, [], ◌∷◌, ◌++◌, Some, None, map, length, take, drop, flat_map, bytes_eq, refl}
use Rattle.std.specs.Option.{option_and_then}
use Rattle.std.specs.List.{AllByRecursion, IsDistinct, list_any}
use Rattle.std.proofs.Common.{ap, sym, ◌∙◌, subst, append_assoc, true≢false, arith, ⊎_elim, get_or, ◌⊎◌}
use Rattle.std.proofs.lemmas.Bool.{cases_Bool}
use Rattle.std.proofs.lemmas.Grind.{flat_map-append}
use Rattle.ev_typing.specs.declared.typing.Entry.{Entry}
use Rattle.ev_typing.specs.declared.typing.DataDecl.{DataDecl}
use Rattle.ev_typing.specs.Env.{Env, Name, Symbol, look_up, names, declares, declaring, datatypes, symbols, find_data, find_symbol}
use Rattle.ev_typing.specs.WellFormed.{HasNewNames, IsGoodEntry, AreGoodAfter, IsWellFormed}
use Rattle.ev_typing.proofs.Names.{same_name, name_same, apart_flip}

-- Splitting what holds of a list.
all_left : {X : Type 0} (P : X → Type 0) (xs ys : List X) → AllByRecursion P (xs ++ ys) → AllByRecursion P xs
all_left P [] ys h = tt
all_left P (x ∷ xs) ys h = (h.0, all_left P xs ys h.1)

all_right : {X : Type 0} (P : X → Type 0) (xs ys : List X) → AllByRecursion P (xs ++ ys) → AllByRecursion P ys
all_right P [] ys h = h
all_right P (x ∷ xs) ys h = all_right P xs ys h.1

pub distinct_left : (xs ys : List Name) → IsDistinct bytes_eq (xs ++ ys) → IsDistinct bytes_eq xs
unfolding IsDistinct
distinct_left [] ys h = tt
distinct_left (x ∷ xs) ys h = (all_left _ xs ys h.0, distinct_left xs ys h.1)

pub distinct_right : (xs ys : List Name) → IsDistinct bytes_eq (xs ++ ys) → IsDistinct bytes_eq ys
unfolding IsDistinct
distinct_right [] ys h = h
distinct_right (x ∷ xs) ys h = distinct_right xs ys h.1

-- a name of the later ones is none of the earlier ones
pub distinct_apart : (xs ys : List Name) (n : Name) → IsDistinct bytes_eq (xs ++ ys) → list_any (bytes_eq n) ys ≡ true → list_any (bytes_eq n) xs ≡ false
unfolding IsDistinct
distinct_apart [] ys n h e = refl
distinct_apart (x ∷ xs) ys n h e =
    by (bytes_eq n x) (apart_flip x n (differs ys (all_right (λ y. bytes_eq x y ≡ false) xs ys h.0) e)) (distinct_apart xs ys n h.1 e)
  where
    differs : (zs : List Name) → AllByRecursion (λ y. bytes_eq x y ≡ false) zs → list_any (bytes_eq n) zs ≡ true → bytes_eq x n ≡ false
    differs [] g f = absurd (true≢false (sym f))
    differs (z ∷ zs) g f =
        ⊎_elim (λ y. ap (bytes_eq x) (same_name n z y) ∙ g.0)
        (λ no. differs zs g.1 (sym (ap (λ b. b || list_any (bytes_eq n) zs) no) ∙ f))
        (cases_Bool (bytes_eq n z))

    by : (b : Boolean) → b ≡ false → list_any (bytes_eq n) xs ≡ false → (b || list_any (bytes_eq n) xs) ≡ false
    by true p q = absurd (true≢false p)
    by false p q = q

-- An entry is good over those before it, and its names are new to them.
good_part : (before env : Env) (e : Entry) (later : Env) → AreGoodAfter before (env ++ e ∷ later) → IsGoodEntry (before ++ env) e
good_part before [] e later h = subst (λ xs. IsGoodEntry xs e) (sym (append_nil before)) h.0
  where
    append_nil : {X : Type 0} (xs : List X) → xs ++ [] ≡ xs
    append_nil [] = refl
    append_nil (x ∷ xs) = ap (λ ys. x ∷ ys) (append_nil xs)
good_part before (d ∷ ds) e later h =
    subst (λ xs. IsGoodEntry xs e) (append_assoc before (d ∷ []) ds) (good_part (before ++ d ∷ []) ds e later h.1)

not_declared : (env : Env) (n : Name) → list_any (bytes_eq n) (flat_map names env) ≡ false → declaring env n ≡ None
not_declared [] n h = refl
not_declared (e ∷ es) n h = by (declares n e) (split (names e) h).0 (not_declared es n (split (names e) h).1)
  where
    split : (ms : List Name) → list_any (bytes_eq n) (ms ++ flat_map names es) ≡ false → (list_any (bytes_eq n) ms ≡ false) × (list_any (bytes_eq n) (flat_map names es) ≡ false)
    split [] g = (refl, g)
    split (m ∷ ms) g = part (bytes_eq n m) g (split ms)
      where
        part : (b : Boolean) → (b || list_any (bytes_eq n) (ms ++ flat_map names es)) ≡ false →
            (list_any (bytes_eq n) (ms ++ flat_map names es) ≡ false → (list_any (bytes_eq n) ms ≡ false) × (list_any (bytes_eq n) (flat_map names es) ≡ false)) →
            ((b || list_any (bytes_eq n) ms) ≡ false) × (list_any (bytes_eq n) (flat_map names es) ≡ false)
        part true g k = absurd (true≢false g)
        part false g k = k g

    by : (b : Boolean) → b ≡ false → declaring es n ≡ None → cond b (Some e) (declaring es n) ≡ None
    by true p q = absurd (true≢false p)
    by false p q = q

among : (ns ms : List Name) → ((n : Name) → list_any (bytes_eq n) ms ≡ true → list_any (bytes_eq n) ns ≡ true) → (P : Name → Type 0) →
    ((n : Name) → list_any (bytes_eq n) ns ≡ true → P n) → AllByRecursion P ms
among ns [] sub P h = tt
among ns (m ∷ ms) sub P h =
    (h m (sub m (ap (λ b. b || list_any (bytes_eq m) ms) (name_same m))), among ns ms (λ n e. sub n (later (bytes_eq n m) (list_any (bytes_eq n) ms) e)) P h)
  where
    later : (a b : Boolean) → b ≡ true → (a || b) ≡ true
    later true b e = refl
    later false b e = e

names_split : (env : Env) (e : Entry) (later : Env) → flat_map names (env ++ e ∷ later) ≡ flat_map names env ++ (names e ++ flat_map names later)
names_split env e later = flat_map-append names env (e ∷ later)

pub new_part : (env : Env) (e : Entry) (later : Env) → IsWellFormed (env ++ e ∷ later) → HasNewNames env e
new_part env e later w =
    let d = subst (IsDistinct bytes_eq) (names_split env e later) w.distinct in
    let front = subst (IsDistinct bytes_eq) (sym (append_assoc (flat_map names env) (names e) (flat_map names later))) d in
    let both = distinct_left (flat_map names env ++ names e) (flat_map names later) front in
    record {
      new = among (names e) (names e) (λ n h. h) (λ n. declaring env n ≡ None) (λ n h. not_declared env n (distinct_apart (flat_map names env) (names e) n both h));
      different = distinct_right (flat_map names env) (names e) both;
    }

-- the entry at a place
split_at : {X : Type 0} (xs : List X) (i : ℕ) (x : X) → x ≡ get_or xs i x → i < length xs → xs ≡ take i xs ++ x ∷ drop (suc i) xs
split_at [] i x e h = absurd (omega arith)
split_at (y ∷ ys) zero x e h = ap (λ z. z ∷ ys) (sym e)
split_at (y ∷ ys) (suc i) x e h = ap (λ zs. y ∷ zs) (split_at ys i x e (omega arith))

pub new_at : (env : Env) (i : ℕ) (e : Entry) → e ≡ get_or env i e → i < length env → IsWellFormed env → HasNewNames (take i env) e
new_at env i e p h w = new_part (take i env) e (drop (suc i) env) (subst IsWellFormed (split_at env i e p h) w)

pub good_at : (env : Env) (i : ℕ) (e : Entry) → e ≡ get_or env i e → i < length env → IsWellFormed env → IsGoodEntry (take i env) e
good_at env i e p h w = good_part [] (take i env) e (drop (suc i) env) (subst IsWellFormed (split_at env i e p h) w).entries

pub ruleset copied = (new_at, good_at)

-- A look-up goes by the entry that declares the name.
pub absent : {X : Type 0} (ps : List (Name × X)) (n : Name) → list_any (bytes_eq n) (map (λ (p : Name × X). p.0) ps) ≡ false → look_up ps n ≡ None
absent [] n h = refl
absent (p ∷ ps) n h = by (bytes_eq n p.0) refl h (absent ps n)
  where
    by : (b : Boolean) → b ≡ bytes_eq n p.0 → (b || list_any (bytes_eq n) (map (λ q. q.0) ps)) ≡ false →
        (list_any (bytes_eq n) (map (λ q. q.0) ps) ≡ false → look_up ps n ≡ None) → cond (bytes_eq p.0 n) (Some p.1) (look_up ps n) ≡ None
    by true e g k = absurd (true≢false g)
    by false e g k = ap (λ b. cond b (Some p.1) (look_up ps n)) (apart_flip n p.0 (sym e)) ∙ k g

pub look_up_later : {X : Type 0} (ps qs : List (Name × X)) (n : Name) → look_up ps n ≡ None → look_up (ps ++ qs) n ≡ look_up qs n
look_up_later [] qs n h = refl
look_up_later (p ∷ ps) qs n h = by (bytes_eq p.0 n) h (look_up_later ps qs n)
  where
    by : (b : Boolean) → cond b (Some p.1) (look_up ps n) ≡ None → (look_up ps n ≡ None → look_up (ps ++ qs) n ≡ look_up qs n) →
        cond b (Some p.1) (look_up (ps ++ qs) n) ≡ look_up qs n
    by true e g = cc
    by false e g = g e

look_up_before : {X : Type 0} (ps qs : List (Name × X)) (n : Name) → look_up qs n ≡ None → look_up (ps ++ qs) n ≡ look_up ps n
look_up_before [] qs n h = h
look_up_before (p ∷ ps) qs n h = ap (cond (bytes_eq p.0 n) (Some p.1)) (look_up_before ps qs n h)

pub any_later : (n : Name) (ms ns : List Name) → list_any (bytes_eq n) (ms ++ ns) ≡ false → (list_any (bytes_eq n) ms ≡ false) × (list_any (bytes_eq n) ns ≡ false)
any_later n [] ns h = (refl, h)
any_later n (m ∷ ms) ns h = part (bytes_eq n m) h (any_later n ms ns)
  where
    part : (b : Boolean) → (b || list_any (bytes_eq n) (ms ++ ns)) ≡ false →
        (list_any (bytes_eq n) (ms ++ ns) ≡ false → (list_any (bytes_eq n) ms ≡ false) × (list_any (bytes_eq n) ns ≡ false)) →
        ((b || list_any (bytes_eq n) ms) ≡ false) × (list_any (bytes_eq n) ns ≡ false)
    part true g k = absurd (true≢false g)
    part false g k = k g

-- what an entry keeps under names that it declares
abbrev pub KeepsNames : {X : Type 0} → (Entry → List (Name × X)) → Type 0
KeepsNames f = (e : Entry) (n : Name) → list_any (bytes_eq n) (names e) ≡ false → look_up (f e) n ≡ None

none_later : {X : Type 0} (f : Entry → List (Name × X)) → KeepsNames f → (es : List Entry) (n : Name) → list_any (bytes_eq n) (flat_map names es) ≡ false → look_up (flat_map f es) n ≡ None
none_later f keeps [] n h = refl
none_later f keeps (e ∷ es) n h =
    let p = any_later n (names e) (flat_map names es) h in
    look_up_later (f e) (flat_map f es) n (keeps e n p.0) ∙ none_later f keeps es n p.1

pub look_up_declaring : {X : Type 0} (f : Entry → List (Name × X)) → KeepsNames f → (env : Env) (n : Name) → IsDistinct bytes_eq (flat_map names env) →
    look_up (flat_map f env) n ≡ option_and_then (λ e. look_up (f e) n) (declaring env n)
look_up_declaring f keeps [] n h = refl
look_up_declaring f keeps (e ∷ es) n h =
    by (declares n e) refl (look_up_declaring f keeps es n (distinct_right (names e) (flat_map names es) h))
  where
    by : (b : Boolean) → b ≡ declares n e → look_up (flat_map f es) n ≡ option_and_then (λ d. look_up (f d) n) (declaring es n) →
        look_up (f e ++ flat_map f es) n ≡ option_and_then (λ d. look_up (f d) n) (cond b (Some e) (declaring es n))
    by true p g =
        look_up_before (f e) (flat_map f es) n (none_later f keeps es n (apart_later (cases_Bool (list_any (bytes_eq n) (flat_map names es)))))
      where
        apart_later : (list_any (bytes_eq n) (flat_map names es) ≡ true) ⊎ (list_any (bytes_eq n) (flat_map names es) ≡ false) → list_any (bytes_eq n) (flat_map names es) ≡ false
        apart_later c = ⊎_elim (λ y. absurd (true≢false (p ∙ distinct_apart (names e) (flat_map names es) n h y))) (λ z. z) c
    by false p g = look_up_later (f e) (flat_map f es) n (keeps e n (sym p)) ∙ g

pub datatypes_named : KeepsNames datatypes
datatypes_named e n h =
    absent (datatypes e) n (any_later n (map (λ (p : Name × DataDecl). p.0) (datatypes e)) (map (λ (p : Name × Symbol). p.0) (symbols e)) h).0

pub symbols_named : KeepsNames symbols
symbols_named e n h =
    absent (symbols e) n (any_later n (map (λ (p : Name × DataDecl). p.0) (datatypes e)) (map (λ (p : Name × Symbol). p.0) (symbols e)) h).1

pub find_data-declaring : (env : Env) (n : Name) → IsWellFormed env → find_data env n ≡ option_and_then (λ e. look_up (datatypes e) n) (declaring env n)
find_data-declaring env n w = look_up_declaring datatypes datatypes_named env n w.distinct

pub find_symbol-declaring : (env : Env) (n : Name) → IsWellFormed env → find_symbol env n ≡ option_and_then (λ e. look_up (symbols e) n) (declaring env n)
find_symbol-declaring env n w = look_up_declaring symbols symbols_named env n w.distinct

pub ruleset found = (find_data-declaring, find_symbol-declaring)
