-- The names that an environment declares, and the entries that declare them.
use Rattle.std.specs.Prelude.{◌≡◌, ◌||◌, ℕ, zero, suc, ◌+◌, ◌<◌, ◌≤◌, map, Bool as Boolean, true, false, cond, List, [], ◌∷◌, ◌++◌, Some, None, length, drop, flat_map, bytes_eq, refl}
use Rattle.std.specs.List.{AllByRecursion, IsDistinct, list_any, enumerate_from}
use Rattle.std.proofs.Common.{ap, sym, ◌∙◌, subst, append_assoc, true≢false, arith, ⊎_elim, get_or, add-one, drop-cons}
use Rattle.std.proofs.lemmas.Bool.{cases_Bool}
use Rattle.std.proofs.lemmas.Slice.Eq.{bytes_eq-Decides}
use Rattle.std.proofs.lemmas.Grind.{flat_map-append}
use Rattle.ev_typing.specs.declared.typing.Entry.{Entry}
use Rattle.ev_typing.specs.declared.typing.Entry.TheVariants.{Data}
use Rattle.ev_typing.specs.declared.typing.DataDecl.{DataDecl}
use Rattle.ev_typing.specs.declared.typing.Con.{Con}
use Rattle.ev_typing.specs.declared.typing.Var.{Var}
use Rattle.ev_typing.specs.Env.{Env, Name, Symbol, DesOf, con_symbols, names, declares, declaring}
use Rattle.ev_typing.specs.inner.Places.{con_names, all_con_names}
use Rattle.ev_typing.specs.WellFormed.{HasNewNames, IsGoodEntry, AreGoodAfter, IsWellFormed}

pub same_name : (m n : Name) → bytes_eq m n ≡ true → m ≡ n
same_name m n e = (bytes_eq-Decides m n).0 e

pub name_same : (n : Name) → bytes_eq n n ≡ true
name_same n = (bytes_eq-Decides n n).1 refl

-- names that differ differ the other way round
pub apart_flip : (m n : Name) → bytes_eq m n ≡ false → bytes_eq n m ≡ false
apart_flip m n e =
    ⊎_elim (λ y. absurd (true≢false (sym (name_same m) ∙ ap (bytes_eq m) (sym (same_name n m y)) ∙ e))) (λ z. z) (cases_Bool (bytes_eq n m))

or_false : (a b : Boolean) → (a || b) ≡ false → (a ≡ false) × (b ≡ false)
or_false true b e = absurd (true≢false e)
or_false false b e = (refl, e)

-- what holds of each of the names holds of one that is among them
pub holds_of_one : (P : Name → Type 0) (ns : List Name) (n : Name) → AllByRecursion P ns → list_any (bytes_eq n) ns ≡ true → P n
holds_of_one P [] n h e = absurd (true≢false (sym e))
holds_of_one P (m ∷ ms) n h e =
    ⊎_elim (λ y. subst P (sym (same_name n m y)) h.0)
    (λ z. holds_of_one P ms n h.1 (sym (ap (λ b. b || list_any (bytes_eq n) ms) z) ∙ e))
    (cases_Bool (bytes_eq n m))

-- A well-formed environment with a good entry is well formed.
pub all_append : {X : Type 0} (P : X → Type 0) (xs ys : List X) → AllByRecursion P xs → AllByRecursion P ys → AllByRecursion P (xs ++ ys)
all_append P [] ys h g = g
all_append P (x ∷ xs) ys h g = (h.0, all_append P xs ys h.1 g)

distinct_append : (xs ys : List Name) → IsDistinct bytes_eq xs → IsDistinct bytes_eq ys →
    AllByRecursion (λ x. AllByRecursion (λ y. bytes_eq x y ≡ false) ys) xs → IsDistinct bytes_eq (xs ++ ys)
unfolding IsDistinct
distinct_append [] ys h g apart = g
distinct_append (x ∷ xs) ys h g apart =
    (all_append (λ y. bytes_eq x y ≡ false) xs ys h.0 apart.0, distinct_append xs ys h.1 g apart.1)

-- a name that no entry declares differs from each that is declared
apart_all : (ns : List Name) (n : Name) → list_any (bytes_eq n) ns ≡ false → AllByRecursion (λ m. bytes_eq m n ≡ false) ns
apart_all [] n h = tt
apart_all (m ∷ ms) n h =
    let p = or_false (bytes_eq n m) (list_any (bytes_eq n) ms) h in
    (apart_flip n m p.0, apart_all ms n p.1)

pub apart_declared : (env : Env) (n : Name) → declaring env n ≡ None → AllByRecursion (λ m. bytes_eq m n ≡ false) (flat_map names env)
apart_declared [] n h = tt
apart_declared (e ∷ es) n h = by (declares n e) refl (apart_declared es n) h
  where
    by : (b : Boolean) → b ≡ declares n e → (declaring es n ≡ None → AllByRecursion (λ m. bytes_eq m n ≡ false) (flat_map names es)) → cond b (Some e) (declaring es n) ≡ None → AllByRecursion (λ m. bytes_eq m n ≡ false) (names e ++ flat_map names es)
    by true p g q = cc
    by false p g q = all_append _ (names e) (flat_map names es) (apart_all (names e) n (sym p)) (g q)

-- from each y with each x to each x with each y
turned : (xs ys : List Name) → AllByRecursion (λ y. AllByRecursion (λ x. bytes_eq x y ≡ false) xs) ys → AllByRecursion (λ x. AllByRecursion (λ y. bytes_eq x y ≡ false) ys) xs
turned [] ys h = tt
turned (x ∷ xs) ys h = (heads ys h, turned xs ys (tails ys h))
  where
    heads : (zs : List Name) → AllByRecursion (λ y. AllByRecursion (λ x'. bytes_eq x' y ≡ false) (x ∷ xs)) zs → AllByRecursion (λ y. bytes_eq x y ≡ false) zs
    heads [] g = tt
    heads (z ∷ zs) g = (g.0.0, heads zs g.1)

    tails : (zs : List Name) → AllByRecursion (λ y. AllByRecursion (λ x'. bytes_eq x' y ≡ false) (x ∷ xs)) zs → AllByRecursion (λ y. AllByRecursion (λ x'. bytes_eq x' y ≡ false) xs) zs
    tails [] g = tt
    tails (z ∷ zs) g = (g.0.1, tails zs g.1)

all_apart : (env : Env) (ns : List Name) → AllByRecursion (λ n. declaring env n ≡ None) ns → AllByRecursion (λ n. AllByRecursion (λ m. bytes_eq m n ≡ false) (flat_map names env)) ns
all_apart env [] h = tt
all_apart env (n ∷ ns) h = (apart_declared env n h.0, all_apart env ns h.1)

pub append_nil : {X : Type 0} (xs : List X) → xs ++ [] ≡ xs
append_nil [] = refl
append_nil (x ∷ xs) = ap (λ ys. x ∷ ys) (append_nil xs)

names_with : (env : Env) (e : Entry) → flat_map names (env ++ e ∷ []) ≡ flat_map names env ++ names e
names_with env e = flat_map-append names env (e ∷ []) ∙ ap (λ ns. flat_map names env ++ ns) (append_nil (names e))

good_after_with : (before : Env) (env : Env) (e : Entry) → AreGoodAfter before env → IsGoodEntry (before ++ env) e → AreGoodAfter before (env ++ e ∷ [])
good_after_with before [] e h g = (subst (λ xs. IsGoodEntry xs e) (append_nil before) g, tt)
good_after_with before (d ∷ ds) e h g =
    (h.0, good_after_with (before ++ d ∷ []) ds e h.1 (subst (λ xs. IsGoodEntry xs e) (sym (append_assoc before (d ∷ []) ds)) g))

pub well_formed_with : (env : Env) (e : Entry) → IsWellFormed env → HasNewNames env e → IsGoodEntry env e → IsWellFormed (env ++ e ∷ [])
well_formed_with env e w new good =
    record {
      distinct = subst (IsDistinct bytes_eq) (sym (names_with env e))
          (distinct_append (flat_map names env) (names e) w.distinct new.different (turned (flat_map names env) (names e) (all_apart env (names e) new.new)));
      entries = good_after_with [] env e w.entries good;
    }

pub empty_well_formed : IsWellFormed []
unfolding IsDistinct
empty_well_formed = record { distinct = tt; entries = tt }

-- the names that are listed
pub names_of_data : (d : DataDecl) → names (Data d) ≡ d.name ∷ all_con_names d.cons
names_of_data d = ap (λ ns. d.name ∷ ns) (each d.cons)
  where
    fields : (c : Con) (i : ℕ) (fs : List Var) → map (λ (p : Name × Symbol). p.0) (map (λ (f : ℕ × Var). (f.1.name, DesOf d c f.0 f.1)) (enumerate_from i fs)) ≡ map (λ (f : Var). f.name) fs
    fields c i [] = refl
    fields c i (f ∷ fs) = ap (λ ns. f.name ∷ ns) (fields c (i + 1) fs)

    map_append : (xs ys : List (Name × Symbol)) → map (λ (p : Name × Symbol). p.0) (xs ++ ys) ≡ map (λ (p : Name × Symbol). p.0) xs ++ map (λ (p : Name × Symbol). p.0) ys
    map_append [] ys = refl
    map_append (x ∷ xs) ys = ap (λ ns. x.0 ∷ ns) (map_append xs ys)

    each : (cs : List Con) → map (λ (p : Name × Symbol). p.0) (flat_map (con_symbols d) cs) ≡ all_con_names cs
    each [] = refl
    each (c ∷ cs) =
        map_append (con_symbols d c) (flat_map (con_symbols d) cs)
        ∙ ap (λ ns. ns ++ map (λ (p : Name × Symbol). p.0) (flat_map (con_symbols d) cs)) (ap (λ ns. c.name ∷ ns) (fields c 0 c.fields))
        ∙ ap (λ ns. con_names c ++ ns) (each cs)

pub drop_at : {X : Type 0} (xs : List X) (i : ℕ) (x : X) → x ≡ get_or xs i x → i < length xs → drop i xs ≡ x ∷ drop (i + 1) xs
drop_at xs i x e h = drop-cons xs i x h ∙ ap (λ u. u ∷ drop (suc i) xs) (sym e) ∙ ap (λ k. x ∷ drop k xs) (sym (add-one i))

pub drop_all : {X : Type 0} (xs : List X) (i : ℕ) → length xs ≤ i → drop i xs ≡ []
drop_all [] zero h = refl
drop_all [] (suc i) h = refl
drop_all (x ∷ xs) zero h = absurd (omega arith)
drop_all (x ∷ xs) (suc i) h = drop_all xs i (omega arith)

pub ruleset listed = (names_of_data, drop_at, drop_all, append_assoc)
