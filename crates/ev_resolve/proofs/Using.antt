-- What the walk over used names needs.
use Rattle.std.specs.Prelude.{◌≡◌, ◌||◌, ℕ, zero, suc, ◌+◌, ◌<◌, ◌≤◌, Bool, true, false, not, List, [], ◌∷◌, ◌++◌, length, take, bytes_eq, cond, refl}
use Rattle.std.specs.List.{list_any}
use Rattle.std.proofs.Common.{ap, sym, ◌∙◌, arith, get_or, append_assoc}
use Rattle.std.proofs.lemmas.List.Folds.{list_any-append}
use Rattle.std.proofs.lemmas.List.{map-append, reverse-append}
use Rattle.ev_syntax.specs.Raw.{RawType, Binder}
use Rattle.ev_syntax.specs.inner.TypeView.{raw_types, height as type_height, types_height}
use Rattle.ev_typing.proofs.Names.{drop_at, drop_all}
use Rattle.ev_resolve.specs.UsedNames.{binders_types_names, written_names, without_bound}
use Rattle.ev_resolve.proofs.Taking.{height_at}
use Rattle.ev_resolve.proofs.NameSteps.{scope_more}

pub type_height_at : (as' : List RawType) (i : ℕ) (a : RawType) → a ≡ get_or as' i a → i < length as' → type_height a ≤ types_height (raw_types as')
type_height_at [] i a q h = absurd (omega (arith, h))
type_height_at (b ∷ bs) zero a q h = let p : type_height a ≡ type_height b = ap type_height q in omega arith
type_height_at (b ∷ bs) (suc i) a q h = omega (arith, type_height_at bs i a q (omega arith))

pub ruleset types = (type_height_at, drop_at, drop_all, list_any-append)

append_nothing : (ns : List (List ℕ)) → ns ++ [] ≡ ns
append_nothing [] = refl
append_nothing (n ∷ ns) = ap (λ l. n ∷ l) (append_nothing ns)

pub binder_alone : (p : List ℕ → Bool) (b : Binder) → list_any p (binders_types_names (b ∷ [])) ≡ list_any p (written_names b.type)
binder_alone p b = ap (list_any p) (append_nothing (written_names b.type))

pub ruleset binders = (drop_at, drop_all, list_any-append)

types_append : (xs ys : List Binder) → binders_types_names (xs ++ ys) ≡ binders_types_names xs ++ binders_types_names ys
types_append [] ys = refl
types_append (x ∷ xs) ys = ap (λ l. written_names x.type ++ l) (types_append xs ys) ∙ sym (append_assoc (written_names x.type) (binders_types_names xs) (binders_types_names ys))

pub pattern_pair : (p : List ℕ → Bool) (xs ys : List Binder) → list_any p (binders_types_names (xs ++ ys)) ≡ (list_any p (binders_types_names xs) || list_any p (binders_types_names ys))
pattern_pair p xs ys = ap (list_any p) (types_append xs ys) ∙ list_any-append p (binders_types_names xs) (binders_types_names ys)

pub ruleset patterns = (pattern_pair, binder_alone)

-- the scope
or_false : (b : Bool) → (b || false) ≡ b
or_false true = refl
or_false false = refl

pub name_bound : (p : List ℕ → Bool) (bound : List (List ℕ)) (n : List ℕ) → true ≡ list_any (bytes_eq n) bound → false ≡ list_any p (without_bound bound (n ∷ []))
name_bound p bound n h = ap (λ b. list_any p (cond (not b) (n ∷ []) [])) h

pub name_free : (p : List ℕ → Bool) (bound : List (List ℕ)) (n : List ℕ) (r : Bool) → false ≡ list_any (bytes_eq n) bound → r ≡ p n → r ≡ list_any p (without_bound bound (n ∷ []))
name_free p bound n r h e = e ∙ sym (or_false (p n)) ∙ ap (λ b. list_any p (cond (not b) (n ∷ []) [])) h

pub take_old : {X : Type 0} (xs : List X) (x : X) → take (length xs) (xs ++ x ∷ []) ≡ xs
take_old [] x = refl
take_old (y ∷ ys) x = ap (λ l. y ∷ l) (take_old ys x)

pub longer : {X : Type 0} (xs : List X) (x : X) → length (xs ++ x ∷ []) ≡ length xs + 1
longer [] x = refl
longer (y ∷ ys) x = omega (arith, longer ys x)

-- what was kept stays kept as more is put behind it
pub kept_more : {X : Type 0} (first old new : List X) → take (length first) old ≡ first → take (length old) new ≡ old → take (length first) new ≡ first
kept_more [] old new h g = refl
kept_more (x ∷ xs) [] new h g = cc
kept_more (x ∷ xs) (y ∷ ys) [] h g = cc
kept_more (x ∷ xs) (y ∷ ys) (z ∷ zs) h g = two h g (kept_more xs ys zs)
  where
    tail : {X : Type 0} (a b : X) (as' bs : List X) → a ∷ as' ≡ b ∷ bs → as' ≡ bs
    tail a b as' bs e = cc

    two : y ∷ take (length xs) ys ≡ x ∷ xs → z ∷ take (length ys) zs ≡ y ∷ ys → (take (length xs) ys ≡ xs → take (length ys) zs ≡ ys → take (length xs) zs ≡ xs) → z ∷ take (length xs) zs ≡ x ∷ xs
    two e f k = let r : take (length xs) zs ≡ xs = k (tail y x (take (length xs) ys) xs e) (tail z y (take (length ys) zs) ys f) in cc

pub ruleset scopes = (scope_more, take_old, longer, reverse-append)

pub ruleset calls = (name_bound, name_free)

pub ruleset walk = (height_at, drop_at, drop_all, list_any-append)
