-- Options that are there, and tests that fail on each item.
use Rattle.std.specs.Prelude.{◌≡◌, ◌||◌, ℕ, ◌<◌, ◌≤◌, Bool as Boolean, true, false, List, [], ◌∷◌, ◌++◌, Option, Some, None, map, length, option_map, option_and_then, refl}
use Rattle.std.specs.List.{AllByRecursion, AllZip, list_any}
use Rattle.std.proofs.Common.{ap, ◌∙◌, subst as transport, true≢false, arith}
use Rattle.ev_elab.specs.Types.{all_of}

pub and_then_some : {X Y : Type 0} (f : X → Option Y) (o : Option X) (y : Y) → option_and_then f o ≡ Some y → (x : X) × (o ≡ Some x) × (f x ≡ Some y)
and_then_some f None y e = cc
and_then_some f (Some x) y e = (x, refl, e)

pub map_some : {X Y : Type 0} (f : X → Y) (o : Option X) (y : Y) → option_map f o ≡ Some y → (x : X) × (o ≡ Some x) × (f x ≡ y)
map_some f None y e = cc
map_some f (Some x) y e = (x, refl, cc)

pub some_is : {X : Type 0} (x y : X) → ◌≡◌ {A = Option X} (Some x) (Some y) → x ≡ y
some_is x y e = cc

-- the values of a list that are all there
pub all_read : {X Y : Type 0} (f : X → Option Y) (xs : List X) (ys : List Y) → all_of (map f xs) ≡ Some ys → AllZip (λ x y. f x ≡ Some y) xs ys
all_read f [] [] e = tt
all_read f [] (y ∷ ys) e = cc
all_read {X} {Y} f (x ∷ xs) ys e =
    let p = and_then_some (λ (z : Y). option_map (λ zs. z ∷ zs) (all_of (map f xs))) (f x) ys e in
    let q = map_some (λ zs. p.0 ∷ zs) (all_of (map f xs)) ys p.2 in
    transport (AllZip (λ (z : X) w. f z ≡ Some w) (x ∷ xs)) q.2 (p.1, all_read f xs q.0 q.1)

pub or_none : (a b : Boolean) → (a || b) ≡ false → (a ≡ false) × (b ≡ false)
or_none true b e = absurd (true≢false e)
or_none false b e = (refl, e)

pub any_none : {X : Type 0} (p : X → Boolean) (xs : List X) → list_any p xs ≡ false → AllByRecursion (λ x. p x ≡ false) xs
any_none p [] e = tt
any_none p (x ∷ xs) e = let q = or_none (p x) (list_any p xs) e in (q.0, any_none p xs q.1)

pub none_append : {X : Type 0} (p : X → Boolean) (xs ys : List X) → list_any p (xs ++ ys) ≡ false → (list_any p xs ≡ false) × (list_any p ys ≡ false)
none_append p [] ys e = (refl, e)
none_append p (x ∷ xs) ys e =
    let q = or_none (p x) (list_any p (xs ++ ys)) e in
    let r = none_append p xs ys q.1 in
    (ap (λ b. b || list_any p xs) q.0 ∙ r.0, r.1)

pub not_less : (m n : ℕ) → ¬ (m < n) → n ≤ m
not_less m n h = grind (arith, h)

pub zip_length : {X Y : Type 0} (P : X → Y → Type 0) (xs : List X) (ys : List Y) → AllZip P xs ys → length ys ≡ length xs
zip_length P [] [] h = refl
zip_length P [] (y ∷ ys) h = absurd h
zip_length P (x ∷ xs) [] h = absurd h
zip_length P (x ∷ xs) (y ∷ ys) h = let e = zip_length P xs ys h.1 in cc

-- what holds of the right items, where it follows from the left ones
pub zip_right : {X Y : Type 0} {P : X → Y → Type 0} (Q : Y → Type 0) (xs : List X) (ys : List Y) → ((x : X) (y : Y) → P x y → Q y) → AllZip P xs ys → AllByRecursion Q ys
zip_right Q [] [] k h = tt
zip_right Q [] (y ∷ ys) k h = absurd h
zip_right Q (x ∷ xs) [] k h = absurd h
zip_right Q (x ∷ xs) (y ∷ ys) k h = (k x y h.0, zip_right Q xs ys k h.1)

-- where it follows from what holds of the left ones
pub zip_both : {X Y : Type 0} {P : X → Y → Type 0} {R : X → Type 0} (Q : Y → Type 0) (xs : List X) (ys : List Y) → ((x : X) (y : Y) → P x y → R x → Q y) → AllZip P xs ys → AllByRecursion R xs → AllByRecursion Q ys
zip_both Q [] [] k h g = tt
zip_both Q [] (y ∷ ys) k h g = absurd h
zip_both Q (x ∷ xs) [] k h g = absurd h
zip_both Q (x ∷ xs) (y ∷ ys) k h g = (k x y h.0 g.0, zip_both Q xs ys k h.1 g.1)

pub all_map : {X Y : Type 0} (P : Y → Type 0) (f : X → Y) (xs : List X) → AllByRecursion (λ x. P (f x)) xs → AllByRecursion P (map f xs)
all_map P f [] h = tt
all_map P f (x ∷ xs) h = (h.0, all_map P f xs h.1)

pub map_all : {X Y : Type 0} (P : Y → Type 0) (f : X → Y) (xs : List X) → AllByRecursion P (map f xs) → AllByRecursion (λ x. P (f x)) xs
map_all P f [] h = tt
map_all P f (x ∷ xs) h = (h.0, map_all P f xs h.1)
