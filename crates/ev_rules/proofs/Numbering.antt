-- Lists of numbers, and of formulas, that grow at their end.
use Rattle.std.proofs.Common.{◌≡◌, ℕ, suc, ◌+◌, ◌-◌, ◌≤◌, ◌<◌, List, [], ◌∷◌, ◌++◌, length, drop, get_or, append_assoc, ap, sym, ◌∙◌, refl, arith}
use Rattle.std.specs.Prelude.{flat_map}
use Rattle.std.specs.List.{range_with_len}
use Rattle.ev_typing.proofs.Names.{drop_at, drop_all}

range_step : (i n : ℕ) → i < n → range_with_len i (n - i) ≡ i ∷ range_with_len (i + 1) (n - (i + 1))
range_step i n h =
    let e : n - i ≡ suc (n - (i + 1)) = omega arith in
    ap (range_with_len i) e

pub range_more : (i n : ℕ) (ns ms all : List ℕ) → i < n → ms ≡ ns ++ i ∷ [] → ns ++ range_with_len i (n - i) ≡ all → ms ++ range_with_len (i + 1) (n - (i + 1)) ≡ all
range_more i n ns ms all h e q =
    ap (λ xs. xs ++ range_with_len (i + 1) (n - (i + 1))) e ∙ append_assoc ns (i ∷ []) (range_with_len (i + 1) (n - (i + 1)))
    ∙ sym (ap (λ xs. ns ++ xs) (range_step i n h)) ∙ q

append_nil : {X : Type 0} (xs : List X) → xs ++ [] ≡ xs
append_nil [] = refl
append_nil (x ∷ xs) = ap (λ ys. x ∷ ys) (append_nil xs)

pub range_done : (i n : ℕ) (ns all : List ℕ) → n ≤ i → ns ++ range_with_len i (n - i) ≡ all → ns ≡ all
range_done i n ns all h q =
    let e : n - i ≡ 0 = omega arith in
    sym (append_nil ns) ∙ sym (ap (λ k. ns ++ range_with_len i k) e) ∙ q

-- the parts of each item, appended
pub parts_more : {X Y : Type 0} (f : X → List Y) (xs : List X) (i : ℕ) (x : X) (ys zs all : List Y) → x ≡ get_or xs i x → i < length xs → zs ≡ ys ++ f x →
    ys ++ flat_map f (drop i xs) ≡ all → zs ++ flat_map f (drop (i + 1) xs) ≡ all
parts_more f xs i x ys zs all p h e q =
    ap (λ us. us ++ flat_map f (drop (i + 1) xs)) e ∙ append_assoc ys (f x) (flat_map f (drop (i + 1) xs))
    ∙ sym (ap (λ us. ys ++ flat_map f us) (drop_at xs i x p h)) ∙ q

pub parts_done : {X Y : Type 0} (f : X → List Y) (xs : List X) (i : ℕ) (ys all : List Y) → length xs ≤ i → ys ++ flat_map f (drop i xs) ≡ all → ys ≡ all
parts_done f xs i ys all h q = sym (append_nil ys) ∙ sym (ap (λ us. ys ++ flat_map f us) (drop_all xs i h)) ∙ q

pub items_more : {X : Type 0} (xs : List X) (i : ℕ) (x : X) (ys zs all : List X) → x ≡ get_or xs i x → i < length xs → zs ≡ ys ++ x ∷ [] →
    ys ++ drop i xs ≡ all → zs ++ drop (i + 1) xs ≡ all
items_more xs i x ys zs all p h e q =
    ap (λ us. us ++ drop (i + 1) xs) e ∙ append_assoc ys (x ∷ []) (drop (i + 1) xs) ∙ sym (ap (λ us. ys ++ us) (drop_at xs i x p h)) ∙ q

pub items_done : {X : Type 0} (xs : List X) (i : ℕ) (ys all : List X) → length xs ≤ i → ys ++ drop i xs ≡ all → ys ≡ all
items_done xs i ys all h q = sym (append_nil ys) ∙ sym (ap (λ us. ys ++ us) (drop_all xs i h)) ∙ q

pub ruleset ranges = (range_more, range_done)

pub ruleset gathered = (parts_more, parts_done, items_more, items_done)
