-- What the readers of types and heads need.
use Rattle.std.specs.Prelude.{◌≡◌, ◌++◌, ℕ, suc, ◌+◌, ◌-◌, ◌<◌, ◌≤◌, List, [], ◌∷◌, Option, Some, None, map, option_map, refl}
use Rattle.std.specs.List.{range_with_len}
use Rattle.std.proofs.Common.{ap, sym, ◌∙◌, append_assoc, arith}
use Rattle.std.proofs.lemmas.List.{map-append}
use Rattle.ev_terms.specs.declared.types.Ty.{Ty}
use Rattle.ev_terms.specs.declared.types.Tys.{Tys}
use Rattle.ev_terms.specs.Types.{type_list}
use Rattle.ev_typing.specs.TypeLists.{types}
use Rattle.ev_typing.proofs.Names.{drop_at, drop_all}
use Rattle.ev_typing.proofs.Laws.{types-type_list}
use Rattle.ev_typing.proofs.Proper.{proper_from_test, test_from_proper}
use Rattle.ev_elab.specs.Types.{all_of}

pub ruleset proper = (proper_from_test, test_from_proper)

pub types_from : (As : Tys) (xs : List Ty) → type_list As ≡ xs → As ≡ types xs
types_from As xs e = sym (types-type_list As) ∙ ap types e

-- one more that is there
pub one_there : {X Y : Type 0} (f : X → Option Y) (done : List Y) (x : X) (y : Y) (rest : List X) → Some y ≡ f x
    → option_map (λ ys. done ++ ys) (all_of (map f (x ∷ rest))) ≡ option_map (λ ys. (done ++ y ∷ []) ++ ys) (all_of (map f rest))
one_there {X = X} {Y = Y} f done x y rest e =
    ap (λ o. option_map (λ ys. done ++ ys) (all_of (o ∷ map f rest))) (sym e) ∙ by (all_of (map f rest))
  where
    by : (o : Option (List Y)) → option_map (λ ys. done ++ ys) (option_map (λ ys. y ∷ ys) o) ≡ option_map (λ ys. (done ++ y ∷ []) ++ ys) o
    by None = refl
    by (Some ys) = ap Some (sym (append_assoc done (y ∷ []) ys))

pub ruleset lists = (drop_at, drop_all, one_there)

pub ruleset vectors = (drop_at, drop_all, append_assoc, map-append, types_from)

-- the parameters from one number on
step : (i n : ℕ) → i < n → range_with_len i (n - i) ≡ i ∷ range_with_len (i + 1) (n - (i + 1))
step i n h =
    let e : n - i ≡ suc (n - (i + 1)) = omega arith in
    ap (range_with_len i) e

pub own_more : (f : ℕ → Ty) (i n : ℕ) (As Bs all : List Ty) → i < n → Bs ≡ As ++ f i ∷ [] → As ++ map f (range_with_len i (n - i)) ≡ all
    → Bs ++ map f (range_with_len (i + 1) (n - (i + 1))) ≡ all
own_more f i n As Bs all h e q =
    ap (λ xs. xs ++ map f (range_with_len (i + 1) (n - (i + 1)))) e
    ∙ append_assoc As (f i ∷ []) (map f (range_with_len (i + 1) (n - (i + 1))))
    ∙ sym (ap (λ xs. As ++ map f xs) (step i n h)) ∙ q

append_nothing : (xs : List Ty) → xs ++ [] ≡ xs
append_nothing [] = refl
append_nothing (x ∷ xs) = ap (λ ys. x ∷ ys) (append_nothing xs)

pub own_done : (f : ℕ → Ty) (i n : ℕ) (As all : List Ty) → n ≤ i → As ++ map f (range_with_len i (n - i)) ≡ all → As ≡ all
own_done f i n As all h q =
    let e : n - i ≡ 0 = omega arith in
    sym (append_nothing As) ∙ sym (ap (λ k. As ++ map f (range_with_len i k)) e) ∙ q

pub ruleset numbers = (types_from)
