-- The numbers of type parameters by a table.
use Rattle.std.specs.Prelude.{◌≡◌, ◌||◌, ℕ, ◌+◌, ◌-◌, ◌<◌, ◌≤◌, Bool, true, false, List, [], ◌∷◌, length, drop, position, is_some, Option, Some, bytes_eq, cond, refl}
use Rattle.std.specs.List.{list_any, position_from}
use Rattle.std.proofs.lemmas.Iterator.Adapters.{position_from-zero}
use Rattle.std.proofs.Common.{ap, sym, ◌∙◌, get_or, arith}
use Rattle.ev_typing.proofs.Names.{drop_at}
use Rattle.ev_resolve.proofs.Declared.{flip}

-- one more name, in front of the others
pub numbered : (n k : List ℕ) (params : List (List ℕ)) (left : ℕ) (old new : Option ℕ) → 0 < left → left ≤ length params → k ≡ get_or params (left - 1) k
    → old ≡ position_from (bytes_eq n) left (drop left params) → new ≡ cond (bytes_eq k n) (Some (left - 1)) old
    → new ≡ position_from (bytes_eq n) (left - 1) (drop (left - 1) params)
numbered n k params left old new some within at before put =
    put
    ∙ ap (λ o. cond (bytes_eq k n) (Some (left - 1)) o) before
    ∙ ap (λ b. cond b (Some (left - 1)) (position_from (bytes_eq n) left (drop left params))) (flip k n)
    ∙ ap (λ j. cond (bytes_eq n k) (Some (left - 1)) (position_from (bytes_eq n) j (drop j params))) (sym next)
    ∙ sym (ap (position_from (bytes_eq n) (left - 1)) (drop_at params (left - 1) k at (omega (arith, some, within))))
  where
    next : left - 1 + 1 ≡ left
    next = omega (arith, some)

found_from : (t : List ℕ → Bool) (i : ℕ) (xs : List (List ℕ)) → is_some (position_from t i xs) ≡ list_any t xs
found_from t i [] = refl
found_from t i (x ∷ xs) = by (t x) (found_from t (i + 1) xs)
  where
    by : (b : Bool) → is_some (position_from t (i + 1) xs) ≡ list_any t xs → is_some (cond b (Some i) (position_from t (i + 1) xs)) ≡ (b || list_any t xs)
    by true h = refl
    by false h = h

-- a name that has a number is among the names
pub is_numbered : (n : List ℕ) (params : List (List ℕ)) → is_some (position (bytes_eq n) params) ≡ list_any (bytes_eq n) params
is_numbered n params = ap is_some (position_from-zero (bytes_eq n) params) ∙ found_from (bytes_eq n) 0 params
