-- Parameters in types at what the code writes.
use Rattle.std.proofs.Common.{◌≡◌, ℕ, suc, ◌+◌, ◌*◌, ◌-◌, ◌<◌, ◌≤◌, Bool as Boolean, true, false, ◌||◌, refl, ap, sym, ◌∙◌, arith}
use Rattle.std.specs.List.{list_any, range_with_len}
use Rattle.ev_terms.specs.declared.types.Ty.{Ty}
use Rattle.ev_terms.specs.declared.types.Tys.{Tys, Empty}
use Rattle.ev_terms.specs.declared.types.Ty.TheVariants.{Pow, Prod}
use Rattle.ev_terms.specs.declared.types.Tys.TheVariants.{More}
use Rattle.ev_terms.specs.Types.{more, type_list, Pow-pow, Prod-prod, More-more}
use Rattle.ev_terms.specs.Measures.{type_size, types_size}
use Rattle.ev_typing.specs.Occurs.{has_param, have_param}
use Rattle.ev_typing.proofs.Names.{drop_at, drop_all}
use Rattle.ev_print.proofs.TypeSteps.{type_size-Pow, type_size-Prod, types_size-More}

pub has_param-Pow : (j : ℕ) (a : Ty) → has_param j (Pow a) ≡ has_param j a
has_param-Pow j a = ap (has_param j) (Pow-pow a)

pub has_param-Prod : (j : ℕ) (a b : Ty) → has_param j (Prod a b) ≡ (has_param j a || has_param j b)
has_param-Prod j a b = ap (has_param j) (Prod-prod a b)

pub have_param-More : (j : ℕ) (a : Ty) (rest : Tys) → have_param j (More a rest) ≡ (has_param j a || have_param j rest)
have_param-More j a rest = ap (have_param j) (More-more a rest)

pub ruleset walk = (has_param-Pow, has_param-Prod, have_param-More, type_size-Pow, type_size-Prod, types_size-More)

pub listed_param : (j : ℕ) (As : Tys) → have_param j As ≡ list_any (has_param j) (type_list As)
listed_param j Empty = refl
listed_param j (more A As) = ap (λ b. has_param j A || b) (listed_param j As)

pub ruleset fields = (drop_at, drop_all)

-- a test on the numbers from i up to n
pub any_step : (f : ℕ → Boolean) (i n : ℕ) → i < n → list_any f (range_with_len i (n - i)) ≡ (f i || list_any f (range_with_len (i + 1) (n - (i + 1))))
any_step f i n l = let e : n - i ≡ suc (n - (i + 1)) = omega arith in ap (λ k. list_any f (range_with_len i k)) e

pub any_end : (f : ℕ → Boolean) (i n : ℕ) → n ≤ i → list_any f (range_with_len i (n - i)) ≡ false
any_end f i n l = let e : n - i ≡ 0 = omega arith in ap (λ k. list_any f (range_with_len i k)) e

pub ruleset params = (any_step, any_end, listed_param)

-- the second type of a product, and a type of a list
pub right_rank : (ty a b r : Ty) → ty ≡ Prod a b → r ≡ b → 2 * type_size r < 2 * type_size ty
right_rank ty a b r e q =
    let x : type_size ty ≡ 1 + (type_size a + type_size b) = ap type_size e ∙ type_size-Prod a b in
    let y : type_size r ≡ type_size b = ap type_size q in
    omega arith

pub item_rank : (all left b : Tys) (a r : Ty) → left ≡ More a b → r ≡ a → types_size left ≤ types_size all → 2 * type_size r < 2 * types_size all + 1
item_rank all left b a r e q h =
    let x : types_size left ≡ type_size a + types_size b = ap types_size e ∙ types_size-More a b in
    let y : type_size r ≡ type_size a = ap type_size q in
    omega arith

pub second_param : (j : ℕ) (ty a b x y : Ty) (r s : Boolean) → ty ≡ Prod a b → x ≡ a → y ≡ b → r ≡ has_param j x → r ≡ false → s ≡ has_param j y → s ≡ has_param j ty
second_param j ty a b x y r s e p q u f v =
    v ∙ ap (has_param j) q
    ∙ sym (ap (has_param j) e ∙ has_param-Prod j a b ∙ ap (λ z. z || has_param j b) (sym (ap (has_param j) p) ∙ sym u ∙ f))

pub rest_param : (j : ℕ) (types rest got : Tys) (a x : Ty) (r s : Boolean) → types ≡ More a rest → x ≡ a → got ≡ rest → r ≡ has_param j x → r ≡ false → s ≡ have_param j got
    → s ≡ have_param j types
rest_param j types rest got a x r s e p q u f v =
    v ∙ ap (have_param j) q
    ∙ sym (ap (have_param j) e ∙ have_param-More j a rest ∙ ap (λ z. z || have_param j rest) (sym (ap (has_param j) p) ∙ sym u ∙ f))

pub first_param : (j : ℕ) (types left rest : Tys) (a x : Ty) (r : Boolean) → left ≡ More a rest → x ≡ a → r ≡ has_param j x → r ≡ true → have_param j left ≡ have_param j types → true ≡ have_param j types
first_param j types left rest a x r e p u f h =
    ap (λ z. z || have_param j rest) (sym f ∙ u ∙ ap (has_param j) p) ∙ sym (ap (have_param j) e ∙ have_param-More j a rest) ∙ h

pub no_param : (j : ℕ) (types left : Tys) → left ≡ Empty → have_param j left ≡ have_param j types → false ≡ have_param j types
no_param j types left e h = sym (ap (have_param j) e) ∙ h
