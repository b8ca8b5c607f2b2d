-- What the code that puts types into signatures needs.
use Rattle.std.specs.Prelude.{◌≡◌, ◌==◌, ◌+◌, ◌-◌, ℕ, zero, suc, Bool as Boolean, List, [], ◌∷◌, ◌++◌, Option, Some, None, map, length, slice_get, option_map, Result, Ok, Err, IfOk, refl}
use Rattle.std.specs.Option.{option_and_then, unwrap_or}
use Rattle.std.proofs.Common.{ap, sym, ◌∙◌, append_assoc, arith}
use Rattle.std.proofs.lemmas.Bool.Decides.{nat_tests}
use Rattle.std.proofs.lemmas.Option.{slice_get-map}
use Rattle.ev_terms.specs.declared.types.Ty.{Ty, Param, Data}
use Rattle.ev_terms.specs.declared.types.Tys.{Tys, Empty}
use Rattle.ev_terms.specs.declared.types.Tys.TheVariants.{More}
use Rattle.ev_terms.specs.Types.{pow, prod, more, type_list, Pow-pow, Prod-prod, More-more}
use Rattle.ev_terms.specs.Substitution.{type_inst, types_inst, type_at}
use Rattle.ev_terms.proofs.TypeSteps.{type_list-More, before_rest}
use Rattle.ev_typing.specs.declared.typing.Entry.{Entry}
use Rattle.ev_typing.specs.declared.typing.DataDecl.{DataDecl}
use Rattle.ev_typing.specs.declared.table.Row.{Row}
use Rattle.ev_typing.specs.declared.instances.Instance.{Instance}
use Rattle.ev_typing.specs.TypeLists.{params_from, own_types}
use Rattle.ev_typing.specs.Profiles.{base_profiles, base_profile}
use Rattle.ev_typing.specs.Table.{row_profile}
use Rattle.ev_typing.specs.Env.{Env, Name, Symbol, look_up, symbols, declaring, find_symbol, symbol_profile}
use Rattle.ev_typing.specs.WellFormed.{IsWellFormed}
use Rattle.ev_typing.specs.inner.Instances.{at_types}
use Rattle.ev_typing.proofs.Entries.{find_symbol-declaring}

pub ruleset forms = (Pow-pow, Prod-prod, More-more)

pub ruleset counting = (type_list-More)

pub count_one_more : (k n : ℕ) → (n ≡ 0 → ⊥) → (k == n - 1) ≡ (suc k == n)
count_one_more k zero h = absurd (h refl)
count_one_more k (suc n) h = grind (arith, nat_tests)

pub count_step : (n : ℕ) (b : Boolean) (a : Ty) (left rest got : Tys) → left ≡ More a rest → got ≡ rest → (n ≡ 0 → ⊥) → (length (type_list left) == n) ≡ b →
    (length (type_list got) == n - 1) ≡ b
count_step n b a left rest got l g h e =
    count_one_more (length (type_list got)) n h ∙ sym (ap (λ ts. length (type_list ts) == n) (before_rest left rest got a l g)) ∙ e

pub types_step : (θ : ℕ → Ty) (args new all : List Ty) (x a : Ty) (left rest got : Tys) → left ≡ More a rest → x ≡ type_inst θ a → new ≡ args ++ x ∷ [] → got ≡ rest →
    args ++ map (type_inst θ) (type_list left) ≡ all → new ++ map (type_inst θ) (type_list got) ≡ all
types_step θ args new all x a left rest got l p q g h =
    ap (λ ys. ys ++ map (type_inst θ) (type_list got)) (q ∙ ap (λ y. args ++ y ∷ []) p)
    ∙ append_assoc args (type_inst θ a ∷ []) (map (type_inst θ) (type_list got))
    ∙ ap (λ r. args ++ type_inst θ a ∷ map (type_inst θ) (type_list r)) g
    ∙ sym (ap (λ ts. args ++ map (type_inst θ) ts) (ap type_list l ∙ type_list-More a rest)) ∙ h

-- A base symbol's signature by its row.
pub row_found : (rows : List Row) (k : ℕ) → map row_profile rows ≡ base_profiles → base_profile k ≡ option_map row_profile (slice_get rows k)
row_found rows k e = sym (ap (λ ps. slice_get ps k) e) ∙ slice_get-map row_profile rows k

-- a user's symbol by its entry
pub symbol_found : (env : Env) (n : Name) → IsWellFormed env → option_map symbol_profile (find_symbol env n) ≡ option_and_then (λ e. option_map symbol_profile (look_up (symbols e) n)) (declaring env n)
symbol_found env n w = ap (option_map symbol_profile) (find_symbol-declaring env n w) ∙ by (declaring env n)
  where
    by : (o : Option Entry) → option_map symbol_profile (option_and_then (λ e. look_up (symbols e) n) o) ≡ option_and_then (λ e. option_map symbol_profile (look_up (symbols e) n)) o
    by None = refl
    by (Some e) = refl

pub ok_weaker : {T E : Type 0} {P Q : T → Type 0} (r : Result T E) → ((v : T) → P v → Q v) → IfOk r P → IfOk r Q
ok_weaker (Ok v) f h = f v h
ok_weaker (Err e) f h = h

pub base_some : (rows : List Row) (k : ℕ) (row : Row) (As : Tys) (o : Option Instance) → map row_profile rows ≡ base_profiles → Some row ≡ slice_get rows k →
    o ≡ at_types As (row_profile row) → o ≡ option_and_then (at_types As) (base_profile k)
base_some rows k row As o e p q = q ∙ sym (ap (option_and_then (at_types As)) (row_found rows k e ∙ ap (option_map row_profile) (sym p)))

pub base_none : (rows : List Row) (k : ℕ) (As : Tys) → map row_profile rows ≡ base_profiles → None ≡ slice_get rows k → None ≡ option_and_then (at_types As) (base_profile k)
base_none rows k As e p = sym (ap (option_and_then (at_types As)) (row_found rows k e ∙ ap (option_map row_profile) (sym p)))

pub user_some : (env : Env) (n : Name) (s : Symbol) (As : Tys) (o : Option Instance) → Some s ≡ find_symbol env n → o ≡ at_types As (symbol_profile s) →
    o ≡ option_and_then (at_types As) (option_map symbol_profile (find_symbol env n))
user_some env n s As o p q = q ∙ ap (λ x. option_and_then (at_types As) (option_map symbol_profile x)) p

pub user_none : (env : Env) (n : Name) (As : Tys) → None ≡ find_symbol env n → None ≡ option_and_then (at_types As) (option_map symbol_profile (find_symbol env n))
user_none env n As p = ap (λ x. option_and_then (at_types As) (option_map symbol_profile x)) p

-- A datatype at its own parameters, the types put in.
shifted : (As : Tys) (before : List Ty) (rest : Tys) → type_list As ≡ before ++ type_list rest → types_inst (type_at As) (params_from (length before) (length (type_list rest))) ≡ rest
shifted As before Empty e = refl
shifted As before (more A rest) e =
    ap (λ B. more B (types_inst (type_at As) (params_from (length before + 1) (length (type_list rest)))))
    (ap (λ As'. unwrap_or (slice_get As' (length before)) (Param (length before))) e ∙ at before)
    ∙ ap (more A) (ap (λ k. types_inst (type_at As) (params_from k (length (type_list rest)))) (sym (longer before))
    ∙ shifted As (before ++ A ∷ []) rest (e ∙ regroup before))
  where
    at : (bs : List Ty) → unwrap_or (slice_get (bs ++ A ∷ type_list rest) (length bs)) (Param (length before)) ≡ A
    at [] = refl
    at (b ∷ bs) = at bs

    longer : (bs : List Ty) → length (bs ++ A ∷ []) ≡ length bs + 1
    longer [] = refl
    longer (b ∷ bs) = let p : length (bs ++ A ∷ []) ≡ length bs + 1 = longer bs in omega arith

    regroup : (bs : List Ty) → bs ++ A ∷ type_list rest ≡ (bs ++ A ∷ []) ++ type_list rest
    regroup [] = refl
    regroup (b ∷ bs) = ap (λ cs. b ∷ cs) (regroup bs)

pub own_at : (As : Tys) (n : ℕ) → length (type_list As) ≡ n → types_inst (type_at As) (own_types n) ≡ As
own_at As n e = ap (λ k. types_inst (type_at As) (own_types k)) (sym e) ∙ shifted As [] As refl

pub own_type_at : (As : Tys) (d : DataDecl) → length (type_list As) ≡ d.params → type_inst (type_at As) (Data d.name (own_types d.params)) ≡ Data d.name As
own_type_at As d e = ap (Data d.name) (own_at As d.params e)

pub ruleset own = (own_type_at)
