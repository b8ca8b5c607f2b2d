-- What the code that looks up signatures needs.
use Rattle.std.specs.Prelude.{◌≡◌, ℕ, suc, ◌+◌, ◌-◌, ◌<◌, List, ◌∷◌, [], ◌++◌, Option, Some, None, map, slice_get, option_map}
use Rattle.std.proofs.Common.{ap, sym, ◌∙◌, append_assoc}
use Rattle.ev_terms.specs.declared.types.Ty.{Ty, Param}
use Rattle.ev_terms.specs.declared.types.Tys.{Tys}
use Rattle.ev_terms.specs.declared.types.Tys.TheVariants.{More}
use Rattle.ev_terms.specs.Types.{more, type_list, More-more}
use Rattle.ev_terms.proofs.TypeSteps.{type_list-More}
use Rattle.ev_typing.specs.declared.table.Row.{Row}
use Rattle.ev_typing.specs.declared.symbol_types.SymbolTypes.{SymbolTypes}
use Rattle.ev_typing.specs.TypeLists.{params_from}
use Rattle.ev_typing.specs.Profiles.{Profile, base_profiles, base_profile}
use Rattle.ev_typing.specs.Table.{row_profile}
use Rattle.ev_typing.specs.Told.{profile_told}
use Rattle.ev_typing.proofs.Signatures.{row_found}

pub list_step : (types new all : List Ty) (x a : Ty) (left rest got : Tys) → left ≡ More a rest → x ≡ a → new ≡ types ++ x ∷ [] → got ≡ rest →
    types ++ type_list left ≡ all → new ++ type_list got ≡ all
list_step types new all x a left rest got l p q g h =
    ap (λ ys. ys ++ type_list got) (q ∙ ap (λ y. types ++ y ∷ []) p)
    ∙ append_assoc types (a ∷ []) (type_list got)
    ∙ ap (λ r. types ++ a ∷ type_list r) g
    ∙ sym (ap (λ ts. types ++ ts) (ap type_list l ∙ type_list-More a rest)) ∙ h

-- A base symbol's signature by its row.
pub base_some : (rows : List Row) (k : ℕ) (row : Row) (t : SymbolTypes) → map row_profile rows ≡ base_profiles → Some row ≡ slice_get rows k →
    profile_told t ≡ row_profile row → option_map profile_told (Some t) ≡ base_profile k
base_some rows k row t e p q = ap (λ x. Some x) q ∙ sym (row_found rows k e ∙ ap (option_map row_profile) (sym p))

pub base_none : (rows : List Row) (k : ℕ) → map row_profile rows ≡ base_profiles → None ≡ slice_get rows k → ◌≡◌ {A = Option Profile} None (base_profile k)
base_none rows k e p = sym (row_found rows k e ∙ ap (option_map row_profile) (sym p))

-- the parameters from one on, with the one before
pub params_step : (i n : ℕ) (rest types : Tys) → rest ≡ params_from (i + 1) n → types ≡ More (Param i) rest → types ≡ params_from i (suc n)
params_step i n rest types e h = h ∙ More-more (Param i) rest ∙ ap (more (Param i)) e

pub params_less : (count i j : ℕ) (rest types : Tys) → 0 < i → i - 1 ≡ j → (h : i ≡ j + 1) → (m : count - j ≡ suc (count - i)) → rest ≡ params_from i (count - i) → types ≡ More (Param j) rest →
    types ≡ params_from j (count - j)
params_less count i j rest types l d h m e t =
    params_step j (count - i) rest types (e ∙ ap (λ k. params_from k (count - i)) h) t ∙ ap (params_from j) (sym m)

pub ruleset counting = (More-more)
