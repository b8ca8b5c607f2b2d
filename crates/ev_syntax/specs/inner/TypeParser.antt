-- Types by a parser that goes down by fuel.
use Rattle.std.specs.Prelude.{ℕ, zero, suc, ◌^◌, Bool, false, ◌==◌, nat_lt, if◌then◌else◌, List, [], ◌∷◌, Option, Some, None}
use Rattle.ev_syntax.specs.Marks.{int_word, bool_set_word, param_sign, pow_word, open_paren, close_paren, comma, product_sign}
use Rattle.ev_syntax.specs.Tokens.{Token, name, number, mark}
use Rattle.ev_syntax.specs.Raw.{RawType, RawTypes, int_type, bool_type, param_type, named_type, pow_type, prod_type, no_types, one_type}
use Rattle.ev_syntax.specs.inner.Finding.{Found, on_found}

abbrev pub begins : ℕ → List Token → Bool
begins m [] = false
begins m (name n ∷ ts) = false
begins m (number n ∷ ts) = false
begins m (mark k ∷ ts) = k == m

-- the mark that comes next is taken
abbrev pub expect : {A : Type 0} → ℕ → List Token → (List Token → Option A) → Option A
expect m [] go = None
expect m (name n ∷ ts) go = None
expect m (number n ∷ ts) go = None
expect m (mark k ∷ ts) go = if k == m then go ts else None

abbrev pub param_at : List Token → Option (Found RawType)
param_at [] = None
param_at (name n ∷ ts) = None
param_at (mark m ∷ ts) = None
param_at (number i ∷ ts) = if nat_lt i (2 ^ 32) then Some (param_type i, ts) else None

abbrev pub named_at : (List Token → Option (Found RawType)) → (List Token → Option (Found RawTypes)) → List ℕ → List Token → Option (Found RawType)
named_at whole more n ts =
    if begins open_paren ts then
    expect open_paren ts (λ us. on_found (whole us) (λ a vs. on_found (more vs) (λ types ws. expect close_paren ws (λ rest. Some (named_type n (one_type a types), rest)))))
    else Some (named_type n no_types, ts)

abbrev pub type_atom : (List Token → Option (Found RawType)) → (List Token → Option (Found RawTypes)) → List Token → Option (Found RawType)
type_atom whole more [] = None
type_atom whole more (number n ∷ ts) = None
type_atom whole more (name n ∷ ts) = named_at whole more n ts
type_atom whole more (mark m ∷ ts) =
    if m == int_word then Some (int_type, ts) else
    (if m == bool_set_word then Some (bool_type, ts) else
    (if m == param_sign then param_at ts else
    (if m == pow_word then expect open_paren ts (λ us. on_found (whole us) (λ a vs. expect close_paren vs (λ rest. Some (pow_type a, rest)))) else
    (if m == open_paren then on_found (whole ts) (λ a vs. expect close_paren vs (λ rest. Some (a, rest))) else None))))

abbrev pub more_factors : ℕ → (List Token → Option (Found RawType)) → RawType → List Token → Option (Found RawType)
more_factors zero read a ts = Some (a, ts)
more_factors (suc n) read a ts =
    if begins product_sign ts then expect product_sign ts (λ us. on_found (read us) (λ b vs. more_factors n read (prod_type a b) vs)) else Some (a, ts)

pub data Want : Type 0 where
  an_atom : Want
  a_type : Want

abbrev pub more_types : ℕ → (List Token → Option (Found RawType)) → List Token → Option (Found RawTypes)
more_types zero read ts = Some (no_types, ts)
more_types (suc n) read ts =
    if begins comma ts then expect comma ts (λ us. on_found (read us) (λ a vs. on_found (more_types n read vs) (λ types ws. Some (one_type a types, ws)))) else Some (no_types, ts)

-- types by fuel
abbrev pub parse_type : ℕ → Want → List Token → Option (Found RawType)
parse_type zero w ts = None
parse_type (suc f) an_atom ts = type_atom (parse_type f a_type) (more_types f (parse_type f a_type)) ts
parse_type (suc f) a_type ts = on_found (parse_type f an_atom ts) (more_factors f (parse_type f an_atom))
