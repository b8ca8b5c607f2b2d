-- A code for written types, by which a proof tells them apart.
use Rattle.std.specs.Prelude.{◌≡◌, ℕ, List, refl}
use Rattle.std.specs.Coded.{Coded, coded_list, coded_ℕ}
use base.Stored.{Gv, gnil, gnum, gcons}
use Rattle.ev_syntax.specs.inner.Tags.{clash}
use Rattle.ev_syntax.specs.Raw.{RawType, RawTypes, int_type, bool_type, param_type, named_type, pow_type, prod_type, no_types, one_type}

mutual
  pub code : RawType → Gv
  code int_type = gcons (gnum 0) gnil
  code bool_type = gcons (gnum 1) gnil
  code (param_type a) = gcons (gnum 2) (gcons (gnum a) gnil)
  code (named_type a b) = gcons (gnum 3) (gcons ((coded_list coded_ℕ).code a) (gcons (codes b) gnil))
  code (pow_type a) = gcons (gnum 4) (gcons (code a) gnil)
  code (prod_type a b) = gcons (gnum 5) (gcons (code a) (gcons (code b) gnil))

  pub codes : RawTypes → Gv
  codes no_types = gcons (gnum 0) gnil
  codes (one_type a b) = gcons (gnum 1) (gcons (code a) (gcons (codes b) gnil))

param_type_by : (a a' : ℕ) → a ≡ a' → param_type a ≡ param_type a'
param_type_by a a' e0 = cc

named_type_by : (a a' : List ℕ) (b b' : RawTypes) → a ≡ a' → b ≡ b' → named_type a b ≡ named_type a' b'
named_type_by a a' b b' e0 e1 = cc

pow_type_by : (a a' : RawType) → a ≡ a' → pow_type a ≡ pow_type a'
pow_type_by a a' e0 = cc

prod_type_by : (a a' : RawType) (b b' : RawType) → a ≡ a' → b ≡ b' → prod_type a b ≡ prod_type a' b'
prod_type_by a a' b b' e0 e1 = cc

one_type_by : (a a' : RawType) (b b' : RawTypes) → a ≡ a' → b ≡ b' → one_type a b ≡ one_type a' b'
one_type_by a a' b b' e0 e1 = cc

mutual
  unfolding code codes

  pub inj : (x y : RawType) → code x ≡ code y → x ≡ y
  inj int_type int_type e = refl
  inj int_type bool_type e = clash _ _ _ refl e
  inj int_type (param_type a') e = clash _ _ _ refl e
  inj int_type (named_type a' b') e = clash _ _ _ refl e
  inj int_type (pow_type a') e = clash _ _ _ refl e
  inj int_type (prod_type a' b') e = clash _ _ _ refl e
  inj bool_type int_type e = clash _ _ _ refl e
  inj bool_type bool_type e = refl
  inj bool_type (param_type a') e = clash _ _ _ refl e
  inj bool_type (named_type a' b') e = clash _ _ _ refl e
  inj bool_type (pow_type a') e = clash _ _ _ refl e
  inj bool_type (prod_type a' b') e = clash _ _ _ refl e
  inj (param_type a) int_type e = clash _ _ _ refl e
  inj (param_type a) bool_type e = clash _ _ _ refl e
  inj (param_type a) (param_type a') e = param_type_by _ _ (cc)
  inj (param_type a) (named_type a' b') e = clash _ _ _ refl e
  inj (param_type a) (pow_type a') e = clash _ _ _ refl e
  inj (param_type a) (prod_type a' b') e = clash _ _ _ refl e
  inj (named_type a b) int_type e = clash _ _ _ refl e
  inj (named_type a b) bool_type e = clash _ _ _ refl e
  inj (named_type a b) (param_type a') e = clash _ _ _ refl e
  inj (named_type a b) (named_type a' b') e = named_type_by _ _ _ _ ((coded_list coded_ℕ).inj a a' (cc)) (injs b b' (cc))
  inj (named_type a b) (pow_type a') e = clash _ _ _ refl e
  inj (named_type a b) (prod_type a' b') e = clash _ _ _ refl e
  inj (pow_type a) int_type e = clash _ _ _ refl e
  inj (pow_type a) bool_type e = clash _ _ _ refl e
  inj (pow_type a) (param_type a') e = clash _ _ _ refl e
  inj (pow_type a) (named_type a' b') e = clash _ _ _ refl e
  inj (pow_type a) (pow_type a') e = pow_type_by _ _ (inj a a' (cc))
  inj (pow_type a) (prod_type a' b') e = clash _ _ _ refl e
  inj (prod_type a b) int_type e = clash _ _ _ refl e
  inj (prod_type a b) bool_type e = clash _ _ _ refl e
  inj (prod_type a b) (param_type a') e = clash _ _ _ refl e
  inj (prod_type a b) (named_type a' b') e = clash _ _ _ refl e
  inj (prod_type a b) (pow_type a') e = clash _ _ _ refl e
  inj (prod_type a b) (prod_type a' b') e = prod_type_by _ _ _ _ (inj a a' (cc)) (inj b b' (cc))

  pub injs : (x y : RawTypes) → codes x ≡ codes y → x ≡ y
  injs no_types no_types e = refl
  injs no_types (one_type a' b') e = clash _ _ _ refl e
  injs (one_type a b) no_types e = clash _ _ _ refl e
  injs (one_type a b) (one_type a' b') e = one_type_by _ _ _ _ (inj a a' (cc)) (injs b b' (cc))

abbrev pub type_code : Coded RawType
type_code = record { code = code; inj = inj }
