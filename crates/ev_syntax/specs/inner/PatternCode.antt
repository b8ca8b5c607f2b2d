-- Codes for bound names and patterns, by which a proof tells them apart.
use Rattle.std.specs.Prelude.{◌≡◌, ℕ, List, Option, refl}
use Rattle.std.specs.Coded.{Coded, code_by, coded_list, coded_option, coded×, coded_ℕ}
use base.Stored.{Gv, gnil, gnum, gcons}
use Rattle.ev_syntax.specs.inner.Tags.{clash}
use Rattle.ev_syntax.specs.Raw.{RawType, Binder, Pattern, bound, pair}
use Rattle.ev_syntax.specs.inner.TypeCode.{type_code}

abbrev pub binder_code : Coded Binder
binder_code =
    code_by (List ℕ × Option RawType) (coded× (coded_list coded_ℕ) (coded_option type_code)) (λ b. (b.name, b.type)) (λ p. record { name = p.0; type = p.1 }) (λ _. refl)

mutual
  pub code : Pattern → Gv
  code (bound a) = gcons (gnum 0) (gcons (binder_code.code a) gnil)
  code (pair a b) = gcons (gnum 1) (gcons (code a) (gcons (code b) gnil))

bound_by : (a a' : Binder) → a ≡ a' → bound a ≡ bound a'
bound_by a a' e0 = cc

pair_by : (a a' : Pattern) (b b' : Pattern) → a ≡ a' → b ≡ b' → pair a b ≡ pair a' b'
pair_by a a' b b' e0 e1 = cc

mutual
  unfolding code

  pub inj : (x y : Pattern) → code x ≡ code y → x ≡ y
  inj (bound a) (bound a') e = bound_by _ _ (binder_code.inj a a' (cc))
  inj (bound a) (pair a' b') e = clash _ _ _ refl e
  inj (pair a b) (bound a') e = clash _ _ _ refl e
  inj (pair a b) (pair a' b') e = pair_by _ _ _ _ (inj a a' (cc)) (inj b b' (cc))

abbrev pub pattern_code : Coded Pattern
pattern_code = record { code = code; inj = inj }
