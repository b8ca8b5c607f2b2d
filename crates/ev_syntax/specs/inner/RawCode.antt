-- A code for raw trees, by which a proof tells them apart.
use Rattle.std.specs.Prelude.{◌≡◌, ℕ, List, refl}
use Rattle.std.specs.Coded.{Coded, coded_list, coded_ℕ}
use base.Stored.{Gv, gnil, gnum, gcons}
use Rattle.ev_syntax.specs.inner.Tags.{clash}
use Rattle.ev_syntax.specs.Raw.{RawType, Binder, Pattern, Raw, Raws, word, literal, param, type_set, call, around, unary, binary, inverse, apply, image, of_type, quantified, set_of, collected, lambda, members, written, none, one}
use Rattle.ev_syntax.specs.inner.TypeCode.{type_code}
use Rattle.ev_syntax.specs.inner.PatternCode.{binder_code, pattern_code}

mutual
  pub code : Raw → Gv
  code (word a) = gcons (gnum 0) (gcons (gnum a) gnil)
  code (literal a) = gcons (gnum 1) (gcons (gnum a) gnil)
  code (param a) = gcons (gnum 2) (gcons (gnum a) gnil)
  code (type_set a) = gcons (gnum 3) (gcons (type_code.code a) gnil)
  code (call a b) = gcons (gnum 4) (gcons ((coded_list coded_ℕ).code a) (gcons (codes b) gnil))
  code (around a b) = gcons (gnum 5) (gcons (gnum a) (gcons (code b) gnil))
  code (unary a b) = gcons (gnum 6) (gcons (gnum a) (gcons (code b) gnil))
  code (binary a b c) = gcons (gnum 7) (gcons (gnum a) (gcons (code b) (gcons (code c) gnil)))
  code (inverse a) = gcons (gnum 8) (gcons (code a) gnil)
  code (apply a b) = gcons (gnum 9) (gcons (code a) (gcons (code b) gnil))
  code (image a b) = gcons (gnum 10) (gcons (code a) (gcons (code b) gnil))
  code (of_type a b) = gcons (gnum 11) (gcons (code a) (gcons (type_code.code b) gnil))
  code (quantified a b c) = gcons (gnum 12) (gcons (gnum a) (gcons ((coded_list binder_code).code b) (gcons (code c) gnil)))
  code (set_of a b) = gcons (gnum 13) (gcons (binder_code.code a) (gcons (code b) gnil))
  code (collected a b c d) = gcons (gnum 14) (gcons (gnum a) (gcons ((coded_list binder_code).code b) (gcons (code c) (gcons (code d) gnil))))
  code (lambda a b c) = gcons (gnum 15) (gcons (pattern_code.code a) (gcons (code b) (gcons (code c) gnil)))
  code (members a) = gcons (gnum 16) (gcons (codes a) gnil)
  code (written a) = gcons (gnum 17) (gcons (type_code.code a) gnil)

  pub codes : Raws → Gv
  codes none = gcons (gnum 0) gnil
  codes (one a b) = gcons (gnum 1) (gcons (code a) (gcons (codes b) gnil))

word_by : (a a' : ℕ) → a ≡ a' → word a ≡ word a'
word_by a a' e0 = cc

literal_by : (a a' : ℕ) → a ≡ a' → literal a ≡ literal a'
literal_by a a' e0 = cc

param_by : (a a' : ℕ) → a ≡ a' → param a ≡ param a'
param_by a a' e0 = cc

type_set_by : (a a' : RawType) → a ≡ a' → type_set a ≡ type_set a'
type_set_by a a' e0 = cc

call_by : (a a' : List ℕ) (b b' : Raws) → a ≡ a' → b ≡ b' → call a b ≡ call a' b'
call_by a a' b b' e0 e1 = cc

around_by : (a a' : ℕ) (b b' : Raw) → a ≡ a' → b ≡ b' → around a b ≡ around a' b'
around_by a a' b b' e0 e1 = cc

unary_by : (a a' : ℕ) (b b' : Raw) → a ≡ a' → b ≡ b' → unary a b ≡ unary a' b'
unary_by a a' b b' e0 e1 = cc

binary_by : (a a' : ℕ) (b b' : Raw) (c c' : Raw) → a ≡ a' → b ≡ b' → c ≡ c' → binary a b c ≡ binary a' b' c'
binary_by a a' b b' c c' e0 e1 e2 = cc

inverse_by : (a a' : Raw) → a ≡ a' → inverse a ≡ inverse a'
inverse_by a a' e0 = cc

apply_by : (a a' : Raw) (b b' : Raw) → a ≡ a' → b ≡ b' → apply a b ≡ apply a' b'
apply_by a a' b b' e0 e1 = cc

image_by : (a a' : Raw) (b b' : Raw) → a ≡ a' → b ≡ b' → image a b ≡ image a' b'
image_by a a' b b' e0 e1 = cc

of_type_by : (a a' : Raw) (b b' : RawType) → a ≡ a' → b ≡ b' → of_type a b ≡ of_type a' b'
of_type_by a a' b b' e0 e1 = cc

quantified_by : (a a' : ℕ) (b b' : List Binder) (c c' : Raw) → a ≡ a' → b ≡ b' → c ≡ c' → quantified a b c ≡ quantified a' b' c'
quantified_by a a' b b' c c' e0 e1 e2 = cc

set_of_by : (a a' : Binder) (b b' : Raw) → a ≡ a' → b ≡ b' → set_of a b ≡ set_of a' b'
set_of_by a a' b b' e0 e1 = cc

collected_by : (a a' : ℕ) (b b' : List Binder) (c c' : Raw) (d d' : Raw) → a ≡ a' → b ≡ b' → c ≡ c' → d ≡ d' → collected a b c d ≡ collected a' b' c' d'
collected_by a a' b b' c c' d d' e0 e1 e2 e3 = cc

lambda_by : (a a' : Pattern) (b b' : Raw) (c c' : Raw) → a ≡ a' → b ≡ b' → c ≡ c' → lambda a b c ≡ lambda a' b' c'
lambda_by a a' b b' c c' e0 e1 e2 = cc

members_by : (a a' : Raws) → a ≡ a' → members a ≡ members a'
members_by a a' e0 = cc

written_by : (a a' : RawType) → a ≡ a' → written a ≡ written a'
written_by a a' e0 = cc

one_by : (a a' : Raw) (b b' : Raws) → a ≡ a' → b ≡ b' → one a b ≡ one a' b'
one_by a a' b b' e0 e1 = cc

mutual
  unfolding code codes

  pub inj : (x y : Raw) → code x ≡ code y → x ≡ y
  inj (word a) (word a') e = word_by _ _ (cc)
  inj (word a) (literal a') e = clash _ _ _ refl e
  inj (word a) (param a') e = clash _ _ _ refl e
  inj (word a) (type_set a') e = clash _ _ _ refl e
  inj (word a) (call a' b') e = clash _ _ _ refl e
  inj (word a) (around a' b') e = clash _ _ _ refl e
  inj (word a) (unary a' b') e = clash _ _ _ refl e
  inj (word a) (binary a' b' c') e = clash _ _ _ refl e
  inj (word a) (inverse a') e = clash _ _ _ refl e
  inj (word a) (apply a' b') e = clash _ _ _ refl e
  inj (word a) (image a' b') e = clash _ _ _ refl e
  inj (word a) (of_type a' b') e = clash _ _ _ refl e
  inj (word a) (quantified a' b' c') e = clash _ _ _ refl e
  inj (word a) (set_of a' b') e = clash _ _ _ refl e
  inj (word a) (collected a' b' c' d') e = clash _ _ _ refl e
  inj (word a) (lambda a' b' c') e = clash _ _ _ refl e
  inj (word a) (members a') e = clash _ _ _ refl e
  inj (word a) (written a') e = clash _ _ _ refl e
  inj (literal a) (word a') e = clash _ _ _ refl e
  inj (literal a) (literal a') e = literal_by _ _ (cc)
  inj (literal a) (param a') e = clash _ _ _ refl e
  inj (literal a) (type_set a') e = clash _ _ _ refl e
  inj (literal a) (call a' b') e = clash _ _ _ refl e
  inj (literal a) (around a' b') e = clash _ _ _ refl e
  inj (literal a) (unary a' b') e = clash _ _ _ refl e
  inj (literal a) (binary a' b' c') e = clash _ _ _ refl e
  inj (literal a) (inverse a') e = clash _ _ _ refl e
  inj (literal a) (apply a' b') e = clash _ _ _ refl e
  inj (literal a) (image a' b') e = clash _ _ _ refl e
  inj (literal a) (of_type a' b') e = clash _ _ _ refl e
  inj (literal a) (quantified a' b' c') e = clash _ _ _ refl e
  inj (literal a) (set_of a' b') e = clash _ _ _ refl e
  inj (literal a) (collected a' b' c' d') e = clash _ _ _ refl e
  inj (literal a) (lambda a' b' c') e = clash _ _ _ refl e
  inj (literal a) (members a') e = clash _ _ _ refl e
  inj (literal a) (written a') e = clash _ _ _ refl e
  inj (param a) (word a') e = clash _ _ _ refl e
  inj (param a) (literal a') e = clash _ _ _ refl e
  inj (param a) (param a') e = param_by _ _ (cc)
  inj (param a) (type_set a') e = clash _ _ _ refl e
  inj (param a) (call a' b') e = clash _ _ _ refl e
  inj (param a) (around a' b') e = clash _ _ _ refl e
  inj (param a) (unary a' b') e = clash _ _ _ refl e
  inj (param a) (binary a' b' c') e = clash _ _ _ refl e
  inj (param a) (inverse a') e = clash _ _ _ refl e
  inj (param a) (apply a' b') e = clash _ _ _ refl e
  inj (param a) (image a' b') e = clash _ _ _ refl e
  inj (param a) (of_type a' b') e = clash _ _ _ refl e
  inj (param a) (quantified a' b' c') e = clash _ _ _ refl e
  inj (param a) (set_of a' b') e = clash _ _ _ refl e
  inj (param a) (collected a' b' c' d') e = clash _ _ _ refl e
  inj (param a) (lambda a' b' c') e = clash _ _ _ refl e
  inj (param a) (members a') e = clash _ _ _ refl e
  inj (param a) (written a') e = clash _ _ _ refl e
  inj (type_set a) (word a') e = clash _ _ _ refl e
  inj (type_set a) (literal a') e = clash _ _ _ refl e
  inj (type_set a) (param a') e = clash _ _ _ refl e
  inj (type_set a) (type_set a') e = type_set_by _ _ (type_code.inj a a' (cc))
  inj (type_set a) (call a' b') e = clash _ _ _ refl e
  inj (type_set a) (around a' b') e = clash _ _ _ refl e
  inj (type_set a) (unary a' b') e = clash _ _ _ refl e
  inj (type_set a) (binary a' b' c') e = clash _ _ _ refl e
  inj (type_set a) (inverse a') e = clash _ _ _ refl e
  inj (type_set a) (apply a' b') e = clash _ _ _ refl e
  inj (type_set a) (image a' b') e = clash _ _ _ refl e
  inj (type_set a) (of_type a' b') e = clash _ _ _ refl e
  inj (type_set a) (quantified a' b' c') e = clash _ _ _ refl e
  inj (type_set a) (set_of a' b') e = clash _ _ _ refl e
  inj (type_set a) (collected a' b' c' d') e = clash _ _ _ refl e
  inj (type_set a) (lambda a' b' c') e = clash _ _ _ refl e
  inj (type_set a) (members a') e = clash _ _ _ refl e
  inj (type_set a) (written a') e = clash _ _ _ refl e
  inj (call a b) (word a') e = clash _ _ _ refl e
  inj (call a b) (literal a') e = clash _ _ _ refl e
  inj (call a b) (param a') e = clash _ _ _ refl e
  inj (call a b) (type_set a') e = clash _ _ _ refl e
  inj (call a b) (call a' b') e = call_by _ _ _ _ ((coded_list coded_ℕ).inj a a' (cc)) (injs b b' (cc))
  inj (call a b) (around a' b') e = clash _ _ _ refl e
  inj (call a b) (unary a' b') e = clash _ _ _ refl e
  inj (call a b) (binary a' b' c') e = clash _ _ _ refl e
  inj (call a b) (inverse a') e = clash _ _ _ refl e
  inj (call a b) (apply a' b') e = clash _ _ _ refl e
  inj (call a b) (image a' b') e = clash _ _ _ refl e
  inj (call a b) (of_type a' b') e = clash _ _ _ refl e
  inj (call a b) (quantified a' b' c') e = clash _ _ _ refl e
  inj (call a b) (set_of a' b') e = clash _ _ _ refl e
  inj (call a b) (collected a' b' c' d') e = clash _ _ _ refl e
  inj (call a b) (lambda a' b' c') e = clash _ _ _ refl e
  inj (call a b) (members a') e = clash _ _ _ refl e
  inj (call a b) (written a') e = clash _ _ _ refl e
  inj (around a b) (word a') e = clash _ _ _ refl e
  inj (around a b) (literal a') e = clash _ _ _ refl e
  inj (around a b) (param a') e = clash _ _ _ refl e
  inj (around a b) (type_set a') e = clash _ _ _ refl e
  inj (around a b) (call a' b') e = clash _ _ _ refl e
  inj (around a b) (around a' b') e = around_by _ _ _ _ (cc) (inj b b' (cc))
  inj (around a b) (unary a' b') e = clash _ _ _ refl e
  inj (around a b) (binary a' b' c') e = clash _ _ _ refl e
  inj (around a b) (inverse a') e = clash _ _ _ refl e
  inj (around a b) (apply a' b') e = clash _ _ _ refl e
  inj (around a b) (image a' b') e = clash _ _ _ refl e
  inj (around a b) (of_type a' b') e = clash _ _ _ refl e
  inj (around a b) (quantified a' b' c') e = clash _ _ _ refl e
  inj (around a b) (set_of a' b') e = clash _ _ _ refl e
  inj (around a b) (collected a' b' c' d') e = clash _ _ _ refl e
  inj (around a b) (lambda a' b' c') e = clash _ _ _ refl e
  inj (around a b) (members a') e = clash _ _ _ refl e
  inj (around a b) (written a') e = clash _ _ _ refl e
  inj (unary a b) (word a') e = clash _ _ _ refl e
  inj (unary a b) (literal a') e = clash _ _ _ refl e
  inj (unary a b) (param a') e = clash _ _ _ refl e
  inj (unary a b) (type_set a') e = clash _ _ _ refl e
  inj (unary a b) (call a' b') e = clash _ _ _ refl e
  inj (unary a b) (around a' b') e = clash _ _ _ refl e
  inj (unary a b) (unary a' b') e = unary_by _ _ _ _ (cc) (inj b b' (cc))
  inj (unary a b) (binary a' b' c') e = clash _ _ _ refl e
  inj (unary a b) (inverse a') e = clash _ _ _ refl e
  inj (unary a b) (apply a' b') e = clash _ _ _ refl e
  inj (unary a b) (image a' b') e = clash _ _ _ refl e
  inj (unary a b) (of_type a' b') e = clash _ _ _ refl e
  inj (unary a b) (quantified a' b' c') e = clash _ _ _ refl e
  inj (unary a b) (set_of a' b') e = clash _ _ _ refl e
  inj (unary a b) (collected a' b' c' d') e = clash _ _ _ refl e
  inj (unary a b) (lambda a' b' c') e = clash _ _ _ refl e
  inj (unary a b) (members a') e = clash _ _ _ refl e
  inj (unary a b) (written a') e = clash _ _ _ refl e
  inj (binary a b c) (word a') e = clash _ _ _ refl e
  inj (binary a b c) (literal a') e = clash _ _ _ refl e
  inj (binary a b c) (param a') e = clash _ _ _ refl e
  inj (binary a b c) (type_set a') e = clash _ _ _ refl e
  inj (binary a b c) (call a' b') e = clash _ _ _ refl e
  inj (binary a b c) (around a' b') e = clash _ _ _ refl e
  inj (binary a b c) (unary a' b') e = clash _ _ _ refl e
  inj (binary a b c) (binary a' b' c') e = binary_by _ _ _ _ _ _ (cc) (inj b b' (cc)) (inj c c' (cc))
  inj (binary a b c) (inverse a') e = clash _ _ _ refl e
  inj (binary a b c) (apply a' b') e = clash _ _ _ refl e
  inj (binary a b c) (image a' b') e = clash _ _ _ refl e
  inj (binary a b c) (of_type a' b') e = clash _ _ _ refl e
  inj (binary a b c) (quantified a' b' c') e = clash _ _ _ refl e
  inj (binary a b c) (set_of a' b') e = clash _ _ _ refl e
  inj (binary a b c) (collected a' b' c' d') e = clash _ _ _ refl e
  inj (binary a b c) (lambda a' b' c') e = clash _ _ _ refl e
  inj (binary a b c) (members a') e = clash _ _ _ refl e
  inj (binary a b c) (written a') e = clash _ _ _ refl e
  inj (inverse a) (word a') e = clash _ _ _ refl e
  inj (inverse a) (literal a') e = clash _ _ _ refl e
  inj (inverse a) (param a') e = clash _ _ _ refl e
  inj (inverse a) (type_set a') e = clash _ _ _ refl e
  inj (inverse a) (call a' b') e = clash _ _ _ refl e
  inj (inverse a) (around a' b') e = clash _ _ _ refl e
  inj (inverse a) (unary a' b') e = clash _ _ _ refl e
  inj (inverse a) (binary a' b' c') e = clash _ _ _ refl e
  inj (inverse a) (inverse a') e = inverse_by _ _ (inj a a' (cc))
  inj (inverse a) (apply a' b') e = clash _ _ _ refl e
  inj (inverse a) (image a' b') e = clash _ _ _ refl e
  inj (inverse a) (of_type a' b') e = clash _ _ _ refl e
  inj (inverse a) (quantified a' b' c') e = clash _ _ _ refl e
  inj (inverse a) (set_of a' b') e = clash _ _ _ refl e
  inj (inverse a) (collected a' b' c' d') e = clash _ _ _ refl e
  inj (inverse a) (lambda a' b' c') e = clash _ _ _ refl e
  inj (inverse a) (members a') e = clash _ _ _ refl e
  inj (inverse a) (written a') e = clash _ _ _ refl e
  inj (apply a b) (word a') e = clash _ _ _ refl e
  inj (apply a b) (literal a') e = clash _ _ _ refl e
  inj (apply a b) (param a') e = clash _ _ _ refl e
  inj (apply a b) (type_set a') e = clash _ _ _ refl e
  inj (apply a b) (call a' b') e = clash _ _ _ refl e
  inj (apply a b) (around a' b') e = clash _ _ _ refl e
  inj (apply a b) (unary a' b') e = clash _ _ _ refl e
  inj (apply a b) (binary a' b' c') e = clash _ _ _ refl e
  inj (apply a b) (inverse a') e = clash _ _ _ refl e
  inj (apply a b) (apply a' b') e = apply_by _ _ _ _ (inj a a' (cc)) (inj b b' (cc))
  inj (apply a b) (image a' b') e = clash _ _ _ refl e
  inj (apply a b) (of_type a' b') e = clash _ _ _ refl e
  inj (apply a b) (quantified a' b' c') e = clash _ _ _ refl e
  inj (apply a b) (set_of a' b') e = clash _ _ _ refl e
  inj (apply a b) (collected a' b' c' d') e = clash _ _ _ refl e
  inj (apply a b) (lambda a' b' c') e = clash _ _ _ refl e
  inj (apply a b) (members a') e = clash _ _ _ refl e
  inj (apply a b) (written a') e = clash _ _ _ refl e
  inj (image a b) (word a') e = clash _ _ _ refl e
  inj (image a b) (literal a') e = clash _ _ _ refl e
  inj (image a b) (param a') e = clash _ _ _ refl e
  inj (image a b) (type_set a') e = clash _ _ _ refl e
  inj (image a b) (call a' b') e = clash _ _ _ refl e
  inj (image a b) (around a' b') e = clash _ _ _ refl e
  inj (image a b) (unary a' b') e = clash _ _ _ refl e
  inj (image a b) (binary a' b' c') e = clash _ _ _ refl e
  inj (image a b) (inverse a') e = clash _ _ _ refl e
  inj (image a b) (apply a' b') e = clash _ _ _ refl e
  inj (image a b) (image a' b') e = image_by _ _ _ _ (inj a a' (cc)) (inj b b' (cc))
  inj (image a b) (of_type a' b') e = clash _ _ _ refl e
  inj (image a b) (quantified a' b' c') e = clash _ _ _ refl e
  inj (image a b) (set_of a' b') e = clash _ _ _ refl e
  inj (image a b) (collected a' b' c' d') e = clash _ _ _ refl e
  inj (image a b) (lambda a' b' c') e = clash _ _ _ refl e
  inj (image a b) (members a') e = clash _ _ _ refl e
  inj (image a b) (written a') e = clash _ _ _ refl e
  inj (of_type a b) (word a') e = clash _ _ _ refl e
  inj (of_type a b) (literal a') e = clash _ _ _ refl e
  inj (of_type a b) (param a') e = clash _ _ _ refl e
  inj (of_type a b) (type_set a') e = clash _ _ _ refl e
  inj (of_type a b) (call a' b') e = clash _ _ _ refl e
  inj (of_type a b) (around a' b') e = clash _ _ _ refl e
  inj (of_type a b) (unary a' b') e = clash _ _ _ refl e
  inj (of_type a b) (binary a' b' c') e = clash _ _ _ refl e
  inj (of_type a b) (inverse a') e = clash _ _ _ refl e
  inj (of_type a b) (apply a' b') e = clash _ _ _ refl e
  inj (of_type a b) (image a' b') e = clash _ _ _ refl e
  inj (of_type a b) (of_type a' b') e = of_type_by _ _ _ _ (inj a a' (cc)) (type_code.inj b b' (cc))
  inj (of_type a b) (quantified a' b' c') e = clash _ _ _ refl e
  inj (of_type a b) (set_of a' b') e = clash _ _ _ refl e
  inj (of_type a b) (collected a' b' c' d') e = clash _ _ _ refl e
  inj (of_type a b) (lambda a' b' c') e = clash _ _ _ refl e
  inj (of_type a b) (members a') e = clash _ _ _ refl e
  inj (of_type a b) (written a') e = clash _ _ _ refl e
  inj (quantified a b c) (word a') e = clash _ _ _ refl e
  inj (quantified a b c) (literal a') e = clash _ _ _ refl e
  inj (quantified a b c) (param a') e = clash _ _ _ refl e
  inj (quantified a b c) (type_set a') e = clash _ _ _ refl e
  inj (quantified a b c) (call a' b') e = clash _ _ _ refl e
  inj (quantified a b c) (around a' b') e = clash _ _ _ refl e
  inj (quantified a b c) (unary a' b') e = clash _ _ _ refl e
  inj (quantified a b c) (binary a' b' c') e = clash _ _ _ refl e
  inj (quantified a b c) (inverse a') e = clash _ _ _ refl e
  inj (quantified a b c) (apply a' b') e = clash _ _ _ refl e
  inj (quantified a b c) (image a' b') e = clash _ _ _ refl e
  inj (quantified a b c) (of_type a' b') e = clash _ _ _ refl e
  inj (quantified a b c) (quantified a' b' c') e = quantified_by _ _ _ _ _ _ (cc) ((coded_list binder_code).inj b b' (cc)) (inj c c' (cc))
  inj (quantified a b c) (set_of a' b') e = clash _ _ _ refl e
  inj (quantified a b c) (collected a' b' c' d') e = clash _ _ _ refl e
  inj (quantified a b c) (lambda a' b' c') e = clash _ _ _ refl e
  inj (quantified a b c) (members a') e = clash _ _ _ refl e
  inj (quantified a b c) (written a') e = clash _ _ _ refl e
  inj (set_of a b) (word a') e = clash _ _ _ refl e
  inj (set_of a b) (literal a') e = clash _ _ _ refl e
  inj (set_of a b) (param a') e = clash _ _ _ refl e
  inj (set_of a b) (type_set a') e = clash _ _ _ refl e
  inj (set_of a b) (call a' b') e = clash _ _ _ refl e
  inj (set_of a b) (around a' b') e = clash _ _ _ refl e
  inj (set_of a b) (unary a' b') e = clash _ _ _ refl e
  inj (set_of a b) (binary a' b' c') e = clash _ _ _ refl e
  inj (set_of a b) (inverse a') e = clash _ _ _ refl e
  inj (set_of a b) (apply a' b') e = clash _ _ _ refl e
  inj (set_of a b) (image a' b') e = clash _ _ _ refl e
  inj (set_of a b) (of_type a' b') e = clash _ _ _ refl e
  inj (set_of a b) (quantified a' b' c') e = clash _ _ _ refl e
  inj (set_of a b) (set_of a' b') e = set_of_by _ _ _ _ (binder_code.inj a a' (cc)) (inj b b' (cc))
  inj (set_of a b) (collected a' b' c' d') e = clash _ _ _ refl e
  inj (set_of a b) (lambda a' b' c') e = clash _ _ _ refl e
  inj (set_of a b) (members a') e = clash _ _ _ refl e
  inj (set_of a b) (written a') e = clash _ _ _ refl e
  inj (collected a b c d) (word a') e = clash _ _ _ refl e
  inj (collected a b c d) (literal a') e = clash _ _ _ refl e
  inj (collected a b c d) (param a') e = clash _ _ _ refl e
  inj (collected a b c d) (type_set a') e = clash _ _ _ refl e
  inj (collected a b c d) (call a' b') e = clash _ _ _ refl e
  inj (collected a b c d) (around a' b') e = clash _ _ _ refl e
  inj (collected a b c d) (unary a' b') e = clash _ _ _ refl e
  inj (collected a b c d) (binary a' b' c') e = clash _ _ _ refl e
  inj (collected a b c d) (inverse a') e = clash _ _ _ refl e
  inj (collected a b c d) (apply a' b') e = clash _ _ _ refl e
  inj (collected a b c d) (image a' b') e = clash _ _ _ refl e
  inj (collected a b c d) (of_type a' b') e = clash _ _ _ refl e
  inj (collected a b c d) (quantified a' b' c') e = clash _ _ _ refl e
  inj (collected a b c d) (set_of a' b') e = clash _ _ _ refl e
  inj (collected a b c d) (collected a' b' c' d') e = collected_by _ _ _ _ _ _ _ _ (cc) ((coded_list binder_code).inj b b' (cc)) (inj c c' (cc)) (inj d d' (cc))
  inj (collected a b c d) (lambda a' b' c') e = clash _ _ _ refl e
  inj (collected a b c d) (members a') e = clash _ _ _ refl e
  inj (collected a b c d) (written a') e = clash _ _ _ refl e
  inj (lambda a b c) (word a') e = clash _ _ _ refl e
  inj (lambda a b c) (literal a') e = clash _ _ _ refl e
  inj (lambda a b c) (param a') e = clash _ _ _ refl e
  inj (lambda a b c) (type_set a') e = clash _ _ _ refl e
  inj (lambda a b c) (call a' b') e = clash _ _ _ refl e
  inj (lambda a b c) (around a' b') e = clash _ _ _ refl e
  inj (lambda a b c) (unary a' b') e = clash _ _ _ refl e
  inj (lambda a b c) (binary a' b' c') e = clash _ _ _ refl e
  inj (lambda a b c) (inverse a') e = clash _ _ _ refl e
  inj (lambda a b c) (apply a' b') e = clash _ _ _ refl e
  inj (lambda a b c) (image a' b') e = clash _ _ _ refl e
  inj (lambda a b c) (of_type a' b') e = clash _ _ _ refl e
  inj (lambda a b c) (quantified a' b' c') e = clash _ _ _ refl e
  inj (lambda a b c) (set_of a' b') e = clash _ _ _ refl e
  inj (lambda a b c) (collected a' b' c' d') e = clash _ _ _ refl e
  inj (lambda a b c) (lambda a' b' c') e = lambda_by _ _ _ _ _ _ (pattern_code.inj a a' (cc)) (inj b b' (cc)) (inj c c' (cc))
  inj (lambda a b c) (members a') e = clash _ _ _ refl e
  inj (lambda a b c) (written a') e = clash _ _ _ refl e
  inj (members a) (word a') e = clash _ _ _ refl e
  inj (members a) (literal a') e = clash _ _ _ refl e
  inj (members a) (param a') e = clash _ _ _ refl e
  inj (members a) (type_set a') e = clash _ _ _ refl e
  inj (members a) (call a' b') e = clash _ _ _ refl e
  inj (members a) (around a' b') e = clash _ _ _ refl e
  inj (members a) (unary a' b') e = clash _ _ _ refl e
  inj (members a) (binary a' b' c') e = clash _ _ _ refl e
  inj (members a) (inverse a') e = clash _ _ _ refl e
  inj (members a) (apply a' b') e = clash _ _ _ refl e
  inj (members a) (image a' b') e = clash _ _ _ refl e
  inj (members a) (of_type a' b') e = clash _ _ _ refl e
  inj (members a) (quantified a' b' c') e = clash _ _ _ refl e
  inj (members a) (set_of a' b') e = clash _ _ _ refl e
  inj (members a) (collected a' b' c' d') e = clash _ _ _ refl e
  inj (members a) (lambda a' b' c') e = clash _ _ _ refl e
  inj (members a) (members a') e = members_by _ _ (injs a a' (cc))
  inj (members a) (written a') e = clash _ _ _ refl e
  inj (written a) (word a') e = clash _ _ _ refl e
  inj (written a) (literal a') e = clash _ _ _ refl e
  inj (written a) (param a') e = clash _ _ _ refl e
  inj (written a) (type_set a') e = clash _ _ _ refl e
  inj (written a) (call a' b') e = clash _ _ _ refl e
  inj (written a) (around a' b') e = clash _ _ _ refl e
  inj (written a) (unary a' b') e = clash _ _ _ refl e
  inj (written a) (binary a' b' c') e = clash _ _ _ refl e
  inj (written a) (inverse a') e = clash _ _ _ refl e
  inj (written a) (apply a' b') e = clash _ _ _ refl e
  inj (written a) (image a' b') e = clash _ _ _ refl e
  inj (written a) (of_type a' b') e = clash _ _ _ refl e
  inj (written a) (quantified a' b' c') e = clash _ _ _ refl e
  inj (written a) (set_of a' b') e = clash _ _ _ refl e
  inj (written a) (collected a' b' c' d') e = clash _ _ _ refl e
  inj (written a) (lambda a' b' c') e = clash _ _ _ refl e
  inj (written a) (members a') e = clash _ _ _ refl e
  inj (written a) (written a') e = written_by _ _ (type_code.inj a a' (cc))

  pub injs : (x y : Raws) → codes x ≡ codes y → x ≡ y
  injs none none e = refl
  injs none (one a' b') e = clash _ _ _ refl e
  injs (one a b) none e = clash _ _ _ refl e
  injs (one a b) (one a' b') e = one_by _ _ _ _ (inj a a' (cc)) (injs b b' (cc))

abbrev pub raw_code : Coded Raw
raw_code = record { code = code; inj = inj }
