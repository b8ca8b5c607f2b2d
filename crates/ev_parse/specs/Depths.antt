-- Formulas and types that are nested too deeply to be kept.
use Rattle.std.specs.Prelude.{ℕ, Bool, nat_lt}
use Rattle.ev_syntax.specs.Raw.{RawType, Raw, nesting, type_nesting}

-- how deep formulas and types may be nested
abbrev pub limit : ℕ
limit = 200

abbrev pub formula_deep : Raw → Bool
formula_deep e = nat_lt limit (nesting e)

abbrev pub type_deep : RawType → Bool
type_deep a = nat_lt limit (type_nesting a)
