-- Each part of a written type is less high than the type.
use Rattle.std.specs.Prelude.{◌+◌, ◌≤◌, List, [], ◌∷◌, max}
use Rattle.std.proofs.Common.{arith}
use denote.Param.Weighed.{most}
use Rattle.ev_syntax.specs.Raw.{RawType}
use Rattle.ev_syntax.specs.inner.TypeView.{raw_types, raw_type_of, height, types_height}
use Rattle.ev_syntax.specs.declared.written.RawTypeForm.{RawTypeForm}
use Rattle.ev_syntax.specs.declared.written.RawTypeForm.TheVariants.{Int, Bool, Param, Named, Pow, Prod}
use Rattle.ev_syntax.specs.declared.written.RawType.TheDeep.{deep-RawTypeForm}

pub most_le-heights : (ts : List RawType) → most (λ t. height t + 1) ts ≤ types_height (raw_types ts) + 1
most_le-heights [] = omega arith
most_le-heights (t ∷ ts) = omega (arith, most_le-heights ts)

pub falls : (f : RawTypeForm) → max (deep-RawTypeForm f) 0 ≤ height (raw_type_of f)
falls Int = omega arith
falls Bool = omega arith
falls (Param i) = omega arith
falls (Named n types) = omega (arith, most_le-heights types)
falls (Pow a) = omega arith
falls (Prod a b) = omega arith
