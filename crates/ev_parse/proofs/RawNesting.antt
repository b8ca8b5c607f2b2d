-- The nesting of formulas that are made of parts.
use Rattle.std.proofs.Common.{◌≡◌, ℕ, ◌+◌, List, [], ◌∷◌, ◌++◌, length, arith}
use Rattle.std.specs.Prelude.{max}
use Rattle.ev_syntax.specs.Raw.{Binder, Raw, nesting, bound_nesting}
use Rattle.ev_syntax.specs.inner.BinderAnswers.{own_nesting}
use Rattle.ev_parse.specs.inner.Forms.{args_nesting, members_nesting}
use Rattle.ev_syntax.proofs.Nesting.{bound_split}

pub args_nesting-snoc : (rs : List Raw) (r : Raw) → args_nesting (rs ++ r ∷ []) ≡ max (args_nesting rs) (nesting r)
args_nesting-snoc [] r = omega arith
args_nesting-snoc (x ∷ rs) r = omega (arith, args_nesting-snoc rs r)

pub members_nesting-snoc : (rs : List Raw) (r : Raw) → members_nesting (rs ++ r ∷ []) ≡ max (members_nesting rs) (length rs + 1 + max (nesting r) 1)
members_nesting-snoc [] r = omega arith
members_nesting-snoc (x ∷ rs) r = omega (arith, members_nesting-snoc rs r)

pub bound_above : (bs : List Binder) (inner : ℕ) → bound_nesting bs inner ≡ max (own_nesting bs) (length bs + inner)
bound_above bs inner = bound_split bs inner

pub ruleset raw_nestings = (args_nesting-snoc, members_nesting-snoc, bound_above)
