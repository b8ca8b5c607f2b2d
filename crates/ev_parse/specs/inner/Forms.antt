-- Pieces of formulas, and what is made of them.
use Rattle.std.specs.Prelude.{◌≡◌, ℕ, ◌≤◌, ◌<◌, Bool, true, false, List, [], ◌∷◌}
use Rattle.ev_syntax.specs.Raw.{Raw, Raws, call, one, nesting, nestings, member_nesting}
use Rattle.ev_syntax.specs.inner.RawView.{raws}
use Rattle.ev_parse.specs.declared.states.RawPiece.{RawPiece}
use Rattle.ev_parse.specs.declared.states.RawPiece.TheVariants.{Whole, Deep}

-- a name, with arguments or with none
abbrev pub is_call : Raw → Bool
is_call (call n es) = true
is_call _ = false

-- the piece stands for the raw tree
abbrev pub IsRaw : ℕ → RawPiece → Raw → Type 0
IsRaw limit (Whole t n) r = (t ≡ r) × (n ≡ nesting r) × (n ≤ limit)
IsRaw limit (Deep c) r = (limit < nesting r) × (c ≡ is_call r)

-- the nesting of arguments and of members
abbrev pub args_nesting : List Raw → ℕ
args_nesting es = nestings (raws es)

abbrev pub members_nesting : List Raw → ℕ
members_nesting es = member_nesting (raws es)

-- raw trees in front of others
abbrev pub raw_onto : List Raw → Raws → Raws
raw_onto [] es = es
raw_onto (e ∷ done) es = one e (raw_onto done es)
