-- What the readers of bound names and patterns answer of the tokens from a place on.
use Rattle.std.specs.Prelude.{◌≡◌, ℕ, ◌≤◌, ◌<◌, List, [], ◌∷◌, ◌++◌, Option, Some, None, drop, length}
use Rattle.ev_syntax.specs.Tokens.{Token}
use Rattle.ev_syntax.specs.Raw.{Binder, Pattern, written_nesting, bound_nesting, pattern_binders}
use Rattle.ev_syntax.specs.inner.Finding.{Found, on_found, Comes}
use Rattle.ev_syntax.specs.inner.Resuming.{Settles}
use Rattle.ev_syntax.specs.inner.BinderParser.{listed, parse_binder, parse_binders}
use Rattle.ev_syntax.specs.inner.PatternParser.{a_pattern, parse_pattern}
use Rattle.ev_syntax.specs.inner.Pieces.{IsPiece}
use Rattle.ev_syntax.specs.declared.read_pieces.Piece.{Piece}
use Rattle.ev_syntax.specs.declared.pattern_states.PatternPiece.{PatternPiece}
use Rattle.ev_syntax.specs.declared.pattern_states.PatternPiece.TheVariants.{Whole, Deep}

abbrev pub binder_nesting : Binder → ℕ
binder_nesting b = written_nesting b.type

-- of the names alone
abbrev pub own_nesting : List Binder → ℕ
own_nesting bs = bound_nesting bs 0

abbrev pub BinderAnswer : ℕ → List Token → ℕ → Option (Piece Binder × ℕ) → Type 0
BinderAnswer limit ts at None = Comes (λ g. parse_binder g (drop at ts)) None
BinderAnswer limit ts at (Some (p, to)) = (b : Binder) × IsPiece binder_nesting limit p b × Comes (λ g. parse_binder g (drop at ts)) (Some (b, drop to ts)) × (to ≤ length ts) × (at < to)

-- further names behind some
abbrev pub further : List Binder → List Token → ℕ → ℕ → Option (Found (List Binder))
further bs ts n g = on_found (listed [] (λ b more. b ∷ more) n (parse_binder g) ts) (λ more us. Some (bs ++ more, us))

abbrev pub FurtherAnswer : ℕ → List Token → ℕ → List Binder → Option (Piece (List Binder) × ℕ) → Type 0
FurtherAnswer limit ts at bs None = Settles (further bs (drop at ts)) None
FurtherAnswer limit ts at bs (Some (p, to)) = (all : List Binder) × IsPiece own_nesting limit p all × Settles (further bs (drop at ts)) (Some (all, drop to ts)) × (to ≤ length ts) × (at ≤ to)

abbrev pub BindersAnswer : ℕ → List Token → ℕ → Option (Piece (List Binder) × ℕ) → Type 0
BindersAnswer limit ts at None = Comes (λ g. parse_binders g (drop at ts)) None
BindersAnswer limit ts at (Some (p, to)) = (bs : List Binder) × IsPiece own_nesting limit p bs × Comes (λ g. parse_binders g (drop at ts)) (Some (bs, drop to ts)) × (to ≤ length ts) × (at < to)

-- the piece stands for the pattern
abbrev pub IsPattern : ℕ → PatternPiece → Pattern → Type 0
IsPattern limit (Whole x n names) y = (x ≡ y) × (n ≡ own_nesting (pattern_binders y)) × (n ≤ limit) × (names ≡ length (pattern_binders y))
IsPattern limit Deep y = limit < own_nesting (pattern_binders y)

abbrev pub PatternAnswer : ℕ → List Token → ℕ → Option (PatternPiece × ℕ) → Type 0
PatternAnswer limit ts at None = Comes (λ g. parse_pattern g a_pattern (drop at ts)) None
PatternAnswer limit ts at (Some (p, to)) = (x : Pattern) × IsPattern limit p x × Comes (λ g. parse_pattern g a_pattern (drop at ts)) (Some (x, drop to ts)) × (to ≤ length ts) × (at < to)
