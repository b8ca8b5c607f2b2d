-- What stands behind a brace.
use Rattle.std.specs.Prelude.{◌≡◌, ℕ, false, Option, Some, None}
use Rattle.ev_syntax.specs.inner.Finding.{Found, Comes}
use Rattle.ev_syntax.specs.inner.TypeParser.{begins}

abbrev pub EndsNotBefore : {A : Type 0} → ℕ → Option (Found A) → Type 0
EndsNotBefore m None = Unit {0}
EndsNotBefore m (Some x) = begins m x.1 ≡ false

-- a parser finds nothing that stands before the mark
abbrev pub NotBefore : {A : Type 0} → ℕ → (ℕ → Option (Found A)) → Type 0
NotBefore {A} m p = (o : Option (Found A)) × Comes p o × EndsNotBefore m o
