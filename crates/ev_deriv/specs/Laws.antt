-- Laws of derivations' texts.
use Rattle.std.specs.Prelude.{◌≡◌, ℕ, List}
use Rattle.std.specs.List.{AllByRecursion}
use Rattle.ev_typing.specs.Env.{Env}
use Rattle.ev_typing.specs.WellFormed.{IsWellFormed}
use Rattle.ev_print.specs.ReadBack.{HasFreeNames}
use Rattle.ev_kernel.specs.declared.rules.Line.{Line}
use Rattle.ev_kernel.specs.Derivable.{Derivable, IsDerivation}
use Rattle.ev_deriv.specs.Texts.{DerivText, IsDerivText, FirstBad}

-- the lines of a text are a derivation
abbrev pub TextIsDerivation : Type 0
TextIsDerivation = (bytes : List ℕ) (env : Env) (ls : List Line) → DerivText bytes env ls → IsDerivation env ls

-- the sequents of its lines are derivable in the environment of its header
abbrev pub TextIsDerivable : Type 0
TextIsDerivable = (bytes : List ℕ) (env : Env) (ls : List Line) → DerivText bytes env ls → AllByRecursion (λ (l : Line). Derivable env l.sequent) ls

-- the environment of its header is well formed, and its names are free
abbrev pub HeaderIsWellFormed : Type 0
HeaderIsWellFormed = (bytes : List ℕ) (env : Env) (ls : List Line) → DerivText bytes env ls → IsWellFormed env × HasFreeNames env

-- bytes have one first bad line at most, and none where they are the text of a derivation
abbrev pub OneFirstBad : Type 0
OneFirstBad = (bytes : List ℕ) (n m : ℕ) → FirstBad bytes n → FirstBad bytes m → n ≡ m

abbrev pub BadIsNoText : Type 0
BadIsNoText = (bytes : List ℕ) (n : ℕ) → FirstBad bytes n → ¬ IsDerivText bytes
