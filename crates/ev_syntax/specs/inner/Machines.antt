-- Machines that read with a stack of frames: what their frames and states stand for, and what their steps do.
use Rattle.std.specs.Prelude.{◌≡◌, ℕ, ◌+◌, ◌-◌, ◌*◌, ◌≤◌, ◌<◌, List, [], ◌∷◌, ◌++◌, Option, Some, None, Result, IfOk, drop, length}
use Rattle.ev_terms.specs.declared.values.NoMemory.{NoMemory}
use Rattle.ev_syntax.specs.Tokens.{Token}
use Rattle.ev_syntax.specs.inner.Finding.{Found, Comes}
use Rattle.ev_syntax.specs.inner.Resuming.{Behind, Reach, FromCall}
use Rattle.ev_syntax.specs.declared.machines.Step.{Step}
use Rattle.ev_syntax.specs.declared.machines.Step.TheVariants.{Go, Push, Found as FoundPiece, Fail}

-- what the frames, the pieces and the states of a machine stand for, and what falls with its steps
pub record Meaning (A F S P : Type 0) : Type 1 where
  pub tokens : List Token
  pub frame : F → List (Behind A) → Type 0
  pub piece : P → A → Type 0
  pub state : (ℕ → Option (Found A)) → List (Behind A) → S → Type 0
  pub state_weight : S → ℕ

-- frames, of which the last is the first to be done
abbrev pub IsStack : {A F : Type 0} → (F → List (Behind A) → Type 0) → List F → List (Behind A) → Type 0
IsStack frame [] bs = bs ≡ []
IsStack {A} frame (f ∷ fs) bs = (one : List (Behind A)) × (rest : List (Behind A)) × frame f one × IsStack frame fs rest × (bs ≡ one ++ rest)

-- a bound for what is left to do from a place on
abbrev pub weight_at : List Token → ℕ → ℕ → ℕ
weight_at ts at n = 20 * (length ts - at) + n

module _ {A F S P : Type 0} (m : Meaning A F S P) where
  -- a piece that ends before a place
  abbrev pub PieceReaches : (ℕ → Option (Found A)) → List (Behind A) → P → ℕ → Type 0
  PieceReaches whole bs p at = (a : A) × m.piece p a × Reach whole bs (Some (a, drop at m.tokens)) × (at ≤ length m.tokens)

  -- what comes next leads to what the whole comes to
  abbrev pub StepHolds : (ℕ → Option (Found A)) → List (Behind A) → Step F S P → Type 0
  StepHolds whole bs (Go s) = m.state whole bs s
  StepHolds whole bs (Push f s) = (one : List (Behind A)) × m.frame f one × m.state whole (bs ++ one) s
  StepHolds whole bs (FoundPiece p at) = PieceReaches whole bs p at
  StepHolds whole bs Fail = Reach whole bs None

  abbrev pub step_weight : Step F S P → ℕ
  step_weight (Go s) = m.state_weight s
  step_weight (Push f s) = 5 + m.state_weight s
  step_weight (FoundPiece p at) = weight_at m.tokens at 1
  step_weight Fail = 0

  -- the step leaves less to do than n
  abbrev pub Falls : ℕ → Result (Step F S P) NoMemory → Type 0
  Falls n r = IfOk r (λ s. step_weight s < n)

  -- a step from a state, one that begins to read a part, perhaps above other work, one behind a piece, and one with the piece that a frame waits for
  abbrev pub Goes : S → Result (Step F S P) NoMemory → Type 0
  Goes s r = (whole : ℕ → Option (Found A)) → (bs : List (Behind A)) → m.state whole bs s → IfOk r (StepHolds whole bs)

  abbrev pub Starts : (ℕ → Option (Found A)) → Result (Step F S P) NoMemory → Type 0
  Starts part r = (whole : ℕ → Option (Found A)) → (bs : List (Behind A)) → FromCall whole bs part → IfOk r (StepHolds whole bs)

  abbrev pub StartsAbove : List (Behind A) → (ℕ → Option (Found A)) → Result (Step F S P) NoMemory → Type 0
  StartsAbove work part r = (whole : ℕ → Option (Found A)) → (bs : List (Behind A)) → FromCall whole (bs ++ work) part → IfOk r (StepHolds whole bs)

  abbrev pub GoesOn : List (Behind A) → P → ℕ → Result (Step F S P) NoMemory → Type 0
  GoesOn work p at r =
      (whole : ℕ → Option (Found A)) → (bs : List (Behind A)) → (a : A) → m.piece p a → Reach whole (bs ++ work) (Some (a, drop at m.tokens))
      → at ≤ length m.tokens → IfOk r (StepHolds whole bs)

  abbrev pub Resumes : F → P → ℕ → Result (Step F S P) NoMemory → Type 0
  Resumes f p at r =
      (whole : ℕ → Option (Found A)) → (bs : List (Behind A)) → (one : List (Behind A)) → (a : A) → m.frame f one → m.piece p a
      → Reach whole (bs ++ one) (Some (a, drop at m.tokens)) → at ≤ length m.tokens → IfOk r (StepHolds whole bs)

  -- what the machine answers
  abbrev pub Answers : (ℕ → Option (Found A)) → Option (P × ℕ) → Type 0
  Answers whole None = Comes whole None
  Answers whole (Some (p, at)) = PieceReaches whole [] p at

  abbrev pub Reads : S → Option (P × ℕ) → Type 0
  Reads start o = (whole : ℕ → Option (Found A)) → m.state whole [] start → Answers whole o

  -- what holds between steps
  abbrev pub Holds : (ℕ → Option (Found A)) → List F → Step F S P → Type 0
  Holds whole stack s = (bs : List (Behind A)) × IsStack m.frame stack bs × StepHolds whole bs s
