-- The text of a derivation: a first line, header lines for an environment without direct operators and conditions, then the lines of
-- the derivation.
use Rattle.std.specs.Prelude.{◌≡◌, ◌≢◌, ℕ, ◌+◌, ◌^◌, ◌<◌, ◌⊎◌, List, [], ◌∷◌, ◌++◌, length, take, IsTrue}
use Rattle.std.specs.List.{AllByRecursion}
use Rattle.bstr.specs.Text.{lines_of}
use Rattle.ev_terms.specs.Types.{type_list}
use Rattle.ev_typing.specs.declared.typing.Entry.{Entry}
use Rattle.ev_typing.specs.declared.typing.Entry.TheVariants.{Data, Constant, Direct, Recursive}
use Rattle.ev_typing.specs.Env.{Env, names}
use Rattle.ev_typing.specs.WellFormed.{HasNewNames, IsGoodEntry}
use Rattle.ev_print.specs.ReadBack.{is_free_name}
use Rattle.ev_kernel.specs.declared.rules.Line.{Line}
use Rattle.ev_kernel.specs.Derivable.{LineFollows, Derivable}
use Rattle.ev_data.specs.Sound.{IsAdmittedEntry}
use Rattle.ev_deriv.specs.Fields.{ended}
use Rattle.ev_deriv.specs.HeaderLines.{IsHeaderEntry, header_line, first_line}
use Rattle.ev_deriv.specs.RuleLines.{rule_line}
use Rattle.ev_deriv.specs.Shallow.{IsShallowEntry, IsShallowLine}

-- the number of its type parameters
abbrev pub params_of : Entry → ℕ
params_of (Data d) = d.params
params_of (Constant sig condition) = sig.params
params_of (Direct sig condition body) = sig.params
params_of (Recursive sig condition place bodies) = sig.params

-- an entry that may follow in a header, before all lines of the derivation
pub record IsGoodHeader (env : Env) (earlier : List Line) (e : Entry) : Type 0 where
  pub first : earlier ≡ []
  pub is_base : IsHeaderEntry e
  pub free_names : AllByRecursion (λ n. IsTrue (is_free_name n)) (names e)
  pub new_names : HasNewNames env e
  pub few_params : params_of e < 2 ^ 32
  pub good : IsGoodEntry env e
  pub admitted : IsAdmittedEntry (env ++ e ∷ []) e
  pub shallow : IsShallowEntry (env ++ e ∷ []) e

-- a line that may follow in a derivation
pub record IsGoodRule (env : Env) (earlier : List Line) (l : Line) : Type 0 where
  pub follows : LineFollows env earlier l
  pub shallow : IsShallowLine env (length (type_list l.sequent.context)) l

-- good lines of text, which go on from this environment and these lines to those
abbrev pub AreGood : Env → List Line → List (List ℕ) → Env → List Line → Type 0
AreGood env ls [] env' ls' = (env ≡ env') × (ls ≡ ls')
AreGood env ls (text ∷ texts) env' ls' =
    ((e : Entry) × IsGoodHeader env ls e × (text ≡ ended (header_line (env ++ e ∷ []) e)) × AreGood (env ++ e ∷ []) ls texts env' ls')
    ⊎ ((l : Line) × IsGoodRule env ls l × (text ≡ ended (rule_line env l)) × AreGood env (ls ++ l ∷ []) texts env' ls')

-- the lines of a text, all of them good, with the environment of its header and the lines of its derivation
abbrev pub AreGoodLines : List (List ℕ) → Env → List Line → Type 0
AreGoodLines [] env ls = (env ≡ []) × (ls ≡ [])
AreGoodLines (text ∷ texts) env ls = (text ≡ first_line) × AreGood [] [] texts env ls

-- the bytes are the text of a derivation in the environment
abbrev pub DerivText : List ℕ → Env → List Line → Type 0
DerivText bytes env ls = AreGoodLines (lines_of bytes) env ls × (ls ≢ [])

-- the bytes are the text of some derivation
abbrev pub IsDerivText : List ℕ → Type 0
IsDerivText bytes = (env : Env) × (ls : List Line) × DerivText bytes env ls

-- the bytes are the text of a derivation whose last sequent is derivable in the environment of its header
abbrev pub EndsDerivable : List ℕ → Type 0
EndsDerivable bytes = (env : Env) × (ls : List Line) × (last : Line) × DerivText bytes env (ls ++ last ∷ []) × Derivable env last.sequent

-- the first n lines are good
abbrev pub HasGoodFront : List ℕ → ℕ → Type 0
HasGoodFront bytes n = (env : Env) × (ls : List Line) × AreGoodLines (take n (lines_of bytes)) env ls

-- the line behind n others is the first that is not good
pub record IsFirstBadLine (bytes : List ℕ) (n : ℕ) : Type 0 where
  pub within : n < length (lines_of bytes)
  pub before : HasGoodFront bytes n
  pub bad : ¬ HasGoodFront bytes (n + 1)

-- all lines are good, and none is one of a derivation
pub record HasNoRule (bytes : List ℕ) : Type 0 where
  pub env : Env
  pub good : AreGoodLines (lines_of bytes) env []

-- the number of the first bad line, from 1, or one more than the number of lines where lines of a derivation are wanting
abbrev pub FirstBad : List ℕ → ℕ → Type 0
FirstBad bytes n = ((i : ℕ) × (n ≡ i + 1) × IsFirstBadLine bytes i) ⊎ (HasNoRule bytes × (n ≡ length (lines_of bytes) + 1))
