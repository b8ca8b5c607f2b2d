-- What the program answers: its exit, and the text that it writes.
use Rattle.std.specs.Prelude.{◌≡◌, ◌++◌, ◌<◌, ◌≤◌, ◌⊎◌, ℕ, List, [], ◌∷◌, Option, codes, length}
use Rattle.std.specs.Io.KnownBytes.{Appends}
use Rattle.ev_outside.specs.Ends.{AppendsFront}
use Rattle.theory.specs.declared.script.Script.{Script}
use Rattle.theory.specs.declared.answers.Exit.{Exit}
use Rattle.theory.specs.declared.answers.Exit.TheVariants as exit
use Rattle.theory.specs.Scripts.{IsScript}
use Rattle.theory.specs.Reports.{IsReport}

-- the most bytes that a script may have
abbrev pub input_limit : ℕ
input_limit = 16777216

-- the command that checks a script
abbrev pub check_words : List (List ℕ)
check_words = codes "check" ∷ []

-- the words are `check` alone
abbrev pub IsCheck : List (List ℕ) → Type 0
IsCheck words = words ≡ check_words

-- the bytes are no script
abbrev pub IsNoScript : List ℕ → Type 0
IsNoScript bytes = (s : Script) → IsScript bytes s → ⊥

-- a line of its own
abbrev pub line : List ℕ → List ℕ
line text = text ++ 10 ∷ []

-- the exit and the whole text that these words and these bytes may be answered with
abbrev pub Answers : List (List ℕ) → List ℕ → Exit → List ℕ → Type 0
Answers words bytes exit.Ok text = IsCheck words × (length bytes ≤ input_limit) × IsReport bytes text
Answers words bytes exit.BadScript text = IsCheck words × (length bytes ≤ input_limit) × IsNoScript bytes × (text ≡ line (codes "bad-script 0"))
Answers words bytes exit.Usage text = (IsCheck words → ⊥) × (text ≡ line (codes "usage"))
Answers words bytes exit.TooLong text = IsCheck words × (input_limit < length bytes) × (text ≡ line (codes "too-long"))
Answers words bytes exit.SourceFault text = IsCheck words × (text ≡ [])
Answers words bytes exit.NoMemory text = text ≡ []
Answers words bytes exit.SinkFault text = ⊥

-- the exits with which writing ends early
abbrev pub IsCut : Exit → Type 0
IsCut e = (e ≡ exit.SinkFault) ⊎ (e ≡ exit.NoMemory)

-- the exits that come only where the input was read to its end
abbrev pub ReadsToEnd : Exit → Type 0
ReadsToEnd e = (e ≡ exit.Ok) ⊎ (e ≡ exit.BadScript)

-- How a run ends whose sink had written `old` and now has written `new`: with an answer, whose text was written whole, or early, with
-- a front of an answer's text.
abbrev pub EndsWith : List (List ℕ) → List ℕ → Exit → Option (List ℕ) → Option (List ℕ) → Type 0
EndsWith words bytes e old new =
    ((text : List ℕ) × Answers words bytes e text × Appends old new text)
    ⊎ (IsCut e × ((full : Exit) × (text : List ℕ) × Answers words bytes full text × AppendsFront old new text))

-- the number of an exit
abbrev pub number_of : Exit → ℕ
number_of exit.Ok = 0
number_of exit.BadScript = 1
number_of exit.Usage = 2
number_of exit.SourceFault = 3
number_of exit.SinkFault = 4
number_of exit.NoMemory = 5
number_of exit.TooLong = 6
