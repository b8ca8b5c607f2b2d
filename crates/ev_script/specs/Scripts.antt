-- A script: its events, or where the first unit stands that is none.
use Rattle.std.specs.Prelude.{◌≡◌, ℕ, ◌+◌, Bool, true, false, ◌&&◌, ◌||◌, ◌==◌, not, List, [], ◌∷◌, ◌++◌, length, filter, bytes_eq, codes, Option, Some, None, option_map, option_and_then, if◌then◌else◌}
use Rattle.std.specs.List.{slice_split, concat}
use Rattle.bstr.specs.Text.{lines_of}
use Rattle.ev_syntax.specs.Chars.{is_blank, are_blanks}
use Rattle.ev_script.specs.declared.sequent_names.SeqName.{SeqName}
use Rattle.ev_script.specs.declared.events.Event.{Event}
use Rattle.ev_script.specs.declared.events.Event.TheVariants.{Put, Remove, Proof, Deploy, Withdraw, Status, Show}
use Rattle.ev_script.specs.SequentNames.{word_name, word_sequent}

-- what a head says: a whole event, or one that waits for its body
pub data UnitHead : Type 0 where
  whole : Event → UnitHead
  put : List ℕ → UnitHead
  proof : SeqName → UnitHead

-- what a keyword says of a sequent
abbrev pub sequent_head : List ℕ → SeqName → Option UnitHead
sequent_head keyword s =
    if bytes_eq keyword (codes "PROOF") then Some (proof s) else
    (if bytes_eq keyword (codes "SHOW") then Some (whole (Show s)) else None)

-- what a keyword says of a theory
abbrev pub theory_head : List ℕ → List ℕ → Option UnitHead
theory_head keyword n =
    if bytes_eq keyword (codes "PUT") then Some (put n) else
    (if bytes_eq keyword (codes "REMOVE") then Some (whole (Remove n)) else
    (if bytes_eq keyword (codes "DEPLOY") then Some (whole (Deploy n)) else
    (if bytes_eq keyword (codes "WITHDRAW") then Some (whole (Withdraw n)) else None)))

abbrev pub names_sequent : List ℕ → Bool
names_sequent keyword = bytes_eq keyword (codes "PROOF") || bytes_eq keyword (codes "SHOW")

-- the head of a keyword and a word
abbrev pub two_words : List ℕ → List ℕ → Option UnitHead
two_words keyword word =
    if names_sequent keyword then option_and_then (sequent_head keyword) (word_sequent word) else option_and_then (theory_head keyword) (word_name word)

-- the head that a line's words are
abbrev pub head_of : List (List ℕ) → Option UnitHead
head_of (word ∷ []) = if bytes_eq word (codes "STATUS") then Some (whole Status) else None
head_of (keyword ∷ word ∷ []) = two_words keyword word
head_of _ = None

-- without the blanks at its end
abbrev pub drop_last_blanks : List ℕ → List ℕ
drop_last_blanks [] = []
drop_last_blanks (b ∷ bs) = if is_blank b && are_blanks bs then [] else b ∷ drop_last_blanks bs

-- without the blanks at its front
abbrev pub skip_blanks : List ℕ → List ℕ
skip_blanks [] = []
skip_blanks (b ∷ bs) = if is_blank b then skip_blanks bs else b ∷ bs

-- the words of a line, separated by spaces or tabs
abbrev pub words_of : List ℕ → List (List ℕ)
words_of line = filter (λ word. not (length word == 0)) (slice_split (λ b. b == 32 || b == 9) (drop_last_blanks line))

-- the line that closes a body
abbrev pub is_end : List ℕ → Bool
is_end line = bytes_eq (drop_last_blanks line) (codes "END")

-- a body, and the lines after the one that closes it
pub record Body : Type 0 where
  pub body : List ℕ
  pub after : List (List ℕ)

abbrev pub with_first : List ℕ → Body → Body
with_first line b = record { body = line ++ b.body; after = b.after }

-- the lines before the first that closes the body
abbrev pub body_of : List (List ℕ) → Option Body
body_of [] = None
body_of (line ∷ lines) = if is_end line then Some (record { body = []; after = lines }) else option_map (with_first line) (body_of lines)

-- a unit's event, and the lines after it
pub record ScriptUnit : Type 0 where
  pub event : Event
  pub after : List (List ℕ)

-- the unit of a head and the lines after it
abbrev pub unit_with : List (List ℕ) → UnitHead → Option ScriptUnit
unit_with lines (whole e) = Some (record { event = e; after = lines })
unit_with lines (put n) = option_map (λ (b : Body). record { event = Put n b.body; after = b.after }) (body_of lines)
unit_with lines (proof s) = option_map (λ (b : Body). record { event = Proof s b.body; after = b.after }) (body_of lines)

abbrev pub unit_of_lines : List (List ℕ) → Option ScriptUnit
unit_of_lines [] = None
unit_of_lines (line ∷ lines) = option_and_then (unit_with lines) (head_of (words_of line))

-- the unit that begins with the first byte, or none
abbrev pub unit_of : List ℕ → Option ScriptUnit
unit_of bytes = unit_of_lines (lines_of bytes)

-- the bytes are units with these events, blanks before each, and then the rest
abbrev pub AreUnits : List ℕ → List Event → List ℕ → Type 0
AreUnits bytes [] rest = bytes ≡ rest
AreUnits bytes (e ∷ es) rest =
    (after : List (List ℕ)) × (unit_of (skip_blanks bytes) ≡ Some (record { event = e; after = after })) × AreUnits (concat after) es rest

-- the bytes are a script with these events
abbrev pub IsScript : List ℕ → List Event → Type 0
IsScript bytes es = (rest : List ℕ) × AreUnits bytes es rest × (are_blanks rest ≡ true)

-- the first unit that is none begins at the offset
pub record IsBadAt (bytes : List ℕ) (offset : ℕ) : Type 0 where
  pub events : List Event
  pub rest : List ℕ
  pub units : AreUnits bytes events rest
  pub more : are_blanks rest ≡ false
  pub none : unit_of (skip_blanks rest) ≡ None
  pub place : offset + length (skip_blanks rest) ≡ length bytes
