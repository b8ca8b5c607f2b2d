-- The names of theories and of sequents as words of a script.
use Rattle.std.specs.Prelude.{ℕ, Bool, false, ◌&&◌, ◌==◌, not, List, [], ◌∷◌, nat_eq, nat_le, bytes_eq, codes, Option, Some, None, option_map, drop, if◌then◌else◌}
use Rattle.std.specs.List.{slice_split, starts_with}
use Rattle.ev_terms.specs.declared.obligation.ObKind.{ObKind}
use Rattle.ev_terms.specs.declared.obligation.ObKind.TheVariants.{Thm, Wd, WdOf, Sound, SoundOf, Complete}
use Rattle.ev_syntax.specs.Chars.{is_digits}
use Rattle.ev_syntax.specs.Tokens.{decimal_value}
use Rattle.ev_syntax.specs.Names.{is_name}
use Rattle.ev_script.specs.declared.sequent_names.SeqName.{SeqName}

-- the name that a word is
abbrev pub word_name : List ℕ → Option (List ℕ)
word_name word = if is_name word then Some word else None

-- a number from 1 to 4294967295 without a leading zero
abbrev pub is_index : List ℕ → Bool
is_index [] = false
is_index (c ∷ cs) = is_digits (c ∷ cs) && (not (c == 48) && nat_le (decimal_value (c ∷ cs)) 4294967295)

abbrev pub word_index : List ℕ → Option ℕ
word_index word = if is_index word then Some (decimal_value word) else None

-- `WD-n` and `SOUND-n`
abbrev pub numbered_kind : List ℕ → Option ObKind
numbered_kind word =
    if starts_with nat_eq word (codes "WD-") then option_map WdOf (word_index (drop 3 word)) else
    (if starts_with nat_eq word (codes "SOUND-") then option_map SoundOf (word_index (drop 6 word)) else None)

-- which obligation a word says
abbrev pub word_kind : List ℕ → Option ObKind
word_kind word =
    if bytes_eq word (codes "THM") then Some Thm else
    (if bytes_eq word (codes "WD") then Some Wd else
    (if bytes_eq word (codes "SOUND") then Some Sound else
    (if bytes_eq word (codes "COMPLETE") then Some Complete else numbered_kind word)))

abbrev pub sequent_of_parts : List (List ℕ) → Option SeqName
sequent_of_parts (theory ∷ label ∷ kind ∷ []) =
    if is_name theory && is_name label then option_map (λ k. record { theory = theory; label = label; kind = k }) (word_kind kind) else None
sequent_of_parts _ = None

-- the sequent's name `theory/label/KIND` that a word is
abbrev pub word_sequent : List ℕ → Option SeqName
word_sequent word = sequent_of_parts (slice_split (λ b. b == 47) word)
