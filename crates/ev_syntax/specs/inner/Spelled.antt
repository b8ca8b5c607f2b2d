-- The table of spellings as it lies in memory.
use Rattle.std.specs.Prelude.{ℕ, ◌+◌, ◌*◌, ◌-◌, ◌/◌, ◌%◌, Bool, true, ◌&&◌, not, nat_le, List, [], ◌∷◌, bytes_eq, length, slice_index, take, map}
use Rattle.std.specs.List.{list_any, list_all}
use Rattle.ev_syntax.specs.declared.rows.Spelling.{Spelling}
use Rattle.ev_syntax.specs.declared.slots.TheConstants.{SLOTS}

-- the bytes of a row
abbrev pub text_of : Spelling → List ℕ
text_of row = take row.length row.bytes

abbrev pub texts : List Spelling → List (List ℕ)
texts rows = map text_of rows

-- whether each row has as many bytes as it says
abbrev pub have_their_bytes : List Spelling → Bool
have_their_bytes rows = list_all (λ row. nat_le row.length 9) rows

-- whether no two of the texts are equal
abbrev pub are_different : List (List ℕ) → Bool
are_different [] = true
are_different (text ∷ rest) = not (list_any (bytes_eq text) rest) && are_different rest

-- the row that a spelling of these bytes can have
unfoldable pub candidate : List ℕ → ℕ
candidate word =
    slice_index SLOTS ((slice_index word 0 + 35 * slice_index word (length word / 2) + 9 * slice_index word (length word - 1) + 7 * length word) % 512)
