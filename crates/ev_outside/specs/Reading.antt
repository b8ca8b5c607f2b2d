-- What is taken of a source that is not read to its end.
use Rattle.std.specs.Prelude.{ℕ, ◌+◌, ◌<◌, ◌≤◌}
use Rattle.ev_outside.specs.declared.reading.ReadFault.{ReadFault}
use Rattle.ev_outside.specs.declared.reading.ReadFault.TheVariants.{TooLong, Failed, NoMemory}

-- the most bytes that come by one read
abbrev pub piece_limit : ℕ
piece_limit = 65536

-- So many bytes were taken under this limit: none past it, and where more came, no more than one read gave beside what had come before
-- within the limit.
abbrev pub IsTaken : ReadFault → ℕ → ℕ → Type 0
IsTaken TooLong limit n = (limit < n) × (n ≤ limit + piece_limit)
IsTaken Failed limit n = n ≤ limit
IsTaken NoMemory limit n = n ≤ limit
