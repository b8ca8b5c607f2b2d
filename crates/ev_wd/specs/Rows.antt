-- The rows of the table of base symbols, from 0, that well-definedness asks of. After Métayer and Voisin, The Event-B Mathematical
-- Language.
use Rattle.std.specs.Prelude.{ℕ}

-- `&`
abbrev pub and_row : ℕ
and_row = 3

-- `or`
abbrev pub or_row : ℕ
or_row = 4

-- `=>`
abbrev pub implies_row : ℕ
implies_row = 5

-- `!x. P`
abbrev pub for_all_row : ℕ
for_all_row = 7

-- `#x. P`
abbrev pub for_some_row : ℕ
for_some_row = 8

-- `/`
abbrev pub over_row : ℕ
over_row = 22

-- `mod`
abbrev pub mod_row : ℕ
mod_row = 23

-- `^`
abbrev pub power_row : ℕ
power_row = 24

-- `{x | P}`
abbrev pub set_row : ℕ
set_row = 29

-- `inter(S)`
abbrev pub big_inter_row : ℕ
big_inter_row = 37

-- `f(E)`
abbrev pub apply_row : ℕ
apply_row = 56

-- `card(S)`
abbrev pub card_row : ℕ
card_row = 61

-- `min(S)`
abbrev pub min_row : ℕ
min_row = 62

-- `max(S)`
abbrev pub max_row : ℕ
max_row = 63
