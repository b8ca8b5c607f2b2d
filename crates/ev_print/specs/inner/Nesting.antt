-- How many variables stand around what is written next.
use Rattle.std.specs.Prelude.{ℕ, ◌+◌, ◌≤◌, List, length}
use Rattle.ev_print.specs.declared.styles.Style.{Style}
use Rattle.ev_print.specs.declared.styles.Style.TheVariants.{Quantifier, SetFormer}

-- Of n variables each is written in the text with a byte or more, but for as many as a number of 32 bits counts. A text in memory is
-- shorter than 2^63, so that n is less than 2^64.
pub record IsNested (n : ℕ) (text : List ℕ) : Type 0 where
  pub within : n ≤ 4294967295 + length text

-- the number of variables around the children of a symbol of the style, where n stand around it
abbrev pub under : Style → ℕ → ℕ
under (Quantifier m) n = n + 1
under SetFormer n = n + 1
under _ n = n
