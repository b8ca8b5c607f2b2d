-- What the parser answers.
use Rattle.std.specs.Prelude.{ℕ, ◌≤◌, ◌<◌, true, List, [], Result, Ok, Err}
use Rattle.ev_syntax.specs.Tokens.{Token}
use Rattle.ev_syntax.specs.Raw.{RawType, type_nesting}
use Rattle.ev_syntax.specs.Grammar.{ReadsType}
use Rattle.ev_syntax.specs.declared.parse_faults.ParseFault.{ParseFault}
use Rattle.ev_syntax.specs.declared.parse_faults.ParseFault.TheVariants.{Syntax, TooDeep, NoMemory}

-- what the answer says of all the tokens as a type
abbrev pub IsTypeResult : List Token → ℕ → Result RawType ParseFault → Type 0
IsTypeResult ts limit (Ok a) = ReadsType a true ts [] × (type_nesting a ≤ limit)
IsTypeResult ts limit (Err Syntax) = (a : RawType) → ReadsType a true ts [] → ⊥
IsTypeResult ts limit (Err TooDeep) = (a : RawType) × ReadsType a true ts [] × (limit < type_nesting a)
IsTypeResult ts limit (Err NoMemory) = Unit {0}
