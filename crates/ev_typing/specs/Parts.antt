-- When an environment is part of another, and its part without definitions.
use Rattle.std.specs.Prelude.{Option, Some, None, filter_map, flat_map, bytes_eq, Contains}
use Rattle.std.specs.List.{AllByRecursion, IsDistinct}
use Rattle.ev_typing.specs.declared.typing.Entry.{Entry}
use Rattle.ev_typing.specs.declared.typing.Entry.TheVariants.{Data, Constant, Direct, Recursive}
use Rattle.ev_typing.specs.Env.{Env, names}

-- each entry of the one is an entry of the other
abbrev pub IsPartOf : Env → Env → Type 0
IsPartOf e f = AllByRecursion (Contains f) e

-- no name is declared twice
abbrev pub HasDistinctNames : Env → Type 0
HasDistinctNames env = IsDistinct bytes_eq (flat_map names env)

-- an entry without its condition; a direct operator has none
abbrev pub base_entry : Entry → Option Entry
base_entry (Data d) = Some (Data d)
base_entry (Constant sig condition) = Some (Constant sig None)
base_entry (Direct sig condition body) = None
base_entry (Recursive sig condition place bodies) = Some (Recursive sig None place bodies)

-- the environment without direct operators and conditions
abbrev pub base : Env → Env
base env = filter_map base_entry env
