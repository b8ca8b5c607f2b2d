-- What the code looks up: the constructor that a symbol is.
use Rattle.std.specs.Prelude.{Option, Some, None}
use Rattle.ev_typing.specs.declared.typing.DataDecl.{DataDecl}
use Rattle.ev_typing.specs.declared.typing.Con.{Con}
use Rattle.ev_typing.specs.Env.{Symbol, ConOf, DesOf, ConstantOf, DirectOf, RecursiveOf}

-- where the symbol is a constructor, its datatype and it
abbrev pub constructed : Option Symbol → Option (DataDecl × Con)
constructed None = None
constructed (Some (ConOf d c)) = Some (d, c)
constructed (Some (DesOf d c i f)) = None
constructed (Some (ConstantOf sig condition)) = None
constructed (Some (DirectOf sig condition body)) = None
constructed (Some (RecursiveOf sig condition place bodies)) = None
