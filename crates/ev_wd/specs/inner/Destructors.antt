-- The constructor that a destructor takes apart.
use Rattle.std.specs.Prelude.{Option, Some, None}
use Rattle.ev_typing.specs.declared.typing.Con.{Con}
use Rattle.ev_typing.specs.Env.{Symbol, ConOf, DesOf, ConstantOf, DirectOf, RecursiveOf}

-- where the symbol is a destructor
abbrev pub destructed : Option Symbol → Option Con
destructed None = None
destructed (Some (ConOf d c)) = None
destructed (Some (DesOf d c i f)) = Some c
destructed (Some (ConstantOf sig condition)) = None
destructed (Some (DirectOf sig condition body)) = None
destructed (Some (RecursiveOf sig condition place bodies)) = None
