-- Bodies that may be kept under their names.
use Rattle.std.specs.Prelude.{◌≡◌, None, ⊤}
use Rattle.ev_typing.specs.declared.typing.Entry.{Entry}
use Rattle.ev_typing.specs.declared.typing.Entry.TheVariants.{Data, Constant, Direct, Recursive}
use Rattle.ev_typing.specs.Env.{look_up}
use Rattle.ev_ops.specs.Unfold.{Bodies}

-- there is no body of the entry's name yet
abbrev pub IsNewBody : Bodies → Entry → Type 0
IsNewBody bs (Data d) = ⊤
IsNewBody bs (Constant sig condition) = ⊤
IsNewBody bs (Direct sig condition body) = look_up bs sig.name ≡ None
IsNewBody bs (Recursive sig condition place bodies) = ⊤
