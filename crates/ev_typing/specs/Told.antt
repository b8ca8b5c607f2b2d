-- What a name stands for as a symbol, and a symbol's signature, as the code answers them.
use Rattle.ev_typing.specs.declared.environment.Declared.{Declared}
use Rattle.ev_typing.specs.declared.environment.Declared.TheVariants.{Constructor, Destructor, Constant, Direct, Recursive}
use Rattle.ev_typing.specs.declared.symbol_types.SymbolTypes.{SymbolTypes}
use Rattle.ev_typing.specs.Profiles.{Profile}
use Rattle.ev_typing.specs.Env.{Symbol, ConOf, DesOf, ConstantOf, DirectOf, RecursiveOf}

abbrev pub declared_told : Declared → Symbol
declared_told (Constructor d c) = ConOf d.now c.now
declared_told (Destructor d c i f) = DesOf d.now c.now i f.now
declared_told (Constant sig condition) = ConstantOf sig.now condition.now
declared_told (Direct sig condition body) = DirectOf sig.now condition.now body.now
declared_told (Recursive sig condition place bodies) = RecursiveOf sig.now condition.now place bodies.now

abbrev pub profile_told : SymbolTypes → Profile
profile_told t = record { params = t.params; args = t.args; result = t.result }
