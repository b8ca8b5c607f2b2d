-- The types of a symbol's children and its own, at type arguments.
use Rattle.std.specs.Prelude.{◌==◌, Option, Some, None, map, length, if◌then◌else◌}
use Rattle.std.specs.Option.{option_and_then}
use Rattle.ev_terms.specs.declared.types.Tys.{Tys}
use Rattle.ev_terms.specs.declared.types.Sym.{Sym}
use Rattle.ev_terms.specs.Types.{type_list}
use Rattle.ev_terms.specs.Substitution.{type_inst, type_at}
use Rattle.ev_typing.specs.declared.instances.Instance.{Instance}
use Rattle.ev_typing.specs.Profiles.{Profile}
use Rattle.ev_typing.specs.Env.{Env, profile}

-- the types put in
abbrev pub instance_at : Tys → Profile → Instance
instance_at As p = record { args = map (type_inst (type_at As)) p.args; result = type_inst (type_at As) p.result }

-- the same where there are as many types as parameters
abbrev pub at_types : Tys → Profile → Option Instance
at_types As p = if length (type_list As) == p.params then Some (instance_at As p) else None

-- of a symbol, where its number of types is right
abbrev pub instance_of : Env → Sym → Tys → Option Instance
instance_of env s As = option_and_then (at_types As) (profile env s)
