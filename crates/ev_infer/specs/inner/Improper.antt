-- Variables whose types are none of the environment.
use Rattle.std.specs.Prelude.{Bool as Boolean, not, if◌then◌else◌}
use Rattle.ev_terms.specs.declared.types.Ty.{Ty, Int}
use Rattle.ev_typing.specs.declared.typing.Var.{Var}
use Rattle.ev_typing.specs.Env.{Env}
use Rattle.ev_typing.specs.Proper.{is_result}

-- the type is neither proper nor `Prop`
abbrev pub marked : Env → Var → Boolean
marked env v = not (is_result env v.ty)

-- INT in its place
abbrev pub type_or_int : Env → Ty → Ty
type_or_int env A = if is_result env A then A else Int

abbrev pub with_type_or_int : Env → Var → Var
with_type_or_int env v = record { name = v.name; ty = type_or_int env v.ty }
