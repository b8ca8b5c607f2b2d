-- Binders that have formula names.
use Rattle.std.specs.Prelude.{ℕ, Bool as Boolean, List}
use Rattle.std.specs.List.{list_any}
use Rattle.ev_syntax.specs.Raw.{Raw}
use Rattle.ev_typing.specs.Env.{Env}
use Rattle.ev_resolve.specs.UsedNames.{is_formula_name, binder_names}
use Rattle.ev_resolve.specs.Resolve.{known_of}

-- some binder has a formula name
abbrev pub takes_name : Env → List (List ℕ) → Raw → Boolean
takes_name env params raw = list_any (is_formula_name params (known_of env)) (binder_names raw)
