use Rattle.std.specs.List.{list_any}
use Rattle.std.proofs.Common.{◌≡◌, drop}
use Rattle.ev_syntax.specs.Names.{is_variable_name}
use Rattle.ev_elab.proofs.taken.any_variable_name.Given as goal

abbrev pub invariant-loop-name : goal.invariant-loop-name
invariant-loop-name l = list_any (is_variable_name) (drop l.name-index l.declared) ≡ list_any (is_variable_name) l.declared
