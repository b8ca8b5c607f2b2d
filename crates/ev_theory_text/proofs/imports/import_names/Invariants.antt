use Rattle.std.proofs.Common.{◌≡◌, ◌++◌}
use Rattle.ev_theory_text.specs.Theories.{import_names}
use Rattle.ev_theory_text.proofs.imports.import_names.Given as goal

abbrev pub invariant-loop-name : goal.invariant-loop-name
invariant-loop-name l = l.names ++ l.name-iterator ≡ import_names l.elements
