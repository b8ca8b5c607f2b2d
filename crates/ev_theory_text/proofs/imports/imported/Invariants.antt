use Rattle.std.proofs.Common.{◌≡◌, take}
use Rattle.ev_theory_text.specs.Theories.{import_names}
use Rattle.ev_theory_text.proofs.imports.imported.Given as goal

abbrev pub invariant-loop-element : goal.invariant-loop-element
invariant-loop-element l = l.names.keys ≡ import_names (take l.element-index l.element-items)
