use Rattle.std.proofs.Common.{◌≡◌, ◌++◌}
use Rattle.ev_print.specs.Canon.{type_texts}
use Rattle.ev_deriv.proofs.fields.type_texts.Given as goal

abbrev pub invariant-loop-left : goal.invariant-loop-left
invariant-loop-left l = l.texts ++ type_texts l.left ≡ type_texts l.types
