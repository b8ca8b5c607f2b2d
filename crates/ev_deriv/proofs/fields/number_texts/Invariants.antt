use Rattle.std.proofs.Common.{◌≡◌, take, map}
use Rattle.std.specs.Prelude.{decimal}
use Rattle.ev_deriv.proofs.fields.number_texts.Given as goal

abbrev pub invariant-loop-number : goal.invariant-loop-number
invariant-loop-number l = l.texts ≡ map decimal (take l.number-index l.numbers)
