use Rattle.std.proofs.Common.{◌≡◌, Some, take}
use Rattle.std.specs.List.{AllZip}
use Rattle.ev_kernel.specs.Derivable.{numbered}
use Rattle.ev_replay.proofs.propositional.chosen.Given as goal

abbrev pub invariant-loop-number : goal.invariant-loop-number
invariant-loop-number l = AllZip (λ n P. numbered l.hyps n ≡ Some P) (take l.number-index l.numbers) l.all
