use Rattle.std.proofs.Common.{drop}
use Rattle.std.specs.Prelude.{◌↔◌}
use Rattle.std.specs.List.{AllByRecursion}
use Rattle.ev_typing.specs.Typing.{IsSequent}
use Rattle.ev_typing.specs.Sequents.{IsWithin}
use Rattle.ev_replay.proofs.applying.are_goals.Given as goal

abbrev pub invariant-loop-sequent : goal.invariant-loop-sequent
invariant-loop-sequent l =
    (AllByRecursion (IsSequent l.env) (drop l.sequent-index l.sequents) × AllByRecursion (IsWithin 65536 512) (drop l.sequent-index l.sequents))
    ↔ (AllByRecursion (IsSequent l.env) l.sequents × AllByRecursion (IsWithin 65536 512) l.sequents)
