use Rattle.std.proofs.Common.{◌++◌, List, Option, drop}
use Rattle.std.specs.Prelude.{option_map}
use Rattle.ev_typing.specs.declared.typing.Sequent.{Sequent}
use Rattle.ev_replay.proofs.Equations.{Equate}
use Rattle.ev_replay.proofs.equality.equations.Given as goal

-- what the rest gives, the whole gives
abbrev pub invariant-loop-i : goal.invariant-loop-i
invariant-loop-i l =
    (o : Option (List Sequent)) → Equate l.env l.sequent (drop l.i l.lefts) (drop l.i l.rights) o → Equate l.env l.sequent l.lefts l.rights (option_map (λ gs. l.goals ++ gs) o)
