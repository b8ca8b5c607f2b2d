use Rattle.std.proofs.Common.{◌≡◌, ◌++◌, ◌-◌}
use Rattle.std.specs.Prelude.{map}
use Rattle.std.specs.List.{range_with_len}
use Rattle.ev_terms.specs.declared.types.Ty.{Param}
use Rattle.ev_elab.specs.Types.{own_number}
use Rattle.ev_elab.proofs.heads.own_params.Given as goal

abbrev pub invariant-loop-i : goal.invariant-loop-i
invariant-loop-i l = l.list.items ++ map (λ i. Param (own_number l.ids i)) (range_with_len l.i (l.count - l.i)) ≡ map (λ i. Param (own_number l.ids i)) (range_with_len 0 l.count)
