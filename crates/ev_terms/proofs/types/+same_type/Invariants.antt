use Rattle.std.proofs.Common.{◌≡◌, ◌≤◌}
use Rattle.std.specs.Prelude.{◌↔◌}
use Rattle.ev_terms.specs.declared.types.Tys.{size-Tys}
use Rattle.ev_terms.proofs.types.+same_type.Given as goal

abbrev pub invariant-TysSame::same-loop-left : goal.invariant-TysSame::same-loop-left
invariant-TysSame::same-loop-left l = record {
  smaller : size-Tys l.left ≤ size-Tys l.self;
  rest : (l.left ≡ l.others) ↔ (l.self ≡ l.other);
}
