use Rattle.std.proofs.Common.{◌≡◌, [], ◌∷◌, ◌++◌}
use Rattle.std.specs.Prelude.{◌↔◌}
use Rattle.ev_terms.specs.Types.{type_list}
use Rattle.ev_typing.specs.TypeLists.{types}
use Rattle.ev_kernel.proofs.contexts.extends.Given as goal

abbrev pub invariant-loop-others : goal.invariant-loop-others
invariant-loop-others l = (l.left ≡ types (type_list l.others ++ l.last ∷ [])) ↔ (l.longer ≡ types (type_list l.shorter ++ l.last ∷ []))
