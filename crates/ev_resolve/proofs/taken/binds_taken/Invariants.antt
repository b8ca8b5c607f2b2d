use Rattle.std.specs.List.{list_any}
use Rattle.std.proofs.Common.{◌≡◌, drop}
use Rattle.ev_resolve.specs.UsedNames.{is_formula_name, names_of}
use Rattle.ev_resolve.specs.Resolve.{known_of}
use Rattle.ev_resolve.proofs.taken.binds_taken.Given as goal

abbrev pub invariant-loop-binder : goal.invariant-loop-binder
invariant-loop-binder l =
    list_any (is_formula_name l.names.0 (known_of l.names.1)) (names_of (drop l.binder-index l.binders)) ≡ list_any (is_formula_name l.names.0 (known_of l.names.1)) (names_of l.binders)
