use Rattle.std.specs.List.{list_any}
use Rattle.std.proofs.Common.{◌≡◌, ◌*◌, ◌+◌, max, drop}
use Rattle.ev_syntax.specs.inner.RawView.{raws, height, heights}
use Rattle.ev_resolve.specs.UsedNames.{is_formula_name, all_binder_names}
use Rattle.ev_resolve.specs.Resolve.{known_of}
use Rattle.ev_resolve.proofs.taken.+taken.Given as goal

abbrev pub decreases-has_taken_binder : goal.decreases-has_taken_binder
decreases-has_taken_binder l = 3 * height l.raw.now

abbrev pub decreases-takes_either : goal.decreases-takes_either
decreases-takes_either l = 3 * max (height l.e.now) (height l.f.now) + 1

abbrev pub decreases-takes_any : goal.decreases-takes_any
decreases-takes_any l = 3 * heights (raws l.es.now) + 1

abbrev pub invariant-takes_any-loop-e : goal.invariant-takes_any-loop-e
invariant-takes_any-loop-e l =
    list_any (is_formula_name l.names.0 (known_of l.names.1)) (all_binder_names (raws (drop l.e-index l.es))) ≡ list_any (is_formula_name l.names.0 (known_of l.names.1)) (all_binder_names (raws l.es))
