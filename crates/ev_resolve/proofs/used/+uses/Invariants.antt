use Rattle.std.specs.List.{list_any}
use Rattle.std.proofs.Common.{◌≡◌, ◌*◌, ◌+◌, max, drop}
use Rattle.ev_syntax.specs.inner.RawView.{raws, height, heights}
use Rattle.ev_resolve.specs.UsedNames.{all_used_names, variable_names}
use Rattle.ev_resolve.specs.inner.Scopes.{scope_of}
use Rattle.ev_resolve.specs.inner.Unknown.{is_unknown}
use Rattle.ev_resolve.proofs.used.+uses.Given as goal

abbrev pub decreases-uses : goal.decreases-uses
decreases-uses l = 3 * height l.raw.now

abbrev pub decreases-uses_either : goal.decreases-uses_either
decreases-uses_either l = 3 * max (height l.e.now) (height l.f.now) + 1

abbrev pub decreases-uses_any : goal.decreases-uses_any
decreases-uses_any l = 3 * heights (raws l.es.now) + 1

abbrev pub decreases-uses_under : goal.decreases-uses_under
decreases-uses_under l = 3 * height l.e.now + 2

abbrev pub decreases-uses_both_under : goal.decreases-uses_both_under
decreases-uses_both_under l = 3 * max (height l.e.now) (height l.f.now) + 2

abbrev pub invariant-uses_any-loop-e : goal.invariant-uses_any-loop-e
invariant-uses_any-loop-e l = record {
  kept : l.scope ≡ l.initial.scope;
  rest : list_any (is_unknown l.names.1 l.names.0) (all_used_names (raws (drop l.e-index l.es)) (variable_names (scope_of l.initial.scope))) ≡ list_any (is_unknown l.names.1 l.names.0) (all_used_names (raws l.es) (variable_names (scope_of l.initial.scope)));
}
