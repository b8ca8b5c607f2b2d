use Rattle.std.specs.List.{list_any}
use Rattle.std.proofs.Common.{◌≡◌, ◌*◌, ◌+◌, max, drop}
use Rattle.ev_syntax.specs.inner.RawView.{raws, height, heights}
use Rattle.ev_resolve.specs.UsedNames.{all_used_params}
use Rattle.ev_elab.specs.Unknown.{is_no_number}
use Rattle.ev_elab.proofs.numbers.+formulas.Given as goal

abbrev pub decreases-formula_passes : goal.decreases-formula_passes
decreases-formula_passes l = 3 * height l.raw.now

abbrev pub decreases-either_passes : goal.decreases-either_passes
decreases-either_passes l = 3 * max (height l.e.now) (height l.f.now) + 1

abbrev pub decreases-any_passes : goal.decreases-any_passes
decreases-any_passes l = 3 * heights (raws l.es.now) + 1

abbrev pub invariant-any_passes-loop-e : goal.invariant-any_passes-loop-e
invariant-any_passes-loop-e l = list_any (is_no_number l.count) (all_used_params (raws (drop l.e-index l.es))) ≡ list_any (is_no_number l.count) (all_used_params (raws l.es))
