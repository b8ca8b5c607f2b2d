use Rattle.std.proofs.Common.{◌*◌, ◌+◌}
use Rattle.ev_syntax.specs.inner.TypeView.{raw_types, height, types_height}
use Rattle.cases_infer.proofs.types.+types.Given as goal

abbrev pub decreases-type_of : goal.decreases-type_of
decreases-type_of l = 3 * height l.written.now

abbrev pub decreases-shared : goal.decreases-shared
decreases-shared l = 3 * height l.written.now + 1

abbrev pub decreases-named : goal.decreases-named
decreases-named l = 3 * types_height (raw_types l.types.now) + 2

abbrev pub decreases-types_of : goal.decreases-types_of
decreases-types_of l = 3 * types_height (raw_types l.written.now) + 1
