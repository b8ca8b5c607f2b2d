use Rattle.ev_ops.proofs.Admitting.{is_missing, is_repeated}
use Rattle.ev_ops.proofs.admission.admit_cases.Goals as goal

pub returns-then-misses_case : goal.returns-then-misses_case
returns-then-misses_case c =
    is_missing c.args.sig.now c.args.place c.args.cases.now c.args.decl.now c.args.types.now c.has_unguarded.result c.misses_case.result c.has_unguarded.ensures c.if-has_unguarded.false c.misses_case.ensures c.if-misses_case.true

pub returns-then-repeats_case : goal.returns-then-repeats_case
returns-then-repeats_case c =
    is_repeated c.args.sig.now c.args.place c.args.cases.now c.args.decl.now c.args.types.now c.has_unguarded.result c.misses_case.result c.repeats_case.result c.has_unguarded.ensures c.if-has_unguarded.false
    c.misses_case.ensures c.if-misses_case.false c.repeats_case.ensures c.if-repeats_case.true
