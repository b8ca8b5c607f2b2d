use Rattle.std.specs.Prelude.{map}
use Rattle.std.specs.Option.{option_copied}
use Rattle.std.proofs.lemmas.Result.{err_from_is_err_and, IfOk-weaker, IfErr-weaker}
use Rattle.ev_infer.specs.Equations.{same_pattern}
use Rattle.ev_infer.specs.Inference.{bare_equations}
use Rattle.ev_infer.specs.inner.Answering.{OnFault, IsGiven, IsFilled, OnFillFault}
use Rattle.ev_infer.proofs.AnswerSteps.{equations_at, equations_below, solve_fault, fill_given, fill_fault}
use Rattle.ev_infer.proofs.annotation.annotate.Goals as goal

pub returns-in_err-table-clause-fault : goal.returns-in_err-table-clause-fault
returns-in_err-table-clause-fault c =
    let p = err_from_is_err_and c.from_residual-in_err-table.result c.from_residual-in_err-table.ensures.1 in rw (p.1, p.2)
    (solve_fault c.args.env.now (map same_pattern c.args.types.now) (option_copied c.args.expected) c.args.bare.now c.in-Some.equations c.args.limit.now
    (equations_at c.args.env.now c.in_ok-context.context.items (map same_pattern c.args.types.now) (option_copied c.args.expected) c.args.bare.now c.in-Some.equations c.in_ok-equations.field-0 c.in_ok-context.ensures c.in-Some.is c.in_ok-equations.ensures) _ c.in_err-table.ensures.fault)

pub returns-clause-given : goal.returns-clause-given
returns-clause-given c =
    IfOk-weaker c.fill.result (IsFilled c.args.env.now c.args.bare.now c.in_ok-table.table c.args.limit.now) (IsGiven (bare_equations c.args.env.now (map same_pattern c.args.types.now) (option_copied c.args.expected) c.args.bare.now) c.args.limit.now)
    (λ t h. fill_given c.args.env.now (map same_pattern c.args.types.now) (option_copied c.args.expected) c.args.bare.now c.in-Some.equations c.in_ok-table.table c.args.limit.now t
    (equations_at c.args.env.now c.in_ok-context.context.items (map same_pattern c.args.types.now) (option_copied c.args.expected) c.args.bare.now c.in-Some.equations c.in_ok-equations.field-0 c.in_ok-context.ensures c.in-Some.is c.in_ok-equations.ensures) c.in_ok-table.ensures.solved h) c.fill.ensures.filled

pub returns-clause-fault : goal.returns-clause-fault
returns-clause-fault c =
    IfErr-weaker c.fill.result (OnFillFault c.args.env.now c.args.bare.now c.in_ok-table.table c.args.limit.now) (OnFault (bare_equations c.args.env.now (map same_pattern c.args.types.now) (option_copied c.args.expected) c.args.bare.now) c.args.limit.now)
    (λ f h. fill_fault c.args.env.now (map same_pattern c.args.types.now) (option_copied c.args.expected) c.args.bare.now c.in-Some.equations c.in_ok-table.table c.args.limit.now
    (equations_at c.args.env.now c.in_ok-context.context.items (map same_pattern c.args.types.now) (option_copied c.args.expected) c.args.bare.now c.in-Some.equations c.in_ok-equations.field-0 c.in_ok-context.ensures c.in-Some.is c.in_ok-equations.ensures) c.in_ok-table.ensures.solved f h) c.fill.ensures.fault

pub solve-requires : goal.solve-requires
solve-requires c =
    equations_below c.args.env.now c.args.types.now (option_copied c.args.expected) c.args.bare.now c.in-Some.equations
    (equations_at c.args.env.now c.in_ok-context.context.items (map same_pattern c.args.types.now) (option_copied c.args.expected) c.args.bare.now c.in-Some.equations c.in_ok-equations.field-0 c.in_ok-context.ensures c.in-Some.is c.in_ok-equations.ensures)
