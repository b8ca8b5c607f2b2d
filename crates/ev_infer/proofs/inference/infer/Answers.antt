use Rattle.std.specs.Option.{option_copied}
use Rattle.std.proofs.Common.{subst as transport}
use Rattle.ev_infer.specs.Answers.{IsAnswer}
use Rattle.ev_infer.proofs.Exact.{unknown_exactly, taken_exactly, ill_typed_exactly, ambiguous_exactly, too_large_exactly, annotated}
use Rattle.ev_infer.proofs.inference.infer.Goals as goal

pub returns-clause-unknown : goal.returns-clause-unknown
returns-clause-unknown c =
    unknown_exactly c.args.env.now c.args.params.now c.args.vars.now c.args.raw.now (option_copied c.args.expected) c.args.limit.now c.answer.result
    (transport (λ v. IsAnswer c.args.env.now c.args.params.now v c.args.raw.now (option_copied c.args.expected) c.args.limit.now c.answer.result) c.as_slice.ensures c.answer.ensures)

pub returns-clause-taken : goal.returns-clause-taken
returns-clause-taken c =
    taken_exactly c.args.env.now c.args.params.now c.args.vars.now c.args.raw.now (option_copied c.args.expected) c.args.limit.now c.answer.result
    (transport (λ v. IsAnswer c.args.env.now c.args.params.now v c.args.raw.now (option_copied c.args.expected) c.args.limit.now c.answer.result) c.as_slice.ensures c.answer.ensures)

pub returns-clause-ill_typed : goal.returns-clause-ill_typed
returns-clause-ill_typed c =
    ill_typed_exactly c.args.env.now c.args.params.now c.args.vars.now c.args.raw.now (option_copied c.args.expected) c.args.limit.now c.answer.result
    (transport (λ v. IsAnswer c.args.env.now c.args.params.now v c.args.raw.now (option_copied c.args.expected) c.args.limit.now c.answer.result) c.as_slice.ensures c.answer.ensures)

pub returns-clause-ambiguous : goal.returns-clause-ambiguous
returns-clause-ambiguous c =
    ambiguous_exactly c.args.env.now c.args.params.now c.args.vars.now c.args.raw.now (option_copied c.args.expected) c.args.limit.now c.answer.result
    (transport (λ v. IsAnswer c.args.env.now c.args.params.now v c.args.raw.now (option_copied c.args.expected) c.args.limit.now c.answer.result) c.as_slice.ensures c.answer.ensures)

pub returns-clause-too_large : goal.returns-clause-too_large
returns-clause-too_large c =
    too_large_exactly c.args.env.now c.args.params.now c.args.vars.now c.args.raw.now (option_copied c.args.expected) c.args.limit.now c.answer.result
    (transport (λ v. IsAnswer c.args.env.now c.args.params.now v c.args.raw.now (option_copied c.args.expected) c.args.limit.now c.answer.result) c.as_slice.ensures c.answer.ensures)

pub returns-clause-ok : goal.returns-clause-ok
returns-clause-ok c =
    annotated c.args.env.now c.args.params.now c.args.vars.now c.args.raw.now (option_copied c.args.expected) c.args.limit.now c.answer.result
    (transport (λ v. IsAnswer c.args.env.now c.args.params.now v c.args.raw.now (option_copied c.args.expected) c.args.limit.now c.answer.result) c.as_slice.ensures c.answer.ensures)
