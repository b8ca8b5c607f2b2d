use Rattle.std.specs.Prelude.{◌≡◌, ◌≢◌, ◌↔◌, Some, Err}
use Rattle.std.proofs.Common.{subst, ◌∙◌, ap}
use Rattle.ev_infer.specs.Answers.{IsUnknown, IsTaken}
use Rattle.ev_infer.specs.declared.faults.InferFault.TheVariants as fault
use Rattle.ev_replay.specs.Reading.{formula_limit}
use Rattle.ev_replay.proofs.Readings.{not_unknown, not_taken}
use Rattle.ev_replay.proofs.reading.read_among.Goals as goal

pub returns-in-Err-Unknown : goal.returns-in-Err-Unknown
returns-in-Err-Unknown c =
    not_unknown c.args.scope.now.env c.args.scope.now.params c.args.vars.now c.args.raw.now (Some c.args.ty.now) formula_limit c.infer.result
    (c.in-Err-Unknown.is ∙ ap Err c.in-Err-Unknown.field-0-is)
    (subst (λ e. c.infer.result ≢ Err fault.NoMemory → ((c.infer.result ≡ Err fault.Unknown) ↔ IsUnknown e c.args.scope.now.params c.args.vars.now c.args.raw.now)) c.env.ensures.is
    (subst (λ p. c.infer.result ≢ Err fault.NoMemory → ((c.infer.result ≡ Err fault.Unknown) ↔ IsUnknown c.env.result.now p c.args.vars.now c.args.raw.now)) c.params.ensures c.infer.ensures.unknown))

pub returns-in-Err-Taken : goal.returns-in-Err-Taken
returns-in-Err-Taken c =
    not_taken c.args.scope.now.env c.args.scope.now.params c.args.vars.now c.args.raw.now (Some c.args.ty.now) formula_limit c.infer.result
    (c.in-Err-Taken.is ∙ ap Err c.in-Err-Taken.field-0-is)
    (subst (λ e. c.infer.result ≢ Err fault.NoMemory → ((c.infer.result ≡ Err fault.Taken) ↔ IsTaken e c.args.scope.now.params c.args.vars.now c.args.raw.now)) c.env.ensures.is
    (subst (λ p. c.infer.result ≢ Err fault.NoMemory → ((c.infer.result ≡ Err fault.Taken) ↔ IsTaken c.env.result.now p c.args.vars.now c.args.raw.now)) c.params.ensures c.infer.ensures.taken))
