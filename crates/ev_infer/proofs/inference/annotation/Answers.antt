use Rattle.std.specs.Prelude.{None}
use Rattle.std.proofs.Common.{rules, ◌≡◌, subst as transport}
use Rattle.std.specs.Option.{option_copied}
use Rattle.ev_resolve.specs.inner.Scopes.{scope_of}
use Rattle.ev_infer.specs.Answers.{IsFoundOf}
use Rattle.ev_infer.proofs.Answering.{found_of, found_none}
use Rattle.ev_infer.proofs.inference.annotation.Goals as goal

pub returns-in_default : goal.returns-in_default
returns-in_default c =
    let q : c.in_ok-bare.field-0 ≡ None = search rules in
    found_none c.args.known.now.1 c.args.known.now.0 c.args.vars.now c.args.raw.now (option_copied c.args.expected) c.args.limit.now c.env-env.ensures.well_formed (scope_of c.in_ok-scope.scope) _ c.requires.free c.in_ok-scope.ensures
    c.in_ok-bare.ensures q

pub returns : goal.returns
returns c =
    found_of c.args.known.now.1 c.args.known.now.0 c.args.vars.now c.args.raw.now (option_copied c.args.expected) c.args.limit.now c.in-Some.bare (scope_of c.in_ok-scope.scope) _ c.requires.free c.in_ok-scope.ensures
    c.in_ok-bare.ensures c.in-Some.is c.of_bare.result
    (transport (λ env. IsFoundOf env c.args.vars.now c.args.raw.now c.in-Some.bare (option_copied c.args.expected) c.args.limit.now c.of_bare.result) c.env-env.ensures.is c.of_bare.ensures)
