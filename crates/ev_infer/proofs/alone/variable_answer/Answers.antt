use Rattle.std.proofs.Common.{rules, ◌≡◌, false}
use Rattle.std.specs.Option.{option_copied}
use Rattle.ev_infer.proofs.VariableSteps.{no_fit}
use Rattle.ev_infer.proofs.alone.variable_answer.Goals as goal

pub returns-then-not-has_type : goal.returns-then-not-has_type
returns-then-not-has_type c =
    let q : c.has_type.result ≡ false = search rules in
    no_fit c.args.raw.now c.args.bare.now c.args.types.now (option_copied c.args.expected) c.in-Some.i c.has_type.result c.in-Some.ensures.found c.has_type.ensures q
