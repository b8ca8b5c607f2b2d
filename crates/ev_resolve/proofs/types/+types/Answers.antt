use Rattle.std.proofs.Common.{sym, ◌∙◌, ◌-◌, position, bytes_eq, is_some, arith}
use Rattle.ev_typing.specs.Env.{find_data}
use Rattle.ev_syntax.specs.inner.TypeView.{raw_types}
use Rattle.ev_resolve.specs.Reading.{types_of_raw}
use Rattle.ev_resolve.specs.Resolve.{known_of}
use Rattle.ev_resolve.proofs.TypeSteps.{named_with, weight_at, made_none}
use Rattle.ev_resolve.proofs.types.+types.Goals as goal

pub resolve_named-returns-in-Some-parameter : goal.resolve_named-returns-in-Some-parameter
resolve_named-returns-in-Some-parameter t c =
    let declared = is_some (find_data c.args.names.now.1 c.args.name.now) in
    c.parameter_type.ensures declared c.args.name.now
    ∙ named_with (position (bytes_eq c.args.name.now) c.args.names.now.0) c.in-Some-parameter.i (types_of_raw c.args.names.now.0 (known_of c.args.names.now.1) (raw_types c.args.types.now)) c.in-Some.types declared c.args.name.now
    (sym c.parameter.ensures ∙ c.in-Some-parameter.is) (sym c.in_ok-types.ensures ∙ c.in-Some.is)

pub resolve_types-resolve_type-requires : goal.resolve_types-resolve_type-requires
resolve_types-resolve_type-requires t c =
    (omega (arith, weight_at c.args.types.now (c.types.left - 1) c.index-types-left.result c.index-types-left.is (omega (arith, c.types-test.true, c.types.invariant.0))), tt)

pub resolve_types-returns-in_default : goal.resolve_types-returns-in_default
resolve_types-returns-in_default t c =
    made_none c.args.names.now.0 (known_of c.args.names.now.1) c.args.types.now (c.types.left - 1) c.index-types-left.result c.index-types-left.is (omega (arith, c.types-test.true, c.types.invariant.0))
    (sym c.in_ok-ty.ensures ∙ c.in_default.is)
