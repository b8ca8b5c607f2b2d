use Rattle.std.proofs.Common.{◌∙◌, arith}
use Rattle.ev_data.proofs.Lists.{case_room}
use Rattle.ev_data.proofs.equations.make_case.Goals as goal

pub arguments_of-requires : goal.arguments_of-requires
arguments_of-requires c =
    case_room c.args.case.now.signature.now c.args.case.now.place c.args.case.now.types.now c.args.case.now.con.now c.in_ok-context.context.items c.len.result c.as_slice.result.now
    c.requires.place_in c.in_ok-context.ensures (omega (arith, c.len.ensures, c.in_ok-context.context.ok.0)) (c.as_slice.ensures ∙ c.in_ok-variables.ensures)
