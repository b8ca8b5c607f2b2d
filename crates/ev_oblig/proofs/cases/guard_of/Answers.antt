use Rattle.std.proofs.Common.{rules, ◌∙◌}
use Rattle.ev_data.proofs.Lists.{case_room}
use Rattle.ev_oblig.proofs.cases.guard_of.Goals as goal

pub arguments_of-requires : goal.arguments_of-requires
arguments_of-requires c =
    case_room c.args.operator.now.signature.now c.args.operator.now.place c.args.operator.now.types.now c.args.con.now c.args.context.now c.in-Ok.count c.as_slice.result.now c.requires.within
    c.requires.context (search rules) (c.as_slice.ensures ∙ c.in_ok-variables.ensures)
