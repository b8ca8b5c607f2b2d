use Rattle.std.proofs.Common.{◌∙◌, []}
use Rattle.ev_forms.specs.Forms.{exists, truth}
use Rattle.ev_congruence.proofs.Contexts.{by_parts}
use Rattle.ev_congruence.proofs.Idle.{exists_by}
use Rattle.ev_congruence.proofs.witnesses.element_of.Goals as goal

pub returns : goal.returns
returns c =
    by_parts c.in_ok-try_copy-2.field-0 c.args.at.now.context c.new.result [] c.in_ok-goal.goal (exists c.args.ty.now truth) c.in_ok-try_copy-2.ensures c.new.ensures
    (c.in_ok-goal.ensures ∙ exists_by c.in_ok-try_copy.field-0 c.args.ty.now c.in_ok-truth.truth c.in_ok-try_copy.ensures c.in_ok-truth.ensures)
