use Rattle.std.proofs.Common.{ap, ◌∙◌, map, arith}
use Rattle.ev_terms.specs.Substitution.{shift}
use Rattle.ev_forms.specs.Forms.{call}
use Rattle.ev_data.proofs.Inductions.{premise_made}
use Rattle.ev_data.proofs.induction.make_premise.Goals as goal

pub returns : goal.returns
returns c =
    premise_made c.args.conclusion.now c.args.induction.now.decl.now c.args.induction.now.types.now c.args.induction.now.predicate.now c.args.con.now c.in-Ok.count c.as_slice.result.now
    c.in_ok-context.context c.in_ok-raised.raised c.in_ok-made.made c.in_ok-goal.goal c.in_ok-hyps.hyps c.add_hypotheses.new.hyps (omega (arith, c.in-Ok.ensures, c.len.ensures))
    (c.as_slice.ensures.value ∙ c.in_ok-fields.ensures) c.in_ok-context.ensures c.in_ok-raised.ensures
    (c.in_ok-hyps.ensures ∙ ap (map (λ H. shift H 0 c.in-Ok.count)) c.as_slice-2.ensures) c.in_ok-add_hypotheses.ensures
    (c.in_ok-made.ensures ∙ ap (call c.args.con.now.name c.args.induction.now.types.now) c.in_ok-make_vars.ensures) c.in_ok-goal.ensures
