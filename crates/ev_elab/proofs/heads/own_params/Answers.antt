use Rattle.std.proofs.Common.{◌++◌, ◌∷◌, [], ◌∙◌, ap, arith}
use Rattle.ev_terms.specs.declared.types.Ty.{Param}
use Rattle.ev_elab.specs.Types.{own_number}
use Rattle.ev_elab.proofs.Heading.{own_more, own_done}
use Rattle.ev_elab.proofs.heads.own_params.Goals as goal

pub loop-i-preserved : goal.loop-i-preserved
loop-i-preserved c =
    own_more (λ i. Param (own_number c.args.ids.now i)) c.loop-i.i c.args.count c.loop-i.list.items c.push.new.self.items _
    c.loop-i-test.true (c.in_ok-push.ensures.items ∙ ap (λ k. c.loop-i.list.items ++ Param k ∷ []) c.in_ok-own_number.ensures) c.loop-i.invariant

pub returns : goal.returns
returns c = own_done (λ i. Param (own_number c.args.ids.now i)) c.loop-i.i c.args.count c.loop-i.list.items _ (omega (arith, c.loop-i-test.false)) c.loop-i.invariant
