use Rattle.std.specs.Prelude.{◌≡◌, IfSome, IfNone}
use Rattle.ev_terms.specs.declared.types.Ty.{Ty}
use Rattle.ev_terms.specs.Types.{type_list}
use Rattle.ev_forms.specs.Forms.{equation}
use Rattle.ev_typing.specs.Typing.{Typed}
use Rattle.ev_typing.specs.Sequents.{◌⊢◌}
use Rattle.std.proofs.Common.{subst}
use Rattle.ev_replay.proofs.Equations.{equate_lengths, equate_next, equate_stops, equate_whole}
use Rattle.ev_replay.proofs.equality.equations.Goals as goal

pub returns-then-lefts-rights : goal.returns-then-lefts-rights
returns-then-lefts-rights c = equate_lengths c.args.env.now c.args.sequent.now c.args.lefts.now c.args.rights.now c.if-lefts-rights.true

pub returns-in-None : goal.returns-in-None
returns-in-None c =
    equate_stops c.args.env.now c.args.sequent.now c.args.lefts.now c.args.rights.now c.loop-i.i c.index-lefts-i.result c.index-rights-i.result c.loop-i.goals
    c.loop-i-test.true c.if-lefts-rights.false c.index-lefts-i.is c.index-rights-i.is
    (subst (λ o. IfNone o ((A : Ty) → ¬ Typed c.args.env.now (type_list c.args.sequent.now.context) c.index-lefts-i.result A)) c.in-None.is c.in_ok-goal.ensures.none) c.loop-i.invariant

pub loop-i-preserved : goal.loop-i-preserved
loop-i-preserved c =
    equate_next c.args.env.now c.args.sequent.now c.args.lefts.now c.args.rights.now c.loop-i.i c.index-lefts-i.result c.index-rights-i.result c.in-Some.goal c.loop-i.goals c.push.new.self
    c.loop-i-test.true c.if-lefts-rights.false c.index-lefts-i.is c.index-rights-i.is
    (subst (λ o. IfSome o (λ g. (A : Ty) × Typed c.args.env.now (type_list c.args.sequent.now.context) c.index-lefts-i.result A × (g ≡ (c.args.sequent.now ⊢ equation A c.index-lefts-i.result c.index-rights-i.result)))) c.in-Some.is c.in_ok-goal.ensures.found)
    c.in_ok-push-in-Some.ensures.ok c.loop-i.invariant

pub returns : goal.returns
returns c = equate_whole c.args.env.now c.args.sequent.now c.args.lefts.now c.args.rights.now c.loop-i.i c.loop-i.goals c.loop-i-test.false c.if-lefts-rights.false c.loop-i.invariant
