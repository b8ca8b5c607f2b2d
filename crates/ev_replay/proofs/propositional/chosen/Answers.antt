use Rattle.std.proofs.Common.{[], ◌∷◌, ◌++◌, sym, ◌∙◌, ap, get_or, subst}
use Rattle.std.specs.Option.{option_copied}
use Rattle.ev_kernel.proofs.Congruence.{read_any}
use Rattle.ev_replay.proofs.Contexts.{Chosen, take_past, chosen_next, chosen_one, chosen_not}
use Rattle.ev_replay.proofs.propositional.chosen.Goals as goal

pub returns-in-None : goal.returns-in-None
returns-in-None c =
    chosen_not c.args.hyps.now c.args.numbers.now c.loop-number.number-index (get_or c.args.numbers.now c.loop-number.number-index 0) c.loop-number-test.true
    (read_any c.args.numbers.now c.loop-number.number-index 0 c.loop-number-test.true) (sym c.hypothesis_at.ensures ∙ ap option_copied c.in-None.is)

pub loop-number-preserved : goal.loop-number-preserved
loop-number-preserved c =
    chosen_next c.args.hyps.now c.args.numbers.now c.loop-number.number-index (get_or c.args.numbers.now c.loop-number.number-index 0) c.loop-number.all c.push.new.self
    c.in-Some.hyp.now c.loop-number-test.true (read_any c.args.numbers.now c.loop-number.number-index 0 c.loop-number-test.true) (sym c.hypothesis_at.ensures ∙ ap option_copied c.in-Some.is)
    (c.in_ok-push-in-Some.ensures.ok ∙ ap (λ P. c.loop-number.all ++ P ∷ []) c.in_ok-try_copy-in-Some.ensures) c.loop-number.invariant

pub returns : goal.returns
returns c =
    let all : Chosen c.args.hyps.now c.args.numbers.now c.loop-number.all =
    subst (λ ns. Chosen c.args.hyps.now ns c.loop-number.all) (take_past c.args.numbers.now c.loop-number.number-index c.loop-number-test.false) c.loop-number.invariant in
    (all, λ H h. chosen_one c.args.hyps.now c.args.numbers.now c.loop-number.all H all h)
