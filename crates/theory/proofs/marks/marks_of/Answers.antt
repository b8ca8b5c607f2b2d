use Rattle.std.proofs.Common.{◌≡◌, length, ap, arith}
use Rattle.theory.proofs.MarkLaws.{leads_init, leads_step, leads_end, leads_none, not_none, is_none, length-skip_blanks}
use Rattle.theory.proofs.marks.marks_of.Goals as goal

pub loop-rest-init : goal.loop-rest-init
loop-rest-init c = leads_init _ _ _ c.new-marks.ensures.items c.skip_blanks-rest.ensures

pub loop-rest-preserved : goal.loop-rest-preserved
loop-rest-preserved c =
    leads_step c.args.text.now c.loop-rest.marks.items _ c.loop-rest.rest.now _ c.in-Some.mark c.in-Some.after.now c.loop-rest.invariant
    (not_none _ _ c.is_empty.ensures c.loop-rest-test.true) c.in-Some.ensures.exact c.in_ok-push-in-Some.ensures.items c.skip_blanks-rest-in-Some.ensures

pub loop-rest-smaller : goal.loop-rest-smaller
loop-rest-smaller c =
    let shorter = length-skip_blanks c.in-Some.after.now in
    let same : length c.skip_blanks-rest-in-Some.result.now ≡ _ = ap length c.skip_blanks-rest-in-Some.ensures in
    omega (arith, c.in-Some.ensures.shorter)

pub returns-in-None-clause-none : goal.returns-in-None-clause-none
returns-in-None-clause-none c =
    leads_none c.args.text.now c.loop-rest.marks.items c.loop-rest.rest.now c.loop-rest.invariant
    (not_none _ _ c.is_empty.ensures c.loop-rest-test.true) (λ m after e. let f = c.in-None.ensures.exact in cc)

pub returns-clause-found : goal.returns-clause-found
returns-clause-found c = leads_end _ _ _ c.loop-rest.invariant (is_none _ _ c.is_empty.ensures c.loop-rest-test.false)
