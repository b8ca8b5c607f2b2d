use Rattle.std.specs.Prelude.{◌≡◌, ℕ, ◌<◌, ◌+◌, ◌++◌, length, take, refl}
use Rattle.std.proofs.Common.{sym, ap, ◌∙◌, arith, subst, drop, rules}
use Rattle.ev_infer.specs.inner.Solving.{AreSolved, AreMarks, IsFirstMark, IsWalked, mark}
use Rattle.ev_infer.proofs.UnknownSteps.{marks_start, first_ended, all_solved, restored}
use Rattle.ev_infer.proofs.Ways.{walked_more, walked_all}
use Rattle.ev_infer.proofs.unknowns.solve_all.Goals as goal

pub loop-unknown-init : goal.loop-unknown-init
loop-unknown-init c =
    let b : length c.in_ok-measured.measured.items ≡ c.args.count = search rules in
    let f : (u : ℕ) → u < c.args.count → IsFirstMark c.args.binds.now c.args.binds.now u (mark c.as_mut_slice-marks.result.now u) = rw c.as_mut_slice-marks.ensures.value c.in_ok-first.ensures.first in
    let n : length c.as_mut_slice-marks.result.now ≡ c.args.count = ap length c.as_mut_slice-marks.ensures.value ∙ c.in_ok-first.ensures.marks in
    record {
      known = marks_start c.args.binds.now c.args.limit.now c.args.count c.as_mut_slice-marks.result.now c.as_mut_slice-bulks.result.now c.as_mut_slice-types.result.now n
          (ap length c.as_mut_slice-bulks.ensures.value ∙ b) (ap length c.as_mut_slice-types.ensures.value ∙ c.in_ok-built.ensures) f;
      ended = first_ended c.args.binds.now c.as_mut_slice-marks.result.now (λ u l. f u (omega (arith, n, l)));
      walked = λ u l. absurd (omega (arith, l));
    }

pub loop-unknown-preserved : goal.loop-unknown-preserved
loop-unknown-preserved c =
    let w : IsWalked c.loop-unknown.marks c.settle.new.marks c.loop-unknown.unknown = c.in_ok-settle.ensures.walked c.if-not-branch.false in
    record {
      known = subst (λ n. AreMarks c.args.binds.now c.args.limit.now n c.settle.new.marks c.settle.new.bulks c.settle.new.types) c.loop-unknown.invariant.known.mark_count c.in_ok-settle.ensures.known;
      ended = w.ended;
      walked = walked_more c.loop-unknown.marks c.settle.new.marks c.loop-unknown.unknown (c.loop-unknown.unknown + 1) refl c.loop-unknown.invariant.walked w;
    }

pub returns : goal.returns
returns c =
    let S = c.args.binds.now in
    let n = c.args.count in
    let l : length c.loop-unknown.bulks ≡ c.in_ok-measured.measured.len = search rules in
    let m : length c.loop-unknown.types ≡ c.in_ok-built.built.len = search rules in
    let s = all_solved S c.args.limit.now n c.loop-unknown.marks c.loop-unknown.bulks c.loop-unknown.types c.loop-unknown.invariant.known
    (λ u l. walked_all c.loop-unknown.marks n (λ v k. c.loop-unknown.invariant.walked v (let t = c.loop-unknown-test.false in omega (arith, t, k))) c.loop-unknown.invariant.ended u (let k = c.loop-unknown.invariant.known.mark_count in omega (arith, k, l))) in
    subst (λ x. AreSolved S c.args.limit.now n x (take c.in_ok-built.built.len (c.loop-unknown.types ++ drop (length c.loop-unknown.types) c.in_ok-built.built.items))) (sym (restored c.loop-unknown.bulks _ c.in_ok-measured.measured.len l))
    (subst (λ x. AreSolved S c.args.limit.now n c.loop-unknown.bulks x) (sym (restored c.loop-unknown.types _ c.in_ok-built.built.len m)) s)
