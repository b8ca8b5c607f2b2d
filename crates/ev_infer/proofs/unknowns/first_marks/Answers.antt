use Rattle.std.specs.Prelude.{◌≡◌, ◌+◌, ◌-◌, ◌<◌, length}
use Rattle.std.proofs.Common.{refl, arith, ap, sym, get_or, ◌∙◌, subst as transport}
use Rattle.std.proofs.Math.ListN.{length-set}
use Rattle.ev_unify.specs.declared.patterns.Bind.{Bind}
use Rattle.ev_infer.specs.declared.solving.Mark.TheVariants.{Bound}
use Rattle.ev_infer.proofs.UnknownSteps.{first_start, first_step, first_end, bind_below}
use Rattle.ev_infer.proofs.unknowns.first_marks.Goals as goal

pub loop-i-init : goal.loop-i-init
loop-i-init c = (omega arith, c.in_ok-marks.ensures.length_is, first_start c.args.binds.now c.args.count c.in_ok-marks.marks.items c.in_ok-marks.ensures.marks)

pub loop-i-preserved : goal.loop-i-preserved
loop-i-preserved c =
    let S = c.args.binds.now in
    let b = c.index-binds-i.result in
    let j = c.loop-i.i - 1 in
    let l : j < length S = omega arith in
    let ij : c.loop-i.i ≡ j + 1 = omega arith in
    let t : (get_or S j b).unknown ≡ b.unknown = ap (λ (x : Bind). x.unknown) (sym c.index-binds-i.is) in (
      omega arith,
      length-set c.loop-i.marks.items (get_or S j b).unknown (Bound j) ∙ c.loop-i.invariant.1,
      first_step S c.loop-i.i j c.args.count c.loop-i.marks.items _ b (get_or S j b).unknown c.loop-i.invariant.1 ij c.index-binds-i.is l t (transport (λ x. x < c.args.count) (sym t) (bind_below S c.args.count j b c.requires c.index-binds-i.is l)) refl c.loop-i.invariant.2,
    )

pub returns-clause-first : goal.returns-clause-first
returns-clause-first c = first_end c.args.binds.now c.loop-i.i c.args.count c.loop-i.marks.items c.loop-i-test.false c.loop-i.invariant.2

pub overflow_cast-unknown : goal.overflow_cast-unknown
overflow_cast-unknown c =
    let S = c.args.binds.now in
    let b = c.index-binds-i.result in
    let j = c.loop-i.i - 1 in
    let l : j < length S = omega arith in
    let t : (get_or S j b).unknown ≡ b.unknown = ap (λ (x : Bind). x.unknown) (sym c.index-binds-i.is) in
    let u : (get_or S j b).unknown < c.args.count = transport (λ x. x < c.args.count) (sym t) (bind_below S c.args.count j b c.requires c.index-binds-i.is l) in
    omega (arith, u)

pub index_mut-requires : goal.index_mut-requires
index_mut-requires c =
    let S = c.args.binds.now in
    let b = c.index-binds-i.result in
    let j = c.loop-i.i - 1 in
    let l : j < length S = omega arith in
    let t : (get_or S j b).unknown ≡ b.unknown = ap (λ (x : Bind). x.unknown) (sym c.index-binds-i.is) in
    let u : (get_or S j b).unknown < c.args.count = transport (λ x. x < c.args.count) (sym t) (bind_below S c.args.count j b c.requires c.index-binds-i.is l) in
    let n = c.loop-i.invariant.1 in
    omega (arith, u, n)
