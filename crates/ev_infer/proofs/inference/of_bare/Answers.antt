use Rattle.std.proofs.Common.{rules, ◌≡◌, ◌∙◌, sym, true, false}
use Rattle.std.specs.Option.{option_copied}
use Rattle.ev_infer.proofs.Answering.{bare_alone, bare_given}
use Rattle.ev_infer.proofs.inference.of_bare.Goals as goal

pub returns-then-branch : goal.returns-then-branch
returns-then-branch c =
    let q : c.in_ok-uses_marked.field-0 ≡ true = search rules in
    bare_alone c.args.env.now c.args.vars.now c.args.raw.now (option_copied c.args.expected) c.args.limit.now c.args.bare.now c.count-opened.ensures.well_formed c.in_ok-marks.marks.items c.in_ok-marks.ensures
    (sym c.in_ok-uses_marked.ensures.used ∙ q) c.alone.result c.alone.ensures

pub returns : goal.returns
returns c =
    let q : c.in_ok-uses_marked.field-0 ≡ false = search rules in
    bare_given c.args.env.now c.args.vars.now c.args.raw.now (option_copied c.args.expected) c.args.limit.now c.args.bare.now c.count-opened.ensures.well_formed c.in_ok-marks.marks.items c.as_slice.result.now c.in_ok-marks.ensures
    (sym c.in_ok-uses_marked.ensures.used ∙ q) (c.as_slice.ensures.value ∙ c.in_ok-context.ensures) c.annotate.result c.annotate.ensures.given c.annotate.ensures.fault
