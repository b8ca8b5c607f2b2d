use Rattle.std.proofs.Common.{Vec, subst, sym, ap, arith, drop, length, length-drop}
use Rattle.theory.specs.declared.marks.Mark.{Mark}
use Rattle.theory.specs.declared.formulas.Want.TheVariants as want
use Rattle.theory.specs.Formulas.{AreMarks}
use Rattle.theory.specs.inner.Parsing.{Reads}
use Rattle.theory.proofs.ReadLaws.{gives_none, gives_some, some_holds}
use Rattle.theory.proofs.ReadingLaws.{formula_none, formula_other}
use Rattle.std.specs.declared.alloc.Global.{Global}
use Rattle.ev_terms.specs.Measures.{size}
use Rattle.theory.proofs.formulas.formula_of.Goals as goal

pub returns-in_default-2-clause-none : goal.returns-in_default-2-clause-none
returns-in_default-2-clause-none c =
    let ms = c.as_slice.result.now in
    let are = some_holds (λ (v : Vec Mark Global). AreMarks c.args.text.now v.items) _ c.in-Some.marks c.in_ok-marks.ensures.found c.in-Some.is in
    formula_none c.args.text.now ms (subst (AreMarks c.args.text.now) (sym c.as_slice.ensures.value) are)
    (gives_none (λ R rest. Reads want.Predicate R (drop 0 ms) rest) 200 ms _ c.in_ok-found.ensures.gives c.in_default-2.not-Some)

pub returns-then-found-len-clause-none : goal.returns-then-found-len-clause-none
returns-then-found-len-clause-none c = λ P p.
    let ms = c.as_slice.result.now in
    let are = some_holds (λ (v : Vec Mark Global). AreMarks c.args.text.now v.items) _ c.in-Some.marks c.in_ok-marks.ensures.found c.in-Some.is in
    let found = gives_some (λ R rest. Reads want.Predicate R (drop 0 ms) rest) 200 ms _ c.in-Some-2.found c.in_ok-found.ensures.gives c.in-Some-2.is in
    let same = formula_other c.args.text.now ms (drop c.in-Some-2.found.end ms) c.in-Some-2.found.term (subst (AreMarks c.args.text.now) (sym c.as_slice.ensures.value) are) found.1 P p in
    absurd (omega (arith, found.0, ap length same.1, length-drop c.in-Some-2.found.end ms, c.as_slice.ensures.len, c.len.ensures, c.if-found-len.true))

pub returns-then-extent-gt-SIZE_LIMIT-clause-none : goal.returns-then-extent-gt-SIZE_LIMIT-clause-none
returns-then-extent-gt-SIZE_LIMIT-clause-none c = λ P p.
    let ms = c.as_slice.result.now in
    let are = some_holds (λ (v : Vec Mark Global). AreMarks c.args.text.now v.items) _ c.in-Some.marks c.in_ok-marks.ensures.found c.in-Some.is in
    let found = gives_some (λ R rest. Reads want.Predicate R (drop 0 ms) rest) 200 ms _ c.in-Some-2.found c.in_ok-found.ensures.gives c.in-Some-2.is in
    let same = formula_other c.args.text.now ms (drop c.in-Some-2.found.end ms) c.in-Some-2.found.term (subst (AreMarks c.args.text.now) (sym c.as_slice.ensures.value) are) found.1 P p in
    let large = ap (λ e. e.size) c.extent.ensures in
    absurd (omega (arith, large, c.if-extent-gt-SIZE_LIMIT.true, p.small, ap size same.0))
