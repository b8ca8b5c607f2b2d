use Rattle.std.proofs.Common.{◌≡◌, ◌+◌, ◌-◌, ◌<◌, ◌≤◌, ◌∷◌, refl, ap, subst, sym, ◌∙◌, arith, drop, length}
use Rattle.std.proofs.lemmas.Result.{IfOk-weaker}
use Rattle.std.specs.Prelude.{IfOk}
use Rattle.ev_terms.specs.Term.{Term}
use Rattle.ev_terms.specs.Measures.{depth}
use Rattle.ev_forms.specs.Connectives.{joined}
use Rattle.ev_forms.specs.declared.connectives.Connective.{Connective}
use Rattle.theory.specs.declared.formulas.Found.{Found}
use Rattle.theory.specs.declared.formulas.Want.TheVariants as want
use Rattle.theory.specs.Formulas.{mark_of, Literal, Chain, is_true, is_false, is_negation}
use Rattle.theory.specs.inner.Parsing.{StopsBefore, Reads, ExtendsToConjunction, ExtendsToPredicate, Extends, Gives}
use Rattle.theory.proofs.ReadLaws.{gives_none, gives_some, gives_other, none_holds, some_holds, chain_step, climbs_end, climbs_no_literal, climbs_too_deep, alone_extends, mixed, no_conjunction_no_predicate, no_right, goes_further, joined_too_deep, predicate_joined, depth-neg, a_value, no_value, paren_at, nothing_without_levels, no_literal_no_more, no_literal_under, nothing_within, not_closed, closed, reads_extends, extends_reads}
use Rattle.theory.proofs.formulas.+read.Goals as goal

pub climb-chain-preserved : goal.climb-chain-preserved
climb-chain-preserved t c =
    let ms = c.args.marks.now in
    let right = gives_some (λ R rest. Literal R (drop (c.chain.found.end + 1) ms) rest) (c.args.levels - 1) ms _ c.in-Some.right c.in_ok-right.ensures.gives c.in-Some.is in
    let term = some_holds (λ (x : Term). (x ≡ joined c.args.connective c.chain.found.term c.in-Some.right.term) × (depth x ≤ c.args.levels)) _ c.in-Some-2.term c.in_ok-term.ensures.found c.in-Some-2.is in
    let step = chain_step c.args.levels c.args.connective c.args.first.term c.chain.found.term c.in-Some.right.term c.in-Some-2.term (drop c.args.first.end ms) (drop c.chain.found.end ms) (drop (c.chain.found.end + 1) ms) (drop c.in-Some.right.end ms)
    c.chain.invariant.climbs ((c.chain-test.ensures.yes refl).1 ∙ ap (λ m. m ∷ drop (c.chain.found.end + 1) ms) c.mark_of-mark.ensures) right.1 term in
    let advances = some_holds (λ (f : Found). c.chain.found.end + 1 < f.end) _ c.in-Some.right c.in_ok-right.ensures.advances c.in-Some.is in
    record { within = right.0; shallow = step.1; climbs = step.0; further = omega arith }

pub climb-returns-in_default-clause-gives : goal.climb-returns-in_default-clause-gives
climb-returns-in_default-clause-gives t c =
    let ms = c.args.marks.now in
    climbs_no_literal c.args.levels c.args.connective c.args.first.term (drop c.args.first.end ms) c.chain.found.term (drop c.chain.found.end ms) (drop (c.chain.found.end + 1) ms)
    c.chain.invariant.climbs ((c.chain-test.ensures.yes refl).1 ∙ ap (λ m. m ∷ drop (c.chain.found.end + 1) ms) c.mark_of-mark.ensures) c.requires.deep
    (gives_none (λ R rest. Literal R (drop (c.chain.found.end + 1) ms) rest) (c.args.levels - 1) ms _ c.in_ok-right.ensures.gives c.in_default.not-Some)

pub climb-returns-in_default-2-clause-gives : goal.climb-returns-in_default-2-clause-gives
climb-returns-in_default-2-clause-gives t c =
    let ms = c.args.marks.now in
    let right = gives_some (λ R rest. Literal R (drop (c.chain.found.end + 1) ms) rest) (c.args.levels - 1) ms _ c.in-Some.right c.in_ok-right.ensures.gives c.in-Some.is in
    climbs_too_deep c.args.levels c.args.connective c.args.first.term (drop c.args.first.end ms) c.chain.found.term c.in-Some.right.term (drop c.chain.found.end ms) (drop (c.chain.found.end + 1) ms) (drop c.in-Some.right.end ms)
    c.chain.invariant.climbs ((c.chain-test.ensures.yes refl).1 ∙ ap (λ m. m ∷ drop (c.chain.found.end + 1) ms) c.mark_of-mark.ensures) right.1
    (none_holds (c.args.levels < depth (joined c.args.connective c.chain.found.term c.in-Some.right.term)) _ c.in_ok-term.ensures.none c.in_default-2.not-Some)

pub climb-returns-clause-gives : goal.climb-returns-clause-gives
climb-returns-clause-gives t c =
    let ms = c.args.marks.now in (
      c.chain.invariant.within,
      (
        climbs_end c.args.connective c.args.first.term (drop c.args.first.end ms) c.chain.found.term (drop c.chain.found.end ms) c.chain.invariant.climbs,
        λ us e. c.chain-test.ensures.no refl us (e ∙ ap (λ m. m ∷ us) (sym c.mark_of-mark.ensures)),
      ),
      c.chain.invariant.shallow,
    )

pub conjunction-returns-in_default-clause-gives : goal.conjunction-returns-in_default-clause-gives
conjunction-returns-in_default-clause-gives t c = (
  c.requires.within,
  alone_extends c.args.first.term (drop c.args.first.end c.args.marks.now) (none_holds _ _ c.chained_at.ensures.none c.in_default.not-Some),
  c.requires.shallow,
)

pub extend-returns-in-Conjunction-clause-gives : goal.extend-returns-in-Conjunction-clause-gives
extend-returns-in-Conjunction-clause-gives t c =
    subst (λ w. IfOk c.conjunction.result (Gives (Extends w c.args.first.term (drop c.args.first.end c.args.marks.now)) c.args.levels c.args.marks.now)) (sym c.in-Conjunction.is) c.conjunction.ensures.gives

pub extend-returns-in-Predicate-clause-gives : goal.extend-returns-in-Predicate-clause-gives
extend-returns-in-Predicate-clause-gives t c =
    subst (λ w. IfOk c.predicate.result (Gives (Extends w c.args.first.term (drop c.args.first.end c.args.marks.now)) c.args.levels c.args.marks.now)) (sym c.in-Predicate.is) c.predicate.ensures.gives

pub conjunction-returns-in-Some-chained_at-clause-gives : goal.conjunction-returns-in-Some-chained_at-clause-gives
conjunction-returns-in-Some-chained_at-clause-gives t c =
    let ms = c.args.marks.now in
    let P = c.args.first.term in
    let next = c.in-Some.ensures.found in
    let chain = gives_some (λ R rest. Chain c.in-Some.connective P (drop c.args.first.end ms) R rest × StopsBefore c.in-Some.connective rest) c.args.levels ms _ c.in-Some-2.chain c.in_ok-chain.ensures.gives c.in-Some-2.is in
    let other = c.in-Some-chained_at.ensures.found in
    mixed c.args.levels c.in-Some.connective c.in-Some-chained_at.field-0 P c.in-Some-2.chain.term (drop c.args.first.end ms) (drop (c.args.first.end + 1) ms) (drop c.in-Some-2.chain.end ms) (drop (c.in-Some-2.chain.end + 1) ms)
    next.0 next.2 chain.1.0 chain.1.1 other.0 other.2

pub predicate-returns-in_default-clause-gives : goal.predicate-returns-in_default-clause-gives
predicate-returns-in_default-clause-gives t c =
    let ms = c.args.marks.now in
    no_conjunction_no_predicate c.args.levels c.args.first.term (drop c.args.first.end ms)
    (gives_none (ExtendsToConjunction c.args.first.term (drop c.args.first.end ms)) c.args.levels ms _ c.in_ok-left.ensures.gives c.in_default.not-Some)

pub predicate-returns-in_default-2-clause-gives : goal.predicate-returns-in_default-2-clause-gives
predicate-returns-in_default-2-clause-gives t c =
    let ms = c.args.marks.now in
    let left = gives_some (ExtendsToConjunction c.args.first.term (drop c.args.first.end ms)) c.args.levels ms _ c.in-Some.left c.in_ok-left.ensures.gives c.in-Some.is in
    no_right c.args.levels c.args.first.term c.in-Some.left.term c.in-Some-connective_at.connective (drop c.args.first.end ms) (drop c.in-Some.left.end ms) (drop (c.in-Some.left.end + 1) ms)
    left.1 c.in-Some-connective_at.ensures.found.1 c.requires.deep
    (gives_none (λ R rest. Reads want.Conjunction R (drop (c.in-Some.left.end + 1) ms) rest) (c.args.levels - 1) ms _ c.in_ok-right.ensures.gives c.in_default-2.not-Some)

pub predicate-returns-then-is_some-clause-gives : goal.predicate-returns-then-is_some-clause-gives
predicate-returns-then-is_some-clause-gives t c =
    let ms = c.args.marks.now in
    let left = gives_some (ExtendsToConjunction c.args.first.term (drop c.args.first.end ms)) c.args.levels ms _ c.in-Some.left c.in_ok-left.ensures.gives c.in-Some.is in
    let right = gives_some (λ R rest. Reads want.Conjunction R (drop (c.in-Some.left.end + 1) ms) rest) (c.args.levels - 1) ms _ c.in-Some-2.right c.in_ok-right.ensures.gives c.in-Some-2.is in
    let next = a_value c.connective_at-2.result _ c.is_some.ensures c.if-is_some.true in
    let found = some_holds (λ (d : Connective). (c.in-Some-2.right.end < length ms) × (drop c.in-Some-2.right.end ms ≡ mark_of d ∷ drop (c.in-Some-2.right.end + 1) ms)) c.connective_at-2.result next.0 c.connective_at-2.ensures.found next.1 in
    goes_further c.args.levels c.args.first.term c.in-Some.left.term c.in-Some-2.right.term c.in-Some-connective_at.connective next.0 (drop c.args.first.end ms) (drop c.in-Some.left.end ms) (drop (c.in-Some.left.end + 1) ms)
    (drop c.in-Some-2.right.end ms) (drop (c.in-Some-2.right.end + 1) ms) left.1 c.in-Some-connective_at.ensures.found.1 right.1 found.1

pub predicate-returns-in_default-3-clause-gives : goal.predicate-returns-in_default-3-clause-gives
predicate-returns-in_default-3-clause-gives t c =
    let ms = c.args.marks.now in
    let left = gives_some (ExtendsToConjunction c.args.first.term (drop c.args.first.end ms)) c.args.levels ms _ c.in-Some.left c.in_ok-left.ensures.gives c.in-Some.is in
    let right = gives_some (λ R rest. Reads want.Conjunction R (drop (c.in-Some.left.end + 1) ms) rest) (c.args.levels - 1) ms _ c.in-Some-2.right c.in_ok-right.ensures.gives c.in-Some-2.is in
    joined_too_deep c.args.levels c.args.first.term c.in-Some.left.term c.in-Some-2.right.term c.in-Some-connective_at.connective (drop c.args.first.end ms) (drop c.in-Some.left.end ms) (drop (c.in-Some.left.end + 1) ms)
    (drop c.in-Some-2.right.end ms) left.1 c.in-Some-connective_at.ensures.found.1 right.1
    (none_holds (c.args.levels < depth (joined c.in-Some-connective_at.connective c.in-Some.left.term c.in-Some-2.right.term)) _ c.in_ok-term.ensures.none c.in_default-3.not-Some)

pub predicate-returns-clause-gives : goal.predicate-returns-clause-gives
predicate-returns-clause-gives t c =
    let ms = c.args.marks.now in
    let left = gives_some (ExtendsToConjunction c.args.first.term (drop c.args.first.end ms)) c.args.levels ms _ c.in-Some.left c.in_ok-left.ensures.gives c.in-Some.is in
    let right = gives_some (λ R rest. Reads want.Conjunction R (drop (c.in-Some.left.end + 1) ms) rest) (c.args.levels - 1) ms _ c.in-Some-2.right c.in_ok-right.ensures.gives c.in-Some-2.is in
    let term = some_holds (λ (x : Term). (x ≡ joined c.in-Some-connective_at.connective c.in-Some.left.term c.in-Some-2.right.term) × (depth x ≤ c.args.levels)) _ c.in-Some-3.term c.in_ok-term.ensures.found c.in-Some-3.is in (
      right.0,
      predicate_joined c.args.first.term c.in-Some.left.term c.in-Some-2.right.term c.in-Some-3.term c.in-Some-connective_at.connective (drop c.args.first.end ms) (drop c.in-Some.left.end ms) (drop (c.in-Some.left.end + 1) ms)
          (drop c.in-Some-2.right.end ms) left.1 c.in-Some-connective_at.ensures.found.1 right.1
          (none_holds _ _ c.connective_at-2.ensures.none (no_value _ _ c.is_some.ensures c.if-is_some.false)) term.0,
      term.1,
    )

pub primary-returns-then-has_mark-clause-gives : goal.primary-returns-then-has_mark-clause-gives
primary-returns-then-has_mark-clause-gives t c =
    let yes = c.if-has_mark.ensures.yes refl in
    let deep : depth c.in_ok-term.term ≡ 1 = ap depth c.in_ok-term.ensures in
    (omega arith, is_true _ _ _ yes.1 c.in_ok-term.ensures, omega arith)

pub primary-returns-then-has_mark-2-clause-gives : goal.primary-returns-then-has_mark-2-clause-gives
primary-returns-then-has_mark-2-clause-gives t c =
    let yes = c.if-has_mark-2.ensures.yes refl in
    let deep : depth c.in_ok-term-2.term ≡ 1 = ap depth c.in_ok-term-2.ensures in
    (omega arith, is_false _ _ _ yes.1 c.in_ok-term-2.ensures, omega arith)

pub primary-returns-clause-gives : goal.primary-returns-clause-gives
primary-returns-clause-gives t c =
    let ms = c.args.marks.now in
    let yes = c.if-not-has_mark.ensures.yes refl in
    let negated = gives_some (λ R rest. Literal R (drop (c.args.at + 1) ms) rest) (c.args.levels - 1) ms _ c.in-Some.negated c.in_ok-negated.ensures.gives c.in-Some.is in
    let deep : depth c.in_ok-term-3.term ≡ 1 + depth c.in-Some.negated.term = ap depth c.in_ok-term-3.ensures ∙ depth-neg c.in-Some.negated.term in
    (negated.0, is_negation c.in_ok-term-3.term c.in-Some.negated.term (drop c.args.at ms) (drop (c.args.at + 1) ms) (drop c.in-Some.negated.end ms) yes.1 negated.1 c.in_ok-term-3.ensures, omega arith)

pub read-returns-then-levels-eq0-clause-gives : goal.read-returns-then-levels-eq0-clause-gives
read-returns-then-levels-eq0-clause-gives t c =
    λ R rest h. let positive = nothing_without_levels c.args.want (drop c.args.from c.args.marks.now) R rest h in omega arith

pub read-returns-in_default-clause-gives : goal.read-returns-in_default-clause-gives
read-returns-in_default-clause-gives t c =
    let ms = c.args.marks.now in
    no_literal_no_more c.args.levels c.args.want (drop c.args.from ms)
    (no_literal_under c.args.levels c.count_opens-opens.result c.args.from ms c.count_opens-opens.ensures.opens
    (gives_none (λ R rest. Literal R (drop (c.args.from + c.count_opens-opens.result) ms) rest) c.args.levels ms _ c.in_ok-first.ensures.gives c.in_default.not-Some))

pub read-returns-in_default-2-clause-gives : goal.read-returns-in_default-2-clause-gives
read-returns-in_default-2-clause-gives t c =
    let ms = c.args.marks.now in
    let lt : c.closing.open - 1 < c.count_opens-opens.result = omega (arith, c.closing.invariant.few, c.closing-test.true) in
    no_literal_no_more c.args.levels c.args.want (drop c.args.from ms)
    (no_literal_under c.args.levels (c.closing.open - 1) c.args.from ms (λ k h. c.count_opens-opens.ensures.opens k (omega arith))
    (nothing_within c.args.levels (drop (c.args.from + (c.closing.open - 1)) ms) (drop (c.args.from + c.closing.open) ms) (drop c.closing.found.end ms) c.closing.found.term
    (paren_at ms c.args.from c.closing.open c.closing-test.true (c.count_opens-opens.ensures.opens (c.closing.open - 1) lt)) c.closing.invariant.literal
    (gives_none (ExtendsToPredicate c.closing.found.term (drop c.closing.found.end ms)) c.args.levels ms _ c.in_ok-inner.ensures.gives c.in_default-2.not-Some)))

pub read-returns-then-not-has_mark-clause-gives : goal.read-returns-then-not-has_mark-clause-gives
read-returns-then-not-has_mark-clause-gives t c =
    let ms = c.args.marks.now in
    let lt : c.closing.open - 1 < c.count_opens-opens.result = omega (arith, c.closing.invariant.few, c.closing-test.true) in
    let inner = gives_some (ExtendsToPredicate c.closing.found.term (drop c.closing.found.end ms)) c.args.levels ms _ c.in-Some-2.inner c.in_ok-inner.ensures.gives c.in-Some-2.is in
    no_literal_no_more c.args.levels c.args.want (drop c.args.from ms)
    (no_literal_under c.args.levels (c.closing.open - 1) c.args.from ms (λ k h. c.count_opens-opens.ensures.opens k (omega arith))
    (not_closed c.args.levels (drop (c.args.from + (c.closing.open - 1)) ms) (drop (c.args.from + c.closing.open) ms) (drop c.closing.found.end ms) (drop c.in-Some-2.inner.end ms) c.closing.found.term c.in-Some-2.inner.term
    (paren_at ms c.args.from c.closing.open c.closing-test.true (c.count_opens-opens.ensures.opens (c.closing.open - 1) lt)) c.closing.invariant.literal inner.1
    (c.if-not-has_mark.ensures.no refl)))

pub read-closing-preserved : goal.read-closing-preserved
read-closing-preserved t c =
    let ms = c.args.marks.now in
    let lt : c.closing.open - 1 < c.count_opens-opens.result = omega (arith, c.closing.invariant.few, c.closing-test.true) in
    let inner = gives_some (ExtendsToPredicate c.closing.found.term (drop c.closing.found.end ms)) c.args.levels ms _ c.in-Some-2.inner c.in_ok-inner.ensures.gives c.in-Some-2.is in
    let advances = some_holds (λ (f : Found). c.closing.found.end ≤ f.end) _ c.in-Some-2.inner c.in_ok-inner.ensures.advances c.in-Some-2.is in
    let yes = c.if-not-has_mark.ensures.yes refl in
    record {
      within = omega arith;
      shallow = inner.2;
      literal = closed (drop (c.args.from + (c.closing.open - 1)) ms) (drop (c.args.from + c.closing.open) ms) (drop c.closing.found.end ms) (drop c.in-Some-2.inner.end ms) (drop (c.in-Some-2.inner.end + 1) ms) c.closing.found.term c.in-Some-2.inner.term
          (paren_at ms c.args.from c.closing.open c.closing-test.true (c.count_opens-opens.ensures.opens (c.closing.open - 1) lt)) c.closing.invariant.literal inner.1 yes.1;
      further = omega arith;
      few = omega (arith, c.closing.invariant.few);
    }

pub read-returns-clause-gives : goal.read-returns-clause-gives
read-returns-clause-gives t c =
    let ms = c.args.marks.now in
    let none : c.args.from + c.closing.open ≡ c.args.from = omega (arith, c.closing-test.false) in
    let literal : Literal c.closing.found.term (drop c.args.from ms) (drop c.closing.found.end ms) = subst (λ i. Literal c.closing.found.term (drop i ms) (drop c.closing.found.end ms)) none c.closing.invariant.literal in
    IfOk-weaker c.extend.result (Gives (Extends c.args.want c.closing.found.term (drop c.closing.found.end ms)) c.args.levels ms) (Gives (λ R rest. Reads c.args.want R (drop c.args.from ms) rest) c.args.levels ms)
    (λ o h. gives_other (Extends c.args.want c.closing.found.term (drop c.closing.found.end ms)) (λ R rest. Reads c.args.want R (drop c.args.from ms) rest) c.args.levels ms o
    (λ R rest k. extends_reads c.args.want c.closing.found.term R (drop c.args.from ms) (drop c.closing.found.end ms) rest literal k)
    (λ R rest k. reads_extends c.args.want c.closing.found.term R (drop c.args.from ms) (drop c.closing.found.end ms) rest literal k) h)
    c.extend.ensures.gives
