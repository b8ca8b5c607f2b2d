use Rattle.std.proofs.Common.{◌+◌, ◌∷◌, [], ap, subst, sym, ◌∙◌, arith, drop}
use Rattle.std.specs.List.{AllZip}
use Rattle.theory.specs.declared.theorems.Theorem.{Theorem}
use Rattle.theory.specs.inner.Pieces.{texts, piece}
use Rattle.theory.specs.Theorems.{IsTheorem, AreDifferent, labels_of}
use Rattle.theory.proofs.ReadLaws.{none_holds, some_holds}
use Rattle.theory.proofs.ReadingLaws.{ReadSoFar, read_on, read_none, so_far_next, so_far_end, theorem_one, lines_are, repeated, different_on, labels-more, fresh_key, fresh_keys, old_key}
use Rattle.theory.proofs.theorems.theorems_of.Goals as goal

pub returns-in_default-clause-none : goal.returns-in_default-clause-none
returns-in_default-clause-none c = λ ts h.
    let items = c.as_slice-line-items.result.now in
    let same = lines_are c.in_ok-full.full.items items (texts c.args.lines.now) c.as_slice-line-items.ensures.value c.in_ok-full.ensures in
    let none = none_holds _ _ c.in_ok-theorem.ensures.none c.in_default.not-Some in
    read_none IsTheorem (texts items) (texts (drop (c.loop-line.line-index + 1) items)) c.loop-line.theorems (piece items c.loop-line.line-index) none
    (so_far_next IsTheorem items c.loop-line.theorems c.loop-line.line-index c.loop-line-test.true c.loop-line.invariant.read) ts
    (subst (λ ls. AllZip IsTheorem ls ts) (sym same) h.0)

pub returns-then-not-is_new-clause-none : goal.returns-then-not-is_new-clause-none
returns-then-not-is_new-clause-none c =
    let items = c.as_slice-line-items.result.now in
    let same = lines_are c.in_ok-full.full.items items (texts c.args.lines.now) c.as_slice-line-items.ensures.value c.in_ok-full.ensures in
    let is = some_holds (λ (t : Theorem). IsTheorem (piece items c.loop-line.line-index) t) _ c.in-Some.theorem c.in_ok-theorem.ensures.found c.in-Some.is in
    repeated (texts c.args.lines.now) c.loop-line.theorems (piece items c.loop-line.line-index) (texts (drop (c.loop-line.line-index + 1) items)) c.in-Some.theorem is
    (subst (λ ls. ReadSoFar IsTheorem ls c.loop-line.theorems (piece items c.loop-line.line-index ∷ texts (drop (c.loop-line.line-index + 1) items))) same
    (so_far_next IsTheorem items c.loop-line.theorems c.loop-line.line-index c.loop-line-test.true c.loop-line.invariant.read))
    (old_key c.in_ok-try_copy.field-0 c.in-Some.theorem.label c.loop-line.labels.keys (labels_of c.loop-line.theorems) c.in_ok-is_new.is_new
    c.in_ok-try_copy.ensures c.loop-line.invariant.labels c.in_ok-is_new.ensures.added c.if-not-is_new.true)

pub loop-line-preserved : goal.loop-line-preserved
loop-line-preserved c =
    let items = c.as_slice-line-items.result.now in
    let is = some_holds (λ (t : Theorem). IsTheorem (piece items c.loop-line.line-index) t) _ c.in-Some.theorem c.in_ok-theorem.ensures.found c.in-Some.is in
    let fresh = fresh_key c.in_ok-try_copy.field-0 c.in-Some.theorem.label c.loop-line.labels.keys (labels_of c.loop-line.theorems) c.in_ok-is_new.is_new
    c.in_ok-try_copy.ensures c.loop-line.invariant.labels c.in_ok-is_new.ensures.added c.if-not-is_new.false in
    record {
      read = subst (λ done. ReadSoFar IsTheorem (texts items) done (texts (drop (c.loop-line.line-index + 1) items))) (sym c.in_ok-push.ensures.ok)
          (read_on IsTheorem (texts items) (texts (drop (c.loop-line.line-index + 1) items)) c.loop-line.theorems (piece items c.loop-line.line-index) c.in-Some.theorem is (λ t h. theorem_one (piece items c.loop-line.line-index) t c.in-Some.theorem h is)
          (so_far_next IsTheorem items c.loop-line.theorems c.loop-line.line-index c.loop-line-test.true c.loop-line.invariant.read));
      labels = fresh_keys c.in_ok-try_copy.field-0 c.in-Some.theorem.label c.loop-line.labels.keys (labels_of c.loop-line.theorems) c.insert_full.new.self.keys c.in_ok-try_copy.ensures c.loop-line.invariant.labels c.in_ok-is_new.ensures.keys fresh
          ∙ labels-more c.loop-line.theorems c.in-Some.theorem ∙ ap labels_of (sym c.in_ok-push.ensures.ok);
      different = subst (λ ts. AreDifferent [] (labels_of ts)) (sym c.in_ok-push.ensures.ok) (different_on c.loop-line.theorems c.in-Some.theorem c.loop-line.invariant.different fresh);
    }

pub returns-clause-found : goal.returns-clause-found
returns-clause-found c = (
  subst (λ ls. AllZip IsTheorem ls c.loop-line.theorems) (lines_are c.in_ok-full.full.items c.as_slice-line-items.result.now (texts c.args.lines.now) c.as_slice-line-items.ensures.value c.in_ok-full.ensures)
      (so_far_end IsTheorem c.as_slice-line-items.result.now c.loop-line.theorems c.loop-line.line-index (omega arith) c.loop-line.invariant.read),
  c.loop-line.invariant.different,
)
