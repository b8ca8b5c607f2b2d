use Rattle.ev_imports.specs.declared.reached.Frame.{Frame}
use Rattle.std.proofs.lemmas.Grind.{common_steps}
use Rattle.ev_imports.specs.Reached.{reached}
use Rattle.ev_imports.specs.inner.Listing.{ListsReached}
use Rattle.ev_imports.proofs.Listing.{lists_reached}
use Rattle.ev_imports.proofs.Parts.{reached-concat}
use Rattle.std.proofs.Common.{◌≡◌, ℕ, List, ◌∷◌, ◌++◌, [], length, ap, sym, subst, ◌∙◌, inl, inr, arith, refl}
use Rattle.std.specs.Option.{option_to_list}
use Rattle.ev_imports.specs.Walks.{imports_of, InRange, HasNoCycle}
use Rattle.ev_imports.proofs.Steps.{pop_below, pop_marked, row_read, mark_read, import_below, step_done, step_skips, step_enters}
use Rattle.ev_imports.proofs.reached.reach.Goals as goal
use Rattle.ev_imports.proofs.reached.reach.Goals.{else-deployed-import-via-then-deployed-import+else-not-index, else-deployed-import-via-else-deployed-import}

pub bounds-lists-number : goal.bounds-lists-number
bounds-lists-number c =
    let e : c.loop-number.stack.items ≡ c.pop.new.self.items ++ c.in-Some.field-0 ∷ [] =
    c.pop.ensures.items ∙ ap (λ o. c.pop.new.self.items ++ option_to_list o) c.in-Some.is in
    pop_below _ _ _ _ _ _ _ _ c.loop-number.invariant e

pub bounds-deployed-import : goal.bounds-deployed-import
bounds-deployed-import c =
    let e : c.loop-number.stack.items ≡ c.pop.new.self.items ++ c.in-Some.field-0 ∷ [] =
    c.pop.ensures.items ∙ ap (λ o. c.pop.new.self.items ++ option_to_list o) c.in-Some.is in
    let r : c.as_slice-imports.result.now ≡ imports_of c.as_slice-lists.result.now c.in-Some.field-0.number =
    row_read _ _ _ _ _ _ _ _ c.loop-number.invariant e _ _ c.as_slice-imports.ensures c.index-lists-number.is in
    let g : InRange c.as_slice-lists.result.now = subst InRange (sym c.as_slice-lists.ensures) c.requires.graph in
    let b = import_below _ _ _ _ _ _ _ _ c.loop-number.invariant e g _ r (omega arith) in
    omega (arith, b, c.requires.deployed, ap length c.as_slice-lists.ensures, ap length c.as_slice-deployed.ensures)

pub loop-number-smaller-then-not-index : goal.loop-number-smaller-then-not-index
loop-number-smaller-then-not-index c =
    let e : c.loop-number.stack.items ≡ c.pop.new.self.items ++ c.in-Some.field-0 ∷ [] =
    c.pop.ensures.items ∙ ap (λ o. c.pop.new.self.items ++ option_to_list o) c.in-Some.is in
    let r : c.as_slice-imports.result.now ≡ imports_of c.as_slice-lists.result.now c.in-Some.field-0.number =
    row_read _ _ _ _ _ _ _ _ c.loop-number.invariant e _ _ c.as_slice-imports.ensures c.index-lists-number.is in
    let g : InRange c.as_slice-lists.result.now = subst InRange (sym c.as_slice-lists.ensures) c.requires.graph in
    let n : (t : ℕ) → HasNoCycle c.as_slice-lists.result.now t =
    subst (λ (x : List (List ℕ)). (t : ℕ) → HasNoCycle x t) (sym c.as_slice-lists.ensures) c.requires.acyclic in
    (step_enters _ _ _ _ _ _ _ _ c.loop-number.invariant e g _ r (omega arith) n
    c.if-deployed-import.true (mark_read _ _ _ _ _ _ _ _ c.loop-number.invariant e g _ r (omega arith) _ _ c.index.ensures c.if-not-index.true)
    c.append-then-next-imports.new.items.items c.append-then-not-index.new.items.items (c.in_ok-append-2.ensures.ok ∙ ap (λ (x : Frame). c.pop.new.self.items ++ x ∷ []) c.new-then-next-imports.ensures) (c.in_ok-append-3.ensures.ok ∙ ap (λ (x : Frame). c.append-then-next-imports.new.items.items ++ x ∷ []) c.new-then-not-index.ensures)).falls

pub loop-number-preserved-then-not-index : goal.loop-number-preserved-then-not-index
loop-number-preserved-then-not-index c =
    let e : c.loop-number.stack.items ≡ c.pop.new.self.items ++ c.in-Some.field-0 ∷ [] =
    c.pop.ensures.items ∙ ap (λ o. c.pop.new.self.items ++ option_to_list o) c.in-Some.is in
    let r : c.as_slice-imports.result.now ≡ imports_of c.as_slice-lists.result.now c.in-Some.field-0.number =
    row_read _ _ _ _ _ _ _ _ c.loop-number.invariant e _ _ c.as_slice-imports.ensures c.index-lists-number.is in
    let g : InRange c.as_slice-lists.result.now = subst InRange (sym c.as_slice-lists.ensures) c.requires.graph in
    let n : (t : ℕ) → HasNoCycle c.as_slice-lists.result.now t =
    subst (λ (x : List (List ℕ)). (t : ℕ) → HasNoCycle x t) (sym c.as_slice-lists.ensures) c.requires.acyclic in
    (step_enters _ _ _ _ _ _ _ _ c.loop-number.invariant e g _ r (omega arith) n
    c.if-deployed-import.true (mark_read _ _ _ _ _ _ _ _ c.loop-number.invariant e g _ r (omega arith) _ _ c.index.ensures c.if-not-index.true)
    c.append-then-next-imports.new.items.items c.append-then-not-index.new.items.items (c.in_ok-append-2.ensures.ok ∙ ap (λ (x : Frame). c.pop.new.self.items ++ x ∷ []) c.new-then-next-imports.ensures) (c.in_ok-append-3.ensures.ok ∙ ap (λ (x : Frame). c.append-then-next-imports.new.items.items ++ x ∷ []) c.new-then-not-index.ensures)).walking

pub loop-number-smaller-else-deployed-import : goal.loop-number-smaller-else-deployed-import
loop-number-smaller-else-deployed-import c =
    let e : c.loop-number.stack.items ≡ c.pop.new.self.items ++ c.in-Some.field-0 ∷ [] =
    c.pop.ensures.items ∙ ap (λ o. c.pop.new.self.items ++ option_to_list o) c.in-Some.is in
    let r : c.as_slice-imports.result.now ≡ imports_of c.as_slice-lists.result.now c.in-Some.field-0.number =
    row_read _ _ _ _ _ _ _ _ c.loop-number.invariant e _ _ c.as_slice-imports.ensures c.index-lists-number.is in
    let g : InRange c.as_slice-lists.result.now = subst InRange (sym c.as_slice-lists.ensures) c.requires.graph in
    elim c.else-deployed-import.branch [
      | else-deployed-import-via-then-deployed-import+else-not-index w ↦
          (step_skips _ _ _ _ _ _ _ _ c.loop-number.invariant e g _ r (omega arith) (inr (mark_read _ _ _ _ _ _ _ _ c.loop-number.invariant e g _ r (omega arith) _ _ w.index.ensures w.if-not-index.false))
          c.append-then-next-imports.new.items.items (c.in_ok-append-2.ensures.ok ∙ ap (λ (x : Frame). c.pop.new.self.items ++ x ∷ []) c.new-then-next-imports.ensures)).falls
      | else-deployed-import-via-else-deployed-import w ↦
          (step_skips _ _ _ _ _ _ _ _ c.loop-number.invariant e g _ r (omega arith) (inl w.if-deployed-import.false)
          c.append-then-next-imports.new.items.items (c.in_ok-append-2.ensures.ok ∙ ap (λ (x : Frame). c.pop.new.self.items ++ x ∷ []) c.new-then-next-imports.ensures)).falls
    ]

pub loop-number-preserved-else-deployed-import : goal.loop-number-preserved-else-deployed-import
loop-number-preserved-else-deployed-import c =
    let e : c.loop-number.stack.items ≡ c.pop.new.self.items ++ c.in-Some.field-0 ∷ [] =
    c.pop.ensures.items ∙ ap (λ o. c.pop.new.self.items ++ option_to_list o) c.in-Some.is in
    let r : c.as_slice-imports.result.now ≡ imports_of c.as_slice-lists.result.now c.in-Some.field-0.number =
    row_read _ _ _ _ _ _ _ _ c.loop-number.invariant e _ _ c.as_slice-imports.ensures c.index-lists-number.is in
    let g : InRange c.as_slice-lists.result.now = subst InRange (sym c.as_slice-lists.ensures) c.requires.graph in
    elim c.else-deployed-import.branch [
      | else-deployed-import-via-then-deployed-import+else-not-index w ↦
          (step_skips _ _ _ _ _ _ _ _ c.loop-number.invariant e g _ r (omega arith) (inr (mark_read _ _ _ _ _ _ _ _ c.loop-number.invariant e g _ r (omega arith) _ _ w.index.ensures w.if-not-index.false))
          c.append-then-next-imports.new.items.items (c.in_ok-append-2.ensures.ok ∙ ap (λ (x : Frame). c.pop.new.self.items ++ x ∷ []) c.new-then-next-imports.ensures)).walking
      | else-deployed-import-via-else-deployed-import w ↦
          (step_skips _ _ _ _ _ _ _ _ c.loop-number.invariant e g _ r (omega arith) (inl w.if-deployed-import.false)
          c.append-then-next-imports.new.items.items (c.in_ok-append-2.ensures.ok ∙ ap (λ (x : Frame). c.pop.new.self.items ++ x ∷ []) c.new-then-next-imports.ensures)).walking
    ]

pub index_mut-requires : goal.index_mut-requires
index_mut-requires c =
    let e : c.loop-number.stack.items ≡ c.pop.new.self.items ++ c.in-Some.field-0 ∷ [] =
    c.pop.ensures.items ∙ ap (λ o. c.pop.new.self.items ++ option_to_list o) c.in-Some.is in
    let b = pop_marked _ _ _ _ _ _ _ _ c.loop-number.invariant e in
    omega (arith, b)

pub loop-number-smaller : goal.loop-number-smaller
loop-number-smaller c =
    let e : c.loop-number.stack.items ≡ c.pop.new.self.items ++ c.in-Some.field-0 ∷ [] =
    c.pop.ensures.items ∙ ap (λ o. c.pop.new.self.items ++ option_to_list o) c.in-Some.is in
    let r : c.as_slice-imports.result.now ≡ imports_of c.as_slice-lists.result.now c.in-Some.field-0.number =
    row_read _ _ _ _ _ _ _ _ c.loop-number.invariant e _ _ c.as_slice-imports.ensures c.index-lists-number.is in
    (step_done _ _ _ _ _ _ _ _ c.loop-number.invariant e _ r (omega arith) _ refl c.append-else-next-imports.new.items.items c.in_ok-append-4.ensures.ok).falls

pub loop-number-preserved : goal.loop-number-preserved
loop-number-preserved c =
    let e : c.loop-number.stack.items ≡ c.pop.new.self.items ++ c.in-Some.field-0 ∷ [] =
    c.pop.ensures.items ∙ ap (λ o. c.pop.new.self.items ++ option_to_list o) c.in-Some.is in
    let r : c.as_slice-imports.result.now ≡ imports_of c.as_slice-lists.result.now c.in-Some.field-0.number =
    row_read _ _ _ _ _ _ _ _ c.loop-number.invariant e _ _ c.as_slice-imports.ensures c.index-lists-number.is in
    (step_done _ _ _ _ _ _ _ _ c.loop-number.invariant e _ r (omega arith) _ refl c.append-else-next-imports.new.items.items c.in_ok-append-4.ensures.ok).walking

pub returns-clause-by_each : goal.returns-clause-by_each
returns-clause-by_each c =
    let e : c.from_vec.result ≡ reached c.args.graph.now c.args.deployed.now c.args.name = grind (arith, common_steps) in
    e ∙ reached-concat c.args.graph.now c.args.deployed.now c.args.name

pub returns-clause-lists : goal.returns-clause-lists
returns-clause-lists c =
    let e : c.from_vec.result ≡ reached c.args.graph.now c.args.deployed.now c.args.name = grind (arith, common_steps) in
    subst (ListsReached c.args.graph.now c.args.deployed.now c.args.name) (sym e)
    (lists_reached c.args.graph.now c.args.deployed.now c.args.name c.requires.graph c.requires.acyclic c.requires.name)
