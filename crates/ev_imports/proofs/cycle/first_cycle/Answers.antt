use Rattle.std.proofs.lemmas.Grind.{common_steps}
use Rattle.std.proofs.Common.{◌+◌, Bool, sym, reverse, subst, ℕ, List, ◌≡◌, ◌∷◌, [], length, set, replicate, false, rules, arith}
use Rattle.ev_imports.specs.declared.cycle.Found.{Found}
use Rattle.ev_imports.specs.Cycles.{IsFirstCycle}
use Rattle.ev_imports.specs.Walks.{HasNoCycle}
use Rattle.ev_imports.proofs.Search.{no_cycle}
use Rattle.ev_imports.specs.inner.Found.{IsTrail}
use Rattle.ev_imports.proofs.Rows.{RowSearched, search_starts, row_closes, row_known, row_found, row_end}
use Rattle.ev_imports.proofs.cycle.first_cycle.Goals as goal
use Rattle.ev_imports.proofs.cycle.first_cycle.Goals.{then-not-index+in_ok-append-2, else-not-index}

pub loop-head-init : goal.loop-head-init
loop-head-init c =
    let m : c.in_ok-marks.marks.items ≡ replicate (length c.as_slice-lists.result.now) false = search rules in
    let f : c.append.new.items.items ≡ record { number = c.args.name; parent = 0 } ∷ [] = grind arith in
    search_starts _ _ _ _ _ (grind arith) m f

pub returns-then-next-name-clause-first : goal.returns-then-next-name-clause-first
returns-then-next-name-clause-first c =
    subst (λ (x : List (List ℕ)). IsFirstCycle (set x c.args.name c.args.imports.now) c.args.name c.in_ok-walk_back.field-0) c.as_slice-lists.ensures
    (row_closes _ _ _ _ _ _ _ c.loop-next.invariant c.in_ok-walk_back.field-0 (omega arith) c.if-next-name.true
    (subst (λ (x : List Found). (trail : List ℕ) × IsTrail x c.loop-head.head trail × (c.in_ok-walk_back.field-0 ≡ reverse (c.args.name ∷ trail))) c.as_slice.ensures.value c.in_ok-walk_back.ensures))

pub loop-next-preserved : goal.loop-next-preserved
loop-next-preserved c = elim c.if-not-index.branch [
  | then-not-index+in_ok-append-2 w ↦
      row_found _ _ _ _ _ _ _ c.loop-next.invariant c.if-not-index.marks.items c.if-not-index.found.items (omega arith) c.if-next-name.false
      (grind (arith, common_steps)) (grind (arith, common_steps)) (grind (arith, common_steps)) (grind (arith, common_steps))
  | else-not-index w ↦
      let same = row_known _ _ _ _ _ _ _ c.loop-next.invariant (omega arith) c.if-next-name.false (grind (arith, common_steps)) in
      let m : c.if-not-index.marks.items ≡ c.loop-next.marks.items = cc in
      let f : c.if-not-index.found.items ≡ c.loop-next.found.items = cc in
      subst (λ (x : List Found). RowSearched (set c.as_slice-lists.result.now c.args.name c.args.imports.now) c.args.name c.if-not-index.marks.items x c.loop-head.head (c.loop-next.next-index + 1) c.if-number-name.row.now) (sym f)
      (subst (λ (x : List Bool). RowSearched (set c.as_slice-lists.result.now c.args.name c.args.imports.now) c.args.name x c.loop-next.found.items c.loop-head.head (c.loop-next.next-index + 1) c.if-number-name.row.now) (sym m) same)
]

pub loop-head-preserved : goal.loop-head-preserved
loop-head-preserved c = row_end _ _ _ _ _ _ _ c.loop-next.invariant (omega arith)

pub returns-clause-none : goal.returns-clause-none
returns-clause-none c =
    subst (λ (x : List (List ℕ)). HasNoCycle (set x c.args.name c.args.imports.now) c.args.name) c.as_slice-lists.ensures
    (no_cycle _ _ _ _ _ _ c.loop-head.invariant (omega arith))
