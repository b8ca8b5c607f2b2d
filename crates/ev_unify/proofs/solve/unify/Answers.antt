use Rattle.std.specs.Prelude.{ℕ}
use Rattle.std.proofs.lemmas.Result.{err_from_is_err_and}
use Rattle.ev_terms.specs.declared.types.Ty.{Ty}
use Rattle.ev_unify.specs.inner.Numbered.{type_of, Joined}
use Rattle.ev_unify.specs.inner.Ranks.{NeverRanked}
use Rattle.ev_unify.specs.Solutions.{HasSolution}
use Rattle.ev_unify.proofs.Solving.{cells_below, unify_found, unify_general, unify_solvable, clash_joined, clash_ranked}
use Rattle.ev_unify.proofs.Faults.{clash_weaker}
use Rattle.ev_unify.proofs.solve.unify.Goals as goal

pub classes-requires-clause-below : goal.classes-requires-clause-below
classes-requires-clause-below c = cells_below c.args.pairs.now c.in_ok-pats.pats.items c.in_ok-cells.cells.pats.items c.in_ok-cells.cells.firsts.items c.in_ok-cells.cells.homes.items c.in_ok-pats.couples.items c.in_ok-pats.ensures c.in_ok-cells.ensures

pub returns-in_err-roots-clause-clash : goal.returns-in_err-roots-clause-clash
returns-in_err-roots-clause-clash c =
    let p = err_from_is_err_and c.from_residual-in_err-roots.result c.from_residual-in_err-roots.ensures.1 in rw (p.1, p.2)
    (clash_weaker ((σ : ℕ → Ty) → Joined (type_of σ c.in_ok-cells.cells.pats.items) c.in_ok-pats.couples.items → ⊥) (HasSolution c.args.pairs.now → ⊥) _
    (clash_joined c.args.pairs.now c.in_ok-pats.pats.items c.in_ok-cells.cells.pats.items c.in_ok-cells.cells.firsts.items c.in_ok-cells.cells.homes.items c.in_ok-pats.couples.items c.in_ok-pats.ensures c.in_ok-cells.ensures)
    c.in_err-roots.ensures.err)

pub returns-in_err-check_ranks-clause-clash : goal.returns-in_err-check_ranks-clause-clash
returns-in_err-check_ranks-clause-clash c =
    let p = err_from_is_err_and c.from_residual-in_err-check_ranks.result c.from_residual-in_err-check_ranks.ensures.1 in rw (p.1, p.2)
    (clash_weaker (NeverRanked c.in_ok-cells.cells.pats.items c.as_slice.result.now) (HasSolution c.args.pairs.now → ⊥) _
    (clash_ranked c.args.pairs.now c.in_ok-pats.pats.items c.in_ok-cells.cells.pats.items c.in_ok-cells.cells.firsts.items c.in_ok-cells.cells.homes.items c.in_ok-pats.couples.items c.in_ok-roots.roots.items c.as_slice.result.now c.in_ok-pats.ensures c.in_ok-cells.ensures c.in_ok-roots.ensures.ok c.as_slice.ensures.value)
    c.in_err-check_ranks.ensures.err)

pub returns-clause-unifier : goal.returns-clause-unifier
returns-clause-unifier c =
    unify_found c.args.pairs.now c.in_ok-pats.pats.items c.in_ok-cells.cells.pats.items c.in_ok-cells.cells.firsts.items c.in_ok-cells.cells.homes.items c.in_ok-pats.couples.items c.in_ok-roots.roots.items c.as_slice.result.now c.as_slice-2.result.now c.in_ok-solution.field-0 c.in_ok-pats.ensures c.in_ok-cells.ensures c.in_ok-roots.ensures.ok c.as_slice.ensures.value c.in_ok-check_ranks.ensures.ok c.as_slice-2.ensures.value c.in_ok-solution.ensures

pub returns-clause-general : goal.returns-clause-general
returns-clause-general c =
    unify_general c.in_ok-solution.field-0 c.args.pairs.now
    (unify_found c.args.pairs.now c.in_ok-pats.pats.items c.in_ok-cells.cells.pats.items c.in_ok-cells.cells.firsts.items c.in_ok-cells.cells.homes.items c.in_ok-pats.couples.items c.in_ok-roots.roots.items c.as_slice.result.now c.as_slice-2.result.now c.in_ok-solution.field-0 c.in_ok-pats.ensures c.in_ok-cells.ensures c.in_ok-roots.ensures.ok c.as_slice.ensures.value c.in_ok-check_ranks.ensures.ok c.as_slice-2.ensures.value c.in_ok-solution.ensures)

pub returns-clause-solvable : goal.returns-clause-solvable
returns-clause-solvable c =
    unify_solvable c.in_ok-solution.field-0 c.args.pairs.now
    (unify_found c.args.pairs.now c.in_ok-pats.pats.items c.in_ok-cells.cells.pats.items c.in_ok-cells.cells.firsts.items c.in_ok-cells.cells.homes.items c.in_ok-pats.couples.items c.in_ok-roots.roots.items c.as_slice.result.now c.as_slice-2.result.now c.in_ok-solution.field-0 c.in_ok-pats.ensures c.in_ok-cells.ensures c.in_ok-roots.ensures.ok c.as_slice.ensures.value c.in_ok-check_ranks.ensures.ok c.as_slice-2.ensures.value c.in_ok-solution.ensures)
