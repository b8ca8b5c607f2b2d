use Rattle.std.specs.Prelude.{ℕ}
use Rattle.std.proofs.Common.{◌∙◌}
use Rattle.std.proofs.lemmas.Result.{err_from_is_err_and}
use Rattle.ev_terms.specs.declared.types.Ty.{Ty}
use Rattle.ev_unify.specs.inner.Numbered.{type_of, Joined}
use Rattle.ev_unify.specs.inner.Links.{NeverJoined}
use Rattle.ev_unify.proofs.Partition.{merging_start, never_joined, classes_are}
use Rattle.ev_unify.proofs.Faults.{clash_weaker}
use Rattle.ev_unify.proofs.cells.Cells.classes.Goals as goal

pub merge-requires-clause-merging : goal.merge-requires-clause-merging
merge-requires-clause-merging c =
    merging_start c.args.self.now.pats.items c.args.self.now.firsts.items c.args.self.now.homes.items c.as_mut_slice-slots.result.now c.args.work.items c.requires.homes c.requires.below
    (c.as_mut_slice-slots.ensures.value ∙ c.in_ok-links.ensures ∙ c.as_slice.ensures.value)

pub returns-in_err-merge-clause-err : goal.returns-in_err-merge-clause-err
returns-in_err-merge-clause-err c =
    let p = err_from_is_err_and c.from_residual-in_err-merge.result c.from_residual-in_err-merge.ensures.1 in rw (p.1, p.2)
    (clash_weaker (NeverJoined c.args.self.now.pats.items c.as_mut_slice-slots.result.now c.args.work.items) ((σ : ℕ → Ty) → Joined (type_of σ c.args.self.now.pats.items) c.args.work.items → ⊥) _
    (never_joined c.args.self.now.pats.items c.args.self.now.homes.items c.as_mut_slice-slots.result.now c.args.work.items c.requires.homes (c.as_mut_slice-slots.ensures.value ∙ c.in_ok-links.ensures ∙ c.as_slice.ensures.value))
    c.in_err-merge.ensures.err)

pub returns-clause-ok : goal.returns-clause-ok
returns-clause-ok c =
    classes_are c.args.self.now.pats.items c.args.self.now.firsts.items c.args.self.now.homes.items c.args.work.items c.as_mut_slice-slots.result.now c.merge.new.links c.roots.new.links _ c.requires.homes
    (c.as_mut_slice-slots.ensures.value ∙ c.in_ok-links.ensures ∙ c.as_slice.ensures.value) c.in_ok-merge.ensures.ok c.in_ok-roots.ensures
