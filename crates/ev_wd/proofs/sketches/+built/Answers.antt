use Rattle.std.proofs.Common.{◌≡◌}
use Rattle.std.proofs.lemmas.Result.{IfOk-weaker}
use Rattle.ev_terms.specs.Substitution.{inst}
use Rattle.ev_forms.specs.Connectives.{joined}
use Rattle.ev_forms.specs.Forms.{conj, forall}
use Rattle.ev_wd.specs.inner.Renaming.{renaming}
use Rattle.ev_wd.specs.inner.Sketches.{meaning}
use Rattle.ev_wd.proofs.Sketching.{both_built, guarded_built, bound_built, lowered_built}
use Rattle.ev_wd.proofs.sketches.+built.Goals as goal

pub returns-in_ok-right-in-Both : goal.returns-in_ok-right-in-Both
returns-in_ok-right-in-Both t c =
    IfOk-weaker c.make_joined.result (λ u. u ≡ conj c.in_ok-left-in-Both.left c.in_ok-right-in-Both.right)
    (λ u. u ≡ inst (renaming c.args.kept.now) (meaning c.args.sketch.now))
    (λ u e. both_built c.args.sketch.now c.in-Both.left c.in-Both.right c.get.result.now c.get-in-Both.result.now _ _ u (renaming c.args.kept.now) c.in-Both.is c.get.ensures
    c.get-in-Both.ensures c.in_ok-left-in-Both.ensures c.in_ok-right-in-Both.ensures e)
    c.make_joined.ensures

pub returns-in_ok-body-in-Guarded : goal.returns-in_ok-body-in-Guarded
returns-in_ok-body-in-Guarded t c =
    IfOk-weaker c.make_joined-in-Guarded.result (λ u. u ≡ joined c.in-Guarded.connective c.in_ok-guard-in-Guarded.guard c.in_ok-body-in-Guarded.body)
    (λ u. u ≡ inst (renaming c.args.kept.now) (meaning c.args.sketch.now))
    (λ u e. guarded_built c.args.sketch.now c.in-Guarded.connective c.in-Guarded.guard c.in-Guarded.body c.get-in-Guarded.result.now _ _ u (renaming c.args.kept.now)
    c.in-Guarded.is c.get-in-Guarded.ensures c.in_ok-guard-in-Guarded.ensures c.in_ok-body-in-Guarded.ensures e)
    c.make_joined-in-Guarded.ensures

pub returns-in_ok-try_copy-in-Bound : goal.returns-in_ok-try_copy-in-Bound
returns-in_ok-try_copy-in-Bound t c =
    IfOk-weaker c.make_bound.result (λ u. u ≡ forall c.in_ok-try_copy-in-Bound.field-0 c.in_ok-body-in-Bound.body)
    (λ u. u ≡ inst (renaming c.args.kept.now) (meaning c.args.sketch.now))
    (λ u e. bound_built c.args.sketch.now c.in-Bound.ty _ c.in-Bound.body c.get-in-Bound.result.now c.args.kept.now c.in_ok-inner-in-Bound.inner.items
    c.as_slice.result.now _ u c.in-Bound.is c.get-in-Bound.ensures c.in_ok-inner-in-Bound.ensures c.as_slice.ensures.value c.in_ok-body-in-Bound.ensures
    c.in_ok-try_copy-in-Bound.ensures e)
    c.make_bound.ensures

pub returns-in_ok-inner-in-Lowered : goal.returns-in_ok-inner-in-Lowered
returns-in_ok-inner-in-Lowered t c =
    IfOk-weaker c.built-in-Lowered.result (λ u. u ≡ inst (renaming c.as_slice-in-Lowered.result.now) (meaning c.get-in-Lowered.result.now))
    (λ u. u ≡ inst (renaming c.args.kept.now) (meaning c.args.sketch.now))
    (λ u e. lowered_built c.args.sketch.now c.in-Lowered.body c.get-in-Lowered.result.now c.args.kept.now c.in_ok-inner-in-Lowered.inner.items
    c.as_slice-in-Lowered.result.now u c.in-Lowered.is c.get-in-Lowered.ensures c.in_ok-inner-in-Lowered.ensures c.as_slice-in-Lowered.ensures.value e)
    c.built-in-Lowered.ensures
