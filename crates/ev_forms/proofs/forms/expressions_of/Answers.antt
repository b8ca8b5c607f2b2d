use Rattle.std.proofs.Common.{ap, sym, ◌∙◌, true≢false}
use Rattle.ev_forms.specs.Forms.{eq}
use Rattle.ev_forms.proofs.FormViews.{eq_prop, eq_sides, no_eq}
use Rattle.ev_forms.proofs.forms.expressions_of.Goals as goal

pub returns-then-is_prop-clause-none : goal.returns-then-is_prop-clause-none
returns-then-is_prop-clause-none c =
    eq_prop c.args.tree.now c.in-Some.left.now c.in-Some.right.now
    (c.in-Some.ensures.found ∙ ap (λ A. eq A c.in-Some.left.now c.in-Some.right.now) (c.is_prop.ensures.0 c.if-is_prop.true))

pub returns-else-is_prop-clause-found : goal.returns-else-is_prop-clause-found
returns-else-is_prop-clause-found c =
    eq_sides c.args.tree.now c.in-Some.left.now c.in-Some.right.now c.in-Some.ty.now c.in-Some.ensures.found
    (λ e. true≢false (sym (c.is_prop.ensures.1 e) ∙ c.if-is_prop.false))

pub returns-in-None-clause-none : goal.returns-in-None-clause-none
returns-in-None-clause-none c = no_eq c.args.tree.now c.in-None.ensures.none
