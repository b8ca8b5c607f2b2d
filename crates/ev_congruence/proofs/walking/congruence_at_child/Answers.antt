use Rattle.std.proofs.Common.{◌∙◌, ap, sym, refl, arith, slice_set, subst as transport}
use Rattle.std.proofs.lemmas.Result.{IfOk-weaker}
use Rattle.ev_terms.specs.Types.{type_list}
use Rattle.ev_terms.specs.Term.{terms}
use Rattle.ev_terms.specs.Substitution.{entry}
use Rattle.ev_typing.specs.declared.typing.Sequent.{Sequent}
use Rattle.ev_typing.specs.Sequents.{◌⊢◌}
use Rattle.ev_kernel.specs.Row.{at_children}
use Rattle.ev_congruence.proofs.Appending.{extended_derivation, extends_twice}
use Rattle.ev_congruence.proofs.Putting.{settled_by, alike_by}
use Rattle.ev_congruence.proofs.Nodes.{good_types, inner_base, inner_context, hyps_low, children_alike, alike_both}
use Rattle.ev_congruence.proofs.ButOne.{settled_but_one, equates_beside, settled_lists, node_by, equates_sides}
use Rattle.ev_congruence.proofs.Within.{between_one, between_line}
use Rattle.ev_congruence.proofs.walking.congruence_at_child.Goals as goal
use Rattle.ev_congruence.specs.inner.Inside.{AreAllAlike}

pub at_children-requires : goal.at_children-requires
at_children-requires c = hyps_low c.args.env.now (type_list c.args.at.now.context) c.args.at.now.hyps 1 c.requires.base.hyps (omega arith) c.requires.room

pub joined-requires : goal.joined-requires
joined-requires c =
    let g = good_types c.args.env.now (type_list c.args.at.now.context) c.args.of.now.sym.now c.args.of.now.types.now (terms c.args.of.now.children.now) c.requires.alike.ty c.requires.alike.left in
    let e = c.in_ok-children.ensures.at ∙ c.in_ok-inner.ensures in record {
      derivation = c.requires.derivation;
      base = c.requires.base;
      inner = e;
      inner_base = inner_base c.args.env.now c.args.at.now c.in_ok-children.children.at c.args.of.now.sym.now c.args.of.now.types.now c.args.at.now.goal e c.requires.base g;
      settled = settled_lists c.args.lines.now c.in_ok-children.children.at c.args.of.now.children.now (slice_set c.args.of.now.children.now c.args.change.now.place c.args.change.now.new) c.in_ok-children.children.lefts
          c.in_ok-children.children.rights _ c.in_ok-children.children.found c.in_ok-children.ensures.lefts c.in_ok-children.ensures.rights c.in_ok-children.ensures.found
          (settled_but_one c.args.lines.now c.in_ok-children.children.at c.args.of.now.children.now c.args.change.now.place c.args.change.now.new c.args.change.now.line c.requires.within
          (equates_beside c.args.lines.now (at_children c.args.at.now c.args.of.now.sym.now c.args.of.now.types.now) c.in_ok-children.children.at (entry c.args.of.now.children.now c.args.change.now.place)
          c.args.change.now.new c.args.change.now.line (λ G. sym (ap (λ (x : Sequent). x ⊢ G) e)) c.requires.given));
      alike = alike_by c.args.env.now (type_list c.args.at.now.context) _ _ _ _
          (node_by c.args.of.now.sym.now c.args.of.now.types.now c.args.of.now.children.now c.in_ok-children.children.lefts c.in_ok-children.ensures.lefts)
          (node_by c.args.of.now.sym.now c.args.of.now.types.now (slice_set c.args.of.now.children.now c.args.change.now.place c.args.change.now.new) c.in_ok-children.children.rights c.in_ok-children.ensures.rights)
          c.requires.alike;
      children = alike_both c.args.env.now (type_list c.in_ok-children.children.at.context) _ _ c.in_ok-children.children.lefts c.in_ok-children.children.rights c.in_ok-children.ensures.lefts c.in_ok-children.ensures.rights
          (transport (λ D. AreAllAlike c.args.env.now D c.args.of.now.children.now (slice_set c.args.of.now.children.now c.args.change.now.place c.args.change.now.new))
          (sym (inner_context c.args.at.now c.in_ok-children.children.at c.args.of.now.sym.now c.args.of.now.types.now c.args.at.now.goal e))
          (children_alike c.args.env.now (type_list c.args.at.now.context) c.args.of.now.sym.now c.args.of.now.types.now c.args.of.now.children.now
          (slice_set c.args.of.now.children.now c.args.change.now.place c.args.change.now.new) c.requires.alike));
    }

pub line_for-requires : goal.line_for-requires
line_for-requires c =
    let l = c.in_ok-sides.ensures.left ∙ node_by c.args.of.now.sym.now c.args.of.now.types.now c.args.of.now.children.now c.in_ok-children.children.lefts c.in_ok-children.ensures.lefts in
    let r = c.in_ok-sides.ensures.right
    ∙ node_by c.args.of.now.sym.now c.args.of.now.types.now (slice_set c.args.of.now.children.now c.args.change.now.place c.args.change.now.new) c.in_ok-children.children.rights c.in_ok-children.ensures.rights in
    let a = alike_by c.args.env.now (type_list c.args.at.now.context) _ _ c.in_ok-sides.sides.left c.in_ok-sides.sides.right l r c.requires.alike in record {
      derivation = extended_derivation c.args.env.now c.args.lines.now c.joined.new.lines c.requires.derivation c.joined.ensures.extends;
      base = c.requires.base;
      typed = (a.ty, a.left);
      plain = a.left_plain;
    }

pub returns-clause-line : goal.returns-clause-line
returns-clause-line c =
    let l = c.in_ok-sides.ensures.left ∙ node_by c.args.of.now.sym.now c.args.of.now.types.now c.args.of.now.children.now c.in_ok-children.children.lefts c.in_ok-children.ensures.lefts in
    let r = c.in_ok-sides.ensures.right ∙ node_by c.args.of.now.sym.now c.args.of.now.types.now (slice_set c.args.of.now.children.now c.args.change.now.place c.args.change.now.new) c.in_ok-children.children.rights c.in_ok-children.ensures.rights in
    IfOk-weaker c.line_for.result _ _ (λ n h.
    equates_sides _ c.args.at.now _ _ c.in_ok-sides.sides.left c.in_ok-sides.sides.right n l r
    (h c.in_ok-sides.sides.right (settled_by c.joined.new.lines c.args.at.now _ _ c.in_ok-sides.sides.left c.in_ok-sides.sides.right c.in_ok-sides.sides.line c.in_ok-sides.sides.line c.in_ok-sides.ensures.left
    c.in_ok-sides.ensures.right refl c.in_ok-sides.ensures.line))) c.line_for.ensures.line

pub returns-clause-extends : goal.returns-clause-extends
returns-clause-extends c = extends_twice c.args.env.now c.args.lines.now c.joined.new.lines c.line_for.new.lines c.joined.ensures.extends c.line_for.ensures.extends

pub returns-in_err-sides-clause-limits : goal.returns-in_err-sides-clause-limits
returns-in_err-sides-clause-limits c =
    between_one c.args.env.now c.args.lines.now c.joined.new.lines c.args.at.now _ _ _ _ (sym (node_by c.args.of.now.sym.now c.args.of.now.types.now c.args.of.now.children.now c.in_ok-children.children.lefts c.in_ok-children.ensures.lefts)) (sym (node_by c.args.of.now.sym.now c.args.of.now.types.now (slice_set c.args.of.now.children.now c.args.change.now.place c.args.change.now.new) c.in_ok-children.children.rights c.in_ok-children.ensures.rights)) c.joined.ensures.limits

pub returns-clause-limits : goal.returns-clause-limits
returns-clause-limits c =
    between_line c.args.env.now c.args.lines.now c.joined.new.lines c.line_for.new.lines c.args.at.now _ _ c.in_ok-sides.sides.left
    (c.in_ok-sides.ensures.left ∙ node_by c.args.of.now.sym.now c.args.of.now.types.now c.args.of.now.children.now c.in_ok-children.children.lefts c.in_ok-children.ensures.lefts)
    (between_one c.args.env.now c.args.lines.now c.joined.new.lines c.args.at.now _ _ _ _ (sym (node_by c.args.of.now.sym.now c.args.of.now.types.now c.args.of.now.children.now c.in_ok-children.children.lefts c.in_ok-children.ensures.lefts)) (sym (node_by c.args.of.now.sym.now c.args.of.now.types.now (slice_set c.args.of.now.children.now c.args.change.now.place c.args.change.now.new) c.in_ok-children.children.rights c.in_ok-children.ensures.rights)) c.joined.ensures.limits) c.line_for.ensures.limits
