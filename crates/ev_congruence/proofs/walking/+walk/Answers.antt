use Rattle.std.proofs.Common.{subst as transport, ◌≤◌, ◌+◌, ◌∙◌, ap, sym, refl, arith}
use Rattle.std.proofs.lemmas.Result.{IfOk-weaker}
use Rattle.ev_terms.specs.Types.{type_list}
use Rattle.ev_terms.specs.Term.{terms}
use Rattle.ev_terms.specs.Measures.{depth, depths}
use Rattle.ev_terms.proofs.Children.{depth_at}
use Rattle.ev_terms.proofs.ListLaws.{binds_le}
use Rattle.ev_congruence.proofs.Appending.{extended_derivation, extends_twice}
use Rattle.ev_congruence.proofs.Equal.{settled_stays, settled_step}
use Rattle.ev_congruence.proofs.Putting.{put_closed, settled_by, settled_one, alike_by}
use Rattle.ev_congruence.proofs.Nodes.{inner_base, inner_inside_by, put_sides, alike_both, inner_room, inner_alike, hyps_low, count_within, sides_types, alike_map, map_step}
use Rattle.ev_congruence.proofs.Within.{between_any, between_twice, between_one, between_applied, between_step}
use Rattle.ev_congruence.proofs.walking.+walk.Goals as goal
use Rattle.ev_congruence.specs.Equating.{AreSettled}
use Rattle.ev_congruence.specs.inner.Inside.{put}

pub walk-returns-then-loose-from-clause-left : goal.walk-returns-then-loose-from-clause-left
walk-returns-then-loose-from-clause-left t c =
    IfOk-weaker c.unchanged.result _ _ (λ s h. h ∙ sym (put_closed c.args.body.now c.args.count c.args.pairs.now.lefts (omega (arith, c.loose.ensures.is, c.from.ensures, c.if-loose-from.true)))) c.unchanged.ensures.left

pub walk-returns-then-loose-from-clause-right : goal.walk-returns-then-loose-from-clause-right
walk-returns-then-loose-from-clause-right t c =
    IfOk-weaker c.unchanged.result _ _ (λ s h. h ∙ sym (put_closed c.args.body.now c.args.count c.args.pairs.now.rights (omega (arith, c.loose.ensures.is, c.from.ensures, c.if-loose-from.true)))) c.unchanged.ensures.right

pub walk-returns-then-loose-from-clause-line : goal.walk-returns-then-loose-from-clause-line
walk-returns-then-loose-from-clause-line t c =
    IfOk-weaker c.unchanged.result _ _ (λ s h. settled_one _ c.args.at.now _ _ s.line
    (put_closed c.args.body.now c.args.count c.args.pairs.now.lefts (omega (arith, c.loose.ensures.is, c.from.ensures, c.if-loose-from.true))
    ∙ sym (put_closed c.args.body.now c.args.count c.args.pairs.now.rights (omega (arith, c.loose.ensures.is, c.from.ensures, c.if-loose-from.true)))) h) c.unchanged.ensures.line

pub apply-at_children-requires : goal.apply-at_children-requires
apply-at_children-requires t c =
    hyps_low c.args.env.now (type_list c.args.at.now.context) c.args.at.now.hyps (1 + depths (terms c.args.of.now.children.now)) c.requires.base.hyps (omega arith) c.requires.room

pub apply-overflow_add-under : goal.apply-overflow_add-under
apply-overflow_add-under t c =
    omega (arith, count_within c.args.pairs.now.at c.args.at.now c.args.count c.requires.inside, c.binds.ensures, binds_le c.args.of.now.sym.now, c.requires.room)

pub apply-walk_all-requires : goal.apply-walk_all-requires
apply-walk_all-requires t c =
    let g = sides_types c.args.env.now (type_list c.args.at.now.context) c.args.count c.args.pairs.now.lefts c.args.pairs.now.rights c.args.of.now.sym.now c.args.of.now.types.now c.args.of.now.children.now c.requires.alike in (
      let d = c.decreases in omega (arith, d),
      (
        c.requires.derivation,
        (
          inner_inside_by c.args.env.now c.args.pairs.now.at c.args.at.now c.in_ok-inner.inner c.args.count c.binds.result c.args.of.now.sym.now c.args.of.now.types.now c.args.at.now.goal c.requires.inside c.in_ok-inner.ensures g c.binds.ensures,
          (
            inner_base c.args.env.now c.args.at.now c.in_ok-inner.inner c.args.of.now.sym.now c.args.of.now.types.now c.args.at.now.goal c.in_ok-inner.ensures c.requires.base g,
            (
              c.requires.given,
              (
                inner_room c.args.env.now c.args.at.now c.in_ok-inner.inner c.args.of.now.sym.now c.args.of.now.types.now c.args.at.now.goal (depths (terms c.args.of.now.children.now)) c.in_ok-inner.ensures g c.requires.room,
                inner_alike c.args.env.now c.args.at.now c.in_ok-inner.inner c.args.count (c.args.count + c.binds.result) c.args.pairs.now.lefts c.args.pairs.now.rights c.args.of.now.sym.now c.args.of.now.types.now c.args.of.now.children.now c.args.at.now.goal
                    c.in_ok-inner.ensures (ap (λ n. c.args.count + n) c.binds.ensures) c.requires.alike,
              ),
            ),
          ),
        ),
      ),
    )

pub apply-joined-requires : goal.apply-joined-requires
apply-joined-requires t c =
    let g = sides_types c.args.env.now (type_list c.args.at.now.context) c.args.count c.args.pairs.now.lefts c.args.pairs.now.rights c.args.of.now.sym.now c.args.of.now.types.now c.args.of.now.children.now c.requires.alike in
    let n = ap (λ n. c.args.count + n) c.binds.ensures in
    let e = c.in_ok-children.ensures.at ∙ c.in_ok-inner.ensures in record {
      derivation = extended_derivation c.args.env.now c.args.lines.now c.walk_all.new.lines c.requires.derivation c.walk_all.ensures.extends;
      base = c.requires.base;
      inner = e;
      inner_base = inner_base c.args.env.now c.args.at.now c.in_ok-children.children.at c.args.of.now.sym.now c.args.of.now.types.now c.args.at.now.goal e c.requires.base g;
      settled = transport (λ I. AreSettled c.walk_all.new.lines I c.in_ok-children.children.lefts c.in_ok-children.children.rights c.in_ok-children.children.found) (sym c.in_ok-children.ensures.at)
          c.in_ok-children.ensures.lines;
      alike = alike_by c.args.env.now (type_list c.args.at.now.context) _ _ _ _
          (sym (put_sides c.args.count (c.args.count + c.binds.result) c.args.pairs.now.lefts c.args.of.now.sym.now c.args.of.now.types.now c.args.of.now.children.now c.in_ok-children.children.lefts n c.in_ok-children.ensures.lefts))
          (sym (put_sides c.args.count (c.args.count + c.binds.result) c.args.pairs.now.rights c.args.of.now.sym.now c.args.of.now.types.now c.args.of.now.children.now c.in_ok-children.children.rights n c.in_ok-children.ensures.rights)) c.requires.alike;
      children = alike_both c.args.env.now (type_list c.in_ok-children.children.at.context) _ _ c.in_ok-children.children.lefts c.in_ok-children.children.rights c.in_ok-children.ensures.lefts c.in_ok-children.ensures.rights
          (inner_alike c.args.env.now c.args.at.now c.in_ok-children.children.at c.args.count (c.args.count + c.binds.result) c.args.pairs.now.lefts c.args.pairs.now.rights c.args.of.now.sym.now c.args.of.now.types.now
          c.args.of.now.children.now c.args.at.now.goal e n c.requires.alike);
    }

pub apply-returns-clause-left : goal.apply-returns-clause-left
apply-returns-clause-left t c =
    let n = ap (λ n. c.args.count + n) c.binds.ensures in
    IfOk-weaker c.joined.result _ _ (λ s h. h
    ∙ sym (put_sides c.args.count (c.args.count + c.binds.result) c.args.pairs.now.lefts c.args.of.now.sym.now c.args.of.now.types.now c.args.of.now.children.now c.in_ok-children.children.lefts n c.in_ok-children.ensures.lefts)) c.joined.ensures.left

pub apply-returns-clause-right : goal.apply-returns-clause-right
apply-returns-clause-right t c =
    let n = ap (λ n. c.args.count + n) c.binds.ensures in
    IfOk-weaker c.joined.result _ _ (λ s h. h
    ∙ sym (put_sides c.args.count (c.args.count + c.binds.result) c.args.pairs.now.rights c.args.of.now.sym.now c.args.of.now.types.now c.args.of.now.children.now c.in_ok-children.children.rights n c.in_ok-children.ensures.rights)) c.joined.ensures.right

pub apply-returns-clause-line : goal.apply-returns-clause-line
apply-returns-clause-line t c =
    let n = ap (λ n. c.args.count + n) c.binds.ensures in
    IfOk-weaker c.joined.result _ _ (λ s h. settled_by _ c.args.at.now _ _ _ _ s.line s.line
    (put_sides c.args.count (c.args.count + c.binds.result) c.args.pairs.now.lefts c.args.of.now.sym.now c.args.of.now.types.now c.args.of.now.children.now c.in_ok-children.children.lefts n c.in_ok-children.ensures.lefts)
    (put_sides c.args.count (c.args.count + c.binds.result) c.args.pairs.now.rights c.args.of.now.sym.now c.args.of.now.types.now c.args.of.now.children.now c.in_ok-children.children.rights n c.in_ok-children.ensures.rights) refl h) c.joined.ensures.line

pub apply-returns-clause-extends : goal.apply-returns-clause-extends
apply-returns-clause-extends t c = extends_twice c.args.env.now c.args.lines.now c.walk_all.new.lines c.joined.new.lines c.walk_all.ensures.extends c.joined.ensures.extends

pub walk_all-walk-requires : goal.walk_all-walk-requires
walk_all-walk-requires t c =
    let r : depth c.body-item.result ≤ depths (terms c.args.bodies.now) = depth_at c.args.bodies.now c.loop-body.body-index c.body-item.result c.body-item.is c.loop-body-test.true in (
      let d = c.decreases in omega (arith, r, d),
      (
        extended_derivation c.args.env.now c.args.lines.now c.loop-body.lines c.requires.derivation c.loop-body.invariant.extends,
        (
          c.requires.inside,
          (
            c.requires.base,
            (
              settled_stays c.args.env.now c.args.lines.now c.loop-body.lines c.args.pairs.now.at c.args.pairs.now.lefts c.args.pairs.now.rights c.args.pairs.now.found c.loop-body.invariant.extends c.requires.given,
              (
                omega (arith, r, c.requires.room),
                alike_map c.args.env.now (type_list c.args.at.now.context) (put c.args.count c.args.pairs.now.lefts) (put c.args.count c.args.pairs.now.rights) c.args.bodies.now c.loop-body.body-index c.body-item.result c.requires.alike
                    c.body-item.is c.loop-body-test.true,
              ),
            ),
          ),
        ),
      ),
    )

pub walk_all-loop-body-preserved : goal.walk_all-loop-body-preserved
walk_all-loop-body-preserved t c = record {
  limits = between_step c.args.env.now c.args.lines.now c.loop-body.lines c.walk.new.lines c.args.at.now (put c.args.count c.args.pairs.now.lefts) (put c.args.count c.args.pairs.now.rights) c.args.bodies.now c.loop-body.body-index
      c.body-item.result c.loop-body.invariant.limits c.walk.ensures.limits c.body-item.is c.loop-body-test.true;
  extends = extends_twice c.args.env.now c.args.lines.now c.loop-body.lines c.walk.new.lines c.loop-body.invariant.extends c.walk.ensures.extends;
  lefts = map_step (put c.args.count c.args.pairs.now.lefts) c.args.bodies.now c.loop-body.lefts c.push.new.self c.loop-body.body-index c.body-item.result c.in_ok-sides.sides.left c.loop-body.invariant.lefts
      c.in_ok-push.ensures.ok c.in_ok-sides.ensures.left c.body-item.is c.loop-body-test.true;
  rights = map_step (put c.args.count c.args.pairs.now.rights) c.args.bodies.now c.loop-body.rights c.push-in-loop-body.new.self c.loop-body.body-index c.body-item.result c.in_ok-sides.sides.right c.loop-body.invariant.rights
      c.in_ok-push-2.ensures.ok c.in_ok-sides.ensures.right c.body-item.is c.loop-body-test.true;
  found = settled_step c.args.env.now c.loop-body.lines c.walk.new.lines c.args.at.now c.loop-body.lefts c.loop-body.rights c.push.new.self c.push-in-loop-body.new.self c.loop-body.found c.push-in-loop-body-2.new.self
      c.in_ok-sides.sides.left c.in_ok-sides.sides.right c.in_ok-sides.sides.line c.walk.ensures.extends c.loop-body.invariant.found
      (settled_by c.walk.new.lines c.args.at.now _ _ c.in_ok-sides.sides.left c.in_ok-sides.sides.right c.in_ok-sides.sides.line c.in_ok-sides.sides.line c.in_ok-sides.ensures.left c.in_ok-sides.ensures.right refl
      c.in_ok-sides.ensures.line)
      c.in_ok-push.ensures.ok c.in_ok-push-2.ensures.ok c.in_ok-push-3.ensures.ok;
}

pub walk_all-returns-in_err-sides-clause-extends : goal.walk_all-returns-in_err-sides-clause-extends
walk_all-returns-in_err-sides-clause-extends t c = extends_twice c.args.env.now c.args.lines.now c.loop-body.lines c.walk.new.lines c.loop-body.invariant.extends c.walk.ensures.extends

pub walk_all-returns-in_err-push-clause-extends : goal.walk_all-returns-in_err-push-clause-extends
walk_all-returns-in_err-push-clause-extends t c = extends_twice c.args.env.now c.args.lines.now c.loop-body.lines c.walk.new.lines c.loop-body.invariant.extends c.walk.ensures.extends

pub walk_all-returns-in_err-push-2-clause-extends : goal.walk_all-returns-in_err-push-2-clause-extends
walk_all-returns-in_err-push-2-clause-extends t c = extends_twice c.args.env.now c.args.lines.now c.loop-body.lines c.walk.new.lines c.loop-body.invariant.extends c.walk.ensures.extends

pub walk_all-returns-in_err-push-3-clause-extends : goal.walk_all-returns-in_err-push-3-clause-extends
walk_all-returns-in_err-push-3-clause-extends t c = extends_twice c.args.env.now c.args.lines.now c.loop-body.lines c.walk.new.lines c.loop-body.invariant.extends c.walk.ensures.extends

pub walk-returns-in-None-clause-limits : goal.walk-returns-in-None-clause-limits
walk-returns-in-None-clause-limits t c = between_any c.args.env.now c.args.lines.now c.leaf.new.lines c.args.at.now _ _ c.leaf.ensures.limits

pub walk-returns-in-Some-clause-limits : goal.walk-returns-in-Some-clause-limits
walk-returns-in-Some-clause-limits t c =
    between_one c.args.env.now c.args.lines.now c.apply.new.lines c.args.at.now _ _ _ _ (ap (put c.args.count c.args.pairs.now.lefts) c.in-Some.ensures.found) (ap (put c.args.count c.args.pairs.now.rights) c.in-Some.ensures.found)
    c.apply.ensures.limits

pub apply-returns-in_err-children-clause-limits : goal.apply-returns-in_err-children-clause-limits
apply-returns-in_err-children-clause-limits t c =
    between_applied c.args.env.now c.args.lines.now c.walk_all.new.lines c.args.at.now c.in_ok-inner.inner c.args.count (c.args.count + c.binds.result) c.args.pairs.now.lefts c.args.pairs.now.rights c.args.of.now.sym.now
    c.args.of.now.types.now c.args.of.now.children.now c.args.at.now.goal c.in_ok-inner.ensures (ap (λ n. c.args.count + n) c.binds.ensures) c.walk_all.ensures.limits

pub apply-returns-clause-limits : goal.apply-returns-clause-limits
apply-returns-clause-limits t c =
    between_twice c.args.env.now c.args.lines.now c.walk_all.new.lines c.joined.new.lines c.args.at.now _ _
    (between_applied c.args.env.now c.args.lines.now c.walk_all.new.lines c.args.at.now c.in_ok-inner.inner c.args.count (c.args.count + c.binds.result) c.args.pairs.now.lefts c.args.pairs.now.rights c.args.of.now.sym.now
    c.args.of.now.types.now c.args.of.now.children.now c.args.at.now.goal c.in_ok-inner.ensures (ap (λ n. c.args.count + n) c.binds.ensures) c.walk_all.ensures.limits)
    (between_one c.args.env.now c.walk_all.new.lines c.joined.new.lines c.args.at.now _ _ _ _
    (put_sides c.args.count (c.args.count + c.binds.result) c.args.pairs.now.lefts c.args.of.now.sym.now c.args.of.now.types.now c.args.of.now.children.now c.in_ok-children.children.lefts (ap (λ n. c.args.count + n) c.binds.ensures) c.in_ok-children.ensures.lefts)
    (put_sides c.args.count (c.args.count + c.binds.result) c.args.pairs.now.rights c.args.of.now.sym.now c.args.of.now.types.now c.args.of.now.children.now c.in_ok-children.children.rights (ap (λ n. c.args.count + n) c.binds.ensures) c.in_ok-children.ensures.rights)
    c.joined.ensures.limits)

pub walk_all-returns-in_err-sides-clause-limits : goal.walk_all-returns-in_err-sides-clause-limits
walk_all-returns-in_err-sides-clause-limits t c =
    between_step c.args.env.now c.args.lines.now c.loop-body.lines c.walk.new.lines c.args.at.now (put c.args.count c.args.pairs.now.lefts) (put c.args.count c.args.pairs.now.rights) c.args.bodies.now c.loop-body.body-index
    c.body-item.result c.loop-body.invariant.limits c.walk.ensures.limits c.body-item.is c.loop-body-test.true

pub walk_all-returns-in_err-push-clause-limits : goal.walk_all-returns-in_err-push-clause-limits
walk_all-returns-in_err-push-clause-limits t c =
    between_step c.args.env.now c.args.lines.now c.loop-body.lines c.walk.new.lines c.args.at.now (put c.args.count c.args.pairs.now.lefts) (put c.args.count c.args.pairs.now.rights) c.args.bodies.now c.loop-body.body-index
    c.body-item.result c.loop-body.invariant.limits c.walk.ensures.limits c.body-item.is c.loop-body-test.true

pub walk_all-returns-in_err-push-2-clause-limits : goal.walk_all-returns-in_err-push-2-clause-limits
walk_all-returns-in_err-push-2-clause-limits t c =
    between_step c.args.env.now c.args.lines.now c.loop-body.lines c.walk.new.lines c.args.at.now (put c.args.count c.args.pairs.now.lefts) (put c.args.count c.args.pairs.now.rights) c.args.bodies.now c.loop-body.body-index
    c.body-item.result c.loop-body.invariant.limits c.walk.ensures.limits c.body-item.is c.loop-body-test.true

pub walk_all-returns-in_err-push-3-clause-limits : goal.walk_all-returns-in_err-push-3-clause-limits
walk_all-returns-in_err-push-3-clause-limits t c =
    between_step c.args.env.now c.args.lines.now c.loop-body.lines c.walk.new.lines c.args.at.now (put c.args.count c.args.pairs.now.lefts) (put c.args.count c.args.pairs.now.rights) c.args.bodies.now c.loop-body.body-index
    c.body-item.result c.loop-body.invariant.limits c.walk.ensures.limits c.body-item.is c.loop-body-test.true

pub walk_all-returns-clause-limits : goal.walk_all-returns-clause-limits
walk_all-returns-clause-limits t c = c.loop-body.invariant.limits
