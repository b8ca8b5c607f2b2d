use Rattle.std.proofs.lemmas.Result.{IfOk-weaker}
use Rattle.ev_terms.specs.Types.{type_list}
use Rattle.ev_congruence.proofs.Appending.{extended_derivation, extends_twice}
use Rattle.ev_congruence.proofs.Whole.{inside_itself, alike_put, settled_put, alike_sides, equates_put}
use Rattle.std.proofs.Common.{◌∙◌, sym}
use Rattle.ev_congruence.proofs.Whole.{put_none}
use Rattle.ev_congruence.proofs.Within.{between_one, between_line}
use Rattle.ev_congruence.proofs.walking.congruence_beside.Goals as goal

pub walk-requires : goal.walk-requires
walk-requires c = record {
  derivation = c.requires.derivation;
  inside = inside_itself c.args.pairs.now.at;
  base = c.requires.base;
  given = c.requires.ready.settled;
  room = c.requires.ready.room;
  alike = alike_put c.args.env.now (type_list c.args.pairs.now.at.context) c.args.body.now c.args.pairs.now.lefts c.args.pairs.now.rights c.requires.ready.alike;
}

pub line_for-requires : goal.line_for-requires
line_for-requires c =
    let a = alike_sides c.args.env.now (type_list c.args.pairs.now.at.context) c.args.body.now c.args.pairs.now.lefts c.args.pairs.now.rights c.in_ok-sides.sides.left c.in_ok-sides.sides.right c.in_ok-sides.ensures.left
    c.in_ok-sides.ensures.right c.requires.ready.alike in record {
      derivation = extended_derivation c.args.env.now c.args.lines.now c.walk.new.lines c.requires.derivation c.walk.ensures.extends;
      base = c.requires.base;
      typed = (a.ty, a.left);
      plain = a.left_plain;
    }

pub returns-clause-line : goal.returns-clause-line
returns-clause-line c =
    IfOk-weaker c.line_for.result _ _ (λ n h.
    equates_put _ c.args.pairs.now.at c.args.body.now c.args.pairs.now.lefts c.args.pairs.now.rights c.in_ok-sides.sides.left c.in_ok-sides.sides.right n c.in_ok-sides.ensures.left c.in_ok-sides.ensures.right
    (h c.in_ok-sides.sides.right
    (settled_put c.walk.new.lines c.args.pairs.now.at c.args.body.now c.args.pairs.now.lefts c.args.pairs.now.rights c.in_ok-sides.sides.left c.in_ok-sides.sides.right c.in_ok-sides.sides.line c.in_ok-sides.ensures.left
    c.in_ok-sides.ensures.right c.in_ok-sides.ensures.line))) c.line_for.ensures.line

pub returns-clause-extends : goal.returns-clause-extends
returns-clause-extends c = extends_twice c.args.env.now c.args.lines.now c.walk.new.lines c.line_for.new.lines c.walk.ensures.extends c.line_for.ensures.extends

pub returns-in_err-sides-clause-limits : goal.returns-in_err-sides-clause-limits
returns-in_err-sides-clause-limits c =
    between_one c.args.env.now c.args.lines.now c.walk.new.lines c.args.pairs.now.at _ _ _ _ (sym (put_none c.args.pairs.now.lefts c.args.body.now)) (sym (put_none c.args.pairs.now.rights c.args.body.now)) c.walk.ensures.limits

pub returns-clause-limits : goal.returns-clause-limits
returns-clause-limits c =
    between_line c.args.env.now c.args.lines.now c.walk.new.lines c.line_for.new.lines c.args.pairs.now.at _ _ c.in_ok-sides.sides.left
    (c.in_ok-sides.ensures.left ∙ put_none c.args.pairs.now.lefts c.args.body.now)
    (between_one c.args.env.now c.args.lines.now c.walk.new.lines c.args.pairs.now.at _ _ _ _ (sym (put_none c.args.pairs.now.lefts c.args.body.now)) (sym (put_none c.args.pairs.now.rights c.args.body.now)) c.walk.ensures.limits) c.line_for.ensures.limits
