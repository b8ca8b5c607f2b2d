use Rattle.std.proofs.Common.{◌∙◌, sym, refl, arith, ◌-◌}
use Rattle.std.proofs.lemmas.Result.{IfOk-weaker}
use Rattle.ev_congruence.proofs.Equal.{settled_lengths}
use Rattle.ev_congruence.proofs.Putting.{put_entry, put_later, settled_by, settled_one, low_by}
use Rattle.ev_congruence.proofs.walking.leaf.Goals as goal

pub pair_at-requires : goal.pair_at-requires
pair_at-requires c =
    let n = settled_lengths c.args.lines.now c.args.pairs.now.at c.args.pairs.now.lefts c.args.pairs.now.rights c.args.pairs.now.found c.requires.given in
    let l = put_entry c.args.body.now c.in-Some.i c.args.count c.len-terms.result (c.len-terms.result - 1 - (c.in-Some.i - c.args.count)) c.args.pairs.now.lefts c.in-Some.ensures c.requires.past c.len-terms.ensures c.if-past-terms.false refl in
    let r = put_entry c.args.body.now c.in-Some.i c.args.count c.len-terms.result (c.len-terms.result - 1 - (c.in-Some.i - c.args.count)) c.args.pairs.now.rights c.in-Some.ensures c.requires.past (c.len-terms.ensures ∙ sym n.0) c.if-past-terms.false refl in record {
      within = omega (arith, c.len-terms.ensures, c.if-past-terms.false);
      derivation = c.requires.derivation;
      inside = c.requires.inside;
      base = c.requires.base;
      given = c.requires.given;
      room = c.requires.room;
      left_low = low_by _ _ l c.requires.alike.left_low;
      right_low = low_by _ _ r c.requires.alike.right_low;
    }

pub returns-then-past-terms-clause-left : goal.returns-then-past-terms-clause-left
returns-then-past-terms-clause-left c =
    IfOk-weaker c.unchanged.result _ _ (λ s h. h ∙ c.in_ok-kept.ensures ∙ sym (put_later c.args.body.now c.in-Some.i c.args.count c.len-terms.result c.args.pairs.now.lefts c.in-Some.ensures c.requires.past c.len-terms.ensures c.if-past-terms.true)) c.unchanged.ensures.left

pub returns-then-past-terms-clause-right : goal.returns-then-past-terms-clause-right
returns-then-past-terms-clause-right c =
    let n = settled_lengths c.args.lines.now c.args.pairs.now.at c.args.pairs.now.lefts c.args.pairs.now.rights c.args.pairs.now.found c.requires.given in
    IfOk-weaker c.unchanged.result _ _ (λ s h. h ∙ c.in_ok-kept.ensures ∙ sym (put_later c.args.body.now c.in-Some.i c.args.count c.len-terms.result c.args.pairs.now.rights c.in-Some.ensures c.requires.past (c.len-terms.ensures ∙ sym n.0) c.if-past-terms.true)) c.unchanged.ensures.right

pub returns-then-past-terms-clause-line : goal.returns-then-past-terms-clause-line
returns-then-past-terms-clause-line c =
    let n = settled_lengths c.args.lines.now c.args.pairs.now.at c.args.pairs.now.lefts c.args.pairs.now.rights c.args.pairs.now.found c.requires.given in
    IfOk-weaker c.unchanged.result _ _ (λ s h. settled_one c.args.lines.now c.args.at.now _ _ s.line (put_later c.args.body.now c.in-Some.i c.args.count c.len-terms.result c.args.pairs.now.lefts c.in-Some.ensures c.requires.past c.len-terms.ensures c.if-past-terms.true ∙ sym (put_later c.args.body.now c.in-Some.i c.args.count c.len-terms.result c.args.pairs.now.rights c.in-Some.ensures c.requires.past (c.len-terms.ensures ∙ sym n.0) c.if-past-terms.true)) h) c.unchanged.ensures.line

pub returns-clause-left : goal.returns-clause-left
returns-clause-left c = IfOk-weaker c.pair_at.result _ _ (λ s h. h ∙ sym (put_entry c.args.body.now c.in-Some.i c.args.count c.len-terms.result (c.len-terms.result - 1 - (c.in-Some.i - c.args.count)) c.args.pairs.now.lefts c.in-Some.ensures c.requires.past c.len-terms.ensures c.if-past-terms.false refl)) c.pair_at.ensures.left

pub returns-clause-right : goal.returns-clause-right
returns-clause-right c =
    let n = settled_lengths c.args.lines.now c.args.pairs.now.at c.args.pairs.now.lefts c.args.pairs.now.rights c.args.pairs.now.found c.requires.given in
    IfOk-weaker c.pair_at.result _ _ (λ s h. h ∙ sym (put_entry c.args.body.now c.in-Some.i c.args.count c.len-terms.result (c.len-terms.result - 1 - (c.in-Some.i - c.args.count)) c.args.pairs.now.rights c.in-Some.ensures c.requires.past (c.len-terms.ensures ∙ sym n.0) c.if-past-terms.false refl)) c.pair_at.ensures.right

pub returns-clause-line : goal.returns-clause-line
returns-clause-line c =
    let n = settled_lengths c.args.lines.now c.args.pairs.now.at c.args.pairs.now.lefts c.args.pairs.now.rights c.args.pairs.now.found c.requires.given in
    let l = put_entry c.args.body.now c.in-Some.i c.args.count c.len-terms.result (c.len-terms.result - 1 - (c.in-Some.i - c.args.count)) c.args.pairs.now.lefts c.in-Some.ensures c.requires.past c.len-terms.ensures c.if-past-terms.false refl in
    let r = put_entry c.args.body.now c.in-Some.i c.args.count c.len-terms.result (c.len-terms.result - 1 - (c.in-Some.i - c.args.count)) c.args.pairs.now.rights c.in-Some.ensures c.requires.past (c.len-terms.ensures ∙ sym n.0) c.if-past-terms.false refl in
    IfOk-weaker c.pair_at.result _ _ (λ s h. settled_by c.pair_at.new.lines c.args.at.now _ _ _ _ s.line s.line l r refl h) c.pair_at.ensures.line
