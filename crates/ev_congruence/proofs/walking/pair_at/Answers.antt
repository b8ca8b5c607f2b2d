use Rattle.std.proofs.Common.{◌≤◌, ◌^◌, ◌∙◌, ap, sym, arith, length, subst as transport}
use Rattle.ev_terms.specs.Measures.{highest}
use Rattle.ev_terms.specs.Substitution.{shift, entry}
use Rattle.ev_congruence.proofs.Equal.{settled_lengths, entry_is, found_read}
use Rattle.ev_congruence.proofs.walking.pair_at.Goals as goal

pub bounds-found-place : goal.bounds-found-place
bounds-found-place c =
    let n = settled_lengths c.args.lines.now c.args.pairs.now.at c.args.pairs.now.lefts c.args.pairs.now.rights c.args.pairs.now.found c.requires.given in
    omega (arith, n.1, ap length c.as_slice-found.ensures, c.requires.within)

pub line_inside-requires : goal.line_inside-requires
line_inside-requires c = record {
  derivation = c.requires.derivation;
  base = c.requires.base;
  outside = record {
    outer = c.args.pairs.now.at;
    left = entry c.args.pairs.now.lefts c.args.place;
    right = entry c.args.pairs.now.rights c.args.place;
    inside = c.requires.inside;
    settled = found_read c.args.lines.now c.args.pairs.now.at c.args.pairs.now.lefts c.args.pairs.now.rights c.args.pairs.now.found c.as_slice-found.result.now c.args.place c.requires.given c.as_slice-found.ensures
        c.requires.within;
    left_low = c.requires.left_low;
    right_low = c.requires.right_low;
  };
  room = c.requires.room;
}

pub bounds-lefts-place : goal.bounds-lefts-place
bounds-lefts-place c = omega (arith, ap length c.as_slice-lefts.ensures, c.requires.within)

pub shift-requires : goal.shift-requires
shift-requires c =
    let e = entry_is c.as_slice-lefts.result.now c.args.pairs.now.lefts c.args.place c.index-lefts-place.result c.as_slice-lefts.ensures c.requires.within c.index-lefts-place.is in
    transport (λ t. highest (shift t 0 c.args.count) ≤ 2 ^ 32) (sym e) c.requires.left_low

pub bounds-rights-place : goal.bounds-rights-place
bounds-rights-place c =
    let n = settled_lengths c.args.lines.now c.args.pairs.now.at c.args.pairs.now.lefts c.args.pairs.now.rights c.args.pairs.now.found c.requires.given in
    omega (arith, n.0, ap length c.as_slice-rights.ensures, c.requires.within)

pub shift-requires-2 : goal.shift-requires-2
shift-requires-2 c =
    let n = settled_lengths c.args.lines.now c.args.pairs.now.at c.args.pairs.now.lefts c.args.pairs.now.rights c.args.pairs.now.found c.requires.given in
    let e = entry_is c.as_slice-rights.result.now c.args.pairs.now.rights c.args.place c.index-rights-place.result c.as_slice-rights.ensures (omega (arith, n.0, c.requires.within)) c.index-rights-place.is in
    transport (λ t. highest (shift t 0 c.args.count) ≤ 2 ^ 32) (sym e) c.requires.right_low

pub returns : goal.returns
returns c =
    let n = settled_lengths c.args.lines.now c.args.pairs.now.at c.args.pairs.now.lefts c.args.pairs.now.rights c.args.pairs.now.found c.requires.given in
    let l = entry_is c.as_slice-lefts.result.now c.args.pairs.now.lefts c.args.place c.index-lefts-place.result c.as_slice-lefts.ensures c.requires.within c.index-lefts-place.is in
    let r = entry_is c.as_slice-rights.result.now c.args.pairs.now.rights c.args.place c.index-rights-place.result c.as_slice-rights.ensures (omega (arith, n.0, c.requires.within)) c.index-rights-place.is in record {
      left = c.in_ok-shift.ensures ∙ ap (λ t. shift t 0 c.args.count) l;
      right = c.in_ok-shift-2.ensures ∙ ap (λ t. shift t 0 c.args.count) r;
      line = c.in_ok-line.ensures.line c.args.pairs.now.at (entry c.args.pairs.now.lefts c.args.place) (entry c.args.pairs.now.rights c.args.place) c.requires.inside
          (found_read c.args.lines.now c.args.pairs.now.at c.args.pairs.now.lefts c.args.pairs.now.rights c.args.pairs.now.found c.as_slice-found.result.now c.args.place c.requires.given c.as_slice-found.ensures
          c.requires.within);
      extends = c.line_inside.ensures.extends;
      limits = c.line_inside.ensures.limits;
    }
