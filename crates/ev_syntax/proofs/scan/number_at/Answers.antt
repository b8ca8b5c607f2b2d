-- A run of digits is a number.
use Rattle.ev_syntax.proofs.Stands.{number_stands, large_stands}
use Rattle.ev_syntax.proofs.scan.number_at.Goals as goal

pub returns-then-counted-ge-TOO_LARGE : goal.returns-then-counted-ge-TOO_LARGE
returns-then-counted-ge-TOO_LARGE c =
    large_stands c.args.text.now c.args.at _ _ c.requires.place c.requires.starts c.count_digits-counted.ensures.counts c.count_digits-counted.ensures.stops
    c.if-counted-ge-TOO_LARGE.true

pub returns : goal.returns
returns c =
    number_stands c.args.text.now c.args.at _ _ c.requires.place c.requires.starts c.count_digits-counted.ensures.counts c.count_digits-counted.ensures.stops
    c.if-counted-ge-TOO_LARGE.false
