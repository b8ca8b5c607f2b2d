use Rattle.ev_congruence.proofs.Bringing.{line_stays}
use Rattle.ev_congruence.proofs.walking.number_inside.Goals as goal

pub returns-then-count-eq0-clause-line : goal.returns-then-count-eq0-clause-line
returns-then-count-eq0-clause-line c = λ S l r i h. line_stays c.args.lines.now S c.args.at.now l r c.args.count c.args.premise i c.if-count-eq0.true h
