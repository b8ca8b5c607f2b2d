use Rattle.std.proofs.Common.{subst, sym}
use Rattle.memchr.specs.Find.{is_byte, IsFirstByte}
use Rattle.ev_script.proofs.LineLaws.{line_found, line_missing}
use Rattle.ev_script.proofs.lines.line_length.Goals as goal

pub returns-in-Some-clause-value : goal.returns-in-Some-clause-value
returns-in-Some-clause-value c = sym (line_found c.args.text.now c.in-Some.at (subst (IsFirstByte (is_byte 10) c.args.text.now) c.in-Some.is c.memchr.ensures))

pub returns-in-None-clause-value : goal.returns-in-None-clause-value
returns-in-None-clause-value c = sym (line_missing c.args.text.now (subst (IsFirstByte (is_byte 10) c.args.text.now) c.in-None.is c.memchr.ensures))
