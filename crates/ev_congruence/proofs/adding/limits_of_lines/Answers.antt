use Rattle.ev_congruence.proofs.Within.{depth_is_counted, depth_by_parts, nesting_by_parts}
use Rattle.ev_congruence.proofs.adding.limits_of_lines.Goals as goal

pub returns : goal.returns
returns c = record { depth = depth_is_counted; depth_by_parts = depth_by_parts; nesting_by_parts = nesting_by_parts }
