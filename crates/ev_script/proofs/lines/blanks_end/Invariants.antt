use Rattle.std.proofs.Common.{◌≡◌, ◌-◌, ◌≤◌, length, drop}
use Rattle.ev_script.specs.Scripts.{skip_blanks}
use Rattle.ev_script.proofs.lines.blanks_end.Given as goal

abbrev pub invariant-blanks : goal.invariant-blanks
invariant-blanks l = record {
  onward : l.from ≤ l.at;
  within : l.at ≤ length l.bytes;
  rest : skip_blanks (drop l.from l.bytes) ≡ skip_blanks (drop l.at l.bytes);
}

abbrev pub decreases-blanks : goal.decreases-blanks
decreases-blanks l = length l.bytes - l.at
