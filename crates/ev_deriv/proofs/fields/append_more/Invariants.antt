use Rattle.std.proofs.Common.{◌≡◌, ◌++◌, drop}
use Rattle.ev_deriv.specs.inner.Joined.{after}
use Rattle.ev_deriv.proofs.fields.append_more.Given as goal

abbrev pub invariant-loop-more : goal.invariant-loop-more
invariant-loop-more l = l.text.items ++ after l.between (drop l.more-index l.texts) ≡ l.initial.text.items ++ after l.between l.texts
