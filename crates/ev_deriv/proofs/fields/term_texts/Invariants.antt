use Rattle.std.proofs.Common.{◌≡◌, take, map}
use Rattle.ev_print.specs.Canon.{canon}
use Rattle.ev_deriv.proofs.fields.term_texts.Given as goal

abbrev pub invariant-loop-term : goal.invariant-loop-term
invariant-loop-term l = l.texts ≡ map (canon l.env l.n) (take l.term-index l.terms)
