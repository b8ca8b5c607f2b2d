use Rattle.std.proofs.Common.{◌≡◌, string_bytes}
use Rattle.ev_script.specs.Generator.{generated}
use Rattle.ev_script.proofs.generator.generate.Given as goal

abbrev pub invariant-loop-k : goal.invariant-loop-k
invariant-loop-k l = string_bytes l.text ≡ generated l.k
