use Rattle.std.proofs.Common.{◌≡◌, string_bytes, rules}
use Rattle.ev_script.specs.Generator.{generated}
use Rattle.ev_script.proofs.GeneratorLaws.{generated_on, generated_short}
use Rattle.ev_script.proofs.generator.generate.Goals as goal

pub loop-k-preserved : goal.loop-k-preserved
loop-k-preserved c = generated_on c.loop-k.k (string_bytes c.loop-k.text) (string_bytes c.append_unit.new.text) c.loop-k.invariant c.in_ok-append_unit.ensures

pub returns-clause-short : goal.returns-clause-short
returns-clause-short c =
    let is : c.from_vec.result ≡ generated c.args.n = search rules in
    generated_short c.args.n c.from_vec.result c.requires.few is
