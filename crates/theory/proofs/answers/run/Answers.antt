use Rattle.std.proofs.Common.{map, string_bytes, rules}
use Rattle.theory.proofs.AnswerLaws.{complete_of}
use Rattle.theory.proofs.answers.run.Goals as goal

pub returns-clause-complete : goal.returns-clause-complete
returns-clause-complete g c =
    complete_of (map string_bytes c.args.words.now.items) (g.S.Source.left c.args.source.now) c.deliver.result (g.K.Sink.written c.args.sink.now) (g.K.Sink.written c.deliver.new.sink)
    (search rules) (search rules) (search rules)
