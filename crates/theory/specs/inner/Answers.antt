-- The exit and the text of an answer before it is written.
use Rattle.std.specs.Prelude.{ℕ, List, [], codes}
use Rattle.theory.specs.declared.answers.Exit.{Exit}
use Rattle.theory.specs.declared.answers.Exit.TheVariants as exit
use Rattle.theory.specs.declared.answers.Answer.{Answer}
use Rattle.theory.specs.declared.answers.Answer.TheVariants as answer
use Rattle.theory.specs.Answers.{line}

abbrev pub exit_of : Answer → Exit
exit_of (answer.Report text) = exit.Ok
exit_of answer.BadScript = exit.BadScript
exit_of answer.Usage = exit.Usage
exit_of answer.TooLong = exit.TooLong
exit_of answer.SourceFault = exit.SourceFault
exit_of answer.NoMemory = exit.NoMemory

abbrev pub text_of : Answer → List ℕ
text_of (answer.Report text) = text
text_of answer.BadScript = line (codes "bad-script 0")
text_of answer.Usage = line (codes "usage")
text_of answer.TooLong = line (codes "too-long")
text_of answer.SourceFault = []
text_of answer.NoMemory = []
