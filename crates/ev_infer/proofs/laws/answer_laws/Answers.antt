use Rattle.ev_infer.proofs.RawAnswers
use Rattle.ev_infer.proofs.laws.answer_laws.Goals as goal

pub returns-clause-answers : goal.returns-clause-answers
returns-clause-answers c = RawAnswers.answers

pub returns-clause-no_bare : goal.returns-clause-no_bare
returns-clause-no_bare c = RawAnswers.no_bare
