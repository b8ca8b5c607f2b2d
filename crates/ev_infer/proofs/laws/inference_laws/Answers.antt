use Rattle.ev_infer.proofs.LawProofs
use Rattle.ev_infer.proofs.laws.inference_laws.Goals as goal

pub returns-clause-no_equations : goal.returns-clause-no_equations
returns-clause-no_equations c = LawProofs.no_equations

pub returns-clause-solutions : goal.returns-clause-solutions
returns-clause-solutions c = LawProofs.solutions

pub returns-clause-clash : goal.returns-clause-clash
returns-clause-clash c = LawProofs.clash

pub returns-clause-free : goal.returns-clause-free
returns-clause-free c = LawProofs.free

pub returns-clause-closed : goal.returns-clause-closed
returns-clause-closed c = LawProofs.closed
