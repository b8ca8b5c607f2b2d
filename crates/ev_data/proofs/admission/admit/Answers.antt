use Rattle.ev_data.proofs.FaultTests.{first_fault, second_fault, third_fault, no_fault}
use Rattle.ev_data.proofs.admission.admit.Goals as goal

pub returns-then-has_no_base : goal.returns-then-has_no_base
returns-then-has_no_base c = first_fault c.args.decl.now c.has_no_base.result c.has_no_base.ensures c.if-has_no_base.true
