use Rattle.ev_terms.proofs.ListLaws.{shift_closed, inst_closed}
use Rattle.ev_terms.proofs.AnyLaws.{subst-closed}
use Rattle.ev_terms.proofs.Shifts.{retype_closed, type_inst_closed}
use Rattle.ev_terms.proofs.term_laws.closed_term_laws.Goals as goal

pub returns : goal.returns
returns c = record {
  shift = shift_closed;
  inst = inst_closed;
  subst = subst-closed;
  retype = retype_closed;
  type_inst = type_inst_closed;
}
