use Rattle.ev_terms.proofs.AnyLaws.{shift-of_inst, inst-of_shift, inst-under_binders, subst-of_shift}
use Rattle.ev_terms.proofs.ListLaws.{shift-subst, subst-shift}
use Rattle.ev_terms.proofs.term_laws.shift_and_substitution_laws.Goals as goal

pub returns : goal.returns
returns c = record {
  shift_inst = shift-of_inst;
  inst_shift = inst-of_shift;
  past_binders = inst-under_binders;
  shift_subst = shift-subst;
  subst_shift = subst-of_shift;
  undone = subst-shift;
}
