use Rattle.ev_terms.proofs.Laws.{shift-shift, shift-shift_merge, shift-zero}
use Rattle.ev_terms.proofs.Subst.{shift-inst}
use Rattle.ev_terms.proofs.term_laws.shift_laws.Goals as goal

pub returns : goal.returns
returns c = record {
  commute = shift-shift;
  merge = shift-shift_merge;
  by_zero = shift-zero;
  is_inst = shift-inst;
}
