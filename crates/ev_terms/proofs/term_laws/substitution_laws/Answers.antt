use Rattle.ev_terms.proofs.Subst.{inst-inst}
use Rattle.ev_terms.proofs.Laws.{inst-id, lifts-below, lifts-past, lifts-lifts, entry-past}
use Rattle.ev_terms.proofs.ListLaws.{inst_below, subst-subst}
use Rattle.ev_terms.proofs.AnyLaws.{entry_given}
use Rattle.ev_terms.proofs.term_laws.substitution_laws.Goals as goal

pub returns : goal.returns
returns c = record {
  compose = inst-inst;
  by_variables = inst-id;
  reads_loose = inst_below;
  bound_stay = lifts-below;
  outer_shifted = lifts-past;
  binders_add = lifts-lifts;
  entry_given = entry_given;
  entry_falls = entry-past;
  lists_compose = subst-subst;
}
