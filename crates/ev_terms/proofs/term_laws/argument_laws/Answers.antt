use Rattle.ev_terms.proofs.AnyLaws.{fill_given, fill_past, inst-of_subst, inst-of_fill, shift-of_fill, retype-of_fill}
use Rattle.ev_terms.proofs.term_laws.argument_laws.Goals as goal

pub returns : goal.returns
returns c = record {
  given = fill_given;
  falls = fill_past;
  inst_subst = inst-of_subst;
  inst_fill = inst-of_fill;
  shift_fill = shift-of_fill;
  retype_fill = retype-of_fill;
}
