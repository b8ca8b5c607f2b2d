use Rattle.ev_terms.proofs.ListLaws.{size-shift, depth-shift, loose_shift_le, highest_le}
use Rattle.ev_terms.proofs.AnyLaws.{params-shift}
use Rattle.ev_terms.proofs.Fits.{loose_inst_le, depth_inst_le, highest_shift_le, highest_subst_le}
use Rattle.ev_terms.proofs.Sizes.{size_inst_le, params_inst_le}
use Rattle.ev_terms.proofs.term_laws.measure_laws.Goals as goal

pub returns : goal.returns
returns c = record {
  size_shift = size-shift;
  depth_shift = depth-shift;
  params_shift = params-shift;
  loose_shift = loose_shift_le;
  loose_inst = loose_inst_le;
  depth_inst = depth_inst_le;
  highest = highest_le;
  highest_shift = highest_shift_le;
  highest_subst = highest_subst_le;
  size_inst = size_inst_le;
  params_inst = params_inst_le;
}
