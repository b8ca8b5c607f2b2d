use Rattle.ev_terms.proofs.Sizes.{size_of_retype, type_size_of_inst, depth_retype_le, type_depth_inst_le, loose-retype, highest-retype, params_retype_le, type_params_inst_le}
use Rattle.ev_terms.proofs.term_laws.type_instance_measure_laws.Goals as goal

pub returns : goal.returns
returns c = record {
  size = size_of_retype;
  type_size = type_size_of_inst;
  depth = depth_retype_le;
  type_depth = type_depth_inst_le;
  loose = loose-retype;
  highest = highest-retype;
  params = params_retype_le;
  type_params = type_params_inst_le;
}
