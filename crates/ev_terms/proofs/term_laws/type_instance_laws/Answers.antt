use Rattle.ev_terms.proofs.ListLaws.{retype-shift, retype-inst, instance-subst, retype-retype, type_inst-type_inst}
use Rattle.ev_terms.proofs.AnyLaws.{instance-instance, type_inst-list, retype_below, retype-id}
use Rattle.ev_terms.proofs.term_laws.type_instance_laws.Goals as goal

pub returns : goal.returns
returns c = record {
  shift = retype-shift;
  inst = retype-inst;
  subst = instance-subst;
  compose = retype-retype;
  types_compose = type_inst-type_inst;
  lists_compose = instance-instance;
  type_lists_compose = type_inst-list;
  reads_params = retype_below;
  by_params = retype-id;
}
