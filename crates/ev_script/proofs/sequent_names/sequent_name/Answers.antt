use Rattle.ev_script.proofs.WordLaws.{sequent_told_by}
use Rattle.ev_script.proofs.sequent_names.sequent_name.Goals as goal

pub returns : goal.returns
returns c = sequent_told_by c.as_slice.result.now c.in_ok-parts.parts.items c.args.word.now c.sequent_of_parts.result c.as_slice.ensures.value c.in_ok-parts.ensures c.sequent_of_parts.ensures
