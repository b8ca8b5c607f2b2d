use Rattle.ev_script.proofs.WordLaws.{head_told_by}
use Rattle.ev_script.proofs.heads.read_head.Goals as goal

pub returns : goal.returns
returns c = head_told_by c.as_slice.result.now c.in_ok-words.words.items c.args.line.now c.head_of_words.result c.as_slice.ensures.value c.in_ok-words.ensures c.head_of_words.ensures
