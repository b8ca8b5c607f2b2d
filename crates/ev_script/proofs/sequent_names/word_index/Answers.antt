use Rattle.std.proofs.Common.{◌∙◌, arith}
use Rattle.ev_script.proofs.WordLaws.{index_parsed, index_no_text}
use Rattle.ev_script.proofs.sequent_names.word_index.Goals as goal

pub returns-in-Ok : goal.returns-in-Ok
returns-in-Ok c =
    c.ok.ensures.value ∙ index_parsed c.args.word.now c.in-Ok.text.now c.parse.result (omega arith) (omega arith) c.in-Ok.ensures.cases.0 c.parse.ensures.value.0

pub returns-in-Err : goal.returns-in-Err
returns-in-Err c = index_no_text c.args.word.now (omega arith) c.in-Err.ensures.cases.0
