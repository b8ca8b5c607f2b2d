use Rattle.std.proofs.lemmas.Result.{IfOk-weaker}
use Rattle.ev_proof.proofs.LineLaws.{line_of_tokens, bad_line, large_line}
use Rattle.ev_proof.proofs.reading.read_line.Goals as goal

pub returns-in-Ok : goal.returns-in-Ok
returns-in-Ok c = IfOk-weaker c.step_in.result _ _ (λ o h. line_of_tokens c.args.line.now c.in-Ok.tokens o c.in-Ok.ensures.ok c.in-Ok.ensures.small h) c.step_in.ensures

pub returns-in-Err-BadText : goal.returns-in-Err-BadText
returns-in-Err-BadText c = bad_line c.args.line.now c.in-Err-BadText.field-0 c.in-Err-BadText.field-0-is c.in-Err-BadText.ensures.bad_text

pub returns-in-Err-NumberTooLarge : goal.returns-in-Err-NumberTooLarge
returns-in-Err-NumberTooLarge c = large_line c.args.line.now c.in-Err-NumberTooLarge.field-0 c.in-Err-NumberTooLarge.field-0-is c.in-Err-NumberTooLarge.ensures.too_large
