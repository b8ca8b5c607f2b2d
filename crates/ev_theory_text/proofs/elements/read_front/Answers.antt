use Rattle.ev_syntax.specs.Tokens.{tokens_of}
use Rattle.ev_syntax.specs.Views.{all_seen_in}
use Rattle.ev_theory_text.proofs.Elementary.{good_tokens, bad_part}
use Rattle.ev_theory_text.proofs.elements.read_front.Goals as goal

pub returns-in-Ok : goal.returns-in-Ok
returns-in-Ok c = (tokens_of (all_seen_in c.args.front.now c.in-Ok._tokens), good_tokens c.args.front.now c.in-Ok._tokens c.in-Ok.ensures.ok c.in-Ok.ensures.small)

pub returns-in-Err-BadText : goal.returns-in-Err-BadText
returns-in-Err-BadText c = bad_part c.args.front.now c.in-Err-BadText.field-0 c.in-Err-BadText.field-0-is c.in-Err-BadText.ensures.bad_text
