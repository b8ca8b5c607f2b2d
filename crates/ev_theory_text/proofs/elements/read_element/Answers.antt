use Rattle.std.proofs.lemmas.Result.{IfOk-weaker}
use Rattle.ev_syntax.specs.Tokens.{tokens_of}
use Rattle.ev_syntax.specs.Views.{all_seen_in}
use Rattle.ev_theory_text.proofs.Elementary.{good_tokens, element_is, bad_part}
use Rattle.ev_theory_text.proofs.elements.read_element.Goals as goal

pub returns-in-Ok : goal.returns-in-Ok
returns-in-Ok c = IfOk-weaker c.element_in.result _ _
    (λ e h. element_is c.args.part.now (tokens_of (all_seen_in c.args.part.now c.in-Ok.tokens)) e (good_tokens c.args.part.now c.in-Ok.tokens c.in-Ok.ensures.ok c.in-Ok.ensures.small) h)
    c.element_in.ensures

pub returns-in-Err-BadText : goal.returns-in-Err-BadText
returns-in-Err-BadText c = bad_part c.args.part.now c.in-Err-BadText.field-0 c.in-Err-BadText.field-0-is c.in-Err-BadText.ensures.bad_text
