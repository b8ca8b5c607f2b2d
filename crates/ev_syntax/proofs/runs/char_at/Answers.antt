-- The character that `next` gives is the one at the place.
use Rattle.std.proofs.Common.{sym, ◌∙◌}
use Rattle.ev_syntax.proofs.Characters.{char_here, char_next}
use Rattle.ev_syntax.proofs.runs.char_at.Goals as goal

pub returns-clause-here : goal.returns-clause-here
returns-clause-here c =
    char_here _ _ _ _ c.utf8.text c.requires.place (sym (c.chars.ensures.rest ∙ c.range_from.ensures.value) ∙ c.in-Some.ensures.steps.0)

pub returns-clause-next : goal.returns-clause-next
returns-clause-next c =
    char_next _ _ _ _ c.utf8.text c.requires.place (sym (c.chars.ensures.rest ∙ c.range_from.ensures.value) ∙ c.in-Some.ensures.steps.0)
