use Rattle.std.proofs.Common.{refl}
use Rattle.ev_syntax.specs.Marks.{operator_word, where_word}
use Rattle.ev_syntax.specs.Grammar.{◌then◌}
use Rattle.ev_parse.specs.Sequences.{Maybe}
use Rattle.ev_theory_text.specs.Elements.{ReadsBody, Clause, head_sort}
use Rattle.ev_theory_text.specs.inner.Following.{EndsClause, EndsCases}
use Rattle.ev_theory_text.specs.inner.Making.{operator_form}
use Rattle.ev_parse.proofs.Takings.{mark_took, took_then, tagged_then, took_ends}
use Rattle.ev_theory_text.proofs.Ending.{at_end, before_body, before_condition}
use Rattle.ev_theory_text.proofs.Words.{word_took, of_operator}
use Rattle.ev_theory_text.proofs.form_reader.read_operator.Goals as goal

pub returns : goal.returns
returns c = let sort = c.in_ok-head.sort in word_took operator_form
    (mark_took operator_word c.mark.ensures (tagged_then (λ k p. Maybe (Clause where_word) p.0 then ReadsBody k p.1) head_sort sort c.in_ok-head.ensures.took c.in_ok-head.ensures.sort
    (took_then c.in_ok-condition.ensures (took_ends (at_end EndsCases (refl, refl)) c.in_ok-body.ensures)
    (λ b us rest h e. before_body (EndsClause where_word) (λ vs. (refl, refl)) (λ vs. (refl, refl)) sort b us rest h))
    (λ p us rest h e. before_condition sort p us rest h)))
    (λ a. refl) (λ a. refl) of_operator c.operator.ensures
