use Rattle.std.proofs.Common.{refl, subst, sym, ap}
use Rattle.std.specs.Prelude.{◌||◌}
use Rattle.std.specs.List.{list_any}
use Rattle.ev_syntax.specs.Marks.{rewrite_word, in_sign, complete_word}
use Rattle.ev_parse.specs.Depths.{formula_deep}
use Rattle.ev_theory_text.specs.Depths.{args_deep, branch_deep}
use Rattle.ev_theory_text.specs.inner.Following.{EndsVars, EndsBranches}
use Rattle.ev_parse.specs.inner.Taking.{NotBefore}
use Rattle.ev_theory_text.specs.inner.Making.{rewrite_form}
use Rattle.ev_parse.proofs.Takings.{mark_took, took_then, took_ends, or_false}
use Rattle.ev_theory_text.proofs.Ending.{at_end, before_complete, before_branches}
use Rattle.ev_theory_text.proofs.Words.{word_took, of_rewrite}
use Rattle.ev_theory_text.proofs.form_reader.read_rewrite.Goals as goal

pub returns : goal.returns
returns c = word_took rewrite_form
    (mark_took rewrite_word c.mark.ensures (took_then c.in_ok-name.ensures (took_then c.in_ok-vars.ensures (mark_took in_sign c.mark-2.ensures (took_then c.in_ok-left.ensures
    (took_then c.in_ok-branches.ensures (took_ends (at_end (NotBefore complete_word) refl) c.maybe_mark-complete.ensures)
    (λ b us rest h e. before_complete EndsBranches (refl, refl) (λ vs. (refl, refl)) b us rest h e))
    (λ p us rest h e. before_branches p us rest h)))
    (λ p us rest h e. subst EndsVars (sym h.1) (((refl, refl), refl), refl)))
    (λ b us rest h e. tt)))
    (λ a. refl) (λ a. ap (λ x. args_deep a.1.0 || (formula_deep a.1.1.0 || x)) (or_false (list_any branch_deep a.1.1.1.0))) of_rewrite c.rewrite.ensures
