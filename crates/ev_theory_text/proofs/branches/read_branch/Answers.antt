use Rattle.std.proofs.Common.{refl, subst, sym}
use Rattle.ev_syntax.specs.Marks.{when_word, then_word}
use Rattle.ev_theory_text.specs.inner.Following.{EndsClause}
use Rattle.ev_theory_text.specs.inner.Making.{branch}
use Rattle.ev_parse.proofs.Takings.{took_then, mark_took, took_as}
use Rattle.ev_theory_text.proofs.branches.read_branch.Goals as goal

pub returns : goal.returns
returns c = took_as branch
    (took_then c.in_ok-condition.ensures (mark_took then_word c.mark.ensures c.in_ok-right.ensures) (λ b us rest h e. subst (EndsClause when_word) (sym h.1) (refl, refl)))
    (λ a. refl) (λ b ts rest e h. ((b.condition, b.right), refl)) c.branch_of.ensures
