use Rattle.std.proofs.Common.{refl, subst, sym}
use Rattle.ev_syntax.specs.Marks.{in_sign}
use Rattle.ev_theory_text.specs.Elements.{ReadsHead, head_sort}
use Rattle.ev_theory_text.specs.inner.Following.{NoParen}
use Rattle.ev_parse.specs.inner.Taking.{Tagged}
use Rattle.ev_theory_text.specs.inner.Making.{head}
use Rattle.ev_parse.proofs.Takings.{took_then, mark_took, took_as}
use Rattle.ev_theory_text.proofs.HeadParts.{head_tagged}
use Rattle.ev_theory_text.proofs.heads.read_head.Goals as goal

pub returns-clause-took : goal.returns-clause-took
returns-clause-took c = took_as head
    (took_then c.in_ok-name.ensures (took_then c.in_ok-args.ensures (mark_took in_sign c.mark.ensures c.in_ok-gives.ensures) (λ b us rest h e. subst NoParen (sym h.1) refl)) (λ b us rest h e. tt))
    (λ a. refl) (λ b ts rest e h. ((b.name, (b.args, b.gives)), refl)) c.head_of.ensures

pub returns-clause-sort : goal.returns-clause-sort
returns-clause-sort c = subst (Tagged head_sort ReadsHead c.args.cursor.now) (sym c.sort_behind-sort.ensures)
    (head_tagged _ c.args.cursor.now c.args_in_parens.new.cursor c.mark.new.self _ (took_then c.in_ok-name.ensures c.in_ok-args.ensures (λ b us rest h e. tt)) c.mark.ensures)
