use Rattle.std.proofs.Common.{refl, subst, sym, ap}
use Rattle.std.specs.Prelude.{◌||◌}
use Rattle.ev_syntax.specs.Marks.{is_word}
use Rattle.ev_theory_text.specs.inner.Following.{NoParen}
use Rattle.ev_parse.specs.Depths.{formula_deep}
use Rattle.ev_theory_text.specs.inner.Making.{case_of}
use Rattle.ev_parse.proofs.Takings.{took_then, mark_took, took_as, never_any}
use Rattle.ev_theory_text.proofs.cases.read_case.Goals as goal

pub returns : goal.returns
returns c = took_as case_of
    (took_then c.in_ok-con.ensures (took_then c.in_ok-vars.ensures (mark_took is_word c.mark.ensures c.in_ok-body.ensures) (λ b us rest h e. subst NoParen (sym h.1) refl)) (λ b us rest h e. tt))
    (λ a. ap (λ x. x || formula_deep a.1.1) (never_any a.1.0)) (λ b ts rest e h. ((b.con, (b.vars, b.body)), refl)) c.case_of.ensures
