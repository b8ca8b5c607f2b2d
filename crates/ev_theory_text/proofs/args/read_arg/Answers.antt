use Rattle.std.proofs.Common.{refl}
use Rattle.ev_syntax.specs.Marks.{in_sign}
use Rattle.ev_theory_text.specs.inner.Making.{arg}
use Rattle.ev_parse.proofs.Takings.{took_then, mark_took, took_as}
use Rattle.ev_theory_text.proofs.args.read_arg.Goals as goal

pub returns : goal.returns
returns c = took_as arg (took_then c.in_ok-name.ensures (mark_took in_sign c.mark.ensures c.in_ok-written.ensures) (λ b us rest h e. tt)) (λ a. refl)
    (λ b ts rest e h. ((b.name, b.written), refl)) c.arg_of.ensures
