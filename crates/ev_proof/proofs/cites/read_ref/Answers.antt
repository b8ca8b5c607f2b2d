use Rattle.std.proofs.Common.{refl}
use Rattle.ev_syntax.specs.Marks.{over_sign}
use Rattle.ev_proof.specs.inner.Words.{made_ref}
use Rattle.ev_parse.proofs.Takings.{took_then, mark_took, took_as}
use Rattle.ev_proof.proofs.cites.read_ref.Goals as goal

pub returns : goal.returns
returns c = took_as made_ref (took_then c.in_ok-theory.ensures (mark_took over_sign c.mark.ensures c.in_ok-label.ensures) (λ b us rest h e. tt)) (λ a. refl)
    (λ b ts rest e h. ((b.theory, b.label), refl)) c.ref_of.ensures
