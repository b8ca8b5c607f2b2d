use Rattle.std.proofs.Common.{refl}
use Rattle.ev_syntax.specs.Marks.{open_bracket}
use Rattle.ev_parse.specs.inner.Taking.{NotBefore}
use Rattle.ev_proof.specs.inner.Following.{EndsTerms}
use Rattle.ev_proof.specs.inner.Words.{made_cite}
use Rattle.ev_parse.proofs.Takings.{took_then, took_as, took_ends}
use Rattle.ev_proof.proofs.Ending.{at_end, before_terms}
use Rattle.ev_proof.proofs.cites.read_cite.Goals as goal

pub returns : goal.returns
returns c = took_as made_cite
    (took_then c.in_ok-types.ensures (took_ends (at_end EndsTerms (refl, refl, refl)) c.in_ok-terms.ensures)
    (λ b us rest h e. before_terms (NotBefore open_bracket) refl (λ vs. refl) b us rest h e))
    (λ a. refl) (λ b ts rest e h. ((b.types, b.terms), refl)) c.cite_of.ensures
