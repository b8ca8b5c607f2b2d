use Rattle.std.proofs.Common.{refl}
use Rattle.ev_theory_text.specs.inner.Making.{con}
use Rattle.ev_parse.proofs.Takings.{took_then, took_as}
use Rattle.ev_theory_text.proofs.datatypes.read_con.Goals as goal

pub returns : goal.returns
returns c = took_as con (took_then c.in_ok-name.ensures c.in_ok-args.ensures (λ b us rest h e. tt)) (λ a. refl) (λ b ts rest e h. ((b.name, b.args), refl)) c.con_of.ensures
