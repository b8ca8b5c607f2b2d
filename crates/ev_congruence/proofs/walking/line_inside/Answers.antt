use Rattle.std.proofs.Common.{ap, subst as transport}
use Rattle.std.proofs.lemmas.Result.{IfOk-weaker}
use Rattle.ev_terms.specs.Substitution.{shift}
use Rattle.ev_congruence.specs.Equating.{IsSettled}
use Rattle.ev_congruence.specs.inner.Inside.{IsSettledOutside}
use Rattle.ev_congruence.proofs.walking.line_inside.Goals as goal

pub returns-in-None-clause-line : goal.returns-in-None-clause-line
returns-in-None-clause-line c = λ S l r i k. ap (λ t. shift t 0 c.args.count) (transport (IsSettled c.args.lines.now S l r) c.in-None.is k)

pub number_inside-requires : goal.number_inside-requires
number_inside-requires c = record {
  derivation = c.requires.derivation;
  base = c.requires.base;
  outside = transport (IsSettledOutside c.args.lines.now c.args.at.now c.args.count) c.in-Some.is c.requires.outside;
  room = c.requires.room;
}

pub returns-in-Some-clause-line : goal.returns-in-Some-clause-line
returns-in-Some-clause-line c =
    IfOk-weaker c.number_inside.result _ _ (λ o h S l r i k. h S l r i (transport (IsSettled c.args.lines.now S l r) c.in-Some.is k)) c.number_inside.ensures.line
