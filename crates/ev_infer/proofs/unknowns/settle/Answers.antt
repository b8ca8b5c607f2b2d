use Rattle.std.proofs.Common.{subst}
use Rattle.ev_infer.specs.inner.Bulks.{bulk_at, type_at_unknown}
use Rattle.ev_infer.specs.inner.Solving.{IsMark}
use Rattle.ev_infer.proofs.UnknownSteps.{left_free}
use Rattle.ev_infer.specs.declared.solving.Mark.TheVariants.{Open, Done}
use Rattle.ev_infer.proofs.Ways.{walked_same}
use Rattle.ev_infer.proofs.unknowns.settle.Goals as goal

pub visit-requires-clause-bound : goal.visit-requires-clause-bound
visit-requires-clause-bound c =
    subst (λ m. IsMark c.args.binds.now c.args.limit.now c.args.unknown m (bulk_at c.args.bulks.now c.args.unknown) (type_at_unknown c.args.types.now c.args.unknown)) c.in-Bound.is (c.requires.known.known c.args.unknown c.requires.inside)

pub returns-in-Free-clause-free : goal.returns-in-Free-clause-free
returns-in-Free-clause-free c e =
    left_free c.args.binds.now c.args.unknown
    (subst (λ m. IsMark c.args.binds.now c.args.limit.now c.args.unknown m (bulk_at c.args.bulks.now c.args.unknown) (type_at_unknown c.args.types.now c.args.unknown)) c.in-Free.is (c.requires.known.known c.args.unknown c.requires.inside))

pub returns-in-Open-clause-walked : goal.returns-in-Open-clause-walked
returns-in-Open-clause-walked c e = walked_same c.args.marks.now c.args.unknown Open c.in-Open.is tt c.requires.ended

pub returns-in-Done-clause-walked : goal.returns-in-Done-clause-walked
returns-in-Done-clause-walked c e = walked_same c.args.marks.now c.args.unknown Done c.in-Done.is tt c.requires.ended
