-- A closed predicate whose unfolded form is derivable.
use Rattle.std.specs.Prelude.{[]}
use Rattle.ev_terms.specs.declared.types.Tys.{Empty}
use Rattle.ev_terms.specs.Term.{Term}
use Rattle.ev_typing.specs.Env.{Env}
use Rattle.ev_typing.specs.Parts.{base}
use Rattle.ev_typing.specs.Typing.{IsPredicate}
use Rattle.ev_kernel.specs.Derivable.{Derivable}
use Rattle.ev_ops.specs.Unfold.{unfolded}

pub record IsEstablished (env : Env) (P : Term) : Type 0 where
  pub typed : IsPredicate env [] P
  pub derivable : Derivable (base env) (record { context = Empty; hyps = []; goal = unfolded env P })
