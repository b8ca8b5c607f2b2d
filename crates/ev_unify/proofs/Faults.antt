-- Faults handed on.
use Rattle.ev_unify.specs.declared.patterns.UnifyFault.{UnifyFault}
use Rattle.ev_unify.specs.declared.patterns.UnifyFault.TheVariants.{Clash, NoMemory}
use Rattle.ev_unify.specs.inner.Clashes.{OnClash}

pub clash_weaker : (P Q : Type 0) (e : UnifyFault) → (P → Q) → OnClash P e → OnClash Q e
clash_weaker P Q Clash f h = f h
clash_weaker P Q NoMemory f h = tt
