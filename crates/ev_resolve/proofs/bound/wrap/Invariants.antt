use Rattle.std.proofs.Common.{◌≡◌, vec_len}
use Rattle.ev_terms.specs.declared.types.Sym.TheVariants.{Base}
use Rattle.ev_resolve.specs.inner.Inners.{wrap}
use Rattle.ev_resolve.proofs.bound.wrap.Given as goal

abbrev pub invariant-loop-written : goal.invariant-loop-written
invariant-loop-written l = wrap (Base l.row) l.left.items l.bare ≡ wrap (Base l.row) l.initial.left.items l.initial.bare

abbrev pub decreases-loop-written : goal.decreases-loop-written
decreases-loop-written l = vec_len l.left
