-- Sequents whose unfolded form is derivable over the environment without definitions and conditions.
use Rattle.std.specs.Prelude.{[], List, map}
use Rattle.ev_terms.specs.declared.types.Tys.{Empty}
use Rattle.ev_terms.specs.Term.{Term}
use Rattle.ev_typing.specs.declared.typing.Sequent.{Sequent}
use Rattle.ev_typing.specs.Env.{Env}
use Rattle.ev_typing.specs.Parts.{base}
use Rattle.ev_kernel.specs.Derivable.{Derivable, AreDerivable}
use Rattle.ev_ops.specs.Unfold.{unfolded_sequent}

-- the unfolded sequent is derivable
abbrev pub HasDerivableUnfolding : Env → Sequent → Type 0
HasDerivableUnfolding env S = Derivable (base env) (unfolded_sequent env S)

abbrev pub HaveDerivableUnfoldings : Env → List Sequent → Type 0
HaveDerivableUnfoldings env Ss = AreDerivable (base env) (map (unfolded_sequent env) Ss)

-- the closed formula is, without hypotheses
abbrev pub HoldsUnfolded : Env → Term → Type 0
HoldsUnfolded env P = HasDerivableUnfolding env (record { context = Empty; hyps = []; goal = P })
